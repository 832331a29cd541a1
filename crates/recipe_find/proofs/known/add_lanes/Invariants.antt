use Rattle.std.proofs.Common.{◌++◌, take, map}
use Rattle.recipe_book.specs.Checked.{raw_salvos}
use Rattle.recipe_find.specs.Adding.{lanes_of}
use Rattle.recipe_find.specs.Known.{HasJust}
use Rattle.recipe_find.proofs.known.add_lanes.Given as goal

-- those of the salvos so far are in the set
abbrev pub invariant-loop-salvo : goal.invariant-loop-salvo
invariant-loop-salvo l = HasJust l.candidates.keys (l.initial.candidates.keys ++ map lanes_of (raw_salvos (take l.salvo-index l.salvos)))
