use Rattle.std.proofs.Common.{◌≡◌, map, drop}
use Rattle.life_io.specs.MemDepots.{held_text}
use Rattle.life_io.specs.Texts.{text_of}
use Rattle.life_io.proofs.texts.find_text.Given as goal

-- the text sought is that of the texts not yet seen
abbrev pub invariant-loop-held : goal.invariant-loop-held
invariant-loop-held l = text_of (map held_text (drop l.held-index l.texts)) l.name ≡ text_of (map held_text l.texts) l.name
