use Rattle.std.specs.Prelude.{◌≡◌, ◌++◌, map, take}
use Rattle.std.specs.String.{string_bytes}
use Rattle.life_cli.specs.Verdicts.{salvo_title}
use Rattle.life_cli.proofs.verdict_lines.push_salvo_titles.Given as goal

-- the titles so far
abbrev pub invariant-loop-salvo : goal.invariant-loop-salvo
invariant-loop-salvo l = map string_bytes l.titles.items ≡ map string_bytes l.initial.titles.items ++ map salvo_title (take l.salvo-index l.salvos)
