use Rattle.std.specs.Prelude.{◌≡◌, ◌++◌, map, take}
use Rattle.std.specs.String.{string_bytes}
use Rattle.life_cli.specs.Verdicts.{turn_title}
use Rattle.life_cli.proofs.verdict_lines.push_turn_titles.Given as goal

-- the titles so far
abbrev pub invariant-loop-turn : goal.invariant-loop-turn
invariant-loop-turn l = map string_bytes l.titles.items ≡ map string_bytes l.initial.titles.items ++ map turn_title (take l.turn-index l.turns)
