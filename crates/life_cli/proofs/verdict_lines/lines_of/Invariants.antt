use Rattle.std.specs.Prelude.{◌≡◌, ◌++◌, map, drop}
use Rattle.std.specs.String.{string_bytes}
use Rattle.life_cli.specs.Verdicts.{verdict_lines}
use Rattle.life_cli.proofs.verdict_lines.lines_of.Given as goal

-- the lines so far, with those of the entries that are left, are all lines
abbrev pub invariant-loop-title : goal.invariant-loop-title
invariant-loop-title l = string_bytes l.text ++ verdict_lines (map string_bytes (drop l.title-index l.titles)) l.left ≡ verdict_lines (map string_bytes l.titles) l.verdicts
