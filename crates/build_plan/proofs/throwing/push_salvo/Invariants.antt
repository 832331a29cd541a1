use Rattle.std.proofs.Common.{◌≡◌, ◌++◌, ◌+◌, drop}
use Rattle.build_plan.specs.Throws.{hit_throws}
use Rattle.build_plan.proofs.throwing.push_salvo.Given as goal

abbrev pub invariant-loop-index : goal.invariant-loop-index
invariant-loop-index l = l.throws.items ++ hit_throws l.number l.at (l.index + 1) (drop l.index l.salvo.hits) ≡ l.fn.throws.items ++ hit_throws l.number l.at 1 l.salvo.hits
