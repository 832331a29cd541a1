use Rattle.std.proofs.Common.{take}
use Rattle.recipe_turn.specs.Gaps.{AreApart}
use Rattle.recipe_turn.proofs.gaps.first_narrow.Given as goal

abbrev pub invariant-loop-place : goal.invariant-loop-place
invariant-loop-place l = AreApart (take l.place l.delays)
