use Rattle.std.proofs.Common.{◌+◌, ◌≤◌, take}
use Rattle.recipe_turn.specs.Checked.{AreValid}
use Rattle.recipe_turn.proofs.checked_kinds.test_kinds.Given as goal

abbrev pub invariant-loop-place : goal.invariant-loop-place
invariant-loop-place g l = record {
  valid : AreValid l.settings (take l.place l.kinds);
  least : l.initial.steps ≤ l.steps;
  most : l.steps ≤ l.initial.steps + l.place;
}
