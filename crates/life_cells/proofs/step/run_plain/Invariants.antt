use Rattle.std.proofs.Common.{◌^◌}
use Rattle.life_cells.specs.Cells.{alive}
use Rattle.life_cells.proofs.Generations.{IsGeneration}
use Rattle.life_cells.proofs.step.run_plain.Given as goal

abbrev pub invariant-generations : goal.invariant-generations
invariant-generations l = IsGeneration (alive l.cells) (2 ^ 61) l._generation (alive l.now)
