use Rattle.std.proofs.Common.{refl}
use Rattle.life_kernel.specs.Rows.{test, column, next_cell}
use Rattle.life_kernel.proofs.laws.known_strips.Goals as goal

pub returns-clause-line : goal.returns-clause-line
unfolding test column next_cell
returns-clause-line c = refl

pub returns-clause-above : goal.returns-clause-above
unfolding test column next_cell
returns-clause-above c = refl

pub returns-clause-west : goal.returns-clause-west
unfolding test column next_cell
returns-clause-west c = refl

pub returns-clause-east : goal.returns-clause-east
unfolding test column next_cell
returns-clause-east c = refl

pub returns-clause-seven : goal.returns-clause-seven
unfolding test column next_cell
returns-clause-seven c = refl
