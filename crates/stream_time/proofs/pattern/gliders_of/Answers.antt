use Rattle.std.proofs.Common.{◌≡◌, List, ◌∙◌, ap, Result, Ok, Err, IfOk}
use Rattle.life_cells.specs.declared.cell.Cell.{Cell}
use Rattle.life_cells.specs.Cells.{Cells, alive, from_list}
use Rattle.life_cells.specs.Listed.{listed}
use Rattle.life_cells.specs.Laws.{alive-from_list}
use Rattle.stream_time.proofs.pattern.gliders_of.Goals as goal

set_of : {E : Type 0} (r : Result Cells E) (cs : List Cell) → IfOk r (λ s. s ≡ from_list cs) → IfOk r (λ s. alive s ≡ listed cs)
set_of (Ok s) cs h = ap alive h ∙ alive-from_list cs
set_of (Err e) cs h = h

pub returns : goal.returns
returns c = set_of c.from_cells.result c.args.cells.now c.from_cells.ensures
