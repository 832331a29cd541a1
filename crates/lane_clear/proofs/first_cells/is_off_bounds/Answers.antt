use Rattle.std.proofs.Common.{◌↔◌, IsTrue, subst}
use Rattle.life_cells.specs.declared.bounds.Bounds.{Bounds}
use Rattle.life_cone.specs.FarBoxes.{AreFarBoxes}
use Rattle.lane_clear.proofs.CellTests.{far_cell}
use Rattle.lane_clear.proofs.first_cells.is_off_bounds.Goals as goal

pub returns : goal.returns
returns c =
    let exact = subst (λ (b : Bounds). IsTrue c.box_apart.result ↔ AreFarBoxes b c.args.bounds) c.box_of.ensures c.box_apart.ensures.exact in
    let same = far_cell c.args.cell.x c.args.cell.y c.args.bounds in
    (λ h. same.0 (exact.0 h), λ off. exact.1 (same.1 off))
