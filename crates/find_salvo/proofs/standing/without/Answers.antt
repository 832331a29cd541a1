use Rattle.std.proofs.Common.{◌≡◌, rules}
use Rattle.std.specs.List.{filter}
use Rattle.life_cells.specs.Cells.{alive}
use Rattle.find_salvo.proofs.Parting.{is_outside, rising-outside, alive-outside}
use Rattle.find_salvo.proofs.standing.without.Goals as goal

pub from_rising-requires : goal.from_rising-requires
from_rising-requires c =
    let kept : c.in_ok-rest.rest.items ≡ filter (is_outside (alive c.args.other.now)) c.cells.result.now = search rules in
    rising-outside (alive c.args.other.now) c.args.cells.now _ _ c.cells.ensures.order kept

pub returns : goal.returns
returns c =
    let kept : c.in_ok-rest.rest.items ≡ filter (is_outside (alive c.args.other.now)) c.cells.result.now = search rules in
    alive-outside (alive c.args.other.now) c.args.cells.now _ _ _ c.cells.ensures.order kept c.from_rising.ensures
