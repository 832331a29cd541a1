use Rattle.lane_clear.proofs.BoxRows.{found_place, missing_place}
use Rattle.lane_clear.proofs.rows.first_from.Goals as goal

pub returns-in-Ok : goal.returns-in-Ok
returns-in-Ok c = found_place _ c.args.it c.in-Ok.place c.requires c.in-Ok.ensures.bound (c.in-Ok.ensures.position c.args.it)

pub returns-in-Err : goal.returns-in-Err
returns-in-Err c = missing_place _ c.args.it c.in-Err.place c.requires c.in-Err.ensures.bound c.in-Err.ensures.position
