use Rattle.build_plan.proofs.Visiting.{room_in_range}
use Rattle.build_plan.proofs.search.Search.may_begin.Goals as goal

pub has_room-requires : goal.has_room-requires
has_room-requires c = room_in_range _ c.requires.search.planner.room
