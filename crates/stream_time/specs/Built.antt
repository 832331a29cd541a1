-- What a book builds for a target.
use Rattle.std.specs.Prelude.{◌≡◌, List}
use Rattle.life_plane.specs.Plane.{Plane}
use Rattle.life_cells.specs.Cells.{alive}
use Rattle.recipe_book.specs.Checked.{CheckedEntries}
use Rattle.plan_facts.specs.Happenings.{Happening, events_of}
use Rattle.plan_facts.specs.State.{hand_plane, first_hand}
use Rattle.event_times.specs.Events.{pattern_of, IsNumber}
use Rattle.build_plan.specs.declared.event.Plan.{Plan}
use Rattle.build_plan.specs.Plan.{IsPlan}
use Rattle.stream_time.specs.InTime.{AreInTime}
use Rattle.stream_time.specs.declared.building.Built.{Built}

-- the pattern of a plan whose events stand for these turns and hits: the start kind, the first hand, if there is one, and each turn's gliders, all
-- shifted back
abbrev pub plan_pattern : CheckedEntries → Plan → List Happening → Plane
plan_pattern book plan happenings = pattern_of book.settings book.kinds book.start (hand_plane (alive book.hand) (first_hand plan.first_hand)) (events_of happenings) plan.back

-- A pattern and a number of generations are built for a target: there are a plan, and turns and hits in time for which its events stand, each
-- turn as soon as it may start; the pattern is theirs, and the number is the greater of the end of the last turn and the end of the last hit.
pub record IsBuilt (book : CheckedEntries) (target : Plane) (built : Built) : Type 0 where
  pub plan : Plan
  pub is_plan : IsPlan book target plan
  pub happenings : List Happening
  pub in_time : AreInTime book plan happenings
  pub pattern_is : alive built.pattern ≡ plan_pattern book plan happenings
  pub number : IsNumber (events_of happenings) built.n
