-- The turns and hits of a plan in time.
use Rattle.std.specs.Prelude.{◌≡◌, ℕ, ◌≤◌, ℤ, pos, List, [], ◌∷◌, map, reverse}
use Rattle.std.specs.List.{AllByRecursion}
use Rattle.event_times.specs.Early.{latest_end}
use Rattle.plan_facts.specs.Happenings.{Happening, events_of}
use Rattle.plan_facts.specs.Happenings.Happening.{Turns, Hits}
use Rattle.event_times.specs.Events.{HasBeen, no_history, history_of, AreChosenEvents, IsNumber}
use Rattle.recipe_book.specs.Checked.{CheckedEntries}
use Rattle.build_plan.specs.declared.event.Plan.{Plan}
use Rattle.build_plan.specs.Happenings.{AllStandFor}
use Rattle.stream_time.specs.declared.times.Schedule.{Schedule}

-- the plan's events stand for these turns and hits, one by one, and each turn starts as soon as it may
pub record AreInTime (book : CheckedEntries) (plan : Plan) (happenings : List Happening) : Type 0 where
  pub stand : AllStandFor book plan.events.items happenings
  pub chosen : AreChosenEvents book.settings no_history (events_of happenings)

-- the starts of the turns
abbrev pub starts_of : List Happening → List ℕ
starts_of [] = []
starts_of (Turns m ∷ happenings) = m.start ∷ starts_of happenings
starts_of (Hits h ∷ happenings) = starts_of happenings

-- no turn starts later than a plan may take
abbrev pub AreEarlyStarts : List ℕ → Type 0
AreEarlyStarts starts = AllByRecursion (λ start. start ≤ latest_end) starts

-- the ends of the hits, the last one first
abbrev pub hit_ends : List Happening → List ℤ
hit_ends happenings = map (λ (hit : HasBeen). hit.ended) (history_of no_history (events_of happenings)).hits

-- the schedule of these turns and hits: the starts of the turns, the ends of the hits, and the number of generations
pub record IsScheduleOf (happenings : List Happening) (schedule : Schedule) : Type 0 where
  pub starts : schedule.starts.items ≡ starts_of happenings
  pub hits : map pos (reverse schedule.hit_ends.items) ≡ hit_ends happenings
  pub number : IsNumber (events_of happenings) schedule.n

-- The schedule of a plan: there are turns and hits in time for which its events stand, each turn as soon as it may start, and it is theirs.
pub record IsSchedule (book : CheckedEntries) (plan : Plan) (schedule : Schedule) : Type 0 where
  pub happenings : List Happening
  pub in_time : AreInTime book plan happenings
  pub is_theirs : IsScheduleOf happenings schedule
