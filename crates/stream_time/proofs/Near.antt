-- The cells of a plan's pattern lie near enough to be moved.
use Rattle.std.specs.Prelude.{◌≡◌, ◌⊎◌, true, ℕ, ◌≤◌, ◌^◌, ℤ, pos, neg_ℤ, ◌-ℤ◌, ◌*ℤ◌, ◌≤ℤ◌, List, [], ◌∷◌, length, Option}
use Rattle.std.specs.List.{AllByRecursion}
use Rattle.std.specs.declared.option.Option.TheVariants.{Some, None}
use Rattle.std.proofs.Common.{arith, inl, inr, subst}
use Rattle.std.proofs.lemmas.Int.{ints}
use Rattle.std.proofs.lemmas.Bool.{or_cases}
use Rattle.life_plane.specs.Plane.{Plane, union, shift, nothing}
use Rattle.life_plane.specs.Tracks.{stream_glider}
use Rattle.life_plane.specs.TrackLaws.{stream_range}
use Rattle.life_cells.specs.Cells.{alive}
use Rattle.life_cells.specs.Boxes.{IsInRange, IsCellInRange, CanMove}
use Rattle.life_cells.specs.declared.cell.Cell.{Cell}
use Rattle.book_parts.specs.KindLaws.{kind_placed}
use Rattle.book_parts.specs.Limits.{IsFrom, IsApproach, IsPlaced}
use Rattle.book_parts.specs.Proper.{IsDelay, IsProperTurn}
use Rattle.book_parts.specs.declared.settings.Settings.{Settings}
use Rattle.elbow_graph.specs.NumberedLaws.{of_number}
use Rattle.recipe_turn.specs.Turn.{gliders}
use Rattle.recipe_turn.specs.Checked.{raws}
use Rattle.recipe_book.specs.Checked.{CheckedEntries, IsCheckedBook}
use Rattle.event_times.specs.Early.{latest_end, IsNearShift}
use Rattle.event_times.specs.Events.{stream_of}
use Rattle.event_times.specs.TimedTurns.{Timed}
use Rattle.plan_facts.specs.Happenings.{Happening, events_of}
use Rattle.plan_facts.specs.Happenings.Happening.{Turns, Hits}
use Rattle.plan_facts.specs.State.{hand_plane, first_hand}
use Rattle.build_plan.specs.declared.event.Event.{Event}
use Rattle.build_plan.specs.declared.event.Event.TheVariants.{Turn, Hit}
use Rattle.build_plan.specs.declared.event.Plan.{Plan}
use Rattle.build_plan.specs.Happenings.{AllStandFor}
use Rattle.stream_time.specs.InTime.{starts_of, AreEarlyStarts}
use Rattle.stream_time.specs.NearEvents.{IsNearPlace, AreNearEvents, IsNearHand, IsNearPlan}
use Rattle.stream_time.specs.Laying.{AreStarted, laid}

-- coordinates from -2^57 to 2^57
pub record IsNear (x y : ℤ) : Type 0 where
  pub west : neg_ℤ (pos (2 ^ 57)) ≤ℤ x
  pub east : x ≤ℤ pos (2 ^ 57)
  pub north : neg_ℤ (pos (2 ^ 57)) ≤ℤ y
  pub south : y ≤ℤ pos (2 ^ 57)

-- each cell lies near
abbrev pub LiesNear : Plane → Type 0
LiesNear s = (x y : ℤ) → s x y ≡ true → IsNear x y

glider_near : (settings : Settings) → IsApproach settings.approach → (time d : ℤ) → IsFrom (neg_ℤ (pos (2 ^ 57))) (pos (2 ^ 57)) time → IsDelay d → LiesNear (stream_glider ((time -ℤ settings.approach) -ℤ d))
glider_near settings a time d when from x y h =
    let r = stream_range ((time -ℤ settings.approach) -ℤ d) x y h in
    let behind = r.behind in
    let ahead = r.ahead in
    let left = r.left in
    let right = r.right in
    let low = from.low in
    let high = from.high in
    let soon = when.low in
    let late = when.high in
    let least = a.range.low in
    let greatest = a.range.high in
    record { west = omega (arith, ints); east = omega (arith, ints); north = omega (arith, ints); south = omega (arith, ints) }

-- both together
both_near : (s t : Plane) → LiesNear s → LiesNear t → LiesNear (union s t)
both_near s t p q x y h = by_part (or_cases _ _ h)
  where
    by_part : (s x y ≡ true) ⊎ (t x y ≡ true) → IsNear x y
    by_part (inl a) = p x y a
    by_part (inr a) = q x y a

none_near : LiesNear nothing
none_near x y h = cc

gliders_near : (settings : Settings) → IsApproach settings.approach → (ds : List ℤ) (time : ℤ) → IsFrom (neg_ℤ (pos (2 ^ 57))) (pos (2 ^ 57)) time → AllByRecursion IsDelay ds → LiesNear (gliders settings ds time)
gliders_near settings a [] time when all = none_near
gliders_near settings a (d ∷ ds) time when all = both_near _ _ (glider_near settings a time d when all.0) (gliders_near settings a ds time when all.1)

-- the time of a turn's gliders
time_near : (m : Timed) (shift : ℤ) → m.shift ≡ shift → IsNearShift shift → m.start ≤ latest_end → IsFrom (neg_ℤ (pos (2 ^ 57))) (pos (2 ^ 57)) (pos 4 *ℤ m.shift -ℤ pos m.start)
time_near m shift is near late =
    let low = near.low in
    let high = near.high in
    record { low = omega (arith, ints); high = omega (arith, ints) }

module _ (book : CheckedEntries) (checked : IsCheckedBook book) where
  stream_near : (events : List Event) (hs : List Happening) → AllStandFor book events hs → AreNearEvents events → AreEarlyStarts (starts_of hs) → LiesNear (stream_of book.settings (events_of hs))
  stream_near [] [] stand near early = none_near
  stream_near [] (h ∷ hs) stand near early = absurd stand
  stream_near (event ∷ events) [] stand near early = absurd stand
  stream_near (Turn number shift ∷ events) (Turns m ∷ hs) stand near early =
      both_near _ _
      (gliders_near book.settings checked.proper.settings.approach m.turn.delays _ (time_near m shift stand.0.1 near.0 early.0)
      (of_number (IsProperTurn (length book.kinds)) (raws book.turns) number m.turn checked.proper.turns stand.0.0).delays)
      (stream_near events hs stand.1 near.1 early.1)
  stream_near (Turn number shift ∷ events) (Hits h ∷ hs) stand near early = absurd stand.0
  stream_near (Hit number place at ∷ events) (Turns m ∷ hs) stand near early = absurd stand.0
  stream_near (Hit number place at ∷ events) (Hits h ∷ hs) stand near early = stream_near events hs stand.1 near.1 early

  placed_near : (s : Plane) → IsPlaced s → LiesNear s
  placed_near s p x y h =
      let xl = (p.x x y h).low in let xh = (p.x x y h).high in let yl = (p.y x y h).low in let yh = (p.y x y h).high in
      record { west = omega (arith, ints); east = omega (arith, ints); north = omega (arith, ints); south = omega (arith, ints) }

  -- the hand at a place
  pub there_near : (place : Cell) → IsNearPlace place → LiesNear (shift place.x place.y (alive book.hand))
  there_near place near x y h =
      let p = checked.proper.hand.placed in
      let xl = (p.x _ _ h).low in let xh = (p.x _ _ h).high in let yl = (p.y _ _ h).low in let yh = (p.y _ _ h).high in
      let nl = near.x_low in let nh = near.x_high in let ml = near.y_low in let mh = near.y_high in
      record { west = omega (arith, ints); east = omega (arith, ints); north = omega (arith, ints); south = omega (arith, ints) }

  pub hand_moves : (place : Cell) → IsNearPlace place → CanMove place.x place.y (alive book.hand)
  hand_moves place near = record {
    x = λ x y h. (let p = checked.proper.hand.placed in let xl = (p.x x y h).low in let xh = (p.x x y h).high in let nl = near.x_low in let nh = near.x_high in omega (arith, ints));
    y = λ x y h. (let p = checked.proper.hand.placed in let yl = (p.y x y h).low in let yh = (p.y x y h).high in let nl = near.y_low in let nh = near.y_high in omega (arith, ints));
  }

  hand_near : (first : Option Cell) → IsNearHand first → LiesNear (hand_plane (alive book.hand) (first_hand first))
  hand_near None near = none_near
  hand_near (Some place) near = there_near place near

  pub laid_near : (plan : Plan) (starts : List ℕ) (hs : List Happening) → IsNearPlan plan → AreEarlyStarts starts → AreStarted book plan.events.items starts hs → LiesNear (laid book plan hs)
  laid_near plan starts hs near early started =
      both_near _ _ (placed_near _ (kind_placed book.kinds checked.proper.kinds book.start))
      (both_near _ _ (hand_near plan.first_hand near.first_hand) (stream_near plan.events.items hs started.stand near.events (subst AreEarlyStarts started.starts_are early)))

-- what lies near can be moved so far
pub near_moves : (s : Plane) (by : Cell) → LiesNear s → IsCellInRange (2 ^ 41) by → CanMove by.x by.y s
near_moves s by near range = record {
  x = λ x y h. (let n = near x y h in let west = n.west in let east = n.east in let low = range.x_low in let high = range.x_high in omega (arith, ints));
  y = λ x y h. (let n = near x y h in let north = n.north in let south = n.south in let low = range.y_low in let high = range.y_high in omega (arith, ints));
}

pub moved_range : (s : Plane) (by : Cell) → LiesNear s → IsCellInRange (2 ^ 41) by → IsInRange (2 ^ 58) (shift by.x by.y s)
moved_range s by near range = record {
  x_low = λ x y h. (let west = (near (x -ℤ by.x) (y -ℤ by.y) h).west in let low = range.x_low in omega (arith, ints));
  x_high = λ x y h. (let east = (near (x -ℤ by.x) (y -ℤ by.y) h).east in let high = range.x_high in omega (arith, ints));
  y_low = λ x y h. (let north = (near (x -ℤ by.x) (y -ℤ by.y) h).north in let low = range.y_low in omega (arith, ints));
  y_high = λ x y h. (let south = (near (x -ℤ by.x) (y -ℤ by.y) h).south in let high = range.y_high in omega (arith, ints));
}
