-- In a plan of a checked book for a target all shifts and places are near.
use Rattle.std.specs.Prelude.{◌≡◌, false, true, ℕ, suc, ◌^◌, ℤ, pos, neg_ℤ, ◌+ℤ◌, ◌-ℤ◌, ◌≤ℤ◌, List, [], ◌∷◌, ◌++◌, Option}
use Rattle.std.specs.List.{AllByRecursion}
use Rattle.std.specs.declared.option.Option.TheVariants.{Some, None}
use Rattle.std.proofs.Common.{sym, ap, subst, ◌∙◌, arith, inl, inr}
use Rattle.std.proofs.lemmas.Int.{ints, clamps}
use Rattle.life_plane.specs.ListLaws.{all_append}
use Rattle.life_plane.specs.Plane.{Plane, nothing}
use Rattle.life_cells.specs.Boxes.{InBox, IsInRange, IsLeastBox, IsCellInRange, IsBoxInRange}
use Rattle.life_cells.specs.declared.cell.Cell.{Cell}
use Rattle.life_cells.specs.declared.bounds.Bounds.{Bounds}
use Rattle.life_islands.specs.declared.island.Island.{Island}
use Rattle.life_target.specs.Targets.{IsTarget, IsNarrow}
use Rattle.book_parts.specs.Limits.{IsFrom, AreProper}
use Rattle.book_parts.specs.declared.limits.TheConstants.{GREATEST_SPAN}
use Rattle.book_parts.specs.declared.settings.Settings.{Settings}
use Rattle.book_parts.specs.declared.turn.RawTurn.{RawTurn}
use Rattle.book_parts.specs.declared.turn.TurnEnd.{TurnEnd}
use Rattle.book_parts.specs.declared.turn.TurnEnd.TheVariants.{Close, Move, Emit}
use Rattle.elbow_graph.specs.declared.elbow.Elbow.{Elbow}
use Rattle.elbow_graph.specs.declared.exit.Exit.{Exit}
use Rattle.elbow_graph.specs.declared.goal.Goal.{Goal}
use Rattle.elbow_graph.specs.declared.goal.Goal.TheVariants as goals
use Rattle.elbow_graph.specs.Elbows.{elbow, leaves, IsInSpan}
use Rattle.elbow_graph.specs.Exits.{exits_of}
use Rattle.elbow_graph.specs.Goals.{IsEnd, Passes, IsRoute}
use Rattle.elbow_graph.specs.Numbered.{IsNumbered}
use Rattle.elbow_graph.specs.NumberedLaws.{turn_numbered}
use Rattle.recipe_turn.specs.Checked.{raws}
use Rattle.recipe_hit.specs.declared.frame.Hit.{Hit}
use Rattle.recipe_book.specs.Checked.{CheckedEntries, IsCheckedBook}
use Rattle.hand_route.specs.Lists.{IsHandList, IsFarewell}
use Rattle.build_plan.specs.declared.event.Event.{Event}
use Rattle.build_plan.specs.declared.throw.Throw.{Throw}
use Rattle.build_plan.specs.declared.event.Plan.{Plan}
use Rattle.build_plan.specs.declared.placing.Placing.{Placing}
use Rattle.build_plan.specs.Numbers.{item_of}
use Rattle.build_plan.specs.NumberLaws.{item_numbered}
use Rattle.build_plan.specs.TurnEvents as turn_events
use Rattle.build_plan.specs.TurnEvents.{elbow_past, elbow_after}
use Rattle.build_plan.specs.Throws.{hits_of, hit_throws, salvo_throws, place_past, list_throws}
use Rattle.build_plan.specs.ThrowLaws.{past_there}
use Rattle.build_plan.specs.Served.{AreServed, hit_event}
use Rattle.build_plan.specs.Stand.{Stand}
use Rattle.build_plan.specs.Usable.{Taken, site_of, IsWay, way_throws, SaysFarewell, MayLeave, stand_after, hand_after}
use Rattle.build_plan.specs.Placing.{room_about, IsPlacing, back_of}
use Rattle.build_plan.specs.Plan.{TakeOn, taken_events, first_place, IsPlan}
use Rattle.event_times.specs.Early.{IsNearShift}
use Rattle.stream_time.specs.NearEvents.{far_place, IsNearPlace, IsNearEvent, AreNearEvents, IsNearHand, IsNearPlan}

abbrev IsNearThrow : Throw → Type 0
IsNearThrow throw = IsNearPlace throw.at

abbrev AreNearThrows : List Throw → Type 0
AreNearThrows throws = AllByRecursion IsNearThrow throws

-- ---- where a turn leads, and a salvo

moves_there : (end : TurnEnd) (from to : Elbow) → leaves end from.shift ≡ Some to → turn_events.moved_by end from ≡ to
moves_there Close from to h = absurd (cc)
moves_there (Move kind advance) from to h = cc
moves_there (Emit kind advance lane j) from to h = cc

end_near : (span wanted : ℤ) (end : TurnEnd) (from : Elbow) → IsEnd (goals.Lane wanted) span end from.shift → IsInSpan span (turn_events.moved_by end from)
end_near span wanted Close from h = absurd h
end_near span wanted (Move kind advance) from h = absurd h
end_near span wanted (Emit kind advance lane j) from h = h.1

in_room : (room : Bounds) (at : Cell) → IsBoxInRange far_place room → InBox room at.x at.y → IsNearPlace at
in_room room at near h =
    let l = h.right_of_left in let t = h.below_top in let r = h.left_of_right in let b = h.above_bottom in
    let ll = near.left_low in let rh = near.right_high in let tl = near.top_low in let bh = near.bottom_high in
    record { x_low = omega (arith, ints); x_high = omega (arith, ints); y_low = omega (arith, ints); y_high = omega (arith, ints) }

module _ (book : CheckedEntries) (small : IsFrom (pos 0) GREATEST_SPAN book.settings.span) where
  abbrev turns : List RawTurn
  turns = raws book.turns

  abbrev span : ℤ
  span = book.settings.span

  span_near : (at : Elbow) → IsInSpan span at → IsNearShift at.shift
  span_near at s = let low = s.low in let high = s.high in let most = small.high in record { low = omega (arith, ints); high = omega (arith, ints) }

  -- where the turn with a number moves the elbow
  numbered_past : (k : ℕ) (exit : Exit) (from : Elbow) → IsNumbered (exits_of turns) k exit → elbow_past (item_of turns k) from ≡ turn_events.moved_by exit.end from
  numbered_past k exit from numbered =
      let t = turn_numbered turns k exit numbered in
      ap (λ (o : Option RawTurn). elbow_past o from) (item_numbered turns k t.0 t.1.0) ∙ ap (λ (e : Exit). turn_events.moved_by e.end from) t.1.1

  past_is : (goal : Goal) (k : ℕ) (from to : Elbow) → Passes (exits_of turns) span goal k from to → elbow_past (item_of turns k) from ≡ to
  past_is goal k from to p = numbered_past k p.exit from p.numbered ∙ moves_there p.exit.end from to p.leads.leaves_it

  turns_near : (goal : Goal) (from : Elbow) (list : List ℕ) → IsInSpan span from → IsRoute (exits_of turns) span goal from list → AreNearEvents (turn_events.turn_events turns from list)
  turns_near goal from [] s route = absurd route
  turns_near goal from (k ∷ ks) s (inl last) = (span_near from s, subst (λ (l : List ℕ). AreNearEvents (turn_events.turn_events turns (elbow_past (item_of turns k) from) l)) (sym last.1) tt)
  turns_near goal from (k ∷ ks) s (inr on) = (
    span_near from s,
    subst (λ (e : Elbow). AreNearEvents (turn_events.turn_events turns e ks)) (sym (past_is goal k from on.0 on.1.0)) (turns_near goal on.0 ks on.1.0.leads.near on.1.1),
  )

  after_near : (wanted : ℤ) (from : Elbow) (list : List ℕ) → IsRoute (exits_of turns) span (goals.Lane wanted) from list → IsInSpan span (elbow_after turns from list)
  after_near wanted from [] route = absurd route
  after_near wanted from (k ∷ ks) (inl last) =
      subst (λ (l : List ℕ). IsInSpan span (elbow_after turns (elbow_past (item_of turns k) from) l)) (sym last.1)
      (subst (IsInSpan span) (sym (numbered_past k last.0.exit from last.0.numbered)) (end_near span wanted last.0.exit.end from last.0.end))
  after_near wanted from (k ∷ ks) (inr on) = subst (λ (e : Elbow). IsInSpan span (elbow_after turns e ks)) (sym (past_is (goals.Lane wanted) k from on.0 on.1.0)) (after_near wanted on.0 ks on.1.1)

  -- events that throw gliders, and the elbow that they leave
  record ServedNear (events : List Event) (to : Elbow) : Type 0 where
    events_near : AreNearEvents events
    to_near : IsInSpan span to

  served_near : (throws : List Throw) (from to : Elbow) (events : List Event) → IsInSpan span from → AreNearThrows throws → AreServed turns span from throws events to → ServedNear events to
  served_near [] from to events s own served = record { events_near = subst AreNearEvents (sym served.0) tt; to_near = subst (IsInSpan span) (sym served.1) s }
  served_near (throw ∷ throws) from to events s own (list, (rest, (least, (is, on)))) =
      let more = served_near throws (elbow_after turns from list) to rest (after_near throw.lane from list least.ends) own.1 on in
      record {
        events_near = subst AreNearEvents (sym is) (all_append IsNearEvent (turn_events.turn_events turns from list) (hit_event throw ∷ rest) (turns_near (goals.Lane throw.lane) from list s least.ends) (own.0, more.events_near));
        to_near = more.to_near;
      }

  -- ---- the gliders that salvos ask for

  hits_near : (number : ℕ) (at : Cell) (place : ℕ) (hits : List Hit) → IsNearPlace at → AreNearThrows (hit_throws number at place hits)
  hits_near number at place [] near = tt
  hits_near number at place (hit ∷ hits) near = (near, hits_near number at (suc place) hits near)

  salvo_near : (number : ℕ) (at : Cell) → IsNearPlace at → AreNearThrows (salvo_throws book.salvos number at)
  salvo_near number at near = hits_near number at 1 (hits_of (item_of book.salvos number)) near

  module _ (room : Bounds) (near_room : IsBoxInRange far_place room) where
    way_near : (built : Plane) (from to : Cell) (list : List ℕ) → IsNearPlace from → IsHandList (site_of book room built) from list to → AreNearThrows (list_throws book.salvos from list)
    way_near built from to [] near leads = tt
    way_near built from to (k ∷ ks) near (between, (carries, more)) =
        all_append IsNearThrow (salvo_throws book.salvos k from) (list_throws book.salvos (place_past (item_of book.salvos k) from) ks) (salvo_near k from near)
        (subst (λ (c : Cell). AreNearThrows (list_throws book.salvos c ks)) (sym (past_there book.salvos k carries.salvo from between carries.moves.numbered carries.leaves))
        (way_near built between to ks (in_room room between near_room carries.in_room) more))

    away_near : (built : Plane) (from : Cell) (list : List ℕ) → IsNearPlace from → IsFarewell (site_of book room built) from list → AreNearThrows (list_throws book.salvos from list)
    away_near built from [] near says = absurd says
    away_near built from (k ∷ ks) near (inl last) =
        all_append IsNearThrow (salvo_throws book.salvos k from) (list_throws book.salvos (place_past (item_of book.salvos k) from) ks) (salvo_near k from near)
        (subst (λ (l : List ℕ). AreNearThrows (list_throws book.salvos (place_past (item_of book.salvos k) from) l)) (sym last.1) tt)
    away_near built from (k ∷ ks) near (inr (between, (carries, more))) =
        all_append IsNearThrow (salvo_throws book.salvos k from) (list_throws book.salvos (place_past (item_of book.salvos k) from) ks) (salvo_near k from near)
        (subst (λ (c : Cell). AreNearThrows (list_throws book.salvos c ks)) (sym (past_there book.salvos k carries.salvo from between carries.moves.numbered carries.leaves))
        (away_near built between ks (in_room room between near_room carries.in_room) more))

    throws_near : (built : Plane) (from : Option Cell) (way : List ℕ) (number : ℕ) (place : Cell) → IsNearHand from → IsNearPlace place → IsWay book room built from way place → AreNearThrows (way_throws book.salvos from way number place)
    throws_near built None way number place hand near is = salvo_near number place near
    throws_near built (Some from) way number place hand near is =
        all_append IsNearThrow (list_throws book.salvos from way) (salvo_throws book.salvos number place) (way_near built from place way hand is.leads) (salvo_near number place near)

    left_near : (built : Plane) (o : Option Cell) (at : Elbow) (left : List Island) → MayLeave book room built o at left → IsNearHand o
    left_near built None at left h = tt
    left_near built (Some place) at left h = in_room room place near_room h.0

    -- what is taken
    record TakenNear (events : List Event) (stand : Stand) : Type 0 where
      events_near : AreNearEvents events
      elbow_near : IsInSpan span stand.elbow
      hand_near : IsNearHand stand.place

    takes_near : (stand last : Stand) (all : List Taken) → IsInSpan span stand.elbow → IsNearHand stand.place → TakeOn book room stand all last → TakenNear (taken_events all) last
    takes_near stand last [] s hand takes = record {
      events_near = tt;
      elbow_near = subst (λ (st : Stand). IsInSpan span st.elbow) (sym takes) s;
      hand_near = subst (λ (st : Stand). IsNearHand st.place) (sym takes) hand;
    }
    takes_near stand last (taken ∷ more) s hand takes =
        let u = takes.0.usable in
        let here = served_near (way_throws book.salvos stand.place taken.way taken.number taken.place) stand.elbow taken.elbow taken.events s
        (throws_near stand.built stand.place taken.way taken.number taken.place hand (in_room room taken.place near_room u.in_room) u.way) u.served in
        let rest = takes_near (stand_after stand taken) last more here.to_near (left_near _ (hand_after taken) taken.elbow taken.left u.leaves) takes.1 in
        record { events_near = all_append IsNearEvent taken.events (taken_events more) here.events_near rest.events_near; elbow_near = rest.elbow_near; hand_near = rest.hand_near }

    farewell_near : (built : Plane) (place : Option Cell) (from to : Elbow) (events : List Event) → IsInSpan span from → IsNearHand place → SaysFarewell book room built place from events to → ServedNear events to
    farewell_near built None from to events s hand says = record { events_near = subst AreNearEvents (sym says.0) tt; to_near = subst (IsInSpan span) (sym says.1) s }
    farewell_near built (Some place) from to events s hand (list, (least, served)) =
        served_near (list_throws book.salvos place list) from to events s (away_near built place list hand least.ends) served

    first_near : (stand last : Stand) (all : List Taken) → TakeOn book room stand all last → IsNearHand (first_place all)
    first_near stand last [] takes = tt
    first_near stand last (taken ∷ more) takes = in_room room taken.place near_room takes.0.usable.in_room

-- ---- the room, and the shift back

record IsNearPlacing (placing : Placing) : Type 0 where
  room : IsBoxInRange far_place placing.room
  back : IsCellInRange (2 ^ 41) (back_of placing.by)

no_life : (target : Plane) (x y : ℤ) → target ≡ nothing → target x y ≡ true → ⊥
no_life target x y none lives = by (sym (ap (λ (p : Plane). p x y) none) ∙ lives)
  where
    by : false ≡ true → ⊥
    by e = cc

-- how wide and high a target's least box is
record IsSmallBox (box : Bounds) : Type 0 where
  wide : ((box.right -ℤ box.left) +ℤ pos 1) ≤ℤ pos 2048
  high : ((box.bottom -ℤ box.top) +ℤ pos 1) ≤ℤ pos 2048

small_box : (target : Plane) (box : Bounds) → IsNarrow target → IsLeastBox box target → IsSmallBox box
small_box target box (inl none) least = absurd (no_life target least.lives.0 least.lives.1.0 none least.lives.1.1)
small_box target box (inr (side, (has, few))) least =
    let w = least.least has.box has.box_is.holds in
    let l = w.left in let r = w.right in let t = w.top in let b = w.bottom in
    let is = has.side_is in
    record { wide = omega (arith, ints, clamps); high = omega (arith, ints, clamps) }

-- where it lies
record IsPlacedBox (box : Bounds) : Type 0 where
  columns : box.left ≤ℤ box.right
  rows : box.top ≤ℤ box.bottom
  left_low : neg_ℤ (pos (2 ^ 40)) ≤ℤ box.left
  left_high : box.left ≤ℤ pos (2 ^ 40)
  bottom_low : neg_ℤ (pos (2 ^ 40)) ≤ℤ box.bottom
  bottom_high : box.bottom ≤ℤ pos (2 ^ 40)

placed_box : (target : Plane) (box : Bounds) → IsInRange (2 ^ 40) target → IsLeastBox box target → IsPlacedBox box
placed_box target box range least =
    let around : Bounds = record { left = neg_ℤ (pos (2 ^ 40)); top = neg_ℤ (pos (2 ^ 40)); right = pos (2 ^ 40); bottom = pos (2 ^ 40) } in
    let w = least.least around (record { each = λ x y l. record { right_of_left = range.x_low x y l; below_top = range.y_low x y l; left_of_right = range.x_high x y l; above_bottom = range.y_high x y l } }) in
    let l = w.left in let t = w.top in let r = w.right in let b = w.bottom in
    let i = least.holds.each least.lives.0 least.lives.1.0 least.lives.1.1 in
    let il = i.right_of_left in let it = i.below_top in let ir = i.left_of_right in let ib = i.above_bottom in
    record {
      columns = omega (arith, ints);
      rows = omega (arith, ints);
      left_low = l;
      left_high = omega (arith, ints);
      bottom_low = omega (arith, ints);
      bottom_high = b;
    }

module _ (settings : Settings) (proper : AreProper settings) (target : Plane) (is_target : IsTarget target) where
  placing_near : (placing : Placing) → IsPlacing settings target placing → IsNearPlacing placing
  placing_near placing (inl empty) = record {
    room = subst (IsBoxInRange far_place) (sym empty.no_room) (record {
      left_low = omega (arith, ints);
      left_high = omega (arith, ints);
      top_low = omega (arith, ints);
      top_high = omega (arith, ints);
      right_low = omega (arith, ints);
      right_high = omega (arith, ints);
      bottom_low = omega (arith, ints);
      bottom_high = omega (arith, ints);
    });
    back = subst (λ (by : Cell). IsCellInRange (2 ^ 41) (back_of by)) (sym empty.by_none) (record { x_low = omega (arith, ints); x_high = omega (arith, ints); y_low = omega (arith, ints); y_high = omega (arith, ints) });
  }
  placing_near placing (inr boxed) =
      let box = boxed.box in
      let small = small_box target box is_target.narrow boxed.least in
      let wide = small.wide in let high = small.high in
      let w = placed_box target box is_target.range boxed.least in
      let columns = w.columns in let rows = w.rows in
      let ll = w.left_low in let lh = w.left_high in let bl = w.bottom_low in let bh = w.bottom_high in
      let xl = proper.corner_x.low in let xh = proper.corner_x.high in let yl = proper.corner_y.low in let yh = proper.corner_y.high in
      let rl = proper.room.low in let rh = proper.room.high in
      record {
        room = subst (IsBoxInRange far_place) (sym (boxed.room_is ∙ ap (λ (by : Cell). room_about settings by box) boxed.by_is)) (record {
          left_low = omega (arith, ints);
          left_high = omega (arith, ints);
          top_low = omega (arith, ints);
          top_high = omega (arith, ints);
          right_low = omega (arith, ints);
          right_high = omega (arith, ints);
          bottom_low = omega (arith, ints);
          bottom_high = omega (arith, ints);
        });
        back = subst (λ (by : Cell). IsCellInRange (2 ^ 41) (back_of by)) (sym boxed.by_is) (record { x_low = omega (arith, ints); x_high = omega (arith, ints); y_low = omega (arith, ints); y_high = omega (arith, ints) });
      }

module _ (book : CheckedEntries) (checked : IsCheckedBook book) (target : Plane) (is_target : IsTarget target) where
  pub plan_near : (plan : Plan) → IsPlan book target plan → IsNearPlan plan
  plan_near plan is =
      let p = is.plans in
      let c = p.is_course in
      let small = checked.proper.settings.span in
      let placing = placing_near book.settings checked.proper.settings target is_target is.placing is.is_placing in
      let sl = small.low in
      let start : IsInSpan book.settings.span (elbow book.start (pos 0)) = record { low = omega (arith, ints); high = omega (arith, ints) } in
      let taken = takes_near book small is.placing.room placing.room _ p.course.last p.course.taken start tt c.takes in
      let farewell = farewell_near book small is.placing.room placing.room p.course.last.built p.course.last.place p.course.last.elbow p.course.elbow p.course.farewell taken.elbow_near taken.hand_near c.farewell in
      record {
        events = subst AreNearEvents (sym p.events_are)
            (all_append IsNearEvent (taken_events p.course.taken) (p.course.farewell ++ turn_events.turn_events (raws book.turns) p.course.elbow p.closing) taken.events_near
            (all_append IsNearEvent p.course.farewell (turn_events.turn_events (raws book.turns) p.course.elbow p.closing) farewell.events_near
            (turns_near book small goals.Closed p.course.elbow p.closing farewell.to_near p.least.ends)));
        first_hand = subst IsNearHand (sym p.first_is) (first_near book small is.placing.room placing.room _ p.course.last p.course.taken c.takes);
        back = subst (IsCellInRange (2 ^ 41)) (sym p.back_is) placing.back;
      }
