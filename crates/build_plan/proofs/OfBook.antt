-- Each event of a plan is one of its book's.
use Rattle.std.specs.Prelude.{◌≡◌, ℕ, suc, ◌+◌, List, [], ◌∷◌, ◌++◌, Option}
use Rattle.std.specs.List.{AllByRecursion, slice_get}
use Rattle.std.specs.declared.option.Option.TheVariants.{Some, None}
use Rattle.std.proofs.Common.{sym, ap, subst, ◌∙◌, arith, inl, inr}
use Rattle.life_plane.specs.ListLaws.{all_append}
use Rattle.life_plane.specs.Plane.{Plane}
use Rattle.life_cells.specs.declared.cell.Cell.{Cell}
use Rattle.life_cells.specs.declared.bounds.Bounds.{Bounds}
use Rattle.elbow_graph.specs.declared.elbow.Elbow.{Elbow}
use Rattle.elbow_graph.specs.declared.goal.Goal.{Goal}
use Rattle.elbow_graph.specs.Exits.{exits_of}
use Rattle.elbow_graph.specs.Goals.{IsRoute}
use Rattle.elbow_graph.specs.Numbered.{IsNumbered}
use Rattle.elbow_graph.specs.NumberedLaws.{turn_numbered, numbered_from_at}
use Rattle.recipe_turn.specs.Checked.{raws}
use Rattle.recipe_hit.specs.Checked.{Struck}
use Rattle.recipe_hit.specs.declared.frame.Hit.{Hit}
use Rattle.recipe_book.specs.Checked.{CheckedEntries}
use Rattle.hand_route.specs.Lists.{IsHandList, IsFarewell}
use Rattle.build_plan.specs.declared.event.Event.{Event}
use Rattle.build_plan.specs.declared.throw.Throw.{Throw}
use Rattle.build_plan.specs.declared.event.Plan.{Plan}
use Rattle.build_plan.specs.Numbers.{item_of}
use Rattle.build_plan.specs.NumberLaws.{item_numbered}
use Rattle.build_plan.specs.TurnEvents.{elbow_past, elbow_after, turn_events}
use Rattle.build_plan.specs.Throws.{hits_of, hit_throws, salvo_throws, place_past, list_throws}
use Rattle.build_plan.specs.Served.{AreServed, hit_event}
use Rattle.build_plan.specs.Stand.{Stand}
use Rattle.build_plan.specs.Usable.{Taken, site_of, IsWayIn, way_throws, SaysFarewell, stand_after}
use Rattle.build_plan.specs.Plan.{TakeOn, taken_events, IsPlan}
use Rattle.build_plan.specs.Happenings.{IsOfBook}

module _ (book : CheckedEntries) where
  -- the turns of a list that serves a goal, whatever elbow they are counted from
  turns_of_book : (goal : Goal) (at from : Elbow) (list : List ℕ) → IsRoute (exits_of (raws book.turns)) book.settings.span goal at list → AllByRecursion (IsOfBook book) (turn_events (raws book.turns) from list)
  turns_of_book goal at from [] route = absurd route
  turns_of_book goal at from (k ∷ ks) (inl last) =
      let t = turn_numbered (raws book.turns) k last.0.exit last.0.numbered in
      ((t.0, t.1.0), subst (λ (l : List ℕ). AllByRecursion (IsOfBook book) (turn_events (raws book.turns) (elbow_past (item_of (raws book.turns) k) from) l)) (sym last.1) tt)
  turns_of_book goal at from (k ∷ ks) (inr on) =
      let t = turn_numbered (raws book.turns) k on.1.0.exit on.1.0.numbered in
      ((t.0, t.1.0), turns_of_book goal on.0 (elbow_past (item_of (raws book.turns) k) from) ks on.1.1)

  -- the hit of a glider is one of the book's
  abbrev IsFor : Throw → Type 0
  IsFor throw = IsOfBook book (hit_event throw)

  served_of_book : (throws : List Throw) (from to : Elbow) (events : List Event) → AllByRecursion IsFor throws → AreServed (raws book.turns) book.settings.span from throws events to → AllByRecursion (IsOfBook book) events
  served_of_book [] from to events own served = subst (AllByRecursion (IsOfBook book)) (sym served.0) tt
  served_of_book (throw ∷ throws) from to events own (list, (rest, (least, (is, on)))) =
      subst (AllByRecursion (IsOfBook book)) (sym is)
      (all_append (IsOfBook book) (turn_events (raws book.turns) from list) (hit_event throw ∷ rest) (turns_of_book _ from from list least.ends)
      (own.0, served_of_book throws (elbow_after (raws book.turns) from list) to rest own.1 on))

  -- the gliders of a salvo's hits, from one on
  hits_of_book : (number : ℕ) (salvo : Struck) (at : Cell) (place : ℕ) (hits : List Hit) → IsNumbered book.salvos number salvo → ((k : ℕ) → slice_get salvo.hits (k + place) ≡ slice_get hits k) →
      AllByRecursion IsFor (hit_throws number at (suc place) hits)
  hits_of_book number salvo at place [] numbered there = tt
  hits_of_book number salvo at place (hit ∷ hits) numbered there = (
    (salvo, (numbered, (hit, numbered_from_at salvo.hits place hit (ap (slice_get salvo.hits) (omega arith) ∙ there 0)))),
    hits_of_book number salvo at (suc place) hits numbered (λ k. ap (slice_get salvo.hits) (omega arith) ∙ there (suc k)),
  )

  salvo_of_book : (number : ℕ) (salvo : Struck) (at : Cell) → IsNumbered book.salvos number salvo → AllByRecursion IsFor (salvo_throws book.salvos number at)
  salvo_of_book number salvo at numbered =
      subst (λ (o : Option Struck). AllByRecursion IsFor (hit_throws number at 1 (hits_of o))) (sym (item_numbered book.salvos number salvo numbered))
      (hits_of_book number salvo at 0 salvo.hits numbered (λ k. ap (slice_get salvo.hits) (omega arith)))

  way_of_book : (room : Bounds) (built : Plane) (place from to : Cell) (list : List ℕ) → IsHandList (site_of book room built) place list to → AllByRecursion IsFor (list_throws book.salvos from list)
  way_of_book room built place from to [] leads = tt
  way_of_book room built place from to (k ∷ ks) (between, (carries, more)) =
      all_append IsFor (salvo_throws book.salvos k from) (list_throws book.salvos (place_past (item_of book.salvos k) from) ks) (salvo_of_book k carries.salvo from carries.moves.numbered)
      (way_of_book room built between (place_past (item_of book.salvos k) from) to ks more)

  away_of_book : (room : Bounds) (built : Plane) (place from : Cell) (list : List ℕ) → IsFarewell (site_of book room built) place list → AllByRecursion IsFor (list_throws book.salvos from list)
  away_of_book room built place from [] says = absurd says
  away_of_book room built place from (k ∷ ks) (inl last) =
      all_append IsFor (salvo_throws book.salvos k from) (list_throws book.salvos (place_past (item_of book.salvos k) from) ks) (salvo_of_book k last.0.salvo from last.0.moves.numbered)
      (subst (λ (l : List ℕ). AllByRecursion IsFor (list_throws book.salvos (place_past (item_of book.salvos k) from) l)) (sym last.1) tt)
  away_of_book room built place from (k ∷ ks) (inr (between, (carries, more))) =
      all_append IsFor (salvo_throws book.salvos k from) (list_throws book.salvos (place_past (item_of book.salvos k) from) ks) (salvo_of_book k carries.salvo from carries.moves.numbered)
      (away_of_book room built between (place_past (item_of book.salvos k) from) ks more)

  -- the gliders of what is taken
  throws_of_book : (room : Bounds) (built : Plane) (from : Option Cell) (way : List ℕ) (number : ℕ) (salvo : Struck) (place : Cell) → IsNumbered book.salvos number salvo → IsWayIn (site_of book room built) from way place →
      AllByRecursion IsFor (way_throws book.salvos from way number place)
  throws_of_book room built None way number salvo place numbered is = salvo_of_book number salvo place numbered
  throws_of_book room built (Some from) way number salvo place numbered is =
      all_append IsFor (list_throws book.salvos from way) (salvo_throws book.salvos number place) (way_of_book room built from from place way is.leads) (salvo_of_book number salvo place numbered)

  takes_of_book : (room : Bounds) (stand last : Stand) (all : List Taken) → TakeOn book room stand all last → AllByRecursion (IsOfBook book) (taken_events all)
  takes_of_book room stand last [] takes = tt
  takes_of_book room stand last (taken ∷ more) takes =
      let u = takes.0.usable in
      all_append (IsOfBook book) taken.events (taken_events more)
      (served_of_book (way_throws book.salvos stand.place taken.way taken.number taken.place) stand.elbow taken.elbow taken.events
      (throws_of_book room stand.built stand.place taken.way taken.number taken.salvo taken.place u.numbered u.way) u.served)
      (takes_of_book room (stand_after stand taken) last more takes.1)

  farewell_of_book : (room : Bounds) (built : Plane) (place : Option Cell) (from to : Elbow) (events : List Event) → SaysFarewell book room built place from events to → AllByRecursion (IsOfBook book) events
  farewell_of_book room built None from to events says = subst (AllByRecursion (IsOfBook book)) (sym says.0) tt
  farewell_of_book room built (Some place) from to events (list, (least, served)) =
      served_of_book (list_throws book.salvos place list) from to events (away_of_book room built place place list least.ends) served

  pub plan_of_book : (target : Plane) (plan : Plan) → IsPlan book target plan → AllByRecursion (IsOfBook book) plan.events.items
  plan_of_book target plan is =
      let p = is.plans in
      let c = p.is_course in
      subst (AllByRecursion (IsOfBook book)) (sym p.events_are)
      (all_append (IsOfBook book) (taken_events p.course.taken) (p.course.farewell ++ turn_events (raws book.turns) p.course.elbow p.closing) (takes_of_book is.placing.room _ p.course.last p.course.taken c.takes)
      (all_append (IsOfBook book) p.course.farewell (turn_events (raws book.turns) p.course.elbow p.closing)
      (farewell_of_book is.placing.room p.course.last.built p.course.last.place p.course.last.elbow p.course.elbow p.course.farewell c.farewell)
      (turns_of_book _ p.course.elbow p.course.elbow p.closing p.least.ends)))
