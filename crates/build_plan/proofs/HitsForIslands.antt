-- A plan has hits exactly where its target has an island.
use Rattle.std.specs.Prelude.{◌≡◌, ℕ, ◌<◌, ℤ, List, [], ◌∷◌, ◌++◌, length}
use Rattle.std.specs.declared.option.Option.TheVariants.{Some, None}
use Rattle.std.proofs.Common.{refl, sym, ap, subst, ◌∙◌, arith}
use Rattle.life_plane.specs.Plane.{Plane}
use Rattle.life_cells.specs.declared.cell.Cell.{Cell}
use Rattle.life_cells.specs.declared.bounds.Bounds.{Bounds}
use Rattle.life_islands.specs.Islands.{AreIslands}
use Rattle.life_islands.specs.MovedIslands.{AreMovedIslands}
use Rattle.life_islands.specs.MovedIslandLaws.{islands_move}
use Rattle.life_islands.specs.declared.island.Island.{Island}
use Rattle.book_parts.specs.declared.turn.RawTurn.{RawTurn}
use Rattle.elbow_graph.specs.declared.elbow.Elbow.{Elbow}
use Rattle.recipe_turn.specs.Checked.{raws}
use Rattle.recipe_hit.specs.declared.frame.Hit as struck
use Rattle.recipe_book.specs.Checked.{CheckedEntries, IsCheckedBook}
use Rattle.build_plan.specs.declared.event.Event.{Event}
use Rattle.build_plan.specs.declared.event.Plan.{Plan}
use Rattle.build_plan.specs.Numbers.{item_of}
use Rattle.build_plan.specs.NumberLaws.{item_numbered}
use Rattle.build_plan.specs.TurnEvents.{elbow_past, turn_events}
use Rattle.build_plan.specs.Throws.{hits_of, hit_throws}
use Rattle.build_plan.specs.Served.{AreServed}
use Rattle.build_plan.specs.Stand.{Stand}
use Rattle.build_plan.specs.Usable.{Taken, IsTaken, SaysFarewell}
use Rattle.build_plan.specs.Plan.{first_stand, TakeOn, taken_events, first_place, IsPlan}
use Rattle.build_plan.specs.PlanHits.{HasHit, HitsForIslands}
use Rattle.build_plan.specs.declared.event.Event.TheVariants.{Turn, Hit}
use Rattle.build_plan.proofs.FromBook.{sound_salvos}

hit_before : (events more : List Event) → HasHit events → HasHit (events ++ more)
hit_before [] more h = absurd h
hit_before (Turn number shift ∷ events) more h = hit_before events more h
hit_before (Hit number place at ∷ events) more h = tt

hit_behind : (events more : List Event) → HasHit more → HasHit (events ++ more)
hit_behind [] more h = h
hit_behind (Turn number shift ∷ events) more h = hit_behind events more h
hit_behind (Hit number place at ∷ events) more h = tt

no_hit : (turns : List RawTurn) (from : Elbow) (list : List ℕ) → HasHit (turn_events turns from list) → ⊥
no_hit turns from [] h = h
no_hit turns from (k ∷ ks) h = no_hit turns (elbow_past (item_of turns k) from) ks h

-- gliders that are thrown for hits
throws_hit : (turns : List RawTurn) (span : ℤ) (from to : Elbow) (number : ℕ) (at : Cell) (hits : List struck.Hit) (events : List Event) → 0 < length hits →
    AreServed turns span from (hit_throws number at 1 hits) events to → HasHit events
throws_hit turns span from to number at [] events some served = absurd (omega arith)
throws_hit turns span from to number at (hit ∷ hits) events some (list, (rest, (least, (is, on)))) = subst HasHit (sym is) (hit_behind (turn_events turns from list) _ tt)

none_some : {X P : Type 0} (x : X) (xs : List X) → [] ≡ x ∷ xs → P
none_some x xs e = cc

module _ (book : CheckedEntries) (checked : IsCheckedBook book) (room : Bounds) where
  -- what is taken for the first island
  first_hits : (islands : List Island) (taken : Taken) → IsTaken book room (first_stand book islands) taken → HasHit taken.events
  first_hits islands taken is =
      let hits_are = ap hits_of (item_numbered book.salvos taken.number taken.salvo is.usable.numbered) in
      throws_hit (raws book.turns) book.settings.span _ taken.elbow taken.number taken.place taken.salvo.hits taken.events (sound_salvos book checked taken.number taken.salvo is.usable.numbered).some
      (subst (λ (hits : List struck.Hit). AreServed (raws book.turns) book.settings.span (first_stand book islands).elbow (hit_throws taken.number taken.place 1 hits) taken.events taken.elbow) hits_are is.usable.served)

  -- a course for no island
  none_taken : (taken : List Taken) (last : Stand) (farewell : List Event) (elbow : Elbow) (closing : List ℕ) → TakeOn book room (first_stand book []) taken last →
      SaysFarewell book room last.built last.place last.elbow farewell elbow →
      (first_place taken ≡ None) × (HasHit (taken_events taken ++ (farewell ++ turn_events (raws book.turns) elbow closing)) → ⊥)
  none_taken [] last farewell elbow closing takes says =
      let silent = (subst (λ (s : Stand). SaysFarewell book room s.built s.place s.elbow farewell elbow) takes says).0 in
      (refl, λ h. no_hit (raws book.turns) elbow closing (subst (λ (events : List Event). HasHit (events ++ turn_events (raws book.turns) elbow closing)) silent h))
  none_taken (taken ∷ more) last farewell elbow closing takes says = none_some _ _ takes.0.usable.fits.left_is

  -- a course for some
  some_taken : (island : Island) (islands : List Island) (taken : List Taken) (last : Stand) (rest : List Event) → TakeOn book room (first_stand book (island ∷ islands)) taken last → last.left ≡ [] →
      ((place : Cell) × (first_place taken ≡ Some place)) × HasHit (taken_events taken ++ rest)
  some_taken island islands [] last rest takes built = none_some island islands (sym built ∙ ap (λ (s : Stand). s.left) takes)
  some_taken island islands (taken ∷ more) last rest takes built = (
    (taken.place, refl),
    hit_before (taken.events ++ taken_events more) rest (hit_before taken.events (taken_events more) (first_hits (island ∷ islands) taken takes.0)),
  )

pub hits_for_islands : (book : CheckedEntries) → IsCheckedBook book → (target : Plane) (plan : Plan) → IsPlan book target plan → (islands : List Island) → AreIslands target islands → HitsForIslands islands plan
hits_for_islands book checked target plan is islands are = by islands is.islands (islands_move is.placing.by.x is.placing.by.y target islands is.islands are is.islands_are) refl
  where
    by : (own moved : List Island) → AreMovedIslands is.placing.by.x is.placing.by.y own moved → is.islands ≡ moved → HitsForIslands own plan
    by [] [] same none =
        let c = is.plans.is_course in
        let taken = none_taken book checked is.placing.room is.plans.course.taken is.plans.course.last is.plans.course.farewell is.plans.course.elbow is.plans.closing
        (subst (λ (l : List Island). TakeOn book is.placing.room (first_stand book l) is.plans.course.taken is.plans.course.last) none c.takes) c.farewell in
        (is.plans.first_is ∙ taken.0, λ h. taken.1 (subst HasHit is.plans.events_are h))
    by [] (other ∷ others) same some = absurd same
    by (island ∷ own) [] same none = absurd same
    by (island ∷ own) (other ∷ others) same some =
        let c = is.plans.is_course in
        let taken = some_taken book checked is.placing.room other others is.plans.course.taken is.plans.course.last _
        (subst (λ (l : List Island). TakeOn book is.placing.room (first_stand book l) is.plans.course.taken is.plans.course.last) some c.takes) c.all_built in
        ((taken.0.0, is.plans.first_is ∙ taken.0.1), subst HasHit (sym is.plans.events_are) taken.1)
