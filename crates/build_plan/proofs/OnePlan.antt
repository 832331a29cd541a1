-- For a target there is at most one plan, or one stop.
use Rattle.std.specs.Prelude.{◌≡◌, ◌⊎◌, ℕ, ◌+◌, ◌<◌, ◌≤◌, List, [], ◌∷◌, ◌++◌, Option}
use Rattle.std.specs.declared.option.Option.TheVariants.{Some, None}
use Rattle.std.proofs.Common.{refl, sym, ap, subst, ◌∙◌, arith, inl, inr, append-nil}
use Rattle.life_plane.specs.Plane.{Plane}
use Rattle.life_cells.specs.declared.bounds.Bounds.{Bounds}
use Rattle.life_cells.specs.declared.cell.Cell.{Cell}
use Rattle.life_islands.specs.declared.island.Island.{Island}
use Rattle.elbow_graph.specs.declared.elbow.Elbow.{Elbow}
use Rattle.elbow_route.specs.Lists.{IsLeastClosing}
use Rattle.recipe_turn.specs.Checked.{raws}
use Rattle.recipe_book.specs.Checked.{CheckedEntries}
use Rattle.build_plan.specs.declared.event.Event.{Event}
use Rattle.build_plan.specs.Stand.{Stand}
use Rattle.build_plan.specs.Served.{AreServed}
use Rattle.build_plan.specs.Throws.{list_throws}
use Rattle.build_plan.specs.Usable.{Taken, IsTaken, SaysFarewell, site_of, stand_after}
use Rattle.build_plan.specs.Plan.{most_gliders, first_stand, TakeOn, taken_events, Course, IsCourse, gliders_in}
use Rattle.build_plan.proofs.Leasts.{LeastAreOne}
use Rattle.build_plan.proofs.Gliders.{gliders_both, events_both}
use Rattle.build_plan.proofs.OneServed.{served_once}
use Rattle.build_plan.proofs.OneTaken.{taken_once}

pub some_left : (island : Island) (others : List Island) → [] ≡ island ∷ others → ⊥
some_left island others e = cc

module _ (one : LeastAreOne) (book : CheckedEntries) (room : Bounds) where
  -- no salvo is taken here
  abbrev pub IsEnd : Stand → Type 0
  IsEnd stand = (taken : Taken) → IsTaken book room stand taken → ⊥

  -- where no island is left none is taken
  pub end_of_all : (stand : Stand) → stand.left ≡ [] → IsEnd stand
  end_of_all stand none taken t = some_left t.usable.fits.wanted t.usable.fits.others (sym none ∙ t.usable.fits.left_is)

  -- some more is taken
  record TakesMore (xs : List Taken) (s : Stand) (ys : List Taken) (t : Stand) : Type 0 where
    rest : List Taken
    is : ys ≡ xs ++ rest
    on : TakeOn book room s rest t

  -- of two lists that are taken from one stand, one goes on where the other ends
  one_goes_on : (from s t : Stand) (xs ys : List Taken) → TakeOn book room from xs s → TakeOn book room from ys t → TakesMore xs s ys t ⊎ TakesMore ys t xs s
  one_goes_on from s t [] ys h k = inl (record { rest = ys; is = refl; on = subst (λ (z : Stand). TakeOn book room z ys t) (sym h) k })
  one_goes_on from s t (x ∷ xs) [] h k = inr (record { rest = x ∷ xs; is = refl; on = subst (λ (z : Stand). TakeOn book room z (x ∷ xs) s) (sym k) h })
  one_goes_on from s t (x ∷ xs) (y ∷ ys) h k =
      let same : y ≡ x = taken_once one book room from y x k.0 h.0 in
      let on : TakeOn book room (stand_after from x) ys t = subst (λ (z : Taken). TakeOn book room (stand_after from z) ys t) same k.1 in
      elim (one_goes_on (stand_after from x) s t xs ys h.1 on) [
        | inl m ↦ inl (record { rest = m.rest; is = λ i. same i ∷ m.is i; on = m.on })
        | inr m ↦ inr (record { rest = m.rest; is = λ i. sym same i ∷ m.is i; on = m.on })
      ]

  -- two lists that end are one
  pub record SameEnd (xs : List Taken) (s : Stand) (ys : List Taken) (t : Stand) : Type 0 where
    pub lists : xs ≡ ys
    pub stands : s ≡ t

  no_more : (xs ys : List Taken) (s t : Stand) → IsEnd s → TakesMore xs s ys t → SameEnd xs s ys t
  no_more xs ys s t end m = by m.rest m.is m.on
    where
      by : (rest : List Taken) → ys ≡ xs ++ rest → TakeOn book room s rest t → SameEnd xs s ys t
      by [] is on = record { lists = sym (is ∙ append-nil xs); stands = sym on }
      by (r ∷ rest) is on = absurd (end r on.0)

  pub same_end : (from s t : Stand) (xs ys : List Taken) → TakeOn book room from xs s → TakeOn book room from ys t → IsEnd s → IsEnd t → SameEnd xs s ys t
  same_end from s t xs ys h k end other = elim (one_goes_on from s t xs ys h k) [
    | inl m ↦ no_more xs ys s t end m
    | inr m ↦ (let e = no_more ys xs t s other m in record { lists = sym e.lists; stands = sym e.stands })
  ]

  -- ---- streams that are too long

  -- the gliders of a list, and of one that goes on
  few_of_part : (xs rest : List Taken) (next : Taken) → gliders_in book (taken_events (xs ++ next ∷ rest)) ≤ most_gliders → gliders_in book (taken_events (xs ++ next ∷ [])) ≤ most_gliders
  few_of_part xs rest next few =
      let turns = raws book.turns in
      let whole : gliders_in book (taken_events (xs ++ next ∷ rest)) ≡ gliders_in book (taken_events xs) + (gliders_in book next.events + gliders_in book (taken_events rest)) =
      ap (gliders_in book) (events_both xs (next ∷ rest)) ∙ gliders_both turns (taken_events xs) (taken_events (next ∷ rest))
      ∙ ap (λ n. gliders_in book (taken_events xs) + n) (gliders_both turns next.events (taken_events rest)) in
      let part : gliders_in book (taken_events (xs ++ next ∷ [])) ≡ gliders_in book (taken_events xs) + (gliders_in book next.events + 0) =
      ap (gliders_in book) (events_both xs (next ∷ [])) ∙ gliders_both turns (taken_events xs) (taken_events (next ∷ []))
      ∙ ap (λ n. gliders_in book (taken_events xs) + n) (gliders_both turns next.events []) in
      omega arith

  -- a list that is too long with the next one is not part of one that isn't
  not_part : (xs ys : List Taken) (s t : Stand) (next r : Taken) (rest : List Taken) → IsTaken book room s next → most_gliders < gliders_in book (taken_events (xs ++ next ∷ [])) →
      gliders_in book (taken_events ys) ≤ most_gliders → ys ≡ xs ++ r ∷ rest → IsTaken book room s r → ⊥
  not_part xs ys s t next r rest is_next many few is is_r =
      let same : r ≡ next = taken_once one book room s r next is_r is_next in
      let whole : gliders_in book (taken_events (xs ++ next ∷ rest)) ≤ most_gliders = subst (λ (l : List Taken). gliders_in book (taken_events l) ≤ most_gliders) (is ∙ (λ i. xs ++ same i ∷ rest)) few in
      let less = few_of_part xs rest next whole in
      omega arith

  -- where a salvo makes the stream too long, no list that isn't too long comes to an end
  pub long_before_end : (from s t : Stand) (xs ys : List Taken) (next : Taken) → TakeOn book room from xs s → TakeOn book room from ys t → IsEnd t → gliders_in book (taken_events ys) ≤ most_gliders →
      IsTaken book room s next → most_gliders < gliders_in book (taken_events (xs ++ next ∷ [])) → ⊥
  long_before_end from s t xs ys next h k end few is_next many = elim (one_goes_on from s t xs ys h k) [
    | inl m ↦ on m.rest m.is m.on
    | inr m ↦ back m.rest m.on
  ]
    where
      on : (rest : List Taken) → ys ≡ xs ++ rest → TakeOn book room s rest t → ⊥
      on [] is o = end next (subst (λ (z : Stand). IsTaken book room z next) (sym o) is_next)
      on (r ∷ rest) is o = not_part xs ys s t next r rest is_next many few is o.0

      back : (rest : List Taken) → TakeOn book room t rest s → ⊥
      back [] o = end next (subst (λ (z : Stand). IsTaken book room z next) o is_next)
      back (r ∷ rest) o = end r o.0

  -- one salvo at most is the first that makes it too long
  pub long_once : (from s t : Stand) (xs ys : List Taken) (next other : Taken) → TakeOn book room from xs s → TakeOn book room from ys t →
      gliders_in book (taken_events xs) ≤ most_gliders → gliders_in book (taken_events ys) ≤ most_gliders → IsTaken book room s next → IsTaken book room t other →
      most_gliders < gliders_in book (taken_events (xs ++ next ∷ [])) → most_gliders < gliders_in book (taken_events (ys ++ other ∷ [])) → xs ++ next ∷ [] ≡ ys ++ other ∷ []
  long_once from s t xs ys next other h k few_xs few_ys is_next is_other many_xs many_ys = elim (one_goes_on from s t xs ys h k) [
    | inl m ↦ on m.rest m.is m.on
    | inr m ↦ back m.rest m.is m.on
  ]
    where
      same_next : s ≡ t → xs ≡ ys → xs ++ next ∷ [] ≡ ys ++ other ∷ []
      same_next stands lists =
          let same : next ≡ other = taken_once one book room t next other (subst (λ (z : Stand). IsTaken book room z next) stands is_next) is_other in
          λ i. lists i ++ same i ∷ []

      on : (rest : List Taken) → ys ≡ xs ++ rest → TakeOn book room s rest t → xs ++ next ∷ [] ≡ ys ++ other ∷ []
      on [] is o = same_next (sym o) (sym (is ∙ append-nil xs))
      on (r ∷ rest) is o = absurd (not_part xs ys s t next r rest is_next many_xs few_ys is o.0)

      back : (rest : List Taken) → xs ≡ ys ++ rest → TakeOn book room t rest s → xs ++ next ∷ [] ≡ ys ++ other ∷ []
      back [] is o = same_next o (is ∙ append-nil ys)
      back (r ∷ rest) is o = absurd (not_part ys xs t s other r rest is_other many_ys few_xs is o.0)

  -- ---- courses

  farewell_once : (built : Plane) (place : Option Cell) (from : Elbow) (a b : List Event) (c d : Elbow) → SaysFarewell book room built place from a c → SaysFarewell book room built place from b d → (a ≡ b) × (c ≡ d)
  farewell_once built None from a b c d h k = (h.0 ∙ sym k.0, h.1 ∙ sym k.1)
  farewell_once built (Some place) from a b c d (list, (least, served)) (other, (least_other, served_other)) =
      let lists : other ≡ list = one.farewell (site_of book room built) place other list least_other least in
      served_once one.serving (raws book.turns) book.settings.span (list_throws book.salvos place list) from a b c d served
      (subst (λ (l : List ℕ). AreServed (raws book.turns) book.settings.span from (list_throws book.salvos place l) b d) lists served_other)

  pub course_once : (islands : List Island) (a b : Course) → IsCourse book room islands a → IsCourse book room islands b → a ≡ b
  course_once islands a b h k =
      let e = same_end (first_stand book islands) a.last b.last a.taken b.taken h.takes k.takes (end_of_all a.last h.all_built) (end_of_all b.last k.all_built) in
      let farewell : SaysFarewell book room a.last.built a.last.place a.last.elbow b.farewell b.elbow =
      subst (λ (z : Stand). SaysFarewell book room z.built z.place z.elbow b.farewell b.elbow) (sym e.stands) k.farewell in
      let ends = farewell_once a.last.built a.last.place a.last.elbow a.farewell b.farewell a.elbow b.elbow h.farewell farewell in
      λ i. record { taken = e.lists i; last = e.stands i; farewell = ends.0 i; elbow = ends.1 i }

  pub closing_once : (a b : Course) (one_list other_list : List ℕ) → a ≡ b → IsLeastClosing (raws book.turns) book.settings.span a.elbow one_list → IsLeastClosing (raws book.turns) book.settings.span b.elbow other_list → one_list ≡ other_list
  closing_once a b one_list other_list same h k =
      one.closing (raws book.turns) book.settings.span a.elbow one_list other_list h
      (subst (λ (c : Course). IsLeastClosing (raws book.turns) book.settings.span c.elbow other_list) (sym same) k)
