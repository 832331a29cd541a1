-- What a plan builds is the target at its place.
use Rattle.std.specs.Prelude.{◌≡◌, ◌⊎◌, true, false, neg_ℤ, ◌-ℤ◌, List, [], ◌∷◌, Option}
use Rattle.std.specs.declared.option.Option.TheVariants.{None}
use Rattle.std.specs.List.{AllByRecursion}
use Rattle.std.specs.Cmp.{both_ways}
use Rattle.std.proofs.Common.{sym, ap, subst, ◌∙◌, inl, inr}
use Rattle.std.proofs.Math.IntN.{neg_ℤ-neg_ℤ}
use Rattle.std.proofs.lemmas.Bool.{or_cases, or_left, or_right, cases_Bool}
use Rattle.life_plane.specs.Plane.{Plane, union, shift, same_plane}
use Rattle.life_cells.specs.Cells.{alive, cell}
use Rattle.life_cells.specs.declared.cell.Cell.{Cell}
use Rattle.life_cells.specs.declared.bounds.Bounds.{Bounds}
use Rattle.life_islands.specs.Islands.{IsNoted, IsInOne}
use Rattle.life_islands.specs.IslandLaws.{sharing_islands}
use Rattle.life_islands.specs.Joined.{Lives}
use Rattle.life_islands.specs.declared.island.Island.{Island}
use Rattle.recipe_book.specs.Entries.{AreThose}
use Rattle.recipe_book.specs.Checked.{CheckedEntries, IsCheckedBook}
use Rattle.plan_facts.specs.Happenings.{Happening}
use Rattle.plan_facts.specs.State.{State, first_state}
use Rattle.plan_facts.specs.State.Hand.{Gone}
use Rattle.plan_facts.specs.Facts.{IsConstruction}
use Rattle.build_plan.specs.declared.event.Event.{Event}
use Rattle.build_plan.specs.declared.event.Plan.{Plan}
use Rattle.build_plan.specs.Fits.{Fits, IsOneOfThem, island_at, IsOutside}
use Rattle.build_plan.specs.Stand.{Stand}
use Rattle.build_plan.specs.Usable.{Taken, stand_after}
use Rattle.build_plan.specs.Placing.{moved_target}
use Rattle.build_plan.specs.Plan.{IsPlan, TakeOn, first_place}
use Rattle.build_plan.specs.Happenings.{AllStandFor}
use Rattle.build_plan.proofs.Goes.{Comes, rests_at}
use Rattle.build_plan.proofs.PlanGoes.{plan_goes}

not_true : false ≡ true → ⊥
not_true e = cc

module _ (s : Plane) where
  -- the plane is what is built joined with the islands left
  record IsCovered (built : Plane) (left : List Island) : Type 0 where
    all : (c : Cell) → Lives s c → Lives built c ⊎ IsInOne left c
    within : (c : Cell) → Lives built c → Lives s c
    noted : AllByRecursion (IsNoted s) left

  -- a cell of a product is in an island left, which is in the product
  record InLeft (product : Plane) (c : Cell) : Type 0 where
    island : Island
    noted : IsNoted s island
    there : Lives (alive island.cells) c
    inside : (d : Cell) → Lives (alive island.cells) d → Lives product d

  in_left : (left : List Island) (t product : Plane) (c : Cell) → AllByRecursion (IsNoted s) left → IsOneOfThem left t → Lives t c → ((d : Cell) → Lives t d → Lives product d) → InLeft product c
  in_left [] t product c noted one there inside = absurd one
  in_left (island ∷ left) t product c noted (inl same) there inside = record {
    island = island;
    noted = noted.0;
    there = subst (λ (p : Plane). Lives p c) (sym same) there;
    inside = λ d h. inside d (subst (λ (p : Plane). Lives p d) same h);
  }
  in_left (island ∷ left) t product c noted (inr one) there inside = in_left left t product c noted.1 one there inside

  of_product : (left : List Island) (product : Plane) (place : Cell) (c : Cell) (islands : List Island) → AllByRecursion (IsNoted s) left → AllByRecursion (IsNoted product) islands →
      AllByRecursion (λ (island : Island). IsOneOfThem left (island_at place island)) islands → IsInOne islands (cell (c.x -ℤ place.x) (c.y -ℤ place.y)) → InLeft (shift place.x place.y product) c
  of_product left product place c [] noted own each h = absurd h
  of_product left product place c (island ∷ islands) noted own each (inl here) =
      in_left left (island_at place island) (shift place.x place.y product) c noted each.0 here (λ d h. own.0.is.within (cell (d.x -ℤ place.x) (d.y -ℤ place.y)) h)
  of_product left product place c (island ∷ islands) noted own each (inr later) = of_product left product place c islands noted own.1 each.1 later

  -- an island that isn't outside of the product is in it
  touches : (product : Plane) → ((c : Cell) → Lives product c → InLeft product c) → (island : Island) → IsNoted s island → (IsOutside product island → ⊥) →
      (d : Cell) → Lives (alive island.cells) d → Lives product d
  touches product of island noted met d h = elim (cases_Bool (product d.x d.y)) [
    | inl is ↦ is
    | inr is ↦ absurd (met (λ c here p.
        let j = of c p in
        let same : alive j.island.cells ≡ alive island.cells = sharing_islands s (alive j.island.cells) (alive island.cells) j.noted.is noted.is c j.there here in
        not_true (sym is ∙ j.inside d (subst (λ (q : Plane). Lives q d) (sym same) h))))
  ]

  -- each cell of an island left is in the product or in an island left after it
  rest_in : (product : Plane) (left after : List Island) → ((island : Island) → IsNoted s island → (IsOutside product island → ⊥) → (d : Cell) → Lives (alive island.cells) d → Lives product d) →
      AllByRecursion (IsNoted s) left → AreThose (IsOutside product) left after → (c : Cell) → IsInOne left c → Lives product c ⊎ IsInOne after c
  rest_in product [] after touch noted those c h = absurd h
  rest_in product (i ∷ left) after touch noted (inl (out, (rest, (is, more)))) c (inl here) = inr (subst (λ (l : List Island). IsInOne l c) (sym is) (inl here))
  rest_in product (i ∷ left) after touch noted (inl (out, (rest, (is, more)))) c (inr later) = elim (rest_in product left rest touch noted.1 more c later) [
    | inl p ↦ inl p
    | inr r ↦ inr (subst (λ (l : List Island). IsInOne l c) (sym is) (inr r))
  ]
  rest_in product (i ∷ left) after touch noted (inr (met, more)) c (inl here) = inl (touch i noted.0 met c here)
  rest_in product (i ∷ left) after touch noted (inr (met, more)) c (inr later) = rest_in product left after touch noted.1 more c later

  rest_noted : (product : Plane) (left after : List Island) → AllByRecursion (IsNoted s) left → AreThose (IsOutside product) left after → AllByRecursion (IsNoted s) after
  rest_noted product [] after noted those = subst (AllByRecursion (IsNoted s)) (sym those) tt
  rest_noted product (i ∷ left) after noted (inl (out, (rest, (is, more)))) = subst (AllByRecursion (IsNoted s)) (sym is) (noted.0, rest_noted product left rest noted.1 more)
  rest_noted product (i ∷ left) after noted (inr (met, more)) = rest_noted product left after noted.1 more

  covered_on : (built : Plane) (left after : List Island) (product : Plane) (place : Cell) → IsCovered built left → Fits left product place → AreThose (IsOutside (shift place.x place.y product)) left after →
      IsCovered (union built (shift place.x place.y product)) after
  covered_on built left after product place k fits those = record {
    all = λ c h. elim (k.all c h) [
      | inl b ↦ inl (or_left (built c.x c.y) (there c.x c.y) b)
      | inr l ↦ elim (rest_in there left after (touches there of) k.noted those c l) [
        | inl p ↦ inl (or_right (built c.x c.y) (there c.x c.y) p)
        | inr r ↦ inr r
      ]
    ];
    within = λ c h. elim (or_cases (built c.x c.y) (there c.x c.y) h) [
      | inl b ↦ k.within c b
      | inr p ↦ (let j = of c p in j.noted.is.within c j.there)
    ];
    noted = rest_noted there left after k.noted those;
  }
    where
      there : Plane
      there = shift place.x place.y product

      of : (c : Cell) → Lives there c → InLeft there c
      of c h = of_product left product place c (fits.first ∷ fits.more) k.noted fits.islands_are.each fits.each (fits.islands_are.all (cell (c.x -ℤ place.x) (c.y -ℤ place.y)) h)

  covered_all : (book : CheckedEntries) (room : Bounds) (stand last : Stand) (all : List Taken) → IsCovered stand.built stand.left → TakeOn book room stand all last → IsCovered last.built last.left
  covered_all book room stand last [] k takes = subst (λ (x : Stand). IsCovered x.built x.left) (sym takes) k
  covered_all book room stand last (taken ∷ more) k takes =
      covered_all book room (stand_after stand taken) last more
      (covered_on stand.built stand.left taken.left (alive taken.salvo.raw.product) taken.place k takes.0.usable.fits takes.0.usable.left_after) takes.1

  covered_end : (built : Plane) (left : List Island) → IsCovered built left → left ≡ [] → built ≡ s
  covered_end built left k none = same_plane built s (λ x y. both_ways (built x y) (s x y) (k.within (cell x y))
      (λ h. elim (k.all (cell x y) h) [ inl b ↦ b | inr l ↦ absurd (subst (λ (i : List Island). IsInOne i (cell x y)) none l) ]))

-- what a plan builds is the target at its place
builds_target : (book : CheckedEntries) (target : Plane) (plan : Plan) (is : IsPlan book target plan) → is.plans.course.last.built ≡ moved_target target is.placing.by
builds_target book target plan is =
    let s = moved_target target is.placing.by in
    let c = is.plans.is_course in
    covered_end s is.plans.course.last.built is.plans.course.last.left
    (covered_all s book is.placing.room _ is.plans.course.last is.plans.course.taken
    (record { all = λ c h. inr (is.islands_are.all c h); within = λ c h. absurd (not_true h); noted = is.islands_are.each }) c.takes) c.all_built

-- so whatever its events stand for is a construction of it
pub plan_constructs : (book : CheckedEntries) → IsCheckedBook book → (target : Plane) (plan : Plan) → IsPlan book target plan → (happenings : List Happening) → AllStandFor book plan.events.items happenings →
    IsConstruction book.settings book.kinds book.start (alive book.hand) plan.first_hand happenings (shift (neg_ℤ plan.back.x) (neg_ℤ plan.back.y) target)
plan_constructs book checked target plan is happenings stand =
    subst (λ (f : Option Cell). IsConstruction book.settings book.kinds book.start (alive book.hand) f happenings (shift (neg_ℤ plan.back.x) (neg_ℤ plan.back.y) target)) (sym is.plans.first_is)
    (record {
      all_may = c.all_may;
      done = record {
        closed = ap (λ (s : State). s.elbow) c.ends;
        none_waits = ap (λ (s : State). s.waits) c.ends;
        no_hand = ap (λ (s : State). s.hand) c.ends;
        built_is = ap (λ (s : State). s.built) c.ends ∙ builds_target book target plan is ∙ back;
      };
    })
  where
    back : moved_target target is.placing.by ≡ shift (neg_ℤ plan.back.x) (neg_ℤ plan.back.y) target
    back =
        (λ i. shift (sym (neg_ℤ-neg_ℤ is.placing.by.x) i) (sym (neg_ℤ-neg_ℤ is.placing.by.y) i) target)
        ∙ (λ i. shift (neg_ℤ (sym is.plans.back_is i).x) (neg_ℤ (sym is.plans.back_is i).y) target)

    c : Comes book (first_state book.start (first_place is.plans.course.taken)) happenings (rests_at None None Gone is.plans.course.last.built)
    c = plan_goes book checked is.placing.room is.islands is.plans.course is.plans.closing is.plans.is_course is.plans.least.ends happenings
        (subst (λ (l : List Event). AllStandFor book l happenings) is.plans.events_are stand)
