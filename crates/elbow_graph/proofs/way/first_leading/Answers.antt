use Rattle.std.proofs.Common.{◌≡◌, ◌+◌, ◌<◌, ℤ, sym, subst, refl, length, arith, w64, to_z, of_z}
use Rattle.std.proofs.lemmas.Int.{ints}
use Rattle.breadth_search.specs.Search.{bound_past}
use Rattle.breadth_search.specs.Leads.{IsLead}
use Rattle.elbow_graph.specs.Tables.{Listed, IsKeyed, LeadsBy}
use Rattle.elbow_graph.proofs.Leading.{IsSought, sought_begins, sought_within, sought_keyed, sought_fails, sought_found, sought_over, left_falls}
use Rattle.elbow_graph.proofs.Tabling.{least_of, next_of}
use Rattle.elbow_graph.proofs.way.first_leading.Goals as goal

pub turns-init : goal.turns-init
turns-init c = sought_begins _ _ _ _ _ _ _ c.requires.past (least_of _ _ _ _ _ _ _ c.places-places.ensures.places refl c.first_past-place.ensures)

pub exit-requires : goal.exit-requires
exit-requires c = sought_within _ _ _ _ _ _ _ _ c.in-Some.is c.turns.invariant

pub overflow_add-result : goal.overflow_add-result
overflow_add-result c = let lt = sought_within _ _ _ _ _ _ _ _ c.in-Some.is c.turns.invariant in let small = c.places-places.ensures.small in omega arith

pub returns-in-Some-leads : goal.returns-in-Some-leads
returns-in-Some-leads c =
    let span_is : to_z w64 (of_z w64 c.args.span) ≡ c.args.span = omega (arith, ints) in
    subst (λ (z : ℤ). IsLead (LeadsBy c.args.table c.args.graph.now z c.args.key) c.args.at (bound_past c.args.past) (record { number = c.in-Some.index + 1; to = c.in-Some-leads.to })) span_is
    (sought_found _ _ _ _ _ _ _ _ c.in-Some.is c.turns.invariant _ c.exit.ensures _ _ c.in-Some-leads.ensures.some refl)

pub after-place-requires : goal.after-place-requires
after-place-requires c = let lt = sought_within _ _ _ _ _ _ _ _ c.in-Some.is c.turns.invariant in subst (λ (s : Listed). c.in-Some.index < length s.exits) (sym c.places-places.ensures.places) lt

pub turns-smaller : goal.turns-smaller
turns-smaller c =
    left_falls (IsKeyed c.args.table c.args.graph.now c.args.key) _ _ _ _ c.in-Some.is (sought_within _ _ _ _ _ _ _ _ c.in-Some.is c.turns.invariant)
    (next_of _ _ _ _ _ _ c.places-places.ensures.places (sought_keyed _ _ _ _ _ _ _ _ c.in-Some.is c.turns.invariant _ c.exit.ensures) c.after-place.ensures)

pub turns-preserved : goal.turns-preserved
turns-preserved c =
    sought_fails _ _ _ _ _ _ _ _ c.in-Some.is c.turns.invariant _ c.exit.ensures _ c.in_default-leads.ensures.none
    (next_of _ _ _ _ _ _ c.places-places.ensures.places (sought_keyed _ _ _ _ _ _ _ _ c.in-Some.is c.turns.invariant _ c.exit.ensures) c.after-place.ensures)

pub returns : goal.returns
returns c =
    let span_is : to_z w64 (of_z w64 c.args.span) ≡ c.args.span = omega (arith, ints) in
    let was = subst (λ (z : ℤ). IsSought c.args.table c.args.graph.now z c.args.key c.args.at (bound_past c.args.past) c.turns.place) span_is c.turns.invariant in
    sought_over _ _ _ _ _ _ _ c.in_default.is was
