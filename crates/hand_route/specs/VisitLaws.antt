-- Hand lists and farewells go through the room alone, and each of their hits is clear where it comes.
use Rattle.std.specs.Prelude.{◌≡◌, ℕ, List, [], ◌∷◌}
use Rattle.std.specs.List.{AllByRecursion}
use Rattle.std.specs.declared.option.Option.{Option}
use Rattle.std.specs.declared.option.Option.TheVariants.{Some, None}
use Rattle.std.proofs.Common.{refl, sym, ap, subst, inl, inr}
use Rattle.life_cells.specs.Boxes.{InBox}
use Rattle.life_cells.specs.declared.cell.Cell.{Cell}
use Rattle.recipe_hit.specs.Checked.{Struck}
use Rattle.hand_route.specs.Moves.{Site, OnlyMoves, leaves_hand}
use Rattle.hand_route.specs.Lists.{IsHandList, IsFarewell}
use Rattle.hand_route.specs.Visits.{Visit, AreVisits, IsFree, GoesFree}

-- one visit more before those of a list
goes_first : (site : Site) (k : ℕ) (from : Cell) (salvo : Struck) (between : Option Cell) (ks : List ℕ) (to : Option Cell) → InBox site.room from.x from.y → OnlyMoves site k from salvo → leaves_hand salvo from ≡ between →
    (vs : List Visit) → AreVisits site.salvos between ks vs to → AllByRecursion (IsFree site) vs → GoesFree site from (k ∷ ks) to
goes_first site k from salvo between ks to here moves leaves vs are free = record {
  visits = record { number = k; salvo = salvo; place = from } ∷ vs;
  are = (refl, (refl, (moves.numbered, subst (λ (o : Option Cell). AreVisits site.salvos o ks vs to) (sym leaves) are)));
  free = (record { builds_nothing = moves.builds_nothing; in_room = here; clear = moves.clear }, free);
}

pub hand_list_goes_free : (site : Site) (from : Cell) (list : List ℕ) (to : Cell) → InBox site.room from.x from.y → IsHandList site from list to → GoesFree site from list (Some to) × InBox site.room to.x to.y
hand_list_goes_free site from [] to here leads =
    (record { visits = []; are = ap Some leads; free = tt }, subst (λ (c : Cell). InBox site.room c.x c.y) (sym leads) here)
hand_list_goes_free site from (k ∷ ks) to here leads =
    let carries = leads.1.0 in
    let rest = hand_list_goes_free site leads.0 ks to carries.in_room leads.1.1 in
    (goes_first site k from carries.salvo (Some leads.0) ks (Some to) here carries.moves carries.leaves rest.0.visits rest.0.are rest.0.free, rest.1)

pub farewell_goes_free : (site : Site) (from : Cell) (list : List ℕ) → InBox site.room from.x from.y → IsFarewell site from list → GoesFree site from list None
farewell_goes_free site from [] here says = absurd says
farewell_goes_free site from (k ∷ ks) here (inl last) =
    let away = last.0 in
    subst (λ (js : List ℕ). GoesFree site from (k ∷ js) None) (sym last.1) (goes_first site k from away.salvo None [] None here away.moves away.gone [] refl tt)
farewell_goes_free site from (k ∷ ks) here (inr on) =
    let carries = on.1.0 in
    let rest = farewell_goes_free site on.0 ks carries.in_room on.1.1 in
    goes_first site k from carries.salvo (Some on.0) ks None here carries.moves carries.leaves rest.visits rest.are rest.free
