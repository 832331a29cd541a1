-- The places to which the hand is carried, as they are found.
use Rattle.std.proofs.Common.{◌≡◌, ◌⊎◌, ◌↔◌, IsTrue, Bool, true, false, ℕ, ◌+◌, ◌<◌, ◌≤◌, ◌^◌, pos, ◌+ℤ◌, List, length, get_or, refl, sym, ap, subst, ◌∙◌, inl, inr, arith}
use Rattle.std.specs.List.{slice_get, list_any, Contains}
use Rattle.std.specs.declared.option.Option.TheVariants.{Some, None}
use Rattle.std.specs.Option.{IfSome}
use Rattle.std.proofs.lemmas.Int.{ints}
use Rattle.std.proofs.lemmas.Bool.{cases_lt}
use Rattle.std.proofs.lemmas.List.Folds.{list_any_at}
use Rattle.std.specs.declared.option.Option.{Option}
use Rattle.std.proofs.lemmas.Map.Views.{Contains-from_any}
use Rattle.std.proofs.lemmas.Option.{slice_get_within, get_or_from_slice_get, slice_get-get_or}
use Rattle.life_plane.specs.ListLaws.{same_item, all_at}
use Rattle.life_plane.specs.NumberLaws.{lt_or_same}
use Rattle.life_cells.specs.declared.cell.Cell.{Cell}
use Rattle.life_cells.specs.declared.bounds.Bounds.{Bounds}
use Rattle.life_cells.specs.Boxes.{InBox, IsCellInRange}
use Rattle.life_cells.specs.Cells.{cell, Cells, alive}
use Rattle.life_cells.specs.Listed.{same_cell}
use Rattle.life_cells.specs.OrderLaws.{same_cell_is, same_cell-itself}
use Rattle.book_parts.specs.declared.settings.Settings.{Settings}
use Rattle.elbow_graph.specs.Numbered.{IsNumbered}
use Rattle.elbow_graph.specs.NumberedLaws.{numbered_once, at_from_numbered}
use Rattle.recipe_hit.specs.Checked.{Struck}
use Rattle.hand_route.specs.declared.salvos.Carrier.{Carrier}
use Rattle.breadth_search.specs.Leads.{IsFirstEnd}
use Rattle.hand_route.specs.Carriers.{Means, HasSalvo, number_of, IsNear, IsCarrier, AreCarriers, TakesAt, AreTakers}
use Rattle.hand_route.specs.Clearings.{IsSalvoClear}
use Rattle.hand_route.specs.Moves.{BuildsNothing, moved_by, leaves_hand}
use Rattle.hand_route.specs.Rooms.{IsRoom, IsTable}
use Rattle.hand_route.specs.Ways.{Ground, ground, carries, takes, carried, CarriesOn, CarriesBack, IsNextCarrier, NoCarrierPast}
use Rattle.lane_clear.specs.BaseLaws.{not_both}

-- ---- ranges

pub near_in_room : (room : Bounds) (at : Cell) → IsRoom room → InBox room at.x at.y → IsCellInRange (2 ^ 51) at
near_in_room room at is i =
    let l = i.right_of_left in let t = i.below_top in let r = i.left_of_right in let b = i.above_bottom in
    let a = is.columns.from in let c = is.columns.to in let d = is.rows.from in let e = is.rows.to in
    record { x_low = omega (arith, ints); x_high = omega (arith, ints); y_low = omega (arith, ints); y_high = omega (arith, ints) }

pub near_by : (c : Carrier) → IsNear c → IsCellInRange (2 ^ 51) c.by
near_by c near =
    let x = near.x in let y = near.y in
    record { x_low = omega (arith, ints); x_high = omega (arith, ints); y_low = omega (arith, ints); y_high = omega (arith, ints) }

-- ---- one salvo

-- numbers count from 1
pub none_at_zero : (g : Ground) (at to : Cell) → carries g 0 at to → ⊥
none_at_zero g at to h = let p = at_from_numbered g.means.salvos 0 h.salvo h.moves.numbered in let e = p.1.0 in omega arith

-- what a salvo states of the hand, from where it leaves it
stated : (from by to : Cell) → moved_by from (Some by) ≡ Some to → to ≡ cell (from.x +ℤ by.x) (from.y +ℤ by.y)
stated from by to e = same_item e refl

-- where the salvo of a carrier carries the hand
pub carried_to : (g : Ground) (at to : Cell) (c : Carrier) → IsCarrier g.means.salvos c → carries g c.number at to → to ≡ carried at c
carried_to g at to c is h =
    let same : h.salvo ≡ is.0.salvo = numbered_once g.means.salvos c.number h.salvo is.0.salvo h.moves.numbered is.0.numbered in
    stated at c.by to (sym (ap (moved_by at) is.0.of.carries) ∙ ap (λ (s : Struck). leaves_hand s at) (sym same) ∙ h.leaves)

-- the carrier of a salvo that carries the hand on
pub record HasCarrier (salvos : List Struck) (carriers : List Carrier) (number : ℕ) : Type 0 where
  pub place : ℕ
  pub c : Carrier
  pub at : slice_get carriers place ≡ Some c
  pub number_is : c.number ≡ number
  pub carrier_is : IsCarrier salvos c

has_carrier : (g : Ground) (carriers : List Carrier) (number : ℕ) (at to : Cell) → AreCarriers g.means.salvos carriers → carries g number at to → HasCarrier g.means.salvos carriers number
has_carrier g carriers number at to are h = by h.salvo.raw.hand refl h.leaves
  where
    by : (o : Option Cell) → h.salvo.raw.hand ≡ o → moved_by at o ≡ Some to → HasCarrier g.means.salvos carriers number
    by None is leaves = absurd (cc)
    by (Some by_cell) is leaves =
        let c : Carrier = record { number = number; by = by_cell } in
        let there = are.items.all h.salvo c h.moves.numbered (record { builds_nothing = h.moves.builds_nothing; carries = is }) in
        record { place = there.0; c = c; at = there.1; number_is = refl; carrier_is = (are.items.each there.0 c there.1, all_at IsNear carriers there.0 c are.near there.1) }

-- ---- a carrier at a place

pub clear_there : (g : Ground) (cells : List Cell) (at : Cell) (c : Carrier) (salvo : Struck) → IsCarrier g.means.salvos c → IsNumbered g.means.salvos c.number salvo →
    InBox g.room (carried at c).x (carried at c).y → (Contains cells (carried at c) → ⊥) → IsSalvoClear g.means.settings (alive g.built) salvo at → CarriesOn g cells at c
clear_there g cells at c salvo is numbered inside new clear =
    let same : is.0.salvo ≡ salvo = numbered_once g.means.salvos c.number is.0.salvo salvo is.0.numbered numbered in
    record {
      carries_it = record {
        salvo = is.0.salvo;
        moves = record { numbered = is.0.numbered; builds_nothing = is.0.of.builds_nothing; clear = subst (λ (s : Struck). IsSalvoClear g.means.settings (alive g.built) s at) (sym same) clear };
        leaves = ap (moved_by at) is.0.of.carries;
        in_room = inside;
      };
      new = new;
    }

-- where it carries the hand, the place isn't new
pub not_new : (g : Ground) (cells : List Cell) (at : Cell) (c : Carrier) → IsCarrier g.means.salvos c → (test : Bool) → IsTrue test ↔ (InBox g.room (carried at c).x (carried at c).y × (Contains cells (carried at c) → ⊥)) →
    test ≡ false → CarriesBack g cells at c.number
not_new g cells at c is test new fails to h = by (list_any (same_cell (carried at c)) cells) refl
  where
    here : to ≡ carried at c
    here = carried_to g at to c is h

    inside : InBox g.room (carried at c).x (carried at c).y
    inside = subst (λ (p : Cell). InBox g.room p.x p.y) here h.in_room

    any_from : Contains cells (carried at c) → list_any (same_cell (carried at c)) cells ≡ true
    any_from there = list_any_at (same_cell (carried at c)) cells there.0 (carried at c) there.1 (ap (same_cell (carried at c)) there.2 ∙ same_cell-itself (carried at c))

    by : (b : Bool) → list_any (same_cell (carried at c)) cells ≡ b → Contains cells to
    by true among = subst (Contains cells) (sym here) (Contains-from_any same_cell_is (carried at c) cells among)
    by false none = absurd (not_both fails (new.1 (inside, λ there. not_both none (any_from there))))

-- or where it isn't clear there
pub not_clear : (g : Ground) (cells : List Cell) (at : Cell) (number : ℕ) (salvo : Struck) → IsNumbered g.means.salvos number salvo → (IsSalvoClear g.means.settings (alive g.built) salvo at → ⊥) → CarriesBack g cells at number
not_clear g cells at number salvo numbered never to h =
    let same : h.salvo ≡ salvo = numbered_once g.means.salvos number h.salvo salvo h.moves.numbered numbered in
    absurd (never (subst (λ (s : Struck). IsSalvoClear g.means.settings (alive g.built) s at) same h.moves.clear))

-- ---- as they are tested

pub new_test : (g : Ground) (cells : List Cell) (at next : Cell) (c : Carrier) (test : Bool) → next ≡ carried at c → IsTrue test ↔ (InBox g.room next.x next.y × (Contains cells next → ⊥)) →
    IsTrue test ↔ (InBox g.room (carried at c).x (carried at c).y × (Contains cells (carried at c) → ⊥))
new_test g cells at next c test same is = subst (λ (p : Cell). IsTrue test ↔ (InBox g.room p.x p.y × (Contains cells p → ⊥))) same is

pub clear_by : (means : Means) (built : Cells) (at : Cell) (settings : Settings) (salvo : Struck) (test : Bool) → settings ≡ means.settings → IsTrue test ↔ IsSalvoClear settings (alive built) salvo at →
    IsTrue test ↔ IsSalvoClear means.settings (alive built) salvo at
clear_by means built at settings salvo test same is = subst (λ (s : Settings). IsTrue test ↔ IsSalvoClear s (alive built) salvo at) same is

-- ---- carriers in the order of their numbers

-- each carrier so far that is past a number carries the hand to places that were found alone
pub record AreTriedSoFar (g : Ground) (cells : List Cell) (at : Cell) (tried : ℕ) (carriers : List Carrier) (place : ℕ) : Type 0 where
  pub back : (k : ℕ) (c : Carrier) → k < place → slice_get carriers k ≡ Some c → tried < c.number → CarriesBack g cells at c.number

pub none_tried : (g : Ground) (cells : List Cell) (at : Cell) (tried : ℕ) (carriers : List Carrier) → AreTriedSoFar g cells at tried carriers 0
none_tried g cells at tried carriers = record { back = λ k c lt here up. absurd (omega arith) }

pub one_more_tried : (g : Ground) (cells : List Cell) (at : Cell) (tried : ℕ) (carriers : List Carrier) (place : ℕ) (c : Carrier) → AreTriedSoFar g cells at tried carriers place → slice_get carriers place ≡ Some c →
    (tried < c.number → CarriesBack g cells at c.number) → AreTriedSoFar g cells at tried carriers (place + 1)
one_more_tried g cells at tried carriers place c h here back = record {
  back = λ k d lt there up. elim (lt_or_same k place lt) [
    | inl less ↦ h.back k d less there up
    | inr same ↦ let is : d ≡ c = same_item there (ap (slice_get carriers) same ∙ here) in subst (λ (x : Carrier). CarriesBack g cells at x.number) (sym is) (back (subst (λ (x : Carrier). tried < x.number) is up))
  ];
}

-- the next one
pub next_is : (g : Ground) (cells : List Cell) (at : Cell) (tried : ℕ) (carriers : List Carrier) (place : ℕ) (c : Carrier) → AreCarriers g.means.salvos carriers → AreTriedSoFar g cells at tried carriers place →
    slice_get carriers place ≡ Some c → tried < c.number → CarriesOn g cells at c → IsNextCarrier g cells at tried c
next_is g cells at tried carriers place c are h here up on = record {
  up = up;
  carrier_is = (are.items.each place c here, all_at IsNear carriers place c are.near here);
  on = on;
  passed = λ number low high to carries_it.
      let has = has_carrier g carriers number at to are carries_it in
      let number_is = has.number_is in
      by (has.place) (has.c) has.at has.number_is low high to carries_it (cases_lt has.place place);
}
  where
    by : (k : ℕ) (d : Carrier) → slice_get carriers k ≡ Some d → {number : ℕ} → d.number ≡ number → tried < number → number < c.number → (to : Cell) → carries g number at to → (k < place) ⊎ (place ≤ k) → Contains cells to
    by k d there {number} is low high to carries_it (inl less) = h.back k d less there (omega arith) to (subst (λ n. carries g n at to) (sym is) carries_it)
    by k d there {number} is low high to carries_it (inr le) = elim (lt_or_same place k (omega arith)) [
      | inl less ↦ let up = are.items.rising place k c d less here there in absurd (omega arith)
      | inr same ↦ let one : d ≡ c = same_item there (ap (slice_get carriers) (sym same) ∙ here) in let e = ap number_of one in absurd (omega arith)
    ]

-- or there is none
pub none_is : (g : Ground) (cells : List Cell) (at : Cell) (tried : ℕ) (carriers : List Carrier) (place : ℕ) → AreCarriers g.means.salvos carriers → AreTriedSoFar g cells at tried carriers place → length carriers ≤ place →
    NoCarrierPast g cells at tried
none_is g cells at tried carriers place are h long number low to carries_it =
    let has = has_carrier g carriers number at to are carries_it in
    let number_is = has.number_is in
    h.back has.place has.c (let lt = slice_get_within carriers has.place has.c has.at in omega arith) has.at (omega arith) to (subst (λ n. carries g n at to) (sym number_is) carries_it)

-- ---- takers

-- none of the takers so far takes the hand away from the place
pub record NoneTakesSoFar (means : Means) (built : Cells) (at : Cell) (takers : List ℕ) (place : ℕ) : Type 0 where
  pub none : (room : Bounds) (k : ℕ) (number : ℕ) → k < place → slice_get takers k ≡ Some number → takes (ground means built room) number at → ⊥

pub none_takes_yet : (means : Means) (built : Cells) (at : Cell) (takers : List ℕ) → NoneTakesSoFar means built at takers 0
none_takes_yet means built at takers = record { none = λ room k number lt here h. absurd (omega arith) }

-- the salvo of a taker's number is the one with this number
same_taker : (means : Means) (built : Cells) (room : Bounds) (number : ℕ) (at : Cell) (salvo : Struck) → IsNumbered means.salvos number salvo → takes (ground means built room) number at →
    IsSalvoClear means.settings (alive built) salvo at
same_taker means built room number at salvo numbered h =
    let same : h.salvo ≡ salvo = numbered_once means.salvos number h.salvo salvo h.moves.numbered numbered in
    subst (λ (s : Struck). IsSalvoClear means.settings (alive built) s at) same h.moves.clear

pub one_more_fails : (means : Means) (built : Cells) (at : Cell) (takers : List ℕ) (place number : ℕ) (salvo : Struck) → NoneTakesSoFar means built at takers place → slice_get takers place ≡ Some number →
    IsNumbered means.salvos number salvo → (IsSalvoClear means.settings (alive built) salvo at → ⊥) → NoneTakesSoFar means built at takers (place + 1)
one_more_fails means built at takers place number salvo h here numbered never = record {
  none = λ room k other lt there takes_it. elim (lt_or_same k place lt) [
    | inl less ↦ h.none room k other less there takes_it
    | inr same ↦
        let is : other ≡ number = same_item there (ap (slice_get takers) same ∙ here) in
        never (same_taker means built room number at salvo numbered (subst (λ n. takes (ground means built room) n at) is takes_it))
  ];
}

-- the place of a salvo that takes the hand away among the takers
taker_place : (means : Means) (built : Cells) (room : Bounds) (takers : List ℕ) (number : ℕ) (at : Cell) → AreTakers means.salvos takers → takes (ground means built room) number at → (k : ℕ) × (slice_get takers k ≡ Some number)
taker_place means built room takers number at are h = are.all h.salvo number h.moves.numbered (record { builds_nothing = h.moves.builds_nothing; takes = none_left h.salvo.raw.hand h.gone })
  where
    none_left : (o : Option Cell) → moved_by at o ≡ None → o ≡ None
    none_left None e = refl
    none_left (Some by) e = cc

pub first_takes : (means : Means) (built : Cells) (at : Cell) (takers : List ℕ) (place number : ℕ) (salvo : Struck) → AreTakers means.salvos takers → NoneTakesSoFar means built at takers place → slice_get takers place ≡ Some number →
    IsNumbered means.salvos number salvo → IsSalvoClear means.settings (alive built) salvo at → (room : Bounds) → IsFirstEnd (takes (ground means built room)) at (Some number)
first_takes means built at takers place number salvo are h here numbered clear room = (
  record {
    salvo = salvo;
    moves = record { numbered = numbered; builds_nothing = subst (λ (s : Struck). BuildsNothing s) same item.of.builds_nothing; clear = clear };
    gone = ap (moved_by at) (subst (λ (s : Struck). s.raw.hand ≡ None) same item.of.takes);
  },
  λ other takes_it. elim (cases_lt other number) [
    | inl less ↦ absurd (earlier other less takes_it (taker_place means built room takers other at are takes_it))
    | inr le ↦ le
  ],
)
  where
    item : HasSalvo (λ (n : ℕ). n) TakesAt means.salvos number
    item = are.each place number here

    same : item.salvo ≡ salvo
    same = numbered_once means.salvos number item.salvo salvo item.numbered numbered

    earlier : (other : ℕ) → other < number → takes (ground means built room) other at → (k : ℕ) × (slice_get takers k ≡ Some other) → ⊥
    earlier other less takes_it there = elim (cases_lt there.0 place) [
      | inl before ↦ h.none room there.0 other before there.1 takes_it
      | inr after ↦ elim (lt_or_same place there.0 (omega arith)) [
        | inl past_it ↦ let up = are.rising place there.0 number other past_it here there.1 in omega arith
        | inr is ↦ let e : other ≡ number = same_item there.1 (ap (slice_get takers) (sym is) ∙ here) in omega arith
      ]
    ]

pub none_takes : (means : Means) (built : Cells) (at : Cell) (takers : List ℕ) (place : ℕ) → AreTakers means.salvos takers → NoneTakesSoFar means built at takers place → length takers ≤ place →
    (room : Bounds) → IsFirstEnd (takes (ground means built room)) at None
none_takes means built at takers place are h long room number takes_it =
    let there = taker_place means built room takers number at are takes_it in
    h.none room there.0 number (let lt = slice_get_within takers there.0 number there.1 in omega arith) there.1 takes_it

-- ---- the items of a loop

abbrev pub some_carrier : Carrier
some_carrier = record { number = 0; by = cell (pos 0) (pos 0) }

pub carrier_there : (salvos : List Struck) (carriers : List Carrier) (place : ℕ) → AreCarriers salvos carriers → place < length carriers → IsCarrier salvos (get_or carriers place some_carrier)
carrier_there salvos carriers place are lt =
    let here = slice_get-get_or carriers place some_carrier lt in
    (are.items.each place _ here, all_at IsNear carriers place _ are.near here)

-- the place that stands there is near
pub near_at : (room : Bounds) (cells : List Cell) (table : List ℕ) (place : ℕ) (found : Option Cell) → IsRoom room → IsTable room cells table → found ≡ slice_get cells place → IfSome found (IsCellInRange (2 ^ 51))
near_at room cells table place None is h at = tt
near_at room cells table place (Some c) is h at =
    near_in_room room c is (h.inside c (place, slice_get_within cells place c (sym at), get_or_from_slice_get cells place c c (sym at)))
