-- What is kept of the places that were found.
use Rattle.std.proofs.Common.{◌≡◌, ◌⊎◌, ◌&&◌, Bool, true, ℕ, zero, suc, ◌+◌, ◌-◌, ◌<◌, ◌≤◌, List, [], ◌∷◌, ◌++◌, length, get_or, refl, sym, ap, subst, ◌∙◌, inl, inr, arith}
use Rattle.std.specs.List.{slice_get, Contains, IsDistinct}
use Rattle.std.specs.declared.option.Option.TheVariants.{Some}
use Rattle.std.specs.Ordering.{int_eq}
use Rattle.std.specs.Cmp.Derive.{both_true}
use Rattle.std.proofs.lemmas.List.{get_or_default}
use Rattle.std.proofs.lemmas.Bool.{false_from_ne_true}
use Rattle.std.proofs.lemmas.Cmp.{eq_by_cmp_equiv, int_eq_equiv}
use Rattle.std.proofs.lemmas.Map.Keys.{IsDistinct-push}
use Rattle.std.proofs.lemmas.Map.Views.{Contains-from_any}
use Rattle.std.proofs.lemmas.Option.{slice_get_within, get_or_from_slice_get}
use Rattle.life_cells.specs.declared.cell.Cell.{Cell}
use Rattle.life_cells.specs.Cells.{Cells}
use Rattle.life_cells.specs.Listed.{same_cell}
use Rattle.life_cells.specs.OrderLaws.{cells_total, same_cell_is, same_cell-itself}
use Rattle.breadth_search.specs.declared.found.Label.{Label}
use Rattle.breadth_search.specs.First.{IsLabelling}
use Rattle.breadth_search.specs.Labelled.{Labelled}
use Rattle.breadth_search.specs.Labels.{label, lists_of, AreLabelled, IsAdded}
use Rattle.breadth_search.specs.Search.{first_of, IsSearched}
use Rattle.breadth_search.specs.Walks.{IsLeastTo}
use Rattle.breadth_search.specs.SearchLaws.{lists_more, breadth_begins, breadth_stays, breadth_grows, breadth_turns}
use Rattle.breadth_search.specs.SearchedLaws.{are_first, whole}
use Rattle.hand_route.specs.declared.salvos.Carrier.{Carrier}
use Rattle.hand_route.specs.Carriers.{Means}
use Rattle.hand_route.specs.Rooms.{Places}
use Rattle.hand_route.specs.Ways.{Ground, ground, carries, carried, past, IsNextCarrier, NoCarrierPast, IsKept}
use Rattle.hand_route.proofs.CarriedPlaces.{none_at_zero, carried_to}
use Rattle.elbow_graph.specs.NumberedLaws.{at_from_numbered}

-- ---- numbers that were tried

-- a number that isn't below those that were tried is past the last of them, or 0
past_cases : (tried k : ℕ) → past tried ≤ k → (tried < k) ⊎ (k ≡ 0)
past_cases zero zero le = inr refl
past_cases zero (suc k) le = inl (omega arith)
past_cases (suc tried) k le = inl (omega arith)

past_up : (tried number : ℕ) → tried < number → past tried ≤ number
past_up zero number lt = omega arith
past_up (suc tried) number lt = omega arith

past_is : (number : ℕ) → 0 < number → past number ≡ suc number
past_is zero some = absurd (omega arith)
past_is (suc number) some = refl

-- ---- where it begins

pub kept_begins : (g : Ground) (from : Cell) (cells : List Cell) (labels : List Label) → cells ≡ from ∷ [] → labels ≡ [] → IsKept g from 0 0 cells labels
unfolding IsDistinct
kept_begins g from cells labels one none =
    subst (λ (cs : List Cell). IsKept g from 0 0 cs labels) (sym one) (subst (λ (ls : List Label). IsKept g from 0 0 (from ∷ []) ls) (sym none)
    (record { searched = breadth_begins (carries g) from; distinct = (tt, tt) }))

-- ---- where the hand is carried to a new place

-- a place that isn't among them
distinct_more : (cells : List Cell) (next : Cell) → IsDistinct same_cell cells → (Contains cells next → ⊥) → IsDistinct same_cell (cells ++ next ∷ [])
distinct_more cells next h new =
    IsDistinct-push (eq_by_cmp_equiv cells_total) cells next h (false_from_ne_true _ (λ among. new (Contains-from_any same_cell_is next cells among)))

module _ (g : Ground) (from at : Cell) (place tried : ℕ) (cells : List Cell) (labels : List Label) (kept : IsKept g from place tried cells labels) (here : slice_get cells place ≡ Some at) where
  small : place < length cells
  small = slice_get_within cells place at here

  here_is : get_or cells place from ≡ at
  here_is = get_or_from_slice_get cells place at from here

  -- the salvos up to a greater number carry the hand to places that were found
  stays : (bound : ℕ) → past tried ≤ bound → ((number : ℕ) (to : Cell) → tried < number → number < bound → carries g number at to → Contains cells to) →
      IsSearched (carries g) from place bound cells labels (lists_of labels)
  stays bound up each = breadth_stays (carries g) from place (past tried) bound cells labels (lists_of labels) kept.searched small up (λ k to low high leads. by k to high (subst (λ (c : Cell). carries g k c to) here_is leads) (past_cases tried k low))
    where
      by : (k : ℕ) (to : Cell) → k < bound → carries g k at to → (tried < k) ⊎ (k ≡ 0) → Contains cells to
      by k to high leads (inl low) = each k to low high leads
      by k to high leads (inr none) = absurd (none_at_zero g at to (subst (λ n. carries g n at to) none leads))

  pub kept_adds : (c : Carrier) (cells_after : List Cell) (labels_after : List Label) → IsNextCarrier g cells at tried c → IsAdded (carried at c) (label place c.number) cells labels cells_after labels_after →
      IsKept g from place c.number cells_after labels_after
  kept_adds c cells_after labels_after next added =
      subst (λ (cs : List Cell). IsKept g from place c.number cs labels_after) (sym added.states_are)
      (subst (λ (ls : List Label). IsKept g from place c.number (cells ++ carried at c ∷ []) ls) (sym added.labels_are)
      (record {
        searched = subst (λ n. IsSearched (carries g) from place n (cells ++ carried at c ∷ []) (labels ++ label place c.number ∷ []) (lists_of (labels ++ label place c.number ∷ []))) (sym (past_is c.number (omega (arith, next.up))))
            (subst (λ js. IsSearched (carries g) from place (suc c.number) (cells ++ carried at c ∷ []) (labels ++ label place c.number ∷ []) js) (lists_more labels (label place c.number))
            (breadth_grows (carries g) from place c.number c.number cells labels (lists_of labels) (carried at c) (stays c.number (past_up tried c.number next.up) (λ number to low high leads. next.passed number low high to leads)) small (omega arith)
            (subst (λ (p : Cell). carries g c.number p (carried at c)) (sym here_is) next.on.carries_it)
            (λ to leads. carried_to g at to c next.carrier_is (subst (λ (p : Cell). carries g c.number p to) here_is leads))
            (λ k to low high leads. absurd (omega arith))));
        distinct = distinct_more cells (carried at c) kept.distinct next.on.new;
      }))

  -- ---- where it is the next place's turn

  pub kept_turns : NoCarrierPast g cells at tried → IsKept g from (place + 1) 0 cells labels
  kept_turns none = record {
    searched = breadth_turns (carries g) from place bound cells labels (lists_of labels) over (stays bound up (λ number to low high leads. none number low to leads)) small;
    distinct = kept.distinct;
  }
    where
      bound : ℕ
      bound = past tried + suc (length g.means.salvos)

      up : past tried ≤ bound
      up = omega arith

      over : (k : ℕ) (to : Cell) → bound ≤ k → carries g k (get_or cells place from) to → ⊥
      over k to le leads =
          let p = at_from_numbered g.means.salvos k leads.salvo leads.moves.numbered in
          let number_is = p.1.0 in
          let lt = slice_get_within g.means.salvos p.0 leads.salvo p.1.1 in
          omega arith

-- ---- what holds of the places

abbrev pub seen : Ground → Cell → List Cell → List Label → ℕ → Labelled Ground Cell
seen g from cells labels place = record { graph = g; from = from; states = cells; lists = lists_of labels; tried = place }

pub is_labelling : (g : Ground) (from : Cell) (place tried : ℕ) (cells : List Cell) (labels : List Label) → IsKept g from place tried cells labels → IsLabelling carries same_cell (seen g from cells labels place)
is_labelling g from place tried cells labels kept =
    let was = kept.searched in
    record {
      first = are_first (carries g) from place _ cells labels (lists_of labels) was same_cell same_cell-itself kept.distinct;
      some = (let many = was.as_many in omega arith);
      distinct = kept.distinct;
      whole = whole (carries g) from place _ cells labels (lists_of labels) was;
    }

-- of what contracts see
pub labelling_seen : (g : Ground) (from : Cell) (place tried : ℕ) (cells : List Cell) (labels : List Label) (all : Labelled Ground Cell) → seen g from cells labels place ≡ all → IsKept g from place tried cells labels → IsLabelling carries same_cell all
labelling_seen g from place tried cells labels all is kept = subst (IsLabelling carries same_cell) is (is_labelling g from place tried cells labels kept)

pub least_seen : (g : Ground) (from : Cell) (place tried : ℕ) (cells : List Cell) (labels : List Label) (all : Labelled Ground Cell) → seen g from cells labels place ≡ all → IsKept g from place tried cells labels →
    (m : ℕ) → m < length all.states → (list : List ℕ) → ((lists : List (List ℕ)) → AreLabelled labels lists → list ≡ get_or lists m []) → IsLeastTo (carries all.graph) all.from (get_or all.states m all.from) list
least_seen g from place tried cells labels all is kept m within list by_labels =
    let P : Labelled Ground Cell → Type 0 = λ v. m < length v.states → IsLeastTo (carries v.graph) v.from (get_or v.states m v.from) list in
    subst P is (λ lt. subst (IsLeastTo (carries g) from (get_or cells m from)) (sym (by_labels (lists_of labels) kept.searched.labelled)) ((is_labelling g from place tried cells labels kept).first.least m lt)) within

-- ---- as it goes on

-- the first place is the one at which the ways begin
first_is : (g : Ground) (from at : Cell) (place tried : ℕ) (cells : List Cell) (labels : List Label) → IsKept g from place tried cells labels → first_of cells at ≡ from
first_is g from at place tried cells labels was = let many = was.searched.as_many in get_or_default cells 0 at from (omega arith) ∙ was.searched.first

pub kept_at : (g : Ground) (from at : Cell) (place tried : ℕ) (cells : List Cell) (labels : List Label) → IsKept g from place tried cells labels → IsKept g (first_of cells at) place tried cells labels
kept_at g from at place tried cells labels was = subst (λ (f : Cell). IsKept g f place tried cells labels) (sym (first_is g from at place tried cells labels was)) was

module _ (means : Means) (built : Cells) (from at : Cell) (place tried tried_after : ℕ) (found after : Places) (was : IsKept (ground means built found.room) from place tried found.cells found.labels)
    (now : IsKept (ground means built after.room) (first_of found.cells at) place tried_after after.cells after.labels) where
  -- after a try at a place
  pub kept_from : IsKept (ground means built after.room) from place tried_after after.cells after.labels
  kept_from = subst (λ (f : Cell). IsKept (ground means built after.room) f place tried_after after.cells after.labels) (first_is (ground means built found.room) from at place tried found.cells found.labels was) now

  pub labelling_from : IsLabelling carries same_cell (seen (ground means built after.room) from after.cells after.labels place)
  labelling_from = is_labelling (ground means built after.room) from place tried_after after.cells after.labels kept_from

  -- where no salvo was left there
  pub kept_on : after ≡ found → Some at ≡ slice_get found.cells place → NoCarrierPast (ground means built found.room) found.cells at tried_after → IsKept (ground means built after.room) from (place + 1) 0 after.cells after.labels
  kept_on same here none =
      kept_turns (ground means built after.room) from at place tried_after after.cells after.labels kept_from (ap (λ (p : Places). slice_get p.cells place) same ∙ sym here)
      (subst (λ (p : Places). NoCarrierPast (ground means built p.room) p.cells at tried_after) (sym same) none)

-- a place less is left
pub fewer_left : (first found : Places) (place : ℕ) (at : Cell) → found ≡ first → Some at ≡ slice_get found.cells place → length first.cells - (place + 1) < length first.cells - place
fewer_left first found place at same here =
    let lt = slice_get_within first.cells place at (ap (λ (p : Places). slice_get p.cells place) (sym same) ∙ sym here) in
    omega arith

-- ---- a place that is sought

-- what `==` answers of two cells
abbrev pub equal_cells : Cell → Cell → Bool
equal_cells a b = int_eq a.y b.y && int_eq a.x b.x

pub equal_cells-itself : (a : Cell) → equal_cells a a ≡ true
equal_cells-itself a = both_true (int_eq_equiv.refl a.y) (int_eq_equiv.refl a.x)
