-- Ranks of lists of cells.
use Rattle.std.proofs.Common.{◌≡◌, ◌⊎◌, ℕ, ◌+◌, ◌<◌, ◌≤◌, Bool, true, false, cond, List, [], ◌∷◌, ◌++◌, length, take, get_or, refl, sym, ap, subst, ◌∙◌, arith, inl, inr, ◌^◌, w64, to_z, of_z}
use Rattle.std.specs.Prelude.{FitsSigned, ℤ, neg_ℤ, ◌-ℤ◌, ◌≤ℤ◌}
use Rattle.std.specs.Int.{int_min}
use Rattle.std.specs.declared.cmp.Ordering.TheVariants.{Less}
use Rattle.std.specs.Ordering.{is_lt, ord_min}
use Rattle.std.proofs.lemmas.Int.{ints, clamps, to_z-of_z}
use Rattle.life_cells.specs.Boxes.{IsInRange, IsCellInRange}
use Rattle.life_cells.specs.Cells.{cell, cell_cmp}
use Rattle.life_cells.specs.Listed.{listed}
use Rattle.std.proofs.lemmas.List.{take_more, take_all}
use Rattle.std.proofs.lemmas.Option.{slice_get-get_or}
use Rattle.life_cells.specs.Laws.{listed_at_place}
use Rattle.life_cells.specs.OrderLaws.{cells_total, less_from_test}
use Rattle.life_cells.specs.declared.cell.Cell.{Cell}
use Rattle.life_islands.specs.Joined.{Lives}
use Rattle.life_cells.specs.Firsts.{IsFirstLive}
use Rattle.life_islands.specs.Order.{IsGreatestU}
use Rattle.life_islands.specs.OrderLaws.{not_both}
use Rattle.life_islands.specs.Ranks.{IsRankOf}
use Rattle.life_islands.specs.declared.rank.Rank.{Rank}
use Rattle.life_islands.proofs.Adding.{listed_left, listed_right, listed_cases, listed_one, only_one}

abbrev pub rank : ℤ → Cell → Rank
rank minus_u first = record { minus_u = minus_u; first = first }

-- a live cell is in the range
pub cell_in_range : (n : ℕ) (cells : List Cell) (c : Cell) → IsInRange n (listed cells) → Lives (listed cells) c → IsCellInRange n c
cell_in_range n cells c range lives = record { x_low = range.x_low c.x c.y lives; x_high = range.x_high c.x c.y lives; y_low = range.y_low c.x c.y lives; y_high = range.y_high c.x c.y lives }

-- the rank of one cell
pub rank_one : (c : Cell) (m : ℤ) → m ≡ c.y -ℤ c.x → IsRankOf (rank m c) (listed (c ∷ []))
rank_one c m is = record {
  greatest = record {
    each = λ d lives. let same = only_one c d lives in subst (λ (e : Cell). (e.x -ℤ e.y) ≤ℤ neg_ℤ m) same (omega (arith, ints));
    there = (c, (listed_one c, omega (arith, ints)));
  };
  first = record {
    is = listed_one c;
    none_before = λ x y lives less. let same = only_one c (cell x y) lives in not_both (cell x y) c less (ap (λ e. cell_cmp c e) (sym same) ∙ ap (λ e. cell_cmp e c) same ∙ less);
  };
}

-- the greatest u with one more cell
pub greatest_with : (cells : List Cell) (c : Cell) (old m : ℤ) → IsGreatestU (neg_ℤ old) (listed cells) → m ≡ int_min old (c.y -ℤ c.x) → IsGreatestU (neg_ℤ m) (listed (cells ++ c ∷ []))
greatest_with cells c old m h is = record {
  each = λ d lives. each d (listed_cases cells (c ∷ []) d lives);
  there = there (which old (c.y -ℤ c.x));
}
  where
    which : (a b : ℤ) → (a ≤ℤ b) ⊎ (b ≤ℤ a)
    which a b = grind (arith, ints)

    each : (d : Cell) → Lives (listed cells) d ⊎ Lives (listed (c ∷ [])) d → (d.x -ℤ d.y) ≤ℤ neg_ℤ m
    each d (inl lives) = let low = h.each d lives in omega (arith, ints, clamps)
    each d (inr lives) = let same = only_one c d lives in subst (λ (e : Cell). (e.x -ℤ e.y) ≤ℤ neg_ℤ m) same (omega (arith, ints, clamps))

    there : (old ≤ℤ (c.y -ℤ c.x)) ⊎ ((c.y -ℤ c.x) ≤ℤ old) → (d : Cell) × (Lives (listed (cells ++ c ∷ [])) d × (d.x -ℤ d.y ≡ neg_ℤ m))
    there (inl low) =
        let same : m ≡ old = omega (arith, ints, clamps) in
        (h.there.0, (listed_left cells (c ∷ []) h.there.0 h.there.1.0, h.there.1.1 ∙ ap neg_ℤ (sym same)))
    there (inr low) =
        let same : m ≡ c.y -ℤ c.x = omega (arith, ints, clamps) in
        let is_u : c.x -ℤ c.y ≡ neg_ℤ (c.y -ℤ c.x) = omega (arith, ints) in
        (c, (listed_right cells (c ∷ []) c (listed_one c), is_u ∙ ap neg_ℤ (sym same)))

-- the first cell with one more, where that comes before
pub first_with : (cells : List Cell) (c first : Cell) → IsFirstLive (listed cells) first → cell_cmp c first ≡ Less → IsFirstLive (listed (cells ++ c ∷ [])) c
first_with cells c first h less = record {
  is = listed_right cells (c ∷ []) c (listed_one c);
  none_before = λ x y lives before. by (cell x y) before (listed_cases cells (c ∷ []) (cell x y) lives);
}
  where
    by : (d : Cell) → cell_cmp d c ≡ Less → Lives (listed cells) d ⊎ Lives (listed (c ∷ [])) d → ⊥
    by d before (inl lives) = h.none_before d.x d.y lives (cells_total.trans d c first before less)
    by d before (inr lives) = let same = only_one c d lives in not_both d c before (ap (λ e. cell_cmp c e) (sym same) ∙ ap (λ e. cell_cmp e c) same ∙ before)

-- and where it doesn't
pub first_kept : (cells : List Cell) (c first : Cell) → IsFirstLive (listed cells) first → is_lt (cell_cmp c first) ≡ false → IsFirstLive (listed (cells ++ c ∷ [])) first
first_kept cells c first h later = record {
  is = listed_left cells (c ∷ []) first h.is;
  none_before = λ x y lives before. by (cell x y) before (listed_cases cells (c ∷ []) (cell x y) lives);
}
  where
    by : (d : Cell) → cell_cmp d first ≡ Less → Lives (listed cells) d ⊎ Lives (listed (c ∷ [])) d → ⊥
    by d before (inl lives) = h.none_before d.x d.y lives before
    by d before (inr lives) =
        let same = only_one c d lives in
        let less : is_lt (cell_cmp c first) ≡ true = ap is_lt (ap (λ e. cell_cmp e first) same ∙ before) in cc

-- ---- at numbers that a call was passed

-- a difference of coordinates, as it is made
pub difference_is : (c : Cell) → IsCellInRange (2 ^ 60) c → to_z w64 (of_z w64 (to_z w64 (of_z w64 c.y) -ℤ to_z w64 (of_z w64 c.x))) ≡ c.y -ℤ c.x
difference_is c range =
    let fits_x : FitsSigned w64 c.x = omega (arith, ints, range.x_low, range.x_high) in
    let fits_y : FitsSigned w64 c.y = omega (arith, ints, range.y_low, range.y_high) in
    let fits : FitsSigned w64 (c.y -ℤ c.x) = omega (arith, ints, range.x_low, range.x_high, range.y_low, range.y_high) in
    rw (to_z-of_z w64 c.x fits_x, to_z-of_z w64 c.y fits_y, to_z-of_z w64 (c.y -ℤ c.x) fits) refl

-- the least of two numbers, as it is made
pub least_is : (old : ℤ) (c : Cell) (least : ℤ) → FitsSigned w64 old → IsCellInRange (2 ^ 60) c →
    least ≡ int_min (to_z w64 (of_z w64 old)) (to_z w64 (of_z w64 (to_z w64 (of_z w64 c.y) -ℤ to_z w64 (of_z w64 c.x)))) → to_z w64 (of_z w64 least) ≡ int_min old (c.y -ℤ c.x)
least_is old c least fits_old range is =
    let same : least ≡ int_min old (c.y -ℤ c.x) = is ∙ (λ i. int_min (to_z-of_z w64 old fits_old i) (difference_is c range i)) in
    let fits : FitsSigned w64 (c.y -ℤ c.x) = omega (arith, ints, range.x_low, range.x_high, range.y_low, range.y_high) in
    let fits_least : FitsSigned w64 (int_min old (c.y -ℤ c.x)) = omega (arith, ints, clamps) in
    ap (λ z. to_z w64 (of_z w64 z)) same ∙ to_z-of_z w64 (int_min old (c.y -ℤ c.x)) fits_least

-- a rank with one more cell, which comes before the first
pub rank_before : (cells : List Cell) (c : Cell) (old : Rank) (m : ℤ) → IsRankOf old (listed cells) → m ≡ int_min old.minus_u (c.y -ℤ c.x) → true ≡ is_lt (cell_cmp c old.first) →
    IsRankOf (rank m c) (listed (cells ++ c ∷ []))
rank_before cells c old m h is less = record { greatest = greatest_with cells c old.minus_u m h.greatest is; first = first_with cells c old.first h.first (less_from_test (cell_cmp c old.first) (sym less)) }

-- and which doesn't
pub rank_after : (cells : List Cell) (c : Cell) (old : Rank) (m : ℤ) → IsRankOf old (listed cells) → m ≡ int_min old.minus_u (c.y -ℤ c.x) → false ≡ is_lt (cell_cmp c old.first) →
    IsRankOf (rank m old.first) (listed (cells ++ c ∷ []))
rank_after cells c old m h is later = record { greatest = greatest_with cells c old.minus_u m h.greatest is; first = first_kept cells c old.first h.first (sym later) }

pub rank_with : (cells : List Cell) (c : Cell) (old : Rank) (m : ℤ) (first : Cell) → IsRankOf old (listed cells) → m ≡ int_min old.minus_u (c.y -ℤ c.x) → first ≡ ord_min cell_cmp old.first c →
    IsRankOf (rank m first) (listed (cells ++ c ∷ []))
rank_with cells c old m first h is least = subst (λ f. IsRankOf (rank m f) (listed (cells ++ c ∷ []))) (sym least) (by (is_lt (cell_cmp c old.first)) refl)
  where
    by : (b : Bool) → b ≡ is_lt (cell_cmp c old.first) → IsRankOf (rank m (cond b c old.first)) (listed (cells ++ c ∷ []))
    by true less = rank_before cells c old m h is less
    by false later = rank_after cells c old m h is later

-- the cells up to one more place
pub listed_more : (P : List Cell → Type 0) (start : Cell) (cells : List Cell) (place : ℕ) (z : Cell) → place < length cells → P ((start ∷ take place cells) ++ get_or cells place z ∷ []) →
    P (start ∷ take (place + 1) cells)
listed_more P start cells place z lt h = subst (λ xs. P (start ∷ xs)) (sym (take_more cells place z lt)) h

-- and all of them
pub listed_all : (P : List Cell → Type 0) (start : Cell) (cells : List Cell) (place : ℕ) → length cells ≤ place → P (start ∷ take place cells) → P (start ∷ cells)
listed_all P start cells place le h = subst (λ xs. P (start ∷ xs)) (take_all place cells le) h

-- each of the listed cells is in the range
pub start_in_range : (n : ℕ) (start : Cell) (cells : List Cell) → IsInRange n (listed (start ∷ cells)) → IsCellInRange n start
start_in_range n start cells range = cell_in_range n (start ∷ cells) start range (listed_left (start ∷ []) cells start (listed_one start))

pub next_in_range : (n : ℕ) (start : Cell) (cells : List Cell) (place : ℕ) (z : Cell) → IsInRange n (listed (start ∷ cells)) → place < length cells → IsCellInRange n (get_or cells place z)
next_in_range n start cells place z range lt =
    cell_in_range n (start ∷ cells) (get_or cells place z) range (listed_right (start ∷ []) cells (get_or cells place z) (listed_at_place cells place (get_or cells place z) (slice_get-get_or cells place z lt)))
