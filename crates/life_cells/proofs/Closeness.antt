-- Cells close to a place, by a search in a list that rises.
use Rattle.life_cells.specs.Laws.{place_listed, alive_of_order}
use Rattle.std.proofs.Common.{◌≡◌, ℕ, zero, suc, ◌+◌, ◌-◌, ◌<◌, ◌≤◌, Bool, true, false, List, [], ◌∷◌, length, take, drop, get_or, refl, sym, ap, subst, ◌∙◌, arith, inl, inr, w64, to_z, of_z}
use Rattle.std.specs.Prelude.{◌==◌, ℤ, pos, negsuc, ◌+ℤ◌, ◌-ℤ◌, ◌≤ℤ◌, ◌<ℤ◌}
use Rattle.std.specs.declared.cmp.Ordering.TheVariants.{Less}
use Rattle.std.specs.Ordering.{is_lt}
use Rattle.std.specs.List.{AllWithin, filter}
use Rattle.std.proofs.lemmas.Int.{ints}
use Rattle.std.proofs.lemmas.Bool.{cases_lt, or_cases, false_from_ne_true, eqb-true}
use Rattle.std.proofs.lemmas.List.{get_or_default, nil_from_length}
use lib.Signed.{lt_z}
use Rattle.std.proofs.lemmas.List.Folds.{list_any_more}
use Rattle.std.proofs.lemmas.Map.Keys.{Less-from_sorted}
use Rattle.life_cells.specs.declared.cell.Cell.{Cell}
use Rattle.life_cells.specs.Cells.{cell, cell_cmp, IsRising, Cells, in_order, alive}
use Rattle.life_cells.specs.Close.{Close, CloseInRow, is_close_in_row, IsCloseInRow, IsFirstFrom}
use Rattle.life_cells.specs.CloseLaws.{close_in_row_is, close_in_row_holds, some_close, close_of_some}
use Rattle.life_cells.specs.Listed.{same_cell, listed}
use Rattle.life_cells.specs.OrderLaws.{cells_total, same_cell_is, comes_before, before_by_row, before_in_row, less_from_test}
use Rattle.life_plane.specs.Apart.{Apart}
use Rattle.life_plane.specs.NumberLaws.{cases_below, lt_from_test, test_from_lt}
use Rattle.life_plane.specs.Plane.{Plane}

-- ---- halves

-- what a search by halves knows: all below low come before c, and none from high on
pub record IsHalved (cs : List Cell) (c : Cell) (low high : ℕ) : Type 0 where
  pub order : low ≤ high
  pub within : high ≤ length cs
  pub before : AllWithin (λ d. cell_cmp d c ≡ Less) cs 0 low
  pub from : AllWithin (λ d. is_lt (cell_cmp d c) ≡ false) cs high (length cs)

pub upper_half : (cs : List Cell) (c : Cell) (low high m : ℕ) (z : Cell) → IsRising cs → IsHalved cs c low high → m < high → low ≤ m → is_lt (cell_cmp (get_or cs m z) c) ≡ true → IsHalved cs c (m + 1) high
upper_half cs c low high m z rises h lt le is = record {
  order = omega arith;
  within = h.within;
  before = λ k d _ below. elim (cases_lt k m) [
    | inl less ↦ cells_total.trans (get_or cs k d) (get_or cs m d) c (Less-from_sorted cell_cmp cs k m d rises less (omega (arith, h.within))) (at d)
    | inr more ↦ let same : k ≡ m = omega arith in ap (λ n. cell_cmp (get_or cs n d) c) same ∙ at d
  ];
  from = h.from;
}
  where
    at : (d : Cell) → cell_cmp (get_or cs m d) c ≡ Less
    at d = ap (λ e. cell_cmp e c) (get_or_default cs m d z (omega (arith, h.within))) ∙ less_from_test (cell_cmp (get_or cs m z) c) is

pub lower_half : (cs : List Cell) (c : Cell) (low high m : ℕ) (z : Cell) → IsRising cs → IsHalved cs c low high → m < high → low ≤ m → is_lt (cell_cmp (get_or cs m z) c) ≡ false → IsHalved cs c low m
lower_half cs c low high m z rises h lt le is = record {
  order = le;
  within = omega (arith, h.within);
  before = h.before;
  from = λ k d low' below. elim (cases_lt m k) [
    | inl less ↦ later (get_or cs k d) (get_or cs m d) (Less-from_sorted cell_cmp cs m k d rises less below) (at d)
    | inr more ↦ let same : k ≡ m = omega arith in ap (λ n. is_lt (cell_cmp (get_or cs n d) c)) same ∙ at d
  ];
}
  where
    at : (d : Cell) → is_lt (cell_cmp (get_or cs m d) c) ≡ false
    at d = ap (λ e. is_lt (cell_cmp e c)) (get_or_default cs m d z (omega (arith, h.within))) ∙ is

    not_so : (b : Bool) → (b ≡ true → ⊥) → b ≡ false
    not_so true f = absurd (f refl)
    not_so false f = refl

    later : (a b : Cell) → cell_cmp b a ≡ Less → is_lt (cell_cmp b c) ≡ false → is_lt (cell_cmp a c) ≡ false
    later a b e f = not_so (is_lt (cell_cmp a c)) (λ g. let t : is_lt (cell_cmp b c) ≡ true = ap is_lt (cells_total.trans b a c e (less_from_test (cell_cmp a c) g)) in absurd (cc))

-- ---- one row

not_before : (a b : Cell) → is_lt (cell_cmp a b) ≡ false → cell_cmp a b ≡ Less → ⊥
not_before a b h k = let e : is_lt (cell_cmp a b) ≡ true = ap is_lt k in cc

-- a cell from the first of the row's places up to the one behind its last is close
within_row : (x y : ℤ) (c : Cell) → is_lt (cell_cmp c (cell (x -ℤ pos 2) y)) ≡ false → cell_cmp c (cell (x +ℤ pos 3) y) ≡ Less → IsCloseInRow x y c
within_row x y c from to = elim (comes_before c (cell (x +ℤ pos 3) y) to) [
  | inl above ↦ absurd (not_before c (cell (x -ℤ pos 2) y) from (before_by_row c (cell (x -ℤ pos 2) y) above))
  | inr level ↦ elim (cases_below c.x (x -ℤ pos 2)) [
    | inl left ↦ absurd (not_before c (cell (x -ℤ pos 2) y) from (before_in_row c (cell (x -ℤ pos 2) y) level.0 left))
    | inr low ↦ let high = level.1 in record { left = low; right = omega (arith, ints); row = level.0 }
  ]
]

-- one that comes before them is not
before_row : (x y : ℤ) (c : Cell) → cell_cmp c (cell (x -ℤ pos 2) y) ≡ Less → IsCloseInRow x y c → ⊥
before_row x y c before h = let low = h.left in let row = h.row in elim (comes_before c (cell (x -ℤ pos 2) y) before) [
  | inl above ↦ omega (arith, ints)
  | inr level ↦ let left = level.1 in omega (arith, ints)
]

-- nor is one behind them
after_row : (x y : ℤ) (c : Cell) → is_lt (cell_cmp c (cell (x +ℤ pos 3) y)) ≡ false → IsCloseInRow x y c → ⊥
after_row x y c from h = let high = h.right in not_before c (cell (x +ℤ pos 3) y) from (before_in_row c (cell (x +ℤ pos 3) y) h.row (omega (arith, ints)))

-- where a test fails of the items before a part, holds within it and fails behind it, the part is what passes
part_passes : (p : Cell → Bool) (cs : List Cell) (from n : ℕ) → from + n ≤ length cs → AllWithin (λ c. p c ≡ false) cs 0 from → AllWithin (λ c. p c ≡ true) cs from (from + n)
    → AllWithin (λ c. p c ≡ false) cs (from + n) (length cs) → take n (drop from cs) ≡ filter p cs
part_passes p [] zero zero le before in' after = refl
part_passes p [] zero (suc n) le before in' after = absurd (omega arith)
part_passes p [] (suc from) n le before in' after = absurd (omega arith)
part_passes p (c ∷ cs) zero zero le before in' after =
    let rest = part_passes p cs zero zero (omega arith) (λ k d _ lt. absurd (omega arith)) (λ k d low lt. absurd (omega arith)) (λ k d _ lt. after (suc k) d (omega arith) (omega arith)) in
    rw (after 0 c (omega arith) (omega arith)) rest
part_passes p (c ∷ cs) zero (suc n) le before in' after =
    let rest = part_passes p cs zero n (omega arith) (λ k d _ lt. absurd (omega arith)) (λ k d _ lt. in' (suc k) d (omega arith) (omega arith)) (λ k d low lt. after (suc k) d (omega arith) (omega arith)) in
    rw (in' 0 c (omega arith) (omega arith)) (ap (λ ds. c ∷ ds) rest)
part_passes p (c ∷ cs) (suc from) n le before in' after =
    let rest = part_passes p cs from n (omega arith) (λ k d _ lt. before (suc k) d (omega arith) (omega arith)) (λ k d low lt. in' (suc k) d (omega arith) (omega arith)) (λ k d low lt. after (suc k) d (omega arith) (omega arith)) in
    rw (before 0 c (omega arith) (omega arith)) rest

-- the places of two cells, the one before the other
pub places_rise : (cs : List Cell) (c d : Cell) (i j : ℕ) → cell_cmp c d ≡ Less → IsFirstFrom cs c i → IsFirstFrom cs d j → i ≤ j
places_rise cs c d i j less h k = elim (cases_lt j i) [
  | inl lt ↦ let within = h.within in absurd (not_before (get_or cs j c) d (k.from j c (omega arith) (omega arith)) (cells_total.trans (get_or cs j c) c d (h.before j c (omega arith) lt) less))
  | inr le ↦ le
]

-- the part of a list between a row's ends, which is what is close
pub record IsRowPart (cs : List Cell) (x y : ℤ) (from to : ℕ) : Type 0 where
  pub first : IsFirstFrom cs (cell (x -ℤ pos 2) y) from
  pub last : IsFirstFrom cs (cell (x +ℤ pos 3) y) to

pub row_rises : (cs : List Cell) (x y : ℤ) (from to : ℕ) → IsRowPart cs x y from to → from ≤ to
row_rises cs x y from to h = places_rise cs (cell (x -ℤ pos 2) y) (cell (x +ℤ pos 3) y) from to (before_in_row (cell (x -ℤ pos 2) y) (cell (x +ℤ pos 3) y) refl (omega (arith, ints))) h.first h.last

pub row_is_close : (cs : List Cell) (x y : ℤ) (from to : ℕ) → IsRowPart cs x y from to → take (to - from) (drop from cs) ≡ filter (is_close_in_row x y) cs
row_is_close cs x y from to h =
    let le = row_rises cs x y from to h in
    let ends : from + (to - from) ≡ to = omega arith in
    let within = h.last.within in
    part_passes (is_close_in_row x y) cs from (to - from) (omega arith)
    (λ k d low lt. false_from_ne_true _ (λ t. before_row x y (get_or cs k d) (h.first.before k d low lt) (close_in_row_is x y (get_or cs k d) t)))
    (λ k d low lt. close_in_row_holds x y (get_or cs k d) (within_row x y (get_or cs k d) (h.first.from k d low (omega arith)) (h.last.before k d (omega arith) (omega arith))))
    (λ k d low lt. false_from_ne_true _ (λ t. after_row x y (get_or cs k d) (h.last.from k d (omega arith) lt) (close_in_row_is x y (get_or cs k d) t)))

-- the same at the places as they are passed
pub row_part : (cs : List Cell) (x y left right row : ℤ) (from to : ℕ) → left ≡ x -ℤ pos 2 → right ≡ x +ℤ pos 3 → row ≡ y → IsFirstFrom cs (cell left row) from → IsFirstFrom cs (cell right row) to → IsRowPart cs x y from to
row_part cs x y left right row from to el er e first last = record {
  first = subst (λ c. IsFirstFrom cs c from) (λ i. cell (el i) (e i)) first;
  last = subst (λ c. IsFirstFrom cs c to) (λ i. cell (er i) (e i)) last;
}

-- ---- five rows

-- whether the close cells of a row are none, as a test says it
pub none_in_row : (cs found : List Cell) (x y : ℤ) (none : Bool) → found ≡ filter (is_close_in_row x y) cs → none ≡ (length found == 0) → none ≡ true → CloseInRow (listed cs) x y → ⊥
none_in_row cs found x y none is e true' close = some_close cs x y close (sym is ∙ nil_from_length found (eqb-true (length found) 0 (sym e ∙ true')))

pub some_in_row : (cs found : List Cell) (x y : ℤ) (none : Bool) → found ≡ filter (is_close_in_row x y) cs → none ≡ (length found == 0) → none ≡ false → CloseInRow (listed cs) x y
some_in_row cs [] x y none is e false' = cc
some_in_row cs (c ∷ rest) x y none is e false' = close_of_some cs x y c rest (sym is)

-- the rows from two above y up to this one have no live cell that is close
pub record NoneUpTo (s : Plane) (x y dy : ℤ) : Type 0 where
  pub low : negsuc 1 ≤ℤ dy
  pub high : dy ≤ℤ pos 3
  pub none : (row : ℤ) → (y -ℤ pos 2) ≤ℤ row → row <ℤ (y +ℤ dy) → CloseInRow s x row → ⊥

pub none_begins : (s : Plane) (x y : ℤ) → NoneUpTo s x y (negsuc 1)
none_begins s x y = record { low = omega (arith, ints); high = omega (arith, ints); none = λ row low high close. absurd (omega (arith, ints)) }

pub none_more : (s : Plane) (x y dy next : ℤ) → NoneUpTo s x y dy → lt_z dy (pos 3) ≡ true → next ≡ to_z w64 (of_z w64 (dy +ℤ pos 1)) → (CloseInRow s x (y +ℤ dy) → ⊥) → NoneUpTo s x y next
none_more s x y dy next before test e here =
    let low = before.low in
    let lt : dy <ℤ pos 3 = lt_from_test test in
    let is : next ≡ dy +ℤ pos 1 = omega (arith, ints) in
    subst (NoneUpTo s x y) (sym is) (record {
      low = omega (arith, ints);
      high = omega (arith, ints);
      none = λ row down up close. elim (cases_below row (y +ℤ dy)) [
        | inl above ↦ before.none row down above close
        | inr le ↦ let same : row ≡ y +ℤ dy = omega (arith, ints) in here (subst (CloseInRow s x) same close)
      ];
    })

pub none_close : (s : Plane) (x y dy : ℤ) → NoneUpTo s x y dy → lt_z dy (pos 3) ≡ false → Close s x y → ⊥
none_close s x y dy before test h =
    let above = h.near.above in
    let below = h.near.below in
    elim (cases_below dy (pos 3)) [
      | inl lt ↦ let t = test_from_lt lt in cc
      | inr le ↦ before.none h.b (omega (arith, ints)) (omega (arith, ints)) (record { a = h.a; lives = h.lives; left = h.near.left; right = h.near.right })
    ]

pub close_by_row : (s : Plane) (x y dy : ℤ) → NoneUpTo s x y dy → lt_z dy (pos 3) ≡ true → CloseInRow s x (y +ℤ dy) → Close s x y
close_by_row s x y dy before test h =
    let low = before.low in
    let lt : dy <ℤ pos 3 = lt_from_test test in
    record { a = h.a; b = y +ℤ dy; lives = h.lives; near = record { right = h.right; left = h.left; below = omega (arith, ints); above = omega (arith, ints) } }

-- ---- all cells of a list

pub not_apart : (left right : List Cell) (i : ℕ) (z : Cell) → i < length left → Close (listed right) (get_or left i z).x (get_or left i z).y → Apart (listed left) (listed right) → ⊥
not_apart left right i z lt close h = h.far (get_or left i z).x (get_or left i z).y close.a close.b (place_listed left i z lt) close.lives close.near

pub apart_more : (left right : List Cell) (i : ℕ) (z : Cell) → i < length left → (Close (listed right) (get_or left i z).x (get_or left i z).y → ⊥) → Apart (listed (take i left)) (listed right)
    → Apart (listed (take (i + 1) left)) (listed right)
apart_more left right i z lt none h = record {
  far = λ x y a b l k w. elim (or_cases (listed (take i left) x y) (same_cell (cell x y) (get_or left i z)) (sym (list_any_more (same_cell (cell x y)) left i z lt) ∙ l)) [
    | inl there ↦ h.far x y a b there k w
    | inr here ↦ none (subst (λ (p : Cell). Close (listed right) p.x p.y) (same_cell_is (cell x y) (get_or left i z) here) (record { a = a; b = b; lives = k; near = w }))
  ];
}

pub apart_sets : (ls rs : List Cell) (s t : Cells) (r : Bool) → ls ≡ in_order s → rs ≡ in_order t → (r ≡ true → Apart (listed ls) (listed rs)) × (Apart (listed ls) (listed rs) → r ≡ true) → (r ≡ true → Apart (alive s) (alive t)) × (Apart (alive s) (alive t) → r ≡ true)
apart_sets ls rs s t r e f h =
    let l = alive_of_order ls s e in
    let m = alive_of_order rs t f in
    (λ k. subst (λ p. Apart p (alive t)) l (subst (λ p. Apart (listed ls) p) m (h.0 k)), λ k. h.1 (subst (λ p. Apart p (listed rs)) (sym l) (subst (λ p. Apart (alive s) p) (sym m) k)))

pub close_set : (cs : List Cell) (s : Cells) (x y : ℤ) (r : Bool) → cs ≡ in_order s → (r ≡ true → Close (listed cs) x y) × (Close (listed cs) x y → r ≡ true) → (r ≡ true → Close (alive s) x y) × (Close (alive s) x y → r ≡ true)
close_set cs s x y r e h = subst (λ p. (r ≡ true → Close p x y) × (Close p x y → r ≡ true)) (alive_of_order cs s e) h
