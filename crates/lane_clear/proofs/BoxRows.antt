-- A box that is looked at row by row, in a list of cells in order.
use Rattle.std.proofs.Common.{◌≡◌, ◌⊎◌, ◌↔◌, IsTrue, ◌&&◌, ℕ, ◌<◌, ◌≤◌, true, false, ℤ, pos, ◌+ℤ◌, ◌-ℤ◌, ◌≤ℤ◌, ◌<ℤ◌, List, length, get_or, Err, sym, ap, subst, ◌∙◌, arith, inl, inr}
use Rattle.std.specs.Prelude.{unsigned_abs, int_le}
use Rattle.std.specs.List.{slice_get}
use Rattle.std.specs.List.Sorted.{IsBinarySearchResult}
use Rattle.std.specs.declared.option.Option.{Option}
use Rattle.std.specs.declared.option.Option.TheVariants.{Some, None}
use Rattle.std.specs.Option.{IfSome, IfNone}
use Rattle.std.specs.declared.cmp.Ordering.TheVariants.{Less, Equal}
use Rattle.std.specs.Ordering.{is_lt}
use Rattle.std.specs.Cmp.{tied_itself}
use Rattle.std.proofs.lemmas.Int.{ints}
use Rattle.std.proofs.lemmas.Bool.{cases_lt, and_parts, and_from}
use Rattle.std.proofs.lemmas.Option.{slice_get_cases, slice_get_within, get_or_from_slice_get}
use Rattle.std.proofs.lemmas.List.{get_or_default}
use Rattle.std.proofs.lemmas.List.Sorted.{searchable_from_sorted}
use Rattle.std.proofs.lemmas.Map.Keys.{Less-from_sorted}
use Rattle.life_plane.specs.Strips.{Each}
use Rattle.life_plane.specs.NumberLaws.{lt_or_same, cases_below, le_from_test, test_from_le}
use Rattle.life_cells.specs.declared.cell.Cell.{Cell}
use Rattle.life_cells.specs.declared.bounds.Bounds.{Bounds}
use Rattle.life_cells.specs.Boxes.{InBox}
use Rattle.life_cells.specs.Cells.{cell, cell_cmp, IsRising}
use Rattle.life_cells.specs.Close.{IsFirstFrom}
use Rattle.life_cells.specs.Laws.{listed_at_place, place_of_listed}
use Rattle.life_cells.specs.Listed.{listed}
use Rattle.life_cells.specs.SortedLaws.{sorted_from_rising}
use Rattle.life_cells.specs.OrderLaws.{cells_total, cells_antisymmetric, comes_before, before_by_row, before_in_row, turned}
use Rattle.lane_clear.specs.Bare.{IsBare, IsBefore, IsFrom, IsNext, IsRowAfter}
use Rattle.lane_clear.specs.BaseLaws.{whole}

-- ---- the place of a cell

pub found_place : (cs : List Cell) (c : Cell) (k : ℕ) → IsRising cs → k < length cs → cell_cmp (get_or cs k c) c ≡ Equal → IsFirstFrom cs c k
found_place cs c k rises lt equal = record {
  within = omega arith;
  before = λ j d _ less. ap (λ e. cell_cmp (get_or cs j d) e) (sym (here d)) ∙ Less-from_sorted cell_cmp cs j k d rises less lt;
  from = λ j d le within. elim (lt_or_same k j (omega arith)) [
    | inl less ↦ ap is_lt (ap (λ e. cell_cmp (get_or cs j d) e) (sym (here d)) ∙ turned (get_or cs k d) (get_or cs j d) Less (Less-from_sorted cell_cmp cs k j d rises less within))
    | inr same ↦ ap is_lt (ap (λ n. cell_cmp (get_or cs n d) c) (sym same) ∙ ap (λ e. cell_cmp e c) (here d) ∙ tied_itself cells_total c)
  ];
}
  where
    here : (d : Cell) → get_or cs k d ≡ c
    here d = get_or_default cs k d c lt ∙ cells_antisymmetric (get_or cs k c) c equal

pub missing_place : (cs : List Cell) (c : Cell) (i : ℕ) → IsRising cs → i ≤ length cs → IsBinarySearchResult (λ y. cell_cmp y c) cs (Err i) → IsFirstFrom cs c i
missing_place cs c i rises le is =
    let parts = is (searchable_from_sorted cells_total (λ (a : Cell). a) cs c (sorted_from_rising cs rises)) in
    record { within = le; before = parts.0; from = λ j d low lt. ap is_lt (parts.1 j d low lt) }

-- ---- one row after the other

-- no cell of the list is in the rows of the box before this one
pub record NoneAbove (bounds : Bounds) (cs : List Cell) (row : ℤ) : Type 0 where
  pub begun : bounds.top ≤ℤ row
  pub none : Each (λ x y. InBox bounds x y → y <ℤ row → ⊥) (listed cs)

not_less : (a b : Cell) → is_lt (cell_cmp a b) ≡ false → (b.y <ℤ a.y) ⊎ ((b.y ≡ a.y) × (b.x ≤ℤ a.x))
not_less a b h = elim (cases_below a.y b.y) [
  | inl above ↦ absurd (not_before a b h (before_by_row a b above))
  | inr level ↦ elim (cases_below b.y a.y) [
    | inl below ↦ inl below
    | inr same ↦ let e : a.y ≡ b.y = omega (arith, ints) in elim (cases_below a.x b.x) [
      | inl left ↦ absurd (not_before a b h (before_in_row a b e left))
      | inr right ↦ inr (sym e, right)
    ]
  ]
]
  where
    not_before : (a b : Cell) → is_lt (cell_cmp a b) ≡ false → cell_cmp a b ≡ Less → ⊥
    not_before a b h k = let e : is_lt (cell_cmp a b) ≡ true = ap is_lt k in cc

pub next_is : (cs : List Cell) (left row : ℤ) (i : ℕ) (c : Cell) → IsRising cs → IsFirstFrom cs (cell left row) i → slice_get cs i ≡ Some c → IsNext cs left row c
next_is cs left row i c rises first at = record {
  lives = listed_at_place cs i c at;
  reached = not_less c (cell left row) (subst (λ (e : Cell). is_lt (cell_cmp e (cell left row)) ≡ false) is (first.from i c (omega arith) within));
  others = λ x y lives.
      let there = place_of_listed cs x y lives in
      let k = there.0 in
      let lt : k < length cs = slice_get_within cs k (cell x y) there.1 in
      let that : get_or cs k c ≡ cell x y = get_or_from_slice_get cs k (cell x y) c there.1 in
      elim (cases_lt k i) [
        | inl less ↦ inl (comes_before (cell x y) (cell left row) (ap (λ e. cell_cmp e (cell left row)) (sym that) ∙ first.before k c (omega arith) less))
        | inr le ↦ inr (elim (lt_or_same i k (omega arith)) [
          | inl less ↦ weaker (comes_before c (cell x y) (ap (λ e. cell_cmp e (cell x y)) (sym is) ∙ ap (λ e. cell_cmp (get_or cs i c) e) (sym that) ∙ Less-from_sorted cell_cmp cs i k c rises less lt))
          | inr same ↦ let e : c ≡ cell x y = sym is ∙ ap (λ n. get_or cs n c) same ∙ that in inr (ap (λ (d : Cell). d.y) e, subst (λ (d : Cell). c.x ≤ℤ d.x) e (omega (arith, ints)))
        ])
      ];
}
  where
    within : i < length cs
    within = slice_get_within cs i c at

    is : get_or cs i c ≡ c
    is = get_or_from_slice_get cs i c c at

    weaker : {x y : ℤ} → (c.y <ℤ y) ⊎ ((c.y ≡ y) × (c.x <ℤ x)) → IsFrom c x y
    weaker (inl above) = inl above
    weaker (inr level) = let l = level.1 in inr (level.0, omega (arith, ints))

pub all_before : (cs : List Cell) (left row : ℤ) (i : ℕ) → IsFirstFrom cs (cell left row) i → slice_get cs i ≡ None → Each (IsBefore left row) (listed cs)
all_before cs left row i first end x y lives =
    let there = place_of_listed cs x y lives in
    let c = cell x y in
    let lt : there.0 < length cs = slice_get_within cs there.0 c there.1 in
    let that : get_or cs there.0 c ≡ c = get_or_from_slice_get cs there.0 c c there.1 in
    comes_before c (cell left row) (ap (λ e. cell_cmp e (cell left row)) (sym that) ∙ first.before there.0 c (omega arith) (elim (cases_lt there.0 i) [ inl less ↦ less | inr past ↦ absurd (no_item cs i end (omega arith)) ]))
  where
    no_item : (cs : List Cell) (i : ℕ) → slice_get cs i ≡ None → i < length cs → ⊥
    no_item cs i end lt = elim (slice_get_cases cs i).1 [ inl some ↦ cc | inr past ↦ let p = past.0 in omega arith ]

-- the same from the same column
pub next_there : (cs : List Cell) (left left' row : ℤ) (c : Cell) → left ≡ left' → IsNext cs left row c → IsNext cs left' row c
next_there cs left left' row c e h = subst (λ (l : ℤ). IsNext cs l row c) e h

-- what a look-up of the place answers
pub looked_up : (cs : List Cell) (left left' row row' : ℤ) (i : ℕ) (found : Option Cell) → left' ≡ left → row' ≡ row → IsRising cs → IsFirstFrom cs (cell left' row') i → found ≡ slice_get cs i →
    IfSome found (IsNext cs left row) × IfNone found (Each (IsBefore left row) (listed cs))
looked_up cs left left' row row' i found el er rises first is = by found is
  where
    there : IsFirstFrom cs (cell left row) i
    there = subst (λ (c : Cell). IsFirstFrom cs c i) (λ k. cell (el k) (er k)) first

    by : (found : Option Cell) → found ≡ slice_get cs i → IfSome found (IsNext cs left row) × IfNone found (Each (IsBefore left row) (listed cs))
    by None is = (tt, all_before cs left row i there (sym is))
    by (Some c) is = (next_is cs left row i c rises there (sym is), tt)

pub none_begins : (bounds : Bounds) (cs : List Cell) → NoneAbove bounds cs bounds.top
none_begins bounds cs = record { begun = omega (arith, ints); none = λ x y lives inside above. let t = inside.below_top in omega (arith, ints) }

-- past the bottom nothing is in the box
pub none_at_all : (bounds : Bounds) (cs : List Cell) (row : ℤ) → NoneAbove bounds cs row → bounds.bottom <ℤ row → IsBare bounds (listed cs)
none_at_all bounds cs row h past x y lives inside = let b = inside.above_bottom in h.none x y lives inside (omega (arith, ints))

before_none : (bounds : Bounds) (cs : List Cell) (row x y : ℤ) → NoneAbove bounds cs row → listed cs x y ≡ true → InBox bounds x y → IsBefore bounds.left row x y → ⊥
before_none bounds cs row x y h lives inside (inl less) = h.none x y lives inside less
before_none bounds cs row x y h lives inside (inr level) = let l = level.1 in let r = inside.right_of_left in omega (arith, ints)

-- nor where all cells come before the rest of it
pub none_after : (bounds : Bounds) (cs : List Cell) (row : ℤ) → NoneAbove bounds cs row → Each (IsBefore bounds.left row) (listed cs) → IsBare bounds (listed cs)
none_after bounds cs row h all x y lives inside = before_none bounds cs row x y h lives inside (all x y lives)

-- nor where the next cell is below the box
pub none_below : (bounds : Bounds) (cs : List Cell) (row : ℤ) (c : Cell) → NoneAbove bounds cs row → IsNext cs bounds.left row c → bounds.bottom <ℤ c.y → IsBare bounds (listed cs)
none_below bounds cs row c h next below x y lives inside = by (next.others x y lives)
  where
    by : IsBefore bounds.left row x y ⊎ IsFrom c x y → ⊥
    by (inl before) = before_none bounds cs row x y h lives inside before
    by (inr (inl less)) = let b = inside.above_bottom in omega (arith, ints)
    by (inr (inr level)) = let e = level.0 in let b = inside.above_bottom in omega (arith, ints)

pub none_so_far : (bounds : Bounds) (cs : List Cell) (row after : ℤ) (c : Cell) → NoneAbove bounds cs row → IsNext cs bounds.left row c → IsRowAfter bounds c after → NoneAbove bounds cs after
none_so_far bounds cs row after c h next is = record { begun = begins next.reached is.is; none = λ x y lives inside above. by x y lives inside above (next.others x y lives) is.is }
  where
    begun : bounds.top ≤ℤ row
    begun = h.begun

    begins : (row <ℤ c.y) ⊎ ((row ≡ c.y) × (bounds.left ≤ℤ c.x)) → ((bounds.right <ℤ c.x) × (after ≡ c.y +ℤ pos 1)) ⊎ ((c.x ≤ℤ bounds.right) × (after ≡ c.y)) → bounds.top ≤ℤ after
    begins (inl less) (inl past) = let e = past.1 in omega (arith, ints)
    begins (inl less) (inr short) = let e = short.1 in omega (arith, ints)
    begins (inr level) (inl past) = let l = level.0 in let e = past.1 in omega (arith, ints)
    begins (inr level) (inr short) = let l = level.0 in let e = short.1 in omega (arith, ints)

    by : (x y : ℤ) → listed cs x y ≡ true → InBox bounds x y → y <ℤ after → IsBefore bounds.left row x y ⊎ IsFrom c x y →
        ((bounds.right <ℤ c.x) × (after ≡ c.y +ℤ pos 1)) ⊎ ((c.x ≤ℤ bounds.right) × (after ≡ c.y)) → ⊥
    by x y lives inside above (inl before) is = before_none bounds cs row x y h lives inside before
    by x y lives inside above (inr (inl less)) (inl past) = let e = past.1 in omega (arith, ints)
    by x y lives inside above (inr (inl less)) (inr short) = let e = short.1 in omega (arith, ints)
    by x y lives inside above (inr (inr level)) (inl past) = let p = past.0 in let l = level.1 in let r = inside.left_of_right in omega (arith, ints)
    by x y lives inside above (inr (inr level)) (inr short) = let e = short.1 in let l = level.0 in omega (arith, ints)

-- it is a later row
pub goes_down : (bounds : Bounds) (cs : List Cell) (row after : ℤ) (c : Cell) → NoneAbove bounds cs row → IsNext cs bounds.left row c → c.y ≤ℤ bounds.bottom → (InBox bounds c.x c.y → ⊥) → IsRowAfter bounds c after → row <ℤ after
goes_down bounds cs row after c h next low outside is = by next.reached is.is
  where
    by : (row <ℤ c.y) ⊎ ((row ≡ c.y) × (bounds.left ≤ℤ c.x)) → ((bounds.right <ℤ c.x) × (after ≡ c.y +ℤ pos 1)) ⊎ ((c.x ≤ℤ bounds.right) × (after ≡ c.y)) → row <ℤ after
    by (inl less) (inl past) = let e = past.1 in omega (arith, ints)
    by (inl less) (inr short) = let e = short.1 in omega (arith, ints)
    by (inr level) (inl past) = let l = level.0 in let e = past.1 in omega (arith, ints)
    by (inr level) (inr short) =
        let l = level.0 in
        let b = h.begun in
        absurd (outside (record { right_of_left = level.1; below_top = omega (arith, ints); left_of_right = short.0; above_bottom = low }))

-- ---- the rows that are left

-- how many rows of the box are left from this one on
abbrev pub rows_left : Bounds → ℤ → ℕ
rows_left bounds row = unsigned_abs ((bounds.bottom +ℤ pos 1) -ℤ row)

pub fewer_rows : (bounds : Bounds) (row after : ℤ) → row <ℤ after → after ≤ℤ (bounds.bottom +ℤ pos 1) → rows_left bounds after < rows_left bounds row
fewer_rows bounds row after less low =
    let a = whole ((bounds.bottom +ℤ pos 1) -ℤ row) (omega (arith, ints)) in
    let b = whole ((bounds.bottom +ℤ pos 1) -ℤ after) (omega (arith, ints)) in
    omega (arith, ints)

-- a row after one in the box is at most the one behind the box
pub last_row : (bounds : Bounds) (c : Cell) (row : ℤ) → c.y ≤ℤ bounds.bottom → IsRowAfter bounds c row → row ≤ℤ (bounds.bottom +ℤ pos 1)
last_row bounds c row low after = elim after.is [ inl past ↦ let e = past.1 in omega (arith, ints) | inr short ↦ let e = short.1 in omega (arith, ints) ]

-- ---- tests

pub in_box_test : (bounds : Bounds) (c : Cell) (left top right bottom x y : ℤ) → left ≡ bounds.left → top ≡ bounds.top → right ≡ bounds.right → bottom ≡ bounds.bottom → x ≡ c.x → y ≡ c.y →
    IsTrue (((int_le left x && int_le top y) && int_le x right) && int_le y bottom) ↔ InBox bounds c.x c.y
in_box_test bounds c left top right bottom x y el et er eb ex ey = (
  λ h.
      let last = and_parts ((int_le left x && int_le top y) && int_le x right) (int_le y bottom) h in
      let third = and_parts (int_le left x && int_le top y) (int_le x right) last.0 in
      let first = and_parts (int_le left x) (int_le top y) third.0 in
      let l : left ≤ℤ x = le_from_test first.0 in
      let t : top ≤ℤ y = le_from_test first.1 in
      let r : x ≤ℤ right = le_from_test third.1 in
      let b : y ≤ℤ bottom = le_from_test last.1 in
      record { right_of_left = omega (arith, ints); below_top = omega (arith, ints); left_of_right = omega (arith, ints); above_bottom = omega (arith, ints) },
  λ i.
      let l : left ≤ℤ x = omega (arith, ints, i.right_of_left) in
      let t : top ≤ℤ y = omega (arith, ints, i.below_top) in
      let r : x ≤ℤ right = omega (arith, ints, i.left_of_right) in
      let b : y ≤ℤ bottom = omega (arith, ints, i.above_bottom) in
      and_from _ _ (and_from _ _ (and_from _ _ (test_from_le l) (test_from_le t)) (test_from_le r)) (test_from_le b),
)
