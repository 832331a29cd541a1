-- The cells of items, drawn one item after the other.
use Rattle.std.proofs.Common.{◌≡◌, ℕ, zero, suc, ◌+◌, ◌<◌, ◌⊎◌, true, false, List, [], ◌∷◌, ◌++◌, length, refl, sym, ap, ◌∙◌, subst, inl, inr, arith, pos, ℤ, ◌+ℤ◌, ◌≤ℤ◌, ◌<ℤ◌, if◌then◌else◌}
use Rattle.std.specs.Cmp.{both_ways}
use Rattle.std.specs.List.{AllByRecursion}
use Rattle.std.specs.declared.cmp.Ordering.TheVariants.{Less}
use Rattle.std.proofs.lemmas.Int.{ints}
use Rattle.std.proofs.lemmas.List.{append_assoc, append-nil, length-append}
use Rattle.std.proofs.lemmas.Bool.{or_cases, or_left, or_right}
use Rattle.life_plane.specs.Plane.{Plane, same_plane}
use Rattle.life_cells.specs.declared.cell.Cell.{Cell}
use Rattle.life_cells.specs.Cells.{cell, cell_cmp, IsRising}
use Rattle.life_cells.specs.Listed.{same_cell, listed}
use Rattle.life_cells.specs.OrderLaws.{same_cell_is, same_cell-itself, comes_before, before_by_row, before_in_row, rising_push, rising-none}
use Rattle.life_cells.specs.Laws.{listed-append_at}
use Rattle.rle_items.specs.declared.item.Item.{Item}
use Rattle.rle_items.specs.declared.item.Tag.{Tag}
use Rattle.rle_items.specs.declared.item.Tag.TheVariants.{Dead, Alive, RowEnd}
use Rattle.rle_items.specs.Items.{live, is_alive, is_row_end, rows_of, AreCells}
use Rattle.rle_items.specs.ItemLaws.{live_push, rows_push, columns_push_other, made_push_old, made_push_new, made_push_cases, no_item}
use Rattle.rle_items.specs.Cursor.{row_cells, item_cells}
use Rattle.rle_items.specs.Reach.{cursor_behind}
use Rattle.life_plane.specs.NumberLaws.{cases_below}
use Rattle.life_plane.specs.ListLaws.{all_push, all_weaker}

-- ---- order

-- each of the cells comes before this one
abbrev pub AreBefore : List Cell → Cell → Type 0
AreBefore cs d = AllByRecursion (λ c. cell_cmp c d ≡ Less) cs

later_row : (x y u v : ℤ) (c : Cell) → y <ℤ v → cell_cmp c (cell x y) ≡ Less → cell_cmp c (cell u v) ≡ Less
later_row x y u v c h before =
    elim (comes_before c (cell x y) before) [
      | inl r ↦ before_by_row c (cell u v) (omega (arith, ints))
      | inr r ↦ before_by_row c (cell u v) (let same : c.y ≡ y = r.0 in omega (arith, ints))
    ]

later_column : (x u y : ℤ) (c : Cell) → x ≤ℤ u → cell_cmp c (cell x y) ≡ Less → cell_cmp c (cell u y) ≡ Less
later_column x u y c h before =
    elim (comes_before c (cell x y) before) [
      | inl r ↦ before_by_row c (cell u y) (omega (arith, ints))
      | inr r ↦ before_in_row c (cell u y) r.0 (omega (arith, ints))
    ]

-- a place in the row of a first cell, so many further right
abbrev pub along : Cell → ℕ → Cell
along first n = cell (first.x +ℤ pos n) first.y

before_next : (first : Cell) (n : ℕ) → cell_cmp (along first n) (along first (n + 1)) ≡ Less
before_next first n = before_in_row (along first n) (along first (n + 1)) refl (omega (arith, ints))

same_before : (cs : List Cell) (d e : Cell) → d.x ≡ e.x → d.y ≡ e.y → AreBefore cs d → AreBefore cs e
same_before cs d e x y h = let same : d ≡ e = (λ i. record { y = y i; x = x i }) in subst (λ (c : Cell). AreBefore cs c) same h

-- cells that rise up to a place rise on with the cells of a row from there on
record RisesOn (cs : List Cell) (d : Cell) : Type 0 where
  rising : IsRising cs
  before : AreBefore cs d

same_rises : (cs ds : List Cell) (x z y : ℤ) → cs ≡ ds → x ≡ z → RisesOn cs (cell x y) → RisesOn ds (cell z y)
same_rises cs ds x z y e f h = subst (λ (cs : List Cell). RisesOn cs (cell z y)) e (subst (λ (x : ℤ). RisesOn cs (cell x y)) f h)

row_rises : (cs : List Cell) (first : Cell) (n : ℕ) → RisesOn cs first → RisesOn (cs ++ row_cells first n) (along first n)
row_rises cs first zero h = same_rises cs (cs ++ []) first.x (first.x +ℤ pos 0) first.y (sym (append-nil cs)) (omega (arith, ints)) h
row_rises cs first (suc n) h =
    let so_far = row_rises cs first n h in
    let d : Cell = along first n in
    let next : Cell = along first (n + 1) in
    same_rises ((cs ++ row_cells first n) ++ (d ∷ [])) (cs ++ row_cells first (suc n)) (first.x +ℤ pos (n + 1)) (first.x +ℤ pos (suc n)) first.y (append_assoc cs (row_cells first n) (d ∷ [])) (omega (arith, ints)) (record {
      rising = rising_push (cs ++ row_cells first n) d so_far.rising so_far.before;
      before = all_push (λ c. cell_cmp c next ≡ Less) (cs ++ row_cells first n) d
          (all_weaker (λ c. cell_cmp c d ≡ Less) (λ c. cell_cmp c next ≡ Less) (λ c b. later_column d.x next.x first.y c (omega (arith, ints)) b) _ so_far.before)
          (before_next first n);
    })

-- one more cell of a row
pub row_push : (cells before : List Cell) (first : Cell) (n : ℕ) (next : Cell) → cells ≡ before ++ row_cells first n → next ≡ along first n → cells ++ (next ∷ []) ≡ before ++ row_cells first (n + 1)
row_push cells before first n next e is =
    (λ k. e k ++ (is k ∷ [])) ∙ append_assoc before (row_cells first n) (along first n ∷ []) ∙ ap (λ (m : ℕ). before ++ row_cells first m) (let same : suc n ≡ n + 1 = omega arith in same)

length_row : (first : Cell) (n : ℕ) → length (row_cells first n) ≡ n
length_row first zero = refl
length_row first (suc n) = omega (arith, length-append (row_cells first n) (along first n ∷ []), length_row first n)

-- ---- which cells of a row are listed

record IsInRow (first : Cell) (n : ℕ) (x y : ℤ) : Type 0 where
  is_row : y ≡ first.y
  from : first.x ≤ℤ x
  to : x <ℤ (first.x +ℤ pos n)

same_place : (x y : ℤ) (d : Cell) → listed (d ∷ []) x y ≡ true → cell x y ≡ d
same_place x y d h = elim (or_cases _ _ h) [ inl e ↦ same_cell_is (cell x y) d e | inr e ↦ cc ]

in_row_from_listed : (first : Cell) (n : ℕ) (x y : ℤ) → listed (row_cells first n) x y ≡ true → IsInRow first n x y
in_row_from_listed first zero x y h = cc
in_row_from_listed first (suc n) x y h =
    let d : Cell = along first n in
    elim (or_cases _ _ (sym (listed-append_at (row_cells first n) (d ∷ []) x y) ∙ h)) [
      | inl e ↦ let r = in_row_from_listed first n x y e in record { is_row = r.is_row; from = r.from; to = omega (arith, ints) }
      | inr e ↦
          let same = same_place x y d e in
          let by_x : x ≡ first.x +ℤ pos n = ap (λ (c : Cell). c.x) same in
          record { is_row = ap (λ (c : Cell). c.y) same; from = omega (arith, ints); to = omega (arith, ints) }
    ]

last_or_before : (first x : ℤ) (n : ℕ) → x <ℤ (first +ℤ pos (suc n)) → (x <ℤ (first +ℤ pos n)) ⊎ (x ≡ first +ℤ pos n)
last_or_before first x n to = elim (cases_below x (first +ℤ pos n)) [ inl h ↦ inl h | inr h ↦ inr (omega (arith, ints)) ]

listed_from_in_row : (first : Cell) (n : ℕ) (x y : ℤ) → IsInRow first n x y → listed (row_cells first n) x y ≡ true
listed_from_in_row first zero x y h = absurd (omega (arith, ints))
listed_from_in_row first (suc n) x y h =
    let d : Cell = along first n in
    listed-append_at (row_cells first n) (d ∷ []) x y ∙ elim (last_or_before first.x x n h.to) [
      | inl l ↦ or_left _ _ (listed_from_in_row first n x y (record { is_row = h.is_row; from = h.from; to = l }))
      | inr e ↦ or_right _ _ (or_left _ _ (let same : cell x y ≡ d = (λ i. record { y = h.is_row i; x = e i }) in subst (λ (c : Cell). same_cell c d ≡ true) (sym same) (same_cell-itself d)))
    ]

-- ---- one more item

-- the cells of these items, in order, all before the cursor
pub record IsDrawn (place : Cell) (items : List Item) (cells : List Cell) : Type 0 where
  pub are_cells : AreCells place items (listed cells)
  pub rising : IsRising cells
  pub before : AreBefore cells (cursor_behind place items)
  pub count : length cells ≡ live items

pub drawn_none : (place : Cell) → IsDrawn place [] []
drawn_none place = record {
  are_cells = record { made = λ x y h. cc; all = λ x y m. absurd (no_item m.before (record { count = m.count; tag = Alive }) m.after m.split) };
  rising = rising-none;
  before = tt;
  count = refl;
}

-- where the cursor goes with one more item
cursor_down : (place : Cell) (items : List Item) (i : Item) → i.tag ≡ RowEnd → (cursor_behind place (items ++ (i ∷ []))).y ≡ (cursor_behind place items).y +ℤ pos i.count
cursor_down place items i t =
    let down : rows_of i ≡ i.count = rw (ap is_row_end t) refl in
    omega (arith, ints, rows_push items i)

module _ (place : Cell) (items : List Item) (i : Item) (no_end : is_row_end i.tag ≡ false) where
  cursor_level : (cursor_behind place (items ++ (i ∷ []))).y ≡ (cursor_behind place items).y
  cursor_level =
      let no_rows : rows_of i ≡ 0 = rw no_end refl in
      omega (arith, ints, rows_push items i)

  cursor_right : (cursor_behind place (items ++ (i ∷ []))).x ≡ (cursor_behind place items).x +ℤ pos i.count
  cursor_right = omega (arith, ints, columns_push_other items i no_end)

-- an item with no live cell
drawn_dead : (place : Cell) (items : List Item) (i : Item) (cells : List Cell) → is_alive i.tag ≡ false
    → ((e : Cell) → cell_cmp e (cursor_behind place items) ≡ Less → cell_cmp e (cursor_behind place (items ++ (i ∷ []))) ≡ Less)
    → IsDrawn place items cells → IsDrawn place (items ++ (i ∷ [])) (cells ++ item_cells (cursor_behind place items) i)
drawn_dead place items i cells dead later h =
    let first : Cell = cursor_behind place items in
    let same : cells ++ item_cells first i ≡ cells = ap (λ b. cells ++ (if b then row_cells first i.count else [])) dead ∙ append-nil cells in
    let none : (if is_alive i.tag then i.count else 0) ≡ 0 = rw dead refl in
    subst (λ (cs : List Cell). IsDrawn place (items ++ (i ∷ [])) cs) (sym same) (record {
      are_cells = record {
        made = λ x y l. made_push_old place items i x y (h.are_cells.made x y l);
        all = λ x y m. elim (made_push_cases place items i x y m) [
          | inl old ↦ h.are_cells.all x y old
          | inr new ↦ absurd (let lives = ap is_alive new.alive in cc)
        ];
      };
      rising = h.rising;
      before = all_weaker (λ e. cell_cmp e first ≡ Less) (λ e. cell_cmp e (cursor_behind place (items ++ (i ∷ []))) ≡ Less) later cells h.before;
      count = let l = h.count in omega (arith, live_push items i);
    })

drawn_alive : (place : Cell) (items : List Item) (i : Item) (cells : List Cell) → i.tag ≡ Alive
    → IsDrawn place items cells → IsDrawn place (items ++ (i ∷ [])) (cells ++ item_cells (cursor_behind place items) i)
drawn_alive place items i cells alive h =
    let first : Cell = cursor_behind place items in
    let lives : is_alive i.tag ≡ true = ap is_alive alive in
    let no_end : is_row_end i.tag ≡ false = ap is_row_end alive in
    let all_live : (if is_alive i.tag then i.count else 0) ≡ i.count = rw lives refl in
    let row : List Cell = row_cells first i.count in
    let same : cells ++ item_cells first i ≡ cells ++ row = ap (λ b. cells ++ (if b then row_cells first i.count else [])) lives in
    let rises = row_rises cells first i.count (record { rising = h.rising; before = h.before }) in
    subst (λ (cs : List Cell). IsDrawn place (items ++ (i ∷ [])) cs) (sym same) (record {
      are_cells = record {
        made = λ x y l. elim (or_cases _ _ (sym (listed-append_at cells row x y) ∙ l)) [
          | inl old ↦ made_push_old place items i x y (h.are_cells.made x y old)
          | inr new ↦
              let r = in_row_from_listed first i.count x y new in
              made_push_new place items i x y (record { alive = alive; row = r.is_row; from = r.from; to = omega (arith, ints, r.to) })
        ];
        all = λ x y m. listed-append_at cells row x y ∙ elim (made_push_cases place items i x y m) [
          | inl old ↦ or_left _ _ (h.are_cells.all x y old)
          | inr new ↦ or_right _ _ (listed_from_in_row first i.count x y (record { is_row = new.row; from = new.from; to = omega (arith, ints, new.to) }))
        ];
      };
      rising = rises.rising;
      before = same_before (cells ++ row) (along first i.count) (cursor_behind place (items ++ (i ∷ []))) (sym (cursor_right place items i no_end)) (sym (cursor_level place items i no_end)) rises.before;
      count = let l = h.count in omega (arith, live_push items i, length-append cells row, length_row first i.count);
    })

drawn_by_tag : (place : Cell) (items : List Item) (i : Item) (cells : List Cell) → 0 < i.count
    → IsDrawn place items cells → (tag : Tag) → i.tag ≡ tag → IsDrawn place (items ++ (i ∷ [])) (cells ++ item_cells (cursor_behind place items) i)
drawn_by_tag place items i cells some h Dead t =
    let no_end : is_row_end i.tag ≡ false = ap is_row_end t in
    let from : Cell = cursor_behind place items in
    let to : Cell = cursor_behind place (items ++ (i ∷ [])) in
    let right : to.x ≡ from.x +ℤ pos i.count = cursor_right place items i no_end in
    drawn_dead place items i cells (ap is_alive t) (λ e b. subst (λ (y : ℤ). cell_cmp e (cell to.x y) ≡ Less) (sym (cursor_level place items i no_end)) (later_column from.x to.x from.y e (omega (arith, ints)) b)) h
drawn_by_tag place items i cells some h RowEnd t =
    let from : Cell = cursor_behind place items in
    let to : Cell = cursor_behind place (items ++ (i ∷ [])) in
    let down : to.y ≡ from.y +ℤ pos i.count = cursor_down place items i t in
    drawn_dead place items i cells (ap is_alive t) (λ e b. later_row from.x from.y to.x to.y e (omega (arith, ints)) b) h
drawn_by_tag place items i cells some h Alive t = drawn_alive place items i cells t h

pub drawn_push : (place : Cell) (items : List Item) (i : Item) (cells : List Cell) → 0 < i.count
    → IsDrawn place items cells → IsDrawn place (items ++ (i ∷ [])) (cells ++ item_cells (cursor_behind place items) i)
drawn_push place items i cells some h = drawn_by_tag place items i cells some h i.tag refl

-- ---- items make one set of cells

pub same_cells : (place : Cell) (items : List Item) (s t : Plane) → AreCells place items s → AreCells place items t → s ≡ t
same_cells place items s t p q = same_plane s t (λ x y. both_ways (s x y) (t x y) (λ h. q.all x y (p.made x y h)) (λ h. p.all x y (q.made x y h)))
