-- Laws of items: what one more item at their end changes.
use Rattle.std.specs.Prelude.{◌≡◌, ℕ, ◌+◌, ◌≤◌, ◌^◌, ◌⊎◌, true, false, ◌||◌, ℤ, pos, ◌+ℤ◌, ◌≤ℤ◌, ◌<ℤ◌, List, [], ◌∷◌, ◌++◌, sum_by, if◌then◌else◌}
use Rattle.std.proofs.Common.{refl, sym, ap, ◌∙◌, subst, inl, inr, arith}
use Rattle.std.proofs.lemmas.List.{append_assoc, append-nil}
use Rattle.std.proofs.lemmas.List.Sums.{sum_by_push}
use Rattle.std.proofs.lemmas.Int.{ints}
use Rattle.std.proofs.lemmas.Bool.{or_right}
use Rattle.std.proofs.Math.Bool.{or-false}
use Rattle.life_cells.specs.declared.cell.Cell.{Cell}
use Rattle.rle_items.specs.declared.item.Item.{Item}
use Rattle.rle_items.specs.declared.item.Tag.TheVariants.{Alive}
use Rattle.rle_items.specs.Items.{is_row_end, is_alive, rows_of, rows, has_row_end, last_row, columns, live, IsMade}
use Rattle.rle_items.specs.Spelling.{SpellsItem, Spells}
use Rattle.rle_items.specs.Reach.{IsInReach, cursor_behind, AreFineFrom}

-- ---- a list with one more element, split

-- a split of a list with one more element at its end: behind that element, or before it
pub record SplitsWithin {A : Type 0} (xs : List A) (a : A) (front back : List A) : Type 0 where
  pub rest : List A
  pub back_is : back ≡ rest ++ (a ∷ [])
  pub split : xs ≡ front ++ rest

pub split_push : {A : Type 0} (xs : List A) (a : A) (front back : List A) → xs ++ (a ∷ []) ≡ front ++ back
    → ((back ≡ []) × (front ≡ xs ++ (a ∷ []))) ⊎ SplitsWithin xs a front back
split_push [] a [] back e = inr (record { rest = []; back_is = sym e; split = refl })
split_push [] a (y ∷ []) [] e = inl (refl, sym e)
split_push [] a (y ∷ []) (b ∷ back) e = cc
split_push [] a (y ∷ z ∷ front) back e = cc
split_push (x ∷ xs) a [] back e = inr (record { rest = x ∷ xs; back_is = sym e; split = refl })
split_push (x ∷ xs) a (y ∷ front) back e =
    let tail : xs ++ (a ∷ []) ≡ front ++ back = cc in
    let head : x ≡ y = cc in
    elim (split_push xs a front back tail) [
      | inl h ↦ inl (h.0, let f = h.1 in cc)
      | inr h ↦ inr (record { rest = h.rest; back_is = h.back_is; split = let s = h.split in cc })
    ]

-- ---- rows, columns, live cells

pub rows_push : (items : List Item) (i : Item) → rows (items ++ (i ∷ [])) ≡ rows items + rows_of i
rows_push items i = sum_by_push rows_of items i

pub live_push : (items : List Item) (i : Item) → live (items ++ (i ∷ [])) ≡ live items + (if is_alive i.tag then i.count else 0)
live_push items i = sum_by_push (λ (j : Item). if is_alive j.tag then j.count else 0) items i

has_row_end_push : (items : List Item) (i : Item) → has_row_end (items ++ (i ∷ [])) ≡ (has_row_end items || is_row_end i.tag)
has_row_end_push [] i = or-false (is_row_end i.tag)
has_row_end_push (j ∷ items) i =
    elim (is_row_end j.tag) as (λ b. (b || has_row_end (items ++ (i ∷ []))) ≡ ((b || has_row_end items) || is_row_end i.tag)) [ true ↦ refl | false ↦ has_row_end_push items i ]

-- an end of a row begins a row with no item
last_row_push_end : (items : List Item) (i : Item) → is_row_end i.tag ≡ true → last_row (items ++ (i ∷ [])) ≡ []
last_row_push_end [] i h = rw h refl
last_row_push_end (j ∷ items) i h =
    let ends : (is_row_end j.tag || has_row_end (items ++ (i ∷ []))) ≡ true = or_right _ _ (has_row_end_push items i ∙ or_right _ _ h) in
    rw ends (last_row_push_end items i h)

last_row_push_other : (items : List Item) (i : Item) → is_row_end i.tag ≡ false → last_row (items ++ (i ∷ [])) ≡ last_row items ++ (i ∷ [])
last_row_push_other [] i h = rw h refl
last_row_push_other (j ∷ items) i h =
    let same : has_row_end (items ++ (i ∷ [])) ≡ has_row_end items = has_row_end_push items i ∙ ap (λ b. has_row_end items || b) h ∙ or-false (has_row_end items) in
    rw same (elim (is_row_end j.tag || has_row_end items) as
    (λ b. (if b then last_row (items ++ (i ∷ [])) else (j ∷ (items ++ (i ∷ [])))) ≡ (if b then last_row items else (j ∷ items)) ++ (i ∷ []))
    [ true ↦ last_row_push_other items i h | false ↦ refl ])

pub columns_push_end : (items : List Item) (i : Item) → is_row_end i.tag ≡ true → columns (items ++ (i ∷ [])) ≡ 0
columns_push_end items i h = ap (λ (is : List Item). sum_by (λ (j : Item). j.count) is) (last_row_push_end items i h)

pub columns_push_other : (items : List Item) (i : Item) → is_row_end i.tag ≡ false → columns (items ++ (i ∷ [])) ≡ columns items + i.count
columns_push_other items i h =
    ap (λ (is : List Item). sum_by (λ (j : Item). j.count) is) (last_row_push_other items i h) ∙ sum_by_push (λ (j : Item). j.count) (last_row items) i

-- ---- fine items

none_in_front : (front back : List Item) → [] ≡ front ++ back → front ≡ []
none_in_front [] back e = refl
none_in_front (i ∷ front) back e = cc

-- where no item goes, the cursor is at the place
pub reach_of_none : (place : Cell) → IsInReach (cursor_behind place []) → IsInReach place
reach_of_none place h = same_reach (cursor_behind place []) place (omega (arith, ints)) (omega (arith, ints)) h
  where
    same_reach : (c d : Cell) → c.x ≡ d.x → c.y ≡ d.y → IsInReach c → IsInReach d
    same_reach c d x y h = let same : c ≡ d = (λ i. record { y = y i; x = x i }) in subst IsInReach same h

pub reach_at_place : (place : Cell) → IsInReach place → IsInReach (cursor_behind place [])
reach_at_place place h = subst IsInReach (λ i. record { y = y i; x = x i }) h
  where
    x : place.x ≡ place.x +ℤ pos (columns [])
    x = omega (arith, ints)

    y : place.y ≡ place.y +ℤ pos (rows [])
    y = omega (arith, ints)

pub fine_none : (place : Cell) → IsInReach place → AreFineFrom place []
fine_none place h = record {
  near = λ front back e. subst (λ (is : List Item). IsInReach (cursor_behind place is)) (sym (none_in_front front back e)) (reach_at_place place h);
  few = λ front back e. subst (λ (is : List Item). live is ≤ 2 ^ 18) (sym (none_in_front front back e)) (omega arith);
}

pub fine_push : (place : Cell) (items : List Item) (i : Item) → AreFineFrom place items → IsInReach (cursor_behind place (items ++ (i ∷ []))) → live (items ++ (i ∷ [])) ≤ 2 ^ 18 → AreFineFrom place (items ++ (i ∷ []))
fine_push place items i fine near few = record {
  near = λ front back e. elim (split_push items i front back e) [ inl h ↦ subst (λ (is : List Item). IsInReach (cursor_behind place is)) (sym h.1) near | inr h ↦ fine.near front h.rest h.split ];
  few = λ front back e. elim (split_push items i front back e) [ inl h ↦ subst (λ (is : List Item). live is ≤ 2 ^ 18) (sym h.1) few | inr h ↦ fine.few front h.rest h.split ];
}

-- ---- spelled items

pub spells_push : (Gap : List ℕ → Type 0) (front first : List ℕ) (items : List Item) (item : Item) → Spells Gap front items → SpellsItem Gap first item → Spells Gap (front ++ first) (items ++ (item ∷ []))
spells_push Gap front first [] item h s = (first, ([], (ap (λ bs. bs ++ first) h ∙ sym (append-nil first), (s, refl))))
spells_push Gap front first (j ∷ items) item h s =
    (h.0, (h.1.0 ++ first, (ap (λ bs. bs ++ first) h.1.1.0 ∙ append_assoc h.0 h.1.0 first, (h.1.1.1.0, spells_push Gap h.1.0 first items item h.1.1.1.1 s))))

-- ---- the cells that items make

-- no items have none among them
pub no_item : (before : List Item) (i : Item) (after : List Item) → [] ≡ before ++ (i ∷ after) → ⊥
no_item [] i after e = cc
no_item (j ∷ before) i after e = cc

pub made_push_old : (place : Cell) (items : List Item) (i : Item) (x y : ℤ) → IsMade place items x y → IsMade place (items ++ (i ∷ [])) x y
made_push_old place items i x y m = record {
  before = m.before;
  count = m.count;
  after = m.after ++ (i ∷ []);
  split = ap (λ (is : List Item). is ++ (i ∷ [])) m.split ∙ append_assoc m.before _ (i ∷ []);
  row = m.row;
  from = m.from;
  to = m.to;
}

-- the cell is one that this item makes behind those
pub record IsMadeBy (place : Cell) (items : List Item) (i : Item) (x y : ℤ) : Type 0 where
  pub alive : i.tag ≡ Alive
  pub row : y ≡ place.y +ℤ pos (rows items)
  pub from : (place.x +ℤ pos (columns items)) ≤ℤ x
  pub to : x <ℤ (place.x +ℤ pos (columns items + i.count))

pub made_push_new : (place : Cell) (items : List Item) (i : Item) (x y : ℤ) → IsMadeBy place items i x y → IsMade place (items ++ (i ∷ [])) x y
made_push_new place items i x y m = record {
  before = items;
  count = i.count;
  after = [];
  split = ap (λ (j : Item). items ++ (j ∷ [])) (λ k. record { count = i.count; tag = m.alive k });
  row = m.row;
  from = m.from;
  to = m.to;
}

made_cases : (place : Cell) (items : List Item) (i : Item) (x y : ℤ) (m : IsMade place (items ++ (i ∷ [])) x y) (rest : List Item)
    → items ≡ m.before ++ rest → ◌≡◌ {A = List Item} (record { count = m.count; tag = Alive } ∷ m.after) (rest ++ (i ∷ [])) → IsMade place items x y ⊎ IsMadeBy place items i x y
made_cases place items i x y m [] e back =
    let same : items ≡ m.before = e ∙ append-nil m.before in
    let item : record { count = m.count; tag = Alive } ≡ i = cc in
    let number : m.count ≡ i.count = ap (λ (j : Item). j.count) item in
    inr (record {
      alive = sym (ap (λ (j : Item). j.tag) item);
      row = m.row ∙ ap (λ (is : List Item). place.y +ℤ pos (rows is)) (sym same);
      from = subst (λ (is : List Item). (place.x +ℤ pos (columns is)) ≤ℤ x) (sym same) m.from;
      to = subst (λ (is : List Item). x <ℤ (place.x +ℤ pos (columns is + i.count))) (sym same) (subst (λ n. x <ℤ (place.x +ℤ pos (columns m.before + n))) number m.to);
    })
made_cases place items i x y m (j ∷ rest) e back =
    let item : record { count = m.count; tag = Alive } ≡ j = cc in
    inl (record {
      before = m.before;
      count = m.count;
      after = rest;
      split = e ∙ ap (λ (k : Item). m.before ++ (k ∷ rest)) (sym item);
      row = m.row;
      from = m.from;
      to = m.to;
    })

pub made_push_cases : (place : Cell) (items : List Item) (i : Item) (x y : ℤ) → IsMade place (items ++ (i ∷ [])) x y → IsMade place items x y ⊎ IsMadeBy place items i x y
made_push_cases place items i x y m =
    elim (split_push items i m.before (record { count = m.count; tag = Alive } ∷ m.after) m.split) [
      | inl h ↦ absurd (let none = h.0 in cc)
      | inr h ↦ made_cases place items i x y m h.rest h.split h.back_is
    ]
