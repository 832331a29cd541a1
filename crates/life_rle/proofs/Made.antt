-- What one more item at the end makes.
use Rattle.std.specs.Prelude.{◌≡◌, ℕ, ◌+◌, ◌<◌, false, ◌⊎◌, ℤ, pos, ◌+ℤ◌, ◌≤ℤ◌, ◌<ℤ◌, List, [], ◌∷◌, ◌++◌, if◌then◌else◌}
use Rattle.std.proofs.Common.{refl, ap, ◌∙◌, inl, inr, arith, zero, suc, subst}
use Rattle.std.proofs.lemmas.List.{append-nil, append_assoc}
use Rattle.std.proofs.lemmas.Int.{ints}
use Rattle.life_plane.specs.Plane.{Plane}
use Rattle.life_cells.specs.declared.cell.Cell.{Cell}
use Rattle.rle_items.specs.declared.item.Item.{Item}
use Rattle.rle_items.specs.declared.item.Tag.{Tag}
use Rattle.rle_items.specs.declared.item.Tag.TheVariants.{Alive, RowEnd}
use Rattle.rle_items.specs.Items.{is_row_end, is_alive, rows, columns, IsMade, AreCells}
use Rattle.rle_items.specs.ItemLaws.{rows_push, columns_push_end, columns_push_other, made_push_new, made_push_cases, no_item}
use Rattle.life_rle.specs.Drawn.{some_of}

-- ---- with some items at the end

pub rows-some_ended : (is : List Item) (n : ℕ) → rows (is ++ some_of n RowEnd) ≡ rows is + n
rows-some_ended is zero = ap rows (append-nil is) ∙ omega arith
rows-some_ended is (suc n) = rows_push is (record { count = suc n; tag = RowEnd })

pub rows-some_longer : (is : List Item) (n : ℕ) (t : Tag) → is_row_end t ≡ false → rows (is ++ some_of n t) ≡ rows is
rows-some_longer is zero t h = ap rows (append-nil is)
rows-some_longer is (suc n) t h = rows_push is (record { count = suc n; tag = t }) ∙ ap (λ b. rows is + (if b then suc n else 0)) h ∙ omega arith

pub columns-some_longer : (is : List Item) (n : ℕ) (t : Tag) → is_row_end t ≡ false → columns (is ++ some_of n t) ≡ columns is + n
columns-some_longer is zero t h = ap columns (append-nil is) ∙ omega arith
columns-some_longer is (suc n) t h = columns_push_other is (record { count = suc n; tag = t }) h

pub columns-some_ended : (is : List Item) (n : ℕ) → 0 < n → columns (is ++ some_of n RowEnd) ≡ 0
columns-some_ended is zero p = absurd (omega arith)
columns-some_ended is (suc n) p = columns_push_end is (record { count = suc n; tag = RowEnd }) refl

-- ---- cells

abbrev live_item : ℕ → Item
live_item n = record { count = n; tag = Alive }

-- the cell is one of n live ones behind these items
pub record IsRun (place : Cell) (is : List Item) (n : ℕ) (x y : ℤ) : Type 0 where
  pub row : y ≡ place.y +ℤ pos (rows is)
  pub from : (place.x +ℤ pos (columns is)) ≤ℤ x
  pub to : x <ℤ (place.x +ℤ pos (columns is + n))

pub made_front : (place : Cell) (is js : List Item) (x y : ℤ) → IsMade place is x y → IsMade place (is ++ js) x y
made_front place is js x y m = record {
  before = m.before;
  count = m.count;
  after = m.after ++ js;
  split = ap (λ (l : List Item). l ++ js) m.split ∙ append_assoc m.before (live_item m.count ∷ m.after) js;
  row = m.row;
  from = m.from;
  to = m.to;
}

pub made_last : (place : Cell) (is : List Item) (n : ℕ) (x y : ℤ) → IsRun place is n x y → IsMade place (is ++ (live_item n ∷ [])) x y
made_last place is n x y r = made_push_new place is (live_item n) x y (record { alive = refl; row = r.row; from = r.from; to = r.to })

-- what is made with one more item is made without it, or by it
pub made_dead : (place : Cell) (is : List Item) (i : Item) (x y : ℤ) → is_alive i.tag ≡ false → IsMade place (is ++ (i ∷ [])) x y → IsMade place is x y
made_dead place is i x y dead m =
    elim (made_push_cases place is i x y m) [
      | inl old ↦ old
      | inr new ↦ absurd (let lives = ap is_alive new.alive in cc)
    ]

pub made_live : (place : Cell) (is : List Item) (n : ℕ) (x y : ℤ) → IsMade place (is ++ (live_item n ∷ [])) x y → IsMade place is x y ⊎ IsRun place is n x y
made_live place is n x y m =
    elim (made_push_cases place is (live_item n) x y m) [
      | inl old ↦ inl old
      | inr new ↦ inr (record { row = new.row; from = new.from; to = new.to })
    ]

pub made_some_dead : (place : Cell) (is : List Item) (n : ℕ) (t : Tag) (x y : ℤ) → is_alive t ≡ false → IsMade place (is ++ some_of n t) x y → IsMade place is x y
made_some_dead place is zero t x y dead m = let P : List Item → Type 0 = λ js. IsMade place js x y in subst P (append-nil is) m
made_some_dead place is (suc n) t x y dead m = made_dead place is (record { count = suc n; tag = t }) x y dead m

pub made_some_live : (place : Cell) (is : List Item) (n : ℕ) (x y : ℤ) → IsMade place (is ++ some_of n Alive) x y → IsMade place is x y ⊎ IsRun place is n x y
made_some_live place is zero x y m = let P : List Item → Type 0 = λ js. IsMade place js x y in inl (subst P (append-nil is) m)
made_some_live place is (suc n) x y m = made_live place is (suc n) x y m

pub made_some_run : (place : Cell) (is : List Item) (n : ℕ) (x y : ℤ) → IsRun place is n x y → IsMade place (is ++ some_of n Alive) x y
made_some_run place is zero x y r = let a = r.from in let b = r.to in absurd (omega (arith, ints))
made_some_run place is (suc n) x y r = made_last place is (suc n) x y r

-- items that make nothing change no cells
pub cells_same : (place : Cell) (is : List Item) (n : ℕ) (t : Tag) (s : Plane) → is_alive t ≡ false → AreCells place is s → AreCells place (is ++ some_of n t) s
cells_same place is n t s dead c = record {
  made = λ x y h. made_front place is (some_of n t) x y (c.made x y h);
  all = λ x y m. c.all x y (made_some_dead place is n t x y dead m);
}

pub none_made : (place : Cell) (x y : ℤ) → IsMade place [] x y → ⊥
none_made place x y m = no_item m.before (live_item m.count) m.after m.split
