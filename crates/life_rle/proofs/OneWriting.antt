-- A set has one canonical text, and one body word.
use Rattle.std.specs.Prelude.{◌≡◌, ◌≢◌, ℕ, ◌<◌, ◌≤◌, true, false, ◌⊎◌, ℤ, pos, ◌+ℤ◌, ◌≤ℤ◌, ◌<ℤ◌, List, [], ◌∷◌, ◌++◌, if◌then◌else◌, Option, flat_map}
use Rattle.std.proofs.Common.{refl, sym, ap, ◌∙◌, inl, inr, arith, subst}
use Rattle.std.proofs.lemmas.Bool.{cases_lt}
use Rattle.std.proofs.lemmas.Int.{ints}
use Rattle.std.proofs.lemmas.List.{append-nil, append_assoc}
use Rattle.life_plane.specs.Plane.{Plane, nothing}
use Rattle.life_cells.specs.declared.cell.Cell.{Cell}
use Rattle.life_cells.specs.declared.bounds.Bounds.{Bounds}
use Rattle.life_cells.specs.Cells.{cell}
use Rattle.life_cells.specs.Boxes.{IsLeastBox}
use Rattle.life_cells.specs.BoxLaws.{one_least_box}
use Rattle.rle_items.specs.declared.item.Item.{Item}
use Rattle.rle_items.specs.declared.item.Tag.{Tag}
use Rattle.rle_items.specs.declared.item.Tag.TheVariants.{Dead, Alive, RowEnd}
use Rattle.rle_items.specs.Items.{is_row_end, is_alive, rows_of, rows, columns, IsMade, AreCells}
use Rattle.life_rle.specs.Written.{may_follow, IsTidyAfter, IsTidy, IsTidyBody, IsFrame, IsRleText, IsBodyText, place_line, note_line, header_line, folded, pieces}
use Rattle.rle_items.specs.ItemLaws.{rows_push, columns_push_end, columns_push_other}
use Rattle.life_rle.proofs.Made.{made_front, made_last, made_live, made_dead, none_made}

-- ---- what items make from a cursor on

abbrev item_of : ℕ → Tag → Item
item_of n u = record { count = n; tag = u }

-- where an item leaves the cursor
abbrev step_x : ℤ → ℤ → Item → ℤ
step_x left x i = if is_row_end i.tag then left else (x +ℤ pos i.count)

abbrev step_y : ℤ → Item → ℤ
step_y y i = y +ℤ pos (rows_of i)

record InRun (x y : ℤ) (n : ℕ) (px py : ℤ) : Type 0 where
  row : py ≡ y
  from : x ≤ℤ px
  to : px <ℤ (x +ℤ pos n)

abbrev Draws : ℤ → ℤ → ℤ → List Item → ℤ → ℤ → Type 0
Draws left x y [] px py = ⊥
Draws left x y (i ∷ is) px py = ((is_alive i.tag ≡ true) × InRun x y i.count px py) ⊎ Draws left (step_x left x i) (step_y y i) is px py

cursor_x : (place : Cell) (front : List Item) (n : ℕ) (u : Tag) → place.x +ℤ pos (columns (front ++ (item_of n u ∷ []))) ≡ step_x place.x (place.x +ℤ pos (columns front)) (item_of n u)
cursor_x place front n Dead = let e = columns_push_other front (item_of n Dead) refl in omega (arith, ints)
cursor_x place front n Alive = let e = columns_push_other front (item_of n Alive) refl in omega (arith, ints)
cursor_x place front n RowEnd = let e = columns_push_end front (item_of n RowEnd) refl in omega (arith, ints)

cursor_y : (place : Cell) (front : List Item) (i : Item) → place.y +ℤ pos (rows (front ++ (i ∷ []))) ≡ step_y (place.y +ℤ pos (rows front)) i
cursor_y place front i = let e = rows_push front i in omega (arith, ints)

made_step : (place : Cell) (front : List Item) (n : ℕ) (u : Tag) (px py : ℤ) → IsMade place (front ++ (item_of n u ∷ [])) px py
    → IsMade place front px py ⊎ ((is_alive u ≡ true) × InRun (place.x +ℤ pos (columns front)) (place.y +ℤ pos (rows front)) n px py)
made_step place front n Dead px py m = inl (made_dead place front (item_of n Dead) px py refl m)
made_step place front n RowEnd px py m = inl (made_dead place front (item_of n RowEnd) px py refl m)
made_step place front n Alive px py m =
    elim (made_live place front n px py m) [
      | inl old ↦ inl old
      | inr r ↦ let b = r.to in inr (refl, record { row = r.row; from = r.from; to = omega (arith, ints) })
    ]

made_draws : (place : Cell) (front items : List Item) (px py : ℤ) → IsMade place (front ++ items) px py
    → IsMade place front px py ⊎ Draws place.x (place.x +ℤ pos (columns front)) (place.y +ℤ pos (rows front)) items px py
made_draws place front [] px py m = let P : List Item → Type 0 = λ is. IsMade place is px py in inl (subst P (append-nil front) m)
made_draws place front (i ∷ is) px py m =
    let P : List Item → Type 0 = λ js. IsMade place js px py in
    elim (made_draws place (front ++ (i ∷ [])) is px py (subst P (sym (append_assoc front (i ∷ []) is)) m)) [
      | inl before ↦ elim (made_step place front i.count i.tag px py before) [ inl old ↦ inl old | inr here ↦ inr (inl here) ]
      | inr d ↦
          let Q : ℤ → Type 0 = λ x. Draws place.x x (place.y +ℤ pos (rows (front ++ (i ∷ [])))) is px py in
          let R : ℤ → Type 0 = λ y. Draws place.x (step_x place.x (place.x +ℤ pos (columns front)) i) y is px py in
          inr (inr (subst R (cursor_y place front i) (subst Q (cursor_x place front i.count i.tag) d)))
    ]

alive_item : (n : ℕ) (u : Tag) → is_alive u ≡ true → item_of n u ≡ item_of n Alive
alive_item n Dead h = cc
alive_item n Alive h = refl
alive_item n RowEnd h = cc

draws_made : (place : Cell) (front items : List Item) (px py : ℤ) → Draws place.x (place.x +ℤ pos (columns front)) (place.y +ℤ pos (rows front)) items px py → IsMade place (front ++ items) px py
draws_made place front [] px py d = absurd d
draws_made place front (i ∷ is) px py (inl h) =
    let P : List Item → Type 0 = λ js. IsMade place js px py in
    let Q : Item → Type 0 = λ a. IsMade place (front ++ (a ∷ [])) px py in
    let r = h.1 in let b = r.to in
    let here : IsMade place (front ++ (item_of i.count Alive ∷ [])) px py = made_last place front i.count px py (record { row = r.row; from = r.from; to = omega (arith, ints) }) in
    subst P (append_assoc front (i ∷ []) is) (made_front place (front ++ (i ∷ [])) is px py (subst Q (sym (alive_item i.count i.tag h.0)) here))
draws_made place front (i ∷ is) px py (inr d) =
    let P : List Item → Type 0 = λ js. IsMade place js px py in
    let Q : ℤ → Type 0 = λ x. Draws place.x x (place.y +ℤ pos (rows (front ++ (i ∷ [])))) is px py in
    let R : ℤ → Type 0 = λ y. Draws place.x (step_x place.x (place.x +ℤ pos (columns front)) i) y is px py in
    subst P (append_assoc front (i ∷ []) is) (draws_made place (front ++ (i ∷ [])) is px py (subst Q (sym (cursor_x place front i.count i.tag)) (subst R (sym (cursor_y place front i)) d)))

-- ---- where tidy items make cells

-- at a place or ahead of it
abbrev AtOrAhead : ℤ → ℤ → ℤ → ℤ → Type 0
AtOrAhead x y px py = (y <ℤ py) ⊎ ((y ≡ py) × (x ≤ℤ px))

step_right : (left x : ℤ) (n : ℕ) (u : Tag) → left ≤ℤ x → left ≤ℤ step_x left x (item_of n u)
step_right left x n Dead h = omega (arith, ints)
step_right left x n Alive h = omega (arith, ints)
step_right left x n RowEnd h = omega (arith, ints)

step_back : (left x y : ℤ) (n : ℕ) (u : Tag) (px py : ℤ) → 0 < n → AtOrAhead (step_x left x (item_of n u)) (step_y y (item_of n u)) px py → AtOrAhead x y px py
step_back left x y n Dead px py p (inl h) = inl (omega (arith, ints))
step_back left x y n Dead px py p (inr h) = let a = h.0 in let b = h.1 in inr (omega (arith, ints), omega (arith, ints))
step_back left x y n Alive px py p (inl h) = inl (omega (arith, ints))
step_back left x y n Alive px py p (inr h) = let a = h.0 in let b = h.1 in inr (omega (arith, ints), omega (arith, ints))
step_back left x y n RowEnd px py p (inl h) = inl (omega (arith, ints))
step_back left x y n RowEnd px py p (inr h) = let a = h.0 in inl (omega (arith, ints))

ahead : (t : Tag) (left x y : ℤ) (is : List Item) (px py : ℤ) → IsTidyAfter t is → left ≤ℤ x → Draws left x y is px py → AtOrAhead x y px py
ahead t left x y [] px py td h d = absurd d
ahead t left x y (i ∷ is) px py td h (inl r) = inr (sym r.1.row, r.1.from)
ahead t left x y (i ∷ is) px py td h (inr d) = step_back left x y i.count i.tag px py td.1.0 (ahead i.tag left (step_x left x i) (step_y y i) is px py td.1.1 (step_right left x i.count i.tag h) d)

first_of_run : (x y : ℤ) (n : ℕ) → 0 < n → InRun x y n x y
first_of_run x y n p = record { row = refl; from = omega (arith, ints); to = omega (arith, ints) }

dead_is_followed : (n : ℕ) (u : Tag) → may_follow Dead u ≡ true → is_alive u ≡ true
dead_is_followed n Dead h = cc
dead_is_followed n Alive h = refl
dead_is_followed n RowEnd h = cc

-- behind dead cells a live one follows at once
after_dead : (left x y : ℤ) (is : List Item) → IsTidyAfter Dead is → Draws left x y is x y
after_dead left x y [] t = cc
after_dead left x y (i ∷ is) t = inl (dead_is_followed i.count i.tag t.0, first_of_run x y i.count t.1.0)

-- in a row that is begun some cell lives
record LivesInRow (left x y : ℤ) (is : List Item) : Type 0 where
  px : ℤ
  here : Draws left x y is px y

row_lives : (left x y : ℤ) (is : List Item) (n : ℕ) (u : Tag) → may_follow RowEnd u ≡ true → 0 < n → IsTidyAfter u is → LivesInRow left x y (item_of n u ∷ is)
row_lives left x y is n Dead f p t =
    let D : ℤ → Type 0 = λ v. Draws left (x +ℤ pos n) v is (x +ℤ pos n) y in
    let same : y ≡ y +ℤ pos 0 = omega (arith, ints) in
    record { px = x +ℤ pos n; here = inr (subst D same (after_dead left (x +ℤ pos n) y is t)) }
row_lives left x y is n Alive f p t = record { px = x; here = inl (refl, first_of_run x y n p) }
row_lives left x y is n RowEnd f p t = cc

after_row_end : (left x y : ℤ) (is : List Item) → IsTidyAfter RowEnd is → LivesInRow left x y is
after_row_end left x y [] t = cc
after_row_end left x y (i ∷ is) t = row_lives left x y is i.count i.tag t.0 t.1.0 t.1.1

-- a cell behind a live run isn't right behind it
beyond_step : (left x y : ℤ) (is : List Item) (n : ℕ) (u : Tag) (px py : ℤ) → may_follow Alive u ≡ true → 0 < n → IsTidyAfter u is → left ≤ℤ x → Draws left x y (item_of n u ∷ is) px py → (y <ℤ py) ⊎ ((y ≡ py) × (x <ℤ px))
beyond_step left x y is n Dead px py f p t h (inl r) = cc (r.0)
beyond_step left x y is n Dead px py f p t h (inr d) =
    elim (ahead Dead left (x +ℤ pos n) (y +ℤ pos 0) is px py t (omega (arith, ints)) d) [ inl below ↦ inl (omega (arith, ints)) | inr row ↦ let a = row.0 in let b = row.1 in inr (omega (arith, ints), omega (arith, ints)) ]
beyond_step left x y is n Alive px py f p t h d = cc
beyond_step left x y is n RowEnd px py f p t h (inl r) = cc (r.0)
beyond_step left x y is n RowEnd px py f p t h (inr d) =
    let same : left ≤ℤ left = omega (arith, ints) in
    elim (ahead RowEnd left left (y +ℤ pos n) is px py t same d) [ inl below ↦ inl (omega (arith, ints)) | inr row ↦ let a = row.0 in inl (omega (arith, ints)) ]

beyond : (left x y : ℤ) (is : List Item) (px py : ℤ) → IsTidyAfter Alive is → left ≤ℤ x → Draws left x y is px py → (y <ℤ py) ⊎ ((y ≡ py) × (x <ℤ px))
beyond left x y [] px py t h d = absurd d
beyond left x y (i ∷ is) px py t h d = beyond_step left x y is i.count i.tag px py t.0 t.1.0 t.1.1 h d

-- ---- two lists of tidy items that make the same cells

abbrev Within : ℤ → ℤ → ℤ → List Item → List Item → Type 0
Within left x y is js = (px py : ℤ) → Draws left x y is px py → Draws left x y js px py

-- some cell of a tidy item and those behind it
record Lives (left x y : ℤ) (is : List Item) : Type 0 where
  px : ℤ
  py : ℤ
  here : Draws left x y is px py

lives : (left x y : ℤ) (is : List Item) (n : ℕ) (u : Tag) → 0 < n → IsTidyAfter u is → Lives left x y (item_of n u ∷ is)
lives left x y is n Dead p t = record { px = x +ℤ pos n; py = y +ℤ pos 0; here = inr (after_dead left (x +ℤ pos n) (y +ℤ pos 0) is t) }
lives left x y is n Alive p t = record { px = x; py = y; here = inl (refl, first_of_run x y n p) }
lives left x y is n RowEnd p t = let r = after_row_end left left (y +ℤ pos n) is t in record { px = r.px; py = y +ℤ pos n; here = inr r.here }

-- the cells behind a first item, where both lists begin with it
within_rest : (left x y : ℤ) (n : ℕ) (u : Tag) (is js : List Item) → is_alive u ≡ false → Within left x y (item_of n u ∷ is) (item_of n u ∷ js)
    → Within left (step_x left x (item_of n u)) (step_y y (item_of n u)) is js
within_rest left x y n u is js dead w px py d = elim (w px py (inr d)) [ inl r ↦ absurd (cc (r.0, dead)) | inr e ↦ e ]

within_run : (left x y : ℤ) (n : ℕ) (is js : List Item) → IsTidyAfter Alive is → left ≤ℤ x → Within left x y (item_of n Alive ∷ is) (item_of n Alive ∷ js) → Within left (x +ℤ pos n) (y +ℤ pos 0) is js
within_run left x y n is js t h w px py d =
    elim (w px py (inr d)) [
      | inl r ↦
          let row = r.1.row in let to = r.1.to in
          elim (beyond left (x +ℤ pos n) (y +ℤ pos 0) is px py t (omega (arith, ints)) d) [ inl below ↦ absurd (omega (arith, ints)) | inr further ↦ let b = further.1 in absurd (omega (arith, ints)) ]
      | inr e ↦ e
    ]

-- no item begins further than the other's first cell
not_longer_dead : (left x y : ℤ) (n m : ℕ) (is js : List Item) → 0 < m → IsTidyAfter Dead is → IsTidyAfter Dead js → left ≤ℤ x → Within left x y (item_of n Dead ∷ is) (item_of m Dead ∷ js) → m ≤ n
not_longer_dead left x y n m is js p t v h w =
    let here = w (x +ℤ pos n) (y +ℤ pos 0) (inr (after_dead left (x +ℤ pos n) (y +ℤ pos 0) is t)) in
    elim here [
      | inl r ↦ cc (r.0)
      | inr d ↦ elim (ahead Dead left (x +ℤ pos m) (y +ℤ pos 0) js (x +ℤ pos n) (y +ℤ pos 0) v (omega (arith, ints)) d) [ inl below ↦ absurd (omega (arith, ints)) | inr row ↦ let b = row.1 in omega (arith, ints) ]
    ]

not_longer_end : (left x y : ℤ) (n m : ℕ) (is js : List Item) → IsTidyAfter RowEnd is → IsTidyAfter RowEnd js → Within left x y (item_of n RowEnd ∷ is) (item_of m RowEnd ∷ js) → m ≤ n
not_longer_end left x y n m is js t v w =
    let r = after_row_end left left (y +ℤ pos n) is t in
    let same : left ≤ℤ left = omega (arith, ints) in
    elim (w r.px (y +ℤ pos n) (inr r.here)) [
      | inl e ↦ cc (e.0)
      | inr d ↦ elim (ahead RowEnd left left (y +ℤ pos m) js r.px (y +ℤ pos n) v same d) [ inl below ↦ omega (arith, ints) | inr row ↦ let a = row.0 in omega (arith, ints) ]
    ]

not_longer_run : (left x y : ℤ) (n m : ℕ) (is js : List Item) → IsTidyAfter Alive js → left ≤ℤ x → Within left x y (item_of n Alive ∷ is) (item_of m Alive ∷ js) → n ≤ m
not_longer_run left x y n m is js v h w =
    elim (cases_lt m n) [
      | inl less ↦
          elim (w (x +ℤ pos m) y (inl (refl, record { row = refl; from = omega (arith, ints); to = omega (arith, ints) }))) [
            | inl r ↦ let to = r.1.to in absurd (omega (arith, ints))
            | inr d ↦ elim (beyond left (x +ℤ pos m) (y +ℤ pos 0) js (x +ℤ pos m) y v (omega (arith, ints)) d) [ inl below ↦ absurd (omega (arith, ints)) | inr further ↦ let b = further.1 in absurd (omega (arith, ints)) ]
          ]
      | inr most ↦ most
    ]

-- a live item, or a dead one, is no other
not_alive_dead : (left x y : ℤ) (n m : ℕ) (is js : List Item) → 0 < n → 0 < m → IsTidyAfter Dead js → left ≤ℤ x → Within left x y (item_of n Alive ∷ is) (item_of m Dead ∷ js) → ⊥
not_alive_dead left x y n m is js p q v h w =
    elim (w x y (inl (refl, first_of_run x y n p))) [
      | inl r ↦ cc (r.0)
      | inr d ↦ elim (ahead Dead left (x +ℤ pos m) (y +ℤ pos 0) js x y v (omega (arith, ints)) d) [ inl below ↦ absurd (omega (arith, ints)) | inr row ↦ let b = row.1 in absurd (omega (arith, ints)) ]
    ]

not_in_row_end : (left x y : ℤ) (m : ℕ) (js : List Item) (px : ℤ) → 0 < m → IsTidyAfter RowEnd js → Draws left x y (item_of m RowEnd ∷ js) px y → ⊥
not_in_row_end left x y m js px q v (inl r) = cc (r.0)
not_in_row_end left x y m js px q v (inr d) =
    let same : left ≤ℤ left = omega (arith, ints) in
    elim (ahead RowEnd left left (y +ℤ pos m) js px y v same d) [ inl below ↦ absurd (omega (arith, ints)) | inr row ↦ let a = row.0 in absurd (omega (arith, ints)) ]

abbrev Rest : ℤ → ℤ → ℤ → ℕ → Tag → List Item → List Item → Type 0
Rest left x y n u is js = Within left (step_x left x (item_of n u)) (step_y y (item_of n u)) is js

-- two first items are one, and so the same cells are made behind them
record BeginAsOne (left x y : ℤ) (n m : ℕ) (u v : Tag) (is js : List Item) : Type 0 where
  count : n ≡ m
  tag : u ≡ v
  there : Rest left x y n u is js
  back : Rest left x y n u js is

begin_as_one : (left x y : ℤ) (n m : ℕ) (u v : Tag) (is js : List Item) → 0 < n → 0 < m → IsTidyAfter u is → IsTidyAfter v js → left ≤ℤ x
    → Within left x y (item_of n u ∷ is) (item_of m v ∷ js) → Within left x y (item_of m v ∷ js) (item_of n u ∷ is) → BeginAsOne left x y n m u v is js
begin_as_one left x y n m Dead Dead is js p q t v h w b =
    let one = not_longer_dead left x y n m is js q t v h w in
    let other = not_longer_dead left x y m n js is p v t h b in
    let e : n ≡ m = omega arith in
    let W : ℕ → Type 0 = λ k. Within left x y (item_of n Dead ∷ is) (item_of k Dead ∷ js) in
    let B : ℕ → Type 0 = λ k. Within left x y (item_of k Dead ∷ js) (item_of n Dead ∷ is) in
    record { count = e; tag = refl; there = within_rest left x y n Dead is js refl (subst W (sym e) w); back = within_rest left x y n Dead js is refl (subst B (sym e) b) }
begin_as_one left x y n m RowEnd RowEnd is js p q t v h w b =
    let one = not_longer_end left x y n m is js t v w in
    let other = not_longer_end left x y m n js is v t b in
    let e : n ≡ m = omega arith in
    let W : ℕ → Type 0 = λ k. Within left x y (item_of n RowEnd ∷ is) (item_of k RowEnd ∷ js) in
    let B : ℕ → Type 0 = λ k. Within left x y (item_of k RowEnd ∷ js) (item_of n RowEnd ∷ is) in
    record { count = e; tag = refl; there = within_rest left x y n RowEnd is js refl (subst W (sym e) w); back = within_rest left x y n RowEnd js is refl (subst B (sym e) b) }
begin_as_one left x y n m Alive Alive is js p q t v h w b =
    let one = not_longer_run left x y n m is js v h w in
    let other = not_longer_run left x y m n js is t h b in
    let e : n ≡ m = omega arith in
    let W : ℕ → Type 0 = λ k. Within left x y (item_of n Alive ∷ is) (item_of k Alive ∷ js) in
    let B : ℕ → Type 0 = λ k. Within left x y (item_of k Alive ∷ js) (item_of n Alive ∷ is) in
    record { count = e; tag = refl; there = within_run left x y n is js t h (subst W (sym e) w); back = within_run left x y n js is v h (subst B (sym e) b) }
begin_as_one left x y n m Alive Dead is js p q t v h w b = absurd (not_alive_dead left x y n m is js p q v h w)
begin_as_one left x y n m Dead Alive is js p q t v h w b = absurd (not_alive_dead left x y m n js is q p t h b)
begin_as_one left x y n m Alive RowEnd is js p q t v h w b = absurd (not_in_row_end left x y m js x q v (w x y (inl (refl, first_of_run x y n p))))
begin_as_one left x y n m RowEnd Alive is js p q t v h w b = absurd (not_in_row_end left x y n is x p t (b x y (inl (refl, first_of_run x y m q))))
begin_as_one left x y n m Dead RowEnd is js p q t v h w b = let r = row_lives left x y is n Dead refl p t in absurd (not_in_row_end left x y m js r.px q v (w r.px y r.here))
begin_as_one left x y n m RowEnd Dead is js p q t v h w b = let r = row_lives left x y js m Dead refl q v in absurd (not_in_row_end left x y n is r.px p t (b r.px y r.here))

one_list : (t t' : Tag) (left x y : ℤ) (is js : List Item) → IsTidyAfter t is → IsTidyAfter t' js → left ≤ℤ x → Within left x y is js → Within left x y js is → is ≡ js
one_list t t' left x y [] [] a b h w v = refl
one_list t t' left x y [] (j ∷ js) a b h w v = let l = lives left x y js j.count j.tag b.1.0 b.1.1 in absurd (v l.px l.py l.here)
one_list t t' left x y (i ∷ is) [] a b h w v = let l = lives left x y is i.count i.tag a.1.0 a.1.1 in absurd (w l.px l.py l.here)
one_list t t' left x y (i ∷ is) (j ∷ js) a b h w v =
    let o = begin_as_one left x y i.count j.count i.tag j.tag is js a.1.0 b.1.0 a.1.1 b.1.1 h w v in
    let c = o.count in let g = o.tag in
    let rest = one_list i.tag j.tag left (step_x left x i) (step_y y i) is js a.1.1 b.1.1 (step_right left x i.count i.tag h) o.there o.back in
    λ k. record { count = c k; tag = g k } ∷ rest k

-- ---- two texts

within_cells : (place : Cell) (is js : List Item) (s : Plane) → AreCells place is s → AreCells place js s → Within place.x (place.x +ℤ pos 0) (place.y +ℤ pos 0) is js
within_cells place is js s a b px py d =
    elim (made_draws place [] js px py (b.made px py (a.all px py (draws_made place [] is px py d)))) [ inl none ↦ absurd (none_made place px py none) | inr e ↦ e ]

pub tidy_items_are_one : (t t' : Tag) (place : Cell) (is js : List Item) (s : Plane) → IsTidyAfter t is → IsTidyAfter t' js → AreCells place is s → AreCells place js s → is ≡ js
tidy_items_are_one t t' place is js s a b c d = one_list t t' place.x (place.x +ℤ pos 0) (place.y +ℤ pos 0) is js a b (omega (arith, ints)) (within_cells place is js s c d) (within_cells place js is s d c)

-- ---- frames

record SameFrame (place other : Cell) (width width' height height' : ℕ) : Type 0 where
  corner : place ≡ other
  across : width ≡ width'
  down : height ≡ height'

lives_nowhere : {A : Type 0} (box : Bounds) (s : Plane) → s ≡ nothing → IsLeastBox box s → A
lives_nowhere box s none b = absurd (cc (ap (λ (p : Plane). p b.lives.0 b.lives.1.0) none, b.lives.1.1))

same_frame : (s : Plane) (place other : Cell) (width width' height height' : ℕ) → IsFrame s place width height → IsFrame s other width' height' → SameFrame place other width width' height height'
same_frame s place other width width' height height' (inl a) (inl b) = record { corner = a.1.0 ∙ sym b.1.0; across = a.1.1.0 ∙ sym b.1.1.0; down = a.1.1.1 ∙ sym b.1.1.1 }
same_frame s place other width width' height height' (inl a) (inr b) = lives_nowhere b.0 s a.0 b.1.0
same_frame s place other width width' height height' (inr a) (inl b) = lives_nowhere a.0 s b.0 a.1.0
same_frame s place other width width' height height' (inr a) (inr b) =
    let e = one_least_box s a.0 b.0 a.1.0 b.1.0 in
    let left = ap (λ (x : Bounds). x.left) e in let top = ap (λ (x : Bounds). x.top) e in let right = ap (λ (x : Bounds). x.right) e in let bottom = ap (λ (x : Bounds). x.bottom) e in
    let w = a.1.1.1.0 in let w' = b.1.1.1.0 in let h = a.1.1.1.1 in let h' = b.1.1.1.1 in
    record { corner = a.1.1.0 ∙ (λ i. record { y = top i; x = left i }) ∙ sym b.1.1.0; across = omega (arith, ints); down = omega (arith, ints) }

-- ---- the items of a text

one_lives : {A : Type 0} (t : Tag) (place : Cell) (i : Item) (is : List Item) (s : Plane) → IsTidyAfter t (i ∷ is) → AreCells place (i ∷ is) s → AreCells place [] s → A
one_lives t place i is s a c d =
    let l = lives place.x (place.x +ℤ pos 0) (place.y +ℤ pos 0) is i.count i.tag a.1.0 a.1.1 in
    absurd (none_made place l.px l.py (d.made l.px l.py (c.all l.px l.py (draws_made place [] (i ∷ is) l.px l.py l.here))))

none_after : {A : Type 0} (t : Tag) (place : Cell) (is : List Item) (s : Plane) → t ≢ Alive → IsTidyAfter t is → AreCells place is s → AreCells place [] s → A
none_after t place [] s n a c d = absurd (n a)
none_after t place (i ∷ is) s n a c d = one_lives t place i is s a c d

no_end_alive : RowEnd ≢ Alive
no_end_alive e = cc e

same_tidy : (place : Cell) (is js : List Item) (s : Plane) → IsTidy is → IsTidy js → AreCells place is s → AreCells place js s → is ≡ js
same_tidy place is js s (inl a) (inl b) c d = a ∙ sym b
same_tidy place is js s (inl a) (inr b) c d = let P : List Item → Type 0 = λ ks. AreCells place ks s in none_after RowEnd place js s no_end_alive b d (subst P a c)
same_tidy place is js s (inr a) (inl b) c d = let P : List Item → Type 0 = λ ks. AreCells place ks s in none_after RowEnd place is s no_end_alive a c (subst P b d)
same_tidy place is js s (inr a) (inr b) c d = tidy_items_are_one RowEnd RowEnd place is js s a b c d

abbrev text_of_parts : Cell → Option (List ℕ) → ℕ → ℕ → List Item → List ℕ
text_of_parts place note width height items = ((place_line place ++ note_line note) ++ header_line width height) ++ (folded 0 (pieces items) ++ (10 ∷ []))

-- a set has one text
pub one_text : (s : Plane) (note : Option (List ℕ)) (text other : List ℕ) → IsRleText s note text → IsRleText s note other → text ≡ other
one_text s note text other a b =
    let f = same_frame s a.place b.place a.width b.width a.height b.height a.frame b.frame in
    let e = f.corner in let w = f.across in let h = f.down in
    let P : Cell → Type 0 = λ p. AreCells p b.items s in
    let items = same_tidy a.place a.items b.items s a.tidy b.tidy a.cells (subst P (sym e) b.cells) in
    a.whole ∙ (λ i. text_of_parts (e i) note (w i) (h i) (items i)) ∙ sym b.whole

-- ---- body words

same_body : (place : Cell) (is js : List Item) (s : Plane) → IsTidyBody is → IsTidyBody js → AreCells place is s → AreCells place js s → is ≡ js
same_body place is js s (inl a) (inl b) c d = same_tidy place is js s a b c d
same_body place is js s (inl (inr a)) (inr b) c d = tidy_items_are_one RowEnd Alive place is js s a b c d
same_body place is js s (inr a) (inl (inr b)) c d = tidy_items_are_one Alive RowEnd place is js s a b c d
same_body place is js s (inr a) (inr b) c d = tidy_items_are_one Alive Alive place is js s a b c d
same_body place is [] s (inl (inl a)) (inr b) c d = a
same_body place is (j ∷ js) s (inl (inl a)) (inr b) c d = let P : List Item → Type 0 = λ ks. AreCells place ks s in one_lives Alive place j js s b d (subst P a c)
same_body place [] js s (inr a) (inl (inl b)) c d = sym b
same_body place (i ∷ is) js s (inr a) (inl (inl b)) c d = let P : List Item → Type 0 = λ ks. AreCells place ks s in one_lives Alive place i is s a c (subst P b d)

-- a set has one body word
pub one_word : (s : Plane) (word other : List ℕ) → IsBodyText s word → IsBodyText s other → word ≡ other
one_word s word other a b =
    let items = same_body (cell (pos 0) (pos 0)) a.items b.items s a.tidy b.tidy a.cells b.cells in
    a.whole ∙ ap (λ (is : List Item). flat_map (λ (piece : List ℕ). piece) (pieces is)) items ∙ sym b.whole
