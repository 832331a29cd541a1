-- The items of cells that are near and few enough are fine to read.
use Rattle.std.proofs.Common.{◌≡◌, ℕ, ◌+◌, ◌-◌, ◌<◌, ◌≤◌, ◌^◌, true, List, [], ◌∷◌, ◌++◌, length, refl, sym, ap, ◌∙◌, subst, inl, inr, arith, pos, neg_ℤ, ℤ, ◌+ℤ◌, ◌≤ℤ◌, if◌then◌else◌}
use Rattle.std.proofs.lemmas.Int.{ints}
use Rattle.std.proofs.lemmas.List.{append_assoc, append-nil}
use Rattle.std.proofs.lemmas.List.Sums.{sum_by-append}
use Rattle.life_plane.specs.Plane.{Plane}
use Rattle.life_cells.specs.declared.cell.Cell.{Cell}
use Rattle.life_cells.specs.declared.bounds.Bounds.{Bounds}
use Rattle.life_cells.specs.Cells.{IsRising}
use Rattle.life_cells.specs.Boxes.{IsInRange}
use Rattle.life_cells.specs.Listed.{listed}
use Rattle.life_cells.specs.Laws.{same_rising}
use Rattle.rle_items.specs.declared.item.Item.{Item}
use Rattle.rle_items.specs.declared.item.Tag.{Tag}
use Rattle.rle_items.specs.declared.item.Tag.TheVariants.{Dead, Alive, RowEnd}
use Rattle.rle_items.specs.Items.{rows_of, live, is_alive, is_row_end, IsMade, AreCells}
use Rattle.rle_items.specs.ItemLaws.{rows_push, columns_push_end, columns_push_other, live_push}
use Rattle.life_rle.specs.Written.{may_follow, IsTidyAfter, IsTidyBody, IsFrame}
use Rattle.life_rle.specs.Drawn.{AreSmall}
use Rattle.rle_items.specs.Reach.{IsInReach, cursor_behind, AreFineFrom}
use Rattle.rle_items.specs.DrawnLaws.{IsDrawn, drawn_none, drawn_push, same_cells as same_planes}

-- ---- where the cursor of tidy items stands

-- from -2^39 to a step beyond 2^39 in x, and to 2^39 in y
pub record IsNearHalf (c : Cell) : Type 0 where
  pub left : neg_ℤ (pos (2 ^ 39)) ≤ℤ c.x
  pub right : c.x ≤ℤ pos (2 ^ 39 + 1)
  pub top : neg_ℤ (pos (2 ^ 39)) ≤ℤ c.y
  pub bottom : c.y ≤ℤ pos (2 ^ 39)

half_in_reach : (c : Cell) → IsNearHalf c → IsInReach c
half_in_reach c h =
    let l = h.left in let r = h.right in let t = h.top in let b = h.bottom in
    record { x = record { low = omega (arith, ints); high = omega (arith, ints) }; y = record { low = omega (arith, ints); high = omega (arith, ints) } }

item_is : (i : Item) → i.tag ≡ Alive → record { count = i.count; tag = Alive } ≡ i
item_is i t = (λ k. record { count = i.count; tag = sym t k })

-- the cell with this number of a live item
made_at : (place : Cell) (front : List Item) (i : Item) (is : List Item) (n : ℕ) → i.tag ≡ Alive → n < i.count → IsMade place (front ++ (i ∷ is)) ((cursor_behind place front).x +ℤ pos n) (cursor_behind place front).y
made_at place front i is n t l = record {
  before = front;
  count = i.count;
  after = is;
  split = ap (λ (j : Item). front ++ (j ∷ is)) (sym (item_is i t));
  row = refl;
  from = omega (arith, ints);
  to = omega (arith, ints);
}

-- a live cell that is drawn at this row or below
record HasLater (place : Cell) (items : List Item) (y : ℤ) : Type 0 where
  px : ℤ
  py : ℤ
  made : IsMade place items px py
  later : y ≤ℤ py

has_later : (place : Cell) (front : List Item) (i : Item) (is : List Item) (tag : Tag) → i.tag ≡ tag → 0 < i.count → IsTidyAfter tag is → HasLater place (front ++ (i ∷ is)) (cursor_behind place front).y
has_later place front i is Alive t some tidy = record { px = _; py = _; made = made_at place front i is 0 t some; later = omega (arith, ints) }
has_later place front i [] Dead t some tidy = cc
has_later place front i [] RowEnd t some tidy = cc
has_later place front i (j ∷ is) Dead t some tidy =
    let more = has_later place (front ++ (i ∷ [])) j is j.tag refl tidy.1.0 tidy.1.1 in
    let later = more.later in
    let level : rows_of i ≡ 0 = rw (ap is_row_end t) refl in
    record { px = more.px; py = more.py; made = subst (λ (is : List Item). IsMade place is more.px more.py) (append_assoc front (i ∷ []) (j ∷ is)) more.made; later = omega (arith, ints, rows_push front i) }
has_later place front i (j ∷ is) RowEnd t some tidy =
    let more = has_later place (front ++ (i ∷ [])) j is j.tag refl tidy.1.0 tidy.1.1 in
    let later = more.later in
    record { px = more.px; py = more.py; made = subst (λ (is : List Item). IsMade place is more.px more.py) (append_assoc front (i ∷ []) (j ∷ is)) more.made; later = omega (arith, ints, rows_push front i) }

-- each cell that the items make is within 2^39
record IsHalf (x y : ℤ) : Type 0 where
  left : neg_ℤ (pos (2 ^ 39)) ≤ℤ x
  right : x ≤ℤ pos (2 ^ 39)
  top : neg_ℤ (pos (2 ^ 39)) ≤ℤ y
  bottom : y ≤ℤ pos (2 ^ 39)

abbrev AreHalf : Cell → List Item → Type 0
AreHalf place items = (x y : ℤ) → IsMade place items x y → IsHalf x y

follows_dead : (t : Tag) → may_follow Dead t ≡ true → t ≡ Alive
follows_dead Alive h = refl
follows_dead Dead h = cc
follows_dead RowEnd h = cc

next_half : (place : Cell) (front : List Item) (i : Item) (is : List Item) (tag : Tag) → i.tag ≡ tag → IsNearHalf place → IsNearHalf (cursor_behind place front) → AreHalf place (front ++ (i ∷ is)) → 0 < i.count → IsTidyAfter tag is
    → IsNearHalf (cursor_behind place (front ++ (i ∷ [])))
next_half place front i is Alive t at here cells some tidy =
    let top = here.top in let bottom = here.bottom in let left = here.left in
    let level : rows_of i ≡ 0 = rw (ap is_row_end t) refl in
    let right = columns_push_other front i (ap is_row_end t) in
    let last = (cells _ _ (made_at place front i is (i.count - 1) t (omega arith))).right in
    record { left = omega (arith, ints); right = omega (arith, ints); top = omega (arith, ints, rows_push front i); bottom = omega (arith, ints, rows_push front i) }
next_half place front i [] Dead t at here cells some tidy = cc
next_half place front i (j ∷ is) Dead t at here cells some tidy =
    let top = here.top in let bottom = here.bottom in let left = here.left in
    let level : rows_of i ≡ 0 = rw (ap is_row_end t) refl in
    let right = columns_push_other front i (ap is_row_end t) in
    let made = made_at place (front ++ (i ∷ [])) j is 0 (follows_dead j.tag tidy.0) tidy.1.0 in
    let next = (cells _ _ (subst (λ (is : List Item). IsMade place is ((cursor_behind place (front ++ (i ∷ []))).x +ℤ pos 0) (cursor_behind place (front ++ (i ∷ []))).y) (append_assoc front (i ∷ []) (j ∷ is)) made)).right in
    record { left = omega (arith, ints); right = omega (arith, ints); top = omega (arith, ints, rows_push front i); bottom = omega (arith, ints, rows_push front i) }
next_half place front i [] RowEnd t at here cells some tidy = cc
next_half place front i (j ∷ is) RowEnd t at here cells some tidy =
    let top = here.top in let left = at.left in let right = at.right in
    let down : rows_of i ≡ i.count = rw (ap is_row_end t) refl in
    let none = columns_push_end front i (ap is_row_end t) in
    let later = has_later place (front ++ (i ∷ [])) j is j.tag refl tidy.1.0 tidy.1.1 in
    let below = later.later in
    let low = (cells _ _ (subst (λ (is : List Item). IsMade place is later.px later.py) (append_assoc front (i ∷ []) (j ∷ is)) later.made)).bottom in
    record { left = omega (arith, ints); right = omega (arith, ints); top = omega (arith, ints, rows_push front i); bottom = omega (arith, ints) }

-- so the cursor is near behind each of them
all_half : (place : Cell) (front items : List Item) (tag : Tag) → IsNearHalf place → IsNearHalf (cursor_behind place front) → AreHalf place (front ++ items) → IsTidyAfter tag items
    → (mid back : List Item) → items ≡ mid ++ back → IsNearHalf (cursor_behind place (front ++ mid))
all_half place front items tag at here cells tidy [] back e = subst (λ (is : List Item). IsNearHalf (cursor_behind place is)) (sym (append-nil front)) here
all_half place front [] tag at here cells tidy (j ∷ mid) back e = cc
all_half place front (i ∷ is) tag at here cells tidy (j ∷ mid) back e =
    let same : i ≡ j = cc in
    let more : is ≡ mid ++ back = cc in
    let next = next_half place front i is i.tag refl at here cells tidy.1.0 tidy.1.1 in
    let rest = all_half place (front ++ (i ∷ [])) is i.tag at next (subst (λ (js : List Item). AreHalf place js) (sym (append_assoc front (i ∷ []) is)) cells) tidy.1.1 mid back more in
    subst (λ (js : List Item). IsNearHalf (cursor_behind place js)) (append_assoc front (i ∷ []) mid ∙ ap (λ (k : Item). front ++ (k ∷ mid)) same) rest

-- ---- how many cells live

record HasDrawn (place : Cell) (items : List Item) : Type 0 where
  cells : List Cell
  drawn : IsDrawn place items cells

draw_all : (place : Cell) (front items : List Item) (tag : Tag) → IsTidyAfter tag items → HasDrawn place front → HasDrawn place (front ++ items)
draw_all place front [] tag tidy d = subst (HasDrawn place) (sym (append-nil front)) d
draw_all place front (i ∷ is) tag tidy d =
    subst (HasDrawn place) (append_assoc front (i ∷ []) is) (draw_all place (front ++ (i ∷ [])) is i.tag tidy.1.1 (record { cells = _; drawn = drawn_push place front i d.cells tidy.1.0 d.drawn }))

draw_tidy : (place : Cell) (items : List Item) → IsTidyBody items → HasDrawn place items
draw_tidy place items (inl (inl none)) = subst (HasDrawn place) (sym none) (record { cells = []; drawn = drawn_none place })
draw_tidy place items (inl (inr tidy)) = draw_all place [] items RowEnd tidy (record { cells = []; drawn = drawn_none place })
draw_tidy place items (inr tidy) = draw_all place [] items Alive tidy (record { cells = []; drawn = drawn_none place })

live_is : (place : Cell) (items : List Item) (cs : List Cell) → IsRising cs → IsTidyBody items → AreCells place items (listed cs) → live items ≡ length cs
live_is place items cs rising tidy cells =
    let d = draw_tidy place items tidy in
    sym d.drawn.count ∙ ap length (same_rising d.cells cs d.drawn.rising rising (same_planes place items (listed d.cells) (listed cs) d.drawn.are_cells cells))

live_front : (front back : List Item) → live front ≤ live (front ++ back)
live_front front back = omega (arith, sum_by-append (λ (i : Item). if is_alive i.tag then i.count else 0) front back)

-- ---- the place

pub place_half : (s : Plane) (place : Cell) (width height : ℕ) → IsFrame s place width height → IsInRange (2 ^ 39) s → IsNearHalf place
place_half s place width height (inl none) r =
    let x : place.x ≡ pos 0 = ap (λ (c : Cell). c.x) none.1.0 in
    let y : place.y ≡ pos 0 = ap (λ (c : Cell). c.y) none.1.0 in
    record { left = omega (arith, ints); right = omega (arith, ints); top = omega (arith, ints); bottom = omega (arith, ints) }
place_half s place width height (inr some) r =
    let box : Bounds = some.0 in
    let least = some.1.0 in
    let range : Bounds = record { left = neg_ℤ (pos (2 ^ 39)); top = neg_ℤ (pos (2 ^ 39)); right = pos (2 ^ 39); bottom = pos (2 ^ 39) } in
    let within = least.least range (record { each = λ x y h. record { right_of_left = r.x_low x y h; below_top = r.y_low x y h; left_of_right = r.x_high x y h; above_bottom = r.y_high x y h } }) in
    let lives = least.holds.each least.lives.0 least.lives.1.0 least.lives.1.1 in
    let left = within.left in let right = within.right in let top = within.top in let bottom = within.bottom in
    let a = lives.right_of_left in let b = lives.left_of_right in let c = lives.below_top in let d = lives.above_bottom in
    let x : place.x ≡ box.left = ap (λ (c : Cell). c.x) some.1.1.0 in
    let y : place.y ≡ box.top = ap (λ (c : Cell). c.y) some.1.1.0 in
    record { left = omega (arith, ints); right = omega (arith, ints); top = omega (arith, ints); bottom = omega (arith, ints) }

pub size_small : (s : Plane) (place : Cell) (width height : ℕ) → IsFrame s place width height → IsInRange (2 ^ 39) s → (width < 10 ^ 18) × (height < 10 ^ 18)
size_small s place width height (inl none) r = (let w = none.1.1.0 in let h = none.1.1.1 in (omega arith, omega arith))
size_small s place width height (inr some) r =
    let box : Bounds = some.0 in
    let least = some.1.0 in
    let range : Bounds = record { left = neg_ℤ (pos (2 ^ 39)); top = neg_ℤ (pos (2 ^ 39)); right = pos (2 ^ 39); bottom = pos (2 ^ 39) } in
    let within = least.least range (record { each = λ x y h. record { right_of_left = r.x_low x y h; below_top = r.y_low x y h; left_of_right = r.x_high x y h; above_bottom = r.y_high x y h } }) in
    let left = within.left in let right = within.right in let top = within.top in let bottom = within.bottom in
    let w = some.1.1.1.0 in
    let h = some.1.1.1.1 in
    (omega (arith, ints), omega (arith, ints))

-- ---- fine items

module _ (cs : List Cell) (rising : IsRising cs) (place : Cell) (items : List Item) (at : IsNearHalf place) (tidy : IsTidyBody items) (cells : AreCells place items (listed cs))
    (range : IsInRange (2 ^ 39) (listed cs)) (few : length cs ≤ 2 ^ 18) where
  halves : AreHalf place items
  halves = λ x y m. let h = cells.all x y m in record { left = range.x_low x y h; right = range.x_high x y h; top = range.y_low x y h; bottom = range.y_high x y h }

  at_start : IsNearHalf (cursor_behind place [])
  at_start =
      let l = at.left in let r = at.right in let t = at.top in let b = at.bottom in
      record { left = omega (arith, ints); right = omega (arith, ints); top = omega (arith, ints); bottom = omega (arith, ints) }

  near_by : IsTidyBody items → (front back : List Item) → items ≡ front ++ back → IsNearHalf (cursor_behind place front)
  near_by (inl (inl none)) [] back e = at_start
  near_by (inl (inl none)) (i ∷ front) back e = cc
  near_by (inl (inr h)) front back e = all_half place [] items RowEnd at at_start halves h front back e
  near_by (inr h) front back e = all_half place [] items Alive at at_start halves h front back e

  written_near : (front back : List Item) → items ≡ front ++ back → IsNearHalf (cursor_behind place front)
  written_near front back e = near_by tidy front back e

  written_few : (front back : List Item) → items ≡ front ++ back → live front ≤ 2 ^ 18
  written_few front back e = omega (arith, live_front front back, ap live e, live_is place items cs rising tidy cells)

  pub written_fine : AreFineFrom place items
  written_fine = record { near = λ front back e. half_in_reach _ (written_near front back e); few = written_few }

  one_small : (front back : List Item) (i : Item) (tag : Tag) → i.tag ≡ tag → items ≡ front ++ (i ∷ back) → i.count < 10 ^ 18
  one_small front back i Alive t e =
      let few = written_few (front ++ (i ∷ [])) back (e ∙ sym (append_assoc front (i ∷ []) back)) in
      let lives : (if is_alive i.tag then i.count else 0) ≡ i.count = rw (ap is_alive t) refl in
      omega (arith, live_push front i)
  one_small front back i Dead t e =
      let from = (written_near front (i ∷ back) e).left in
      let to = (written_near (front ++ (i ∷ [])) back (e ∙ sym (append_assoc front (i ∷ []) back))).right in
      omega (arith, ints, columns_push_other front i (ap is_row_end t))
  one_small front back i RowEnd t e =
      let from = (written_near front (i ∷ back) e).top in
      let to = (written_near (front ++ (i ∷ [])) back (e ∙ sym (append_assoc front (i ∷ []) back))).bottom in
      let down : rows_of i ≡ i.count = rw (ap is_row_end t) refl in
      omega (arith, ints, rows_push front i)

  all_small : (front rest : List Item) (tag : Tag) → items ≡ front ++ rest → IsTidyAfter tag rest → AreSmall rest
  all_small front [] tag e h = tt
  all_small front (i ∷ rest) tag e h = ((h.1.0, one_small front rest i i.tag refl e), all_small (front ++ (i ∷ [])) rest i.tag (e ∙ sym (append_assoc front (i ∷ []) rest)) h.1.1)

  small_by : IsTidyBody items → AreSmall items
  small_by (inl (inl none)) = subst AreSmall (sym none) tt
  small_by (inl (inr h)) = all_small [] items RowEnd refl h
  small_by (inr h) = all_small [] items Alive refl h

  pub written_small : AreSmall items
  written_small = small_by tidy
