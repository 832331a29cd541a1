-- How the items of rising cells grow, cell by cell.
use Rattle.std.specs.Prelude.{◌≡◌, ◌≢◌, ℕ, ◌+◌, ◌<◌, ◌^◌, true, false, ◌||◌, ◌&&◌, ◌⊎◌, ℤ, pos, neg_ℤ, ◌+ℤ◌, ◌≤ℤ◌, ◌<ℤ◌, List, [], ◌∷◌, ◌++◌}
use Rattle.std.specs.List.{AllByRecursion}
use Rattle.std.specs.declared.cmp.Ordering.TheVariants.{Less}
use Rattle.std.specs.Ordering.{int_eq}
use Rattle.std.proofs.lemmas.Bool.Decides.{Decides-int_eq}
use Rattle.std.proofs.Common.{refl, sym, ap, ◌∙◌, inl, inr, arith, zero, suc, subst, lit<, length, take, drop, get_or}
use Rattle.std.proofs.lemmas.List.{append-nil, append_assoc, drop_more, take_more}
use Rattle.std.proofs.lemmas.Int.{ints}
use Rattle.life_cells.specs.declared.cell.Cell.{Cell}
use Rattle.life_cells.specs.Cells.{cell, cell_cmp, IsRising}
use Rattle.life_cells.specs.Boxes.{IsInRange}
use Rattle.life_cells.specs.Listed.{listed, same_cell}
use Rattle.life_cells.specs.Laws.{listed-append_at}
use Rattle.life_cells.specs.PlaceLaws.{each_listed}
use Rattle.life_cells.specs.OrderLaws.{same_cell_is, same_cell-itself, comes_before, rising_head, rising_tail}
use Rattle.rle_items.specs.declared.item.Item.{Item}
use Rattle.rle_items.specs.declared.item.Tag.{Tag}
use Rattle.rle_items.specs.declared.item.Tag.TheVariants.{Dead, Alive, RowEnd}
use Rattle.rle_items.specs.Items.{rows, columns, AreCells}
use Rattle.std.proofs.lemmas.Bool.{or_cases, or_left, or_right}
use Rattle.life_rle.specs.Written.{may_follow, IsTidyAfter}
use Rattle.life_rle.specs.Drawn.{some_of, IsBehind, IsAhead, IsNext, IsGapInRow, IsGapDown, IsGap, HasGap, StartsAfter, IsTidyFrom, AreSmall}
use Rattle.life_plane.specs.NumberLaws.{cases_below}
use Rattle.life_rle.proofs.Made.{IsRun, none_made, made_front, made_some_live, made_some_run, cells_same, rows-some_longer, rows-some_ended, columns-some_longer, columns-some_ended}

-- ---- cells of a list with one more at the end

listed_one : (c : Cell) (x y : ℤ) → listed (c ∷ []) x y ≡ true → (x ≡ c.x) × (y ≡ c.y)
listed_one c x y h =
    elim (or_cases (same_cell (cell x y) c) false h) [
      | inl e ↦ let s = same_cell_is (cell x y) c e in (ap (λ (d : Cell). d.x) s, ap (λ (d : Cell). d.y) s)
      | inr e ↦ cc
    ]

listed_push : (cs : List Cell) (c : Cell) (x y : ℤ) → listed (cs ++ (c ∷ [])) x y ≡ true → (listed cs x y ≡ true) ⊎ ((x ≡ c.x) × (y ≡ c.y))
listed_push cs c x y h =
    elim (or_cases _ _ (sym (listed-append_at cs (c ∷ []) x y) ∙ h)) [
      | inl e ↦ inl e
      | inr e ↦ inr (listed_one c x y e)
    ]

listed_old : (cs : List Cell) (c : Cell) (x y : ℤ) → listed cs x y ≡ true → listed (cs ++ (c ∷ [])) x y ≡ true
listed_old cs c x y h = listed-append_at cs (c ∷ []) x y ∙ or_left _ _ h

listed_new : (cs : List Cell) (c : Cell) (x y : ℤ) → x ≡ c.x → y ≡ c.y → listed (cs ++ (c ∷ [])) x y ≡ true
listed_new cs c x y e f =
    let here : cell x y ≡ c = λ i. record { y = f i; x = e i } in
    listed-append_at cs (c ∷ []) x y ∙ or_right (listed cs x y) _ (ap (λ (d : Cell). same_cell d c || false) here ∙ or_left _ _ (same_cell-itself c))

-- a cell of a run that is one longer is of the run, or it is the one more
last_or_before : (place c : Cell) (is : List Item) (n : ℕ) (x y : ℤ) → c.x ≡ place.x +ℤ pos (columns is + n) → IsRun place is (n + 1) x y → IsRun place is n x y ⊎ (x ≡ c.x)
last_or_before place c is n x y column r =
    let a = r.from in let b = r.to in
    elim (cases_below x c.x) [
      | inl below ↦ inl (record { row = r.row; from = r.from; to = omega (arith, ints) })
      | inr above ↦ inr (omega (arith, ints))
    ]

-- one more live cell, right behind what is drawn
cells_next : (place c : Cell) (is : List Item) (n : ℕ) (done : List Cell) → c.y ≡ place.y +ℤ pos (rows is) → c.x ≡ place.x +ℤ pos (columns is + n)
    → AreCells place (is ++ some_of n Alive) (listed done) → AreCells place (is ++ some_of (n + 1) Alive) (listed (done ++ (c ∷ [])))
cells_next place c is n done row column old = record {
  made = λ x y h. elim (listed_push done c x y h) [
    | inl before ↦ elim (made_some_live place is n x y (old.made x y before)) [
      | inl m ↦ made_front place is (some_of (n + 1) Alive) x y m
      | inr r ↦ let a = r.from in let b = r.to in made_some_run place is (n + 1) x y (record { row = r.row; from = r.from; to = omega (arith, ints) })
    ]
    | inr here ↦ let a = here.0 in let b = here.1 in made_some_run place is (n + 1) x y (record { row = b ∙ row; from = omega (arith, ints); to = omega (arith, ints) })
  ];
  all = λ x y m. elim (made_some_live place is (n + 1) x y m) [
    | inl before ↦ listed_old done c x y (old.all x y (made_front place is (some_of n Alive) x y before))
    | inr r ↦ elim (last_or_before place c is n x y column r) [
      | inl b ↦ listed_old done c x y (old.all x y (made_some_run place is n x y b))
      | inr e ↦ listed_new done c x y e (r.row ∙ sym row)
    ]
  ];
}

-- ---- tidy items

-- items that may follow a tag, and end with one
abbrev pub IsTidyTo : Tag → List Item → Tag → Type 0
IsTidyTo tag [] last = tag ≡ last
IsTidyTo tag (item ∷ items) last = (may_follow tag item.tag ≡ true) × ((0 < item.count) × IsTidyTo item.tag items last)

tidy_push : (tag : Tag) (is : List Item) (last : Tag) (i : Item) → IsTidyTo tag is last → may_follow last i.tag ≡ true → 0 < i.count → IsTidyTo tag (is ++ (i ∷ [])) i.tag
tidy_push tag [] last i t f p = (ap (λ u. may_follow u i.tag) t ∙ f, (p, refl))
tidy_push tag (j ∷ js) last i t f p = (t.0, (t.1.0, tidy_push j.tag js last i t.1.1 f p))

tidy_all : (tag : Tag) (is : List Item) → IsTidyTo tag is Alive → IsTidyAfter tag is
tidy_all tag [] t = t
tidy_all tag (j ∷ js) t = (t.0, (t.1.0, tidy_all j.tag js t.1.1))

small_push : (is : List Item) (i : Item) → AreSmall is → 0 < i.count → i.count < 10 ^ 18 → AreSmall (is ++ (i ∷ []))
small_push [] i s p q = ((p, q), tt)
small_push (j ∷ js) i s p q = (s.0, small_push js i s.1 p q)

small_some : (is : List Item) (n : ℕ) (t : Tag) → AreSmall is → n < 10 ^ 18 → AreSmall (is ++ some_of n t)
small_some is zero t s q = subst AreSmall (sym (append-nil is)) s
small_some is (suc n) t s q = small_push is (record { count = suc n; tag = t }) s (omega arith) q

-- tidy items of which the next may be a live one
pub record IsOpen (top : ℤ) (first : Cell) (items : List Item) : Type 0 where
  pub start : Tag
  pub starts : StartsAfter top first start
  pub last : Tag
  pub tidy : IsTidyTo start items last
  pub goes_on : may_follow last Alive ≡ true

-- the tidy items so far, when these cells are drawn
abbrev pub IsSoFar : ℤ → List Cell → List Item → ℕ → Cell → Type 0
IsSoFar top [] items run pen = (items ≡ []) × ((run ≡ 0) × (pen.y ≡ top))
IsSoFar top (c ∷ cs) items run pen = (0 < run) × IsOpen top c items

abbrev pub first_of : List Cell → Cell → Cell
first_of [] c = c
first_of (d ∷ ds) c = d

-- ---- the items when some cells are drawn: the last live run is still under way, and the pen is behind it

pub record IsDrawn (left top : ℤ) (done : List Cell) (items : List Item) (run : ℕ) (pen : Cell) : Type 0 where
  pub cells : AreCells (cell left top) (items ++ some_of run Alive) (listed done)
  pub row : pen.y ≡ top +ℤ pos (rows items)
  pub column : pen.x ≡ left +ℤ pos (columns items + run)
  pub tidy : IsSoFar top done items run pen
  pub small : AreSmall items
  pub few : run < 10 ^ 18

-- the same, with the pen at the next cell
pub record IsReady (left top : ℤ) (done : List Cell) (items : List Item) (run : ℕ) (c : Cell) : Type 0 where
  pub cells : AreCells (cell left top) (items ++ some_of run Alive) (listed done)
  pub row : c.y ≡ top +ℤ pos (rows items)
  pub column : c.x ≡ left +ℤ pos (columns items + run)
  pub tidy : IsOpen top (first_of done c) items
  pub small : AreSmall items

pub drawn_none : (left top : ℤ) → IsDrawn left top [] [] 0 (cell left top)
drawn_none left top = record {
  cells = record { made = λ x y e. cc; all = λ x y m. absurd (none_made (cell left top) x y m) };
  row = omega (arith, ints);
  column = omega (arith, ints);
  tidy = (refl, (refl, refl));
  small = tt;
  few = lit< tt;
}

open_here : (top : ℤ) (done : List Cell) (items : List Item) (run : ℕ) (pen : Cell) → IsSoFar top done items run pen → IsOpen top (first_of done pen) items
open_here top [] items run pen t = record { start = RowEnd; starts = t.1.1; last = RowEnd; tidy = subst (λ is. IsTidyTo RowEnd is RowEnd) (sym t.0) refl; goes_on = refl }
open_here top (c ∷ cs) items run pen t = t.1

pub ready_here : (left top : ℤ) (done : List Cell) (items : List Item) (run : ℕ) (pen : Cell) → IsDrawn left top done items run pen → IsReady left top done items run pen
ready_here left top done items run pen d = record { cells = d.cells; row = d.row; column = d.column; tidy = open_here top done items run pen d.tidy; small = d.small }

so_far_next : (top : ℤ) (done : List Cell) (items : List Item) (run : ℕ) (c pen : Cell) → IsOpen top (first_of done c) items → IsSoFar top (done ++ (c ∷ [])) items (run + 1) pen
so_far_next top [] items run c pen o = (omega arith, o)
so_far_next top (d ∷ ds) items run c pen o = (omega arith, o)

-- the next cell is drawn
pub drawn_next : (left top : ℤ) (done : List Cell) (items : List Item) (run : ℕ) (c : Cell) → IsReady left top done items run c → neg_ℤ (pos (2 ^ 58)) ≤ℤ left → c.x ≤ℤ pos (2 ^ 58)
    → IsDrawn left top (done ++ (c ∷ [])) items (run + 1) (cell (c.x +ℤ pos 1) c.y)
drawn_next left top done items run c r low h = record {
  cells = cells_next (cell left top) c items run done r.row r.column r.cells;
  row = r.row;
  column = let e = r.column in omega (arith, ints);
  tidy = so_far_next top done items run c (cell (c.x +ℤ pos 1) c.y) r.tidy;
  small = r.small;
  few = let e = r.column in omega (arith, ints);
}

-- ---- a gap

tidy_run : (top : ℤ) (first : Cell) (items : List Item) (run : ℕ) (o : IsOpen top first items) → 0 < run → IsTidyTo o.start (items ++ some_of run Alive) Alive
tidy_run top first items zero o p = absurd (omega arith)
tidy_run top first items (suc n) o p = tidy_push o.start items o.last (record { count = suc n; tag = Alive }) o.tidy o.goes_on p

one_is_some : (n : ℕ) (t : Tag) → 0 < n → record { count = n; tag = t } ∷ [] ≡ some_of n t
one_is_some zero t p = absurd (omega arith)
one_is_some (suc n) t p = refl

-- the gap, as items of counts that may be none
gap_in_row : (from to : Cell) (gap front : List Item) (g : IsGapInRow from to gap) → front ++ gap ≡ front ++ some_of g.count Dead
gap_in_row from to gap front g = ap (λ is. front ++ is) (g.items ∙ one_is_some g.count Dead g.some)

gap_down : (left : ℤ) (from to : Cell) (gap front : List Item) (g : IsGapDown left from to gap) → front ++ gap ≡ (front ++ some_of g.down RowEnd) ++ some_of g.right Dead
gap_down left from to gap front g =
    ap (λ is. front ++ is) g.items ∙ ap (λ is. front ++ (is ++ some_of g.right Dead)) (one_is_some g.down RowEnd g.some) ∙ sym (append_assoc front (some_of g.down RowEnd) (some_of g.right Dead))

open_dead : (top : ℤ) (first : Cell) (start : Tag) (is : List Item) (n : ℕ) → StartsAfter top first start → IsTidyTo start is RowEnd → IsOpen top first (is ++ some_of n Dead)
open_dead top first start is zero s t = record { start = start; starts = s; last = RowEnd; tidy = let P : List Item → Type 0 = λ js. IsTidyTo start js RowEnd in subst P (sym (append-nil is)) t; goes_on = refl }
open_dead top first start is (suc n) s t = record { start = start; starts = s; last = Dead; tidy = tidy_push start is RowEnd (record { count = suc n; tag = Dead }) t refl (omega arith); goes_on = refl }

open_in_row : (top : ℤ) (first : Cell) (start : Tag) (from to : Cell) (gap front : List Item) (tag : Tag)
    → StartsAfter top first start → IsTidyTo start front tag → may_follow tag Dead ≡ true → IsGapInRow from to gap → IsOpen top first (front ++ gap)
open_in_row top first start from to gap front tag s t f g =
    let P : List Item → Type 0 = λ is. IsOpen top first (front ++ is) in
    subst P (sym g.items) (record { start = start; starts = s; last = Dead; tidy = tidy_push start front tag (record { count = g.count; tag = Dead }) t f g.some; goes_on = refl })

open_down : (top : ℤ) (first : Cell) (start : Tag) (left : ℤ) (from to : Cell) (gap front : List Item) (tag : Tag)
    → StartsAfter top first start → IsTidyTo start front tag → may_follow tag RowEnd ≡ true → IsGapDown left from to gap → IsOpen top first (front ++ gap)
open_down top first start left from to gap front tag s t f g =
    let P : List Item → Type 0 = λ is. IsOpen top first is in
    let whole : (front ++ (record { count = g.down; tag = RowEnd } ∷ [])) ++ some_of g.right Dead ≡ front ++ gap =
    append_assoc front (record { count = g.down; tag = RowEnd } ∷ []) (some_of g.right Dead) ∙ ap (λ is. front ++ is) (sym g.items) in
    subst P whole (open_dead top first start (front ++ (record { count = g.down; tag = RowEnd } ∷ [])) g.right s (tidy_push start front tag (record { count = g.down; tag = RowEnd }) t f g.some))

open_first : (left top : ℤ) (pen c : Cell) (gap : List Item) → pen.y ≡ top → IsGap left pen c gap → IsOpen top c gap
open_first left top pen c gap h (inl g) = open_in_row top c RowEnd pen c gap [] RowEnd (g.y ∙ h) refl refl g
open_first left top pen c gap h (inr g) =
    let below : c.y ≢ top = λ e. let a = g.y in let p = g.some in absurd (omega (arith, ints)) in
    open_down top c Alive left pen c gap [] Alive below refl refl g

open_later : (left top : ℤ) (pen c first : Cell) (gap items : List Item) (run : ℕ) → IsOpen top first items → 0 < run → IsGap left pen c gap
    → IsOpen top first ((items ++ some_of run Alive) ++ gap)
open_later left top pen c first gap items run o p (inl g) = open_in_row top first o.start pen c gap (items ++ some_of run Alive) Alive o.starts (tidy_run top first items run o p) refl g
open_later left top pen c first gap items run o p (inr g) = open_down top first o.start left pen c gap (items ++ some_of run Alive) Alive o.starts (tidy_run top first items run o p) refl g

-- behind a live run, or where no cell is drawn and the gap begins as it may
open_gap : (left top : ℤ) (done : List Cell) (items : List Item) (run : ℕ) (pen c : Cell) (gap : List Item)
    → IsSoFar top done items run pen → IsGap left pen c gap → IsOpen top (first_of done c) ((items ++ some_of run Alive) ++ gap)
open_gap left top [] items run pen c gap t g =
    let P : List Item → Type 0 = λ is. IsOpen top c is in
    let whole : (items ++ some_of run Alive) ++ gap ≡ gap = ap (λ r. (items ++ some_of r Alive) ++ gap) t.1.0 ∙ ap (λ is. (is ++ []) ++ gap) t.0 in
    subst P (sym whole) (open_first left top pen c gap t.1.1 g)
open_gap left top (d ∷ ds) items run pen c gap t g = open_later left top pen c d gap items run t.1 t.0 g

ready_in_row : (left top : ℤ) (done : List Cell) (items : List Item) (run : ℕ) (pen c : Cell) (gap : List Item)
    → IsDrawn left top done items run pen → neg_ℤ (pos (2 ^ 58)) ≤ℤ left → c.x ≤ℤ pos (2 ^ 58) → IsGapInRow pen c gap
    → IsReady left top done ((items ++ some_of run Alive) ++ gap) 0 c
ready_in_row left top done items run pen c gap d low high g =
    let front = items ++ some_of run Alive in
    let n = g.count in
    let whole : front ++ gap ≡ front ++ some_of n Dead = gap_in_row pen c gap front g in
    let columns_are : columns (front ++ gap) ≡ (columns items + run) + n = ap columns whole ∙ columns-some_longer front n Dead refl ∙ ap (λ k. k + n) (columns-some_longer items run Alive refl) in
    let rows_are : rows (front ++ gap) ≡ rows items = ap rows whole ∙ rows-some_longer front n Dead refl ∙ rows-some_longer items run Alive refl in
    let gx = g.x in let gy = g.y in let dx = d.column in let dy = d.row in
    let C : List Item → Type 0 = λ is. AreCells (cell left top) is (listed done) in
    let S : List Item → Type 0 = λ is. AreSmall is in
    record {
      cells = subst C (sym whole ∙ sym (append-nil (front ++ gap))) (cells_same (cell left top) front n Dead (listed done) refl d.cells);
      row = omega (arith, ints);
      column = omega (arith, ints);
      tidy = open_gap left top done items run pen c gap d.tidy (inl g);
      small = subst S (sym whole) (small_some front n Dead (small_some items run Alive d.small d.few) (omega (arith, ints)));
    }

ready_down : (left top : ℤ) (done : List Cell) (items : List Item) (run : ℕ) (pen c : Cell) (gap : List Item)
    → IsDrawn left top done items run pen → neg_ℤ (pos (2 ^ 58)) ≤ℤ left → neg_ℤ (pos (2 ^ 58)) ≤ℤ top → c.x ≤ℤ pos (2 ^ 58) → c.y ≤ℤ pos (2 ^ 58) → IsGapDown left pen c gap
    → IsReady left top done ((items ++ some_of run Alive) ++ gap) 0 c
ready_down left top done items run pen c gap d low top_low high y_high g =
    let front = items ++ some_of run Alive in
    let m = g.down in let n = g.right in
    let middle = front ++ some_of m RowEnd in
    let whole : front ++ gap ≡ middle ++ some_of n Dead = gap_down left pen c gap front g in
    let columns_are : columns (front ++ gap) ≡ n = ap columns whole ∙ columns-some_longer middle n Dead refl ∙ ap (λ k. k + n) (columns-some_ended front m g.some) ∙ omega arith in
    let rows_are : rows (front ++ gap) ≡ rows items + m = ap rows whole ∙ rows-some_longer middle n Dead refl ∙ rows-some_ended front m ∙ ap (λ k. k + m) (rows-some_longer items run Alive refl) in
    let gx = g.x in let gy = g.y in let dx = d.column in let dy = d.row in
    let C : List Item → Type 0 = λ is. AreCells (cell left top) is (listed done) in
    let S : List Item → Type 0 = λ is. AreSmall is in
    record {
      cells = subst C (sym whole ∙ sym (append-nil (front ++ gap))) (cells_same (cell left top) middle n Dead (listed done) refl (cells_same (cell left top) front m RowEnd (listed done) refl d.cells));
      row = omega (arith, ints);
      column = omega (arith, ints);
      tidy = open_gap left top done items run pen c gap d.tidy (inr g);
      small = subst S (sym whole) (small_some middle n Dead (small_some front m RowEnd (small_some items run Alive d.small d.few) (omega (arith, ints))) (omega (arith, ints)));
    }

-- the pen is led to the next cell
pub ready_gap : (left top : ℤ) (done : List Cell) (items : List Item) (run : ℕ) (pen c : Cell) (gap : List Item)
    → IsDrawn left top done items run pen → neg_ℤ (pos (2 ^ 58)) ≤ℤ left → neg_ℤ (pos (2 ^ 58)) ≤ℤ top → IsNext left pen c → IsGap left pen c gap
    → IsReady left top done ((items ++ some_of run Alive) ++ gap) 0 c
ready_gap left top done items run pen c gap d low top_low n (inl g) = ready_in_row left top done items run pen c gap d low n.x_high g
ready_gap left top done items run pen c gap d low top_low n (inr g) = ready_down left top done items run pen c gap d low top_low n.x_high n.y_high g

-- ---- all cells are drawn

tidy_whole : (left top : ℤ) (done : List Cell) (items : List Item) (run : ℕ) (pen : Cell) → IsSoFar top done items run pen → IsTidyFrom top done (items ++ some_of run Alive)
tidy_whole left top [] items run pen t = ap (λ r. items ++ some_of r Alive) t.1.0 ∙ ap (λ (is : List Item). is ++ []) t.0
tidy_whole left top (c ∷ cs) items run pen t = let o = t.1 in (o.start, (o.starts, tidy_all o.start (items ++ some_of run Alive) (tidy_run top c items run o t.0)))

pub drawn_tidy : (left top : ℤ) (done : List Cell) (items : List Item) (run : ℕ) (pen : Cell) → IsDrawn left top done items run pen → IsTidyFrom top done (items ++ some_of run Alive)
drawn_tidy left top done items run pen d = tidy_whole left top done items run pen d.tidy

pub drawn_small : (left top : ℤ) (done : List Cell) (items : List Item) (run : ℕ) (pen : Cell) → IsDrawn left top done items run pen → AreSmall (items ++ some_of run Alive)
drawn_small left top done items run pen d = small_some items run Alive d.small d.few

-- ---- the cells to come

abbrev pub AreNext : ℤ → Cell → List Cell → Type 0
AreNext left pen cs = AllByRecursion (IsNext left pen) cs

-- at the start each cell is to come
pub next_all : (left top : ℤ) (cs : List Cell) → IsBehind left top (listed cs) → IsInRange (2 ^ 58) (listed cs) → AreNext left (cell left top) cs
next_all left top cs b r = each_listed (IsNext left (cell left top)) cs (λ c h.
    let x = b.x c.x c.y h in let y = b.y c.x c.y h in
    record { ahead = elim (cases_below top c.y) [ inl below ↦ inl below | inr above ↦ inr (omega (arith, ints), x) ]; right = x; x_high = r.x_high c.x c.y h; y_high = r.y_high c.x c.y h })

next_more : (left : ℤ) (pen c : Cell) (cs : List Cell) → AreNext left pen cs → AllByRecursion (λ d. cell_cmp c d ≡ Less) cs → AreNext left (cell (c.x +ℤ pos 1) c.y) cs
next_more left pen c [] n r = tt
next_more left pen c (d ∷ ds) n r =
    let old = n.0 in (
      record {
        ahead = elim (comes_before c d r.0) [ inl below ↦ inl below | inr row ↦ let b = row.1 in inr (row.0, omega (arith, ints)) ];
        right = old.right;
        x_high = old.x_high;
        y_high = old.y_high;
      },
      next_more left pen c ds n.1 r.1,
    )

-- when the first of them is drawn, the others are to come
pub next_rest : (left : ℤ) (pen c : Cell) (cs : List Cell) → AreNext left pen (c ∷ cs) → IsRising (c ∷ cs) → AreNext left (cell (c.x +ℤ pos 1) c.y) cs
next_rest left pen c cs n r = next_more left pen c cs n.1 (rising_head c cs r)

-- ---- how a gap is appended

pub added_in_row : (left : ℤ) (from to : Cell) (n : ℕ) (old new : List Item) → IsAhead from to → to.y ≤ℤ from.y
    → new ≡ old ++ (record { count = n; tag = Dead } ∷ []) → (from.x <ℤ to.x → to.x ≡ from.x +ℤ pos n) → HasGap left from to old new
added_in_row left from to n old new (inl below) h e d = absurd (omega (arith, ints))
added_in_row left from to n old new (inr row) h e d =
    let x = d row.1 in let b = row.1 in
    (record { count = n; tag = Dead } ∷ [], (e, inl (record { count = n; some = omega (arith, ints); x = x; y = sym row.0; items = refl })))

pub added_down : (left : ℤ) (from to : Cell) (m n : ℕ) (old middle new : List Item) → from.y <ℤ to.y
    → middle ≡ old ++ (record { count = m; tag = RowEnd } ∷ []) → new ≡ middle ++ some_of n Dead → to.y ≡ from.y +ℤ pos m → to.x ≡ left +ℤ pos n → HasGap left from to old new
added_down left from to m n old middle new h e f y x = (
  record { count = m; tag = RowEnd } ∷ some_of n Dead,
  (
    f ∙ ap (λ is. is ++ some_of n Dead) e ∙ append_assoc old (record { count = m; tag = RowEnd } ∷ []) (some_of n Dead),
    inr (record { down = m; right = n; some = omega (arith, ints); x = x; y = y; items = refl }),
  ),
)

-- ---- one cell of a list after the other

pub ahead_by_tests : (left : ℤ) (pen c : Cell) → IsNext left pen c → (int_eq c.y pen.y && int_eq c.x pen.x) ≡ false → IsAhead pen c
ahead_by_tests left pen c n h =
    elim n.ahead [
      | inl below ↦ inl below
      | inr row ↦ inr (
        row.0,
        (elim (cases_below pen.x c.x) [
          | inl right ↦ right
          | inr left ↦
              let b = row.1 in
              let y : int_eq c.y pen.y ≡ true = (Decides-int_eq c.y pen.y).1 (sym row.0) in
              let x : int_eq c.x pen.x ≡ true = (Decides-int_eq c.x pen.x).1 (omega (arith, ints)) in
              absurd (cc (y, x, h))
        ]),
      )
    ]

pub next_at : (left : ℤ) (pen d : Cell) (cs : List Cell) (k : ℕ) → k < length cs → AreNext left pen (drop k cs) → IsNext left pen (get_or cs k d)
next_at left pen d cs k h n = (subst (AreNext left pen) (drop_more cs k d h) n).0

pub rising_at : (d : Cell) (cs : List Cell) (k : ℕ) → k < length cs → IsRising (drop k cs) → IsRising (get_or cs k d ∷ drop (k + 1) cs)
rising_at d cs k h r = subst IsRising (drop_more cs k d h) r

pub next_step : (left : ℤ) (pen d : Cell) (cs : List Cell) (k : ℕ) → k < length cs → AreNext left pen (drop k cs) → IsRising (drop k cs)
    → AreNext left (cell ((get_or cs k d).x +ℤ pos 1) (get_or cs k d).y) (drop (k + 1) cs)
next_step left pen d cs k h n r = next_rest left pen (get_or cs k d) (drop (k + 1) cs) (subst (AreNext left pen) (drop_more cs k d h) n) (rising_at d cs k h r)

pub rising_step : (d : Cell) (cs : List Cell) (k : ℕ) → k < length cs → IsRising (drop k cs) → IsRising (drop (k + 1) cs)
rising_step d cs k h r = rising_tail (get_or cs k d) (drop (k + 1) cs) (rising_at d cs k h r)

pub drawn_step : (left top : ℤ) (d : Cell) (cs : List Cell) (k : ℕ) (items : List Item) (run : ℕ) → k < length cs → neg_ℤ (pos (2 ^ 58)) ≤ℤ left → (get_or cs k d).x ≤ℤ pos (2 ^ 58)
    → IsReady left top (take k cs) items run (get_or cs k d) → IsDrawn left top (take (k + 1) cs) items (run + 1) (cell ((get_or cs k d).x +ℤ pos 1) (get_or cs k d).y)
drawn_step left top d cs k items run h low high r =
    let P : List Cell → Type 0 = λ done. IsDrawn left top done items (run + 1) (cell ((get_or cs k d).x +ℤ pos 1) (get_or cs k d).y) in
    subst P (sym (take_more cs k d h)) (drawn_next left top (take k cs) items run (get_or cs k d) r low high)
