-- Where two lists of cells that rise differ first, and where a cell goes into one.
use Rattle.std.proofs.Common.{◌≡◌, ℕ, ◌+◌, ◌<◌, ◌≤◌, true, false, List, [], ◌∷◌, ◌++◌, length, take, drop, get_or, refl, sym, ap, subst, ◌∙◌}
use Rattle.std.specs.Prelude.{◌||◌, Option, Some, None, IfSome, IfNone}
use Rattle.std.specs.declared.cmp.Ordering.TheVariants.{Less, Greater}
use Rattle.std.specs.Ordering.{is_eq, ordering_reverse}
use Rattle.std.specs.List.{AllByRecursion}
use Rattle.std.specs.List.Sorted.{IsStrictlySortedBy}
use Rattle.std.proofs.lemmas.List.{drop_more, drop_all, take-append-drop}
use Rattle.life_cells.specs.declared.cell.Cell.{Cell}
use Rattle.life_cells.specs.Cells.{cell, cell_cmp, IsRising, Cells, in_order, alive}
use Rattle.life_cells.specs.Difference.{IsFirstDifference}
use Rattle.life_cells.specs.Listed.{listed}
use Rattle.life_cells.specs.Laws.{listed-append_at, from_list-in_order, alive_of_order}
use Rattle.life_cells.specs.OrderLaws.{cells_total, same_cell-itself}
use Rattle.life_cells.proofs.Merging.{all_after}

-- a cell before all listed ones is not listed
pub unlisted_before : (c : Cell) (cs : List Cell) → AllByRecursion (λ d. cell_cmp c d ≡ Less) cs → listed cs c.x c.y ≡ false
unlisted_before c [] h = refl
unlisted_before c (d ∷ cs) h = (λ i. ap is_eq h.0 i || unlisted_before c cs h.1 i)

-- nor is one after them
pub unlisted_after : (c : Cell) (cs : List Cell) → AllByRecursion (λ d. cell_cmp d c ≡ Less) cs → listed cs c.x c.y ≡ false
unlisted_after c [] h = refl
unlisted_after c (d ∷ cs) h = (λ i. ap is_eq (cells_total.antisymm c d ∙ ap ordering_reverse h.0) i || unlisted_after c cs h.1 i)

in_middle : (P : Cell → Type 0) (front : List Cell) (a : Cell) (back : List Cell) → AllByRecursion P (front ++ a ∷ back) → P a
in_middle P [] a back h = h.0
in_middle P (c ∷ front) a back h = in_middle P front a back h.1

-- in a list that rises all before a cell come before it, and all after it come after
pub front_before : (front : List Cell) (a : Cell) (back : List Cell) → IsRising (front ++ a ∷ back) → AllByRecursion (λ d. cell_cmp d a ≡ Less) front
unfolding IsStrictlySortedBy
front_before [] a back h = tt
front_before (c ∷ front) a back h = (in_middle (λ d. cell_cmp c d ≡ Less) front a back h.0, front_before front a back h.1)

pub back_after : (front : List Cell) (a : Cell) (back : List Cell) → IsRising (front ++ a ∷ back) → AllByRecursion (λ d. cell_cmp a d ≡ Less) back
unfolding IsStrictlySortedBy
back_after [] a back h = h.0
back_after (c ∷ front) a back h = back_after front a back h.1

-- a cell of the one list, where the other goes on with later cells
first_at : (front : List Cell) (a : Cell) (ls rs : List Cell) → IsRising (front ++ a ∷ ls) → AllByRecursion (λ d. cell_cmp a d ≡ Less) rs → IsFirstDifference a (listed (front ++ a ∷ ls)) (listed (front ++ rs))
first_at front a ls rs h after = record {
  differs = λ e.
      let on_left : listed (front ++ a ∷ ls) a.x a.y ≡ true = listed-append_at front (a ∷ ls) a.x a.y ∙ (λ i. unlisted_after a front (front_before front a ls h) i || (same_cell-itself a i || listed ls a.x a.y)) in
      let on_right : listed (front ++ rs) a.x a.y ≡ false = listed-append_at front rs a.x a.y ∙ (λ i. unlisted_after a front (front_before front a ls h) i || unlisted_before a rs after i) in
      cc;
  same_before = λ d e.
      listed-append_at front (a ∷ ls) d.x d.y
      ∙ ap (λ b. listed front d.x d.y || b) (unlisted_before d (a ∷ ls) (e, all_after d a ls e (back_after front a ls h)) ∙ sym (unlisted_before d rs (all_after d a rs e after)))
      ∙ sym (listed-append_at front rs d.x d.y);
}

-- the two lists begin with the same i cells
pub record SameFront (left right : List Cell) (i : ℕ) : Type 0 where
  pub left_in : i ≤ length left
  pub right_in : i ≤ length right
  pub same : take i left ≡ take i right

split_at : (cs : List Cell) (i : ℕ) (z : Cell) → i < length cs → cs ≡ take i cs ++ get_or cs i z ∷ drop (i + 1) cs
split_at cs i z lt = sym (take-append-drop i cs) ∙ ap (λ xs. take i cs ++ xs) (drop_more cs i z lt)

-- the left list has the first difference
left_first : (left right rs : List Cell) (i : ℕ) (z : Cell) → i < length left → IsRising left → SameFront left right i → drop i right ≡ rs → AllByRecursion (λ d. cell_cmp (get_or left i z) d ≡ Less) rs
    → IsFirstDifference (get_or left i z) (listed left) (listed right)
left_first left right rs i z li rises h is after =
    let a = get_or left i z in
    let front = take i left in
    let ls = drop (i + 1) left in
    let left_is : left ≡ front ++ a ∷ ls = split_at left i z li in
    let right_is : right ≡ front ++ rs = sym (take-append-drop i right) ∙ (λ k. sym h.same k ++ is k) in
    subst (λ xs. IsFirstDifference a (listed xs) (listed right)) (sym left_is) (subst (λ ys. IsFirstDifference a (listed (front ++ a ∷ ls)) (listed ys)) (sym right_is)
    (first_at front a ls rs (subst IsRising left_is rises) after))

pub turned_around : (c : Cell) (cs ds : List Cell) → IsFirstDifference c (listed cs) (listed ds) → IsFirstDifference c (listed ds) (listed cs)
turned_around c cs ds h = record { differs = λ e. h.differs (sym e); same_before = λ d e. sym (h.same_before d e) }

pub front_turned : (left right : List Cell) (i : ℕ) → SameFront left right i → SameFront right left i
front_turned left right i h = record { left_in = h.right_in; right_in = h.left_in; same = sym h.same }

pub left_lesser : (left right : List Cell) (i : ℕ) (z : Cell) → i < length left → i < length right → cell_cmp (get_or left i z) (get_or right i z) ≡ Less → IsRising left → IsRising right → SameFront left right i
    → IsFirstDifference (get_or left i z) (listed left) (listed right)
left_lesser left right i z li ri less rises rises' h =
    let b = get_or right i z in
    let rs = drop (i + 1) right in
    let tail = back_after (take i right) b rs (subst IsRising (split_at right i z ri) rises') in
    left_first left right (b ∷ rs) i z li rises h (drop_more right i z ri) (less, all_after (get_or left i z) b rs less tail)

pub right_lesser : (left right : List Cell) (i : ℕ) (z : Cell) → i < length left → i < length right → cell_cmp (get_or left i z) (get_or right i z) ≡ Greater → IsRising left → IsRising right → SameFront left right i
    → IsFirstDifference (get_or right i z) (listed left) (listed right)
right_lesser left right i z li ri more rises rises' h =
    turned_around _ right left (left_lesser right left i z ri li (cells_total.antisymm (get_or right i z) (get_or left i z) ∙ ap ordering_reverse more) rises' rises (front_turned left right i h))

pub left_longer : (left right : List Cell) (i : ℕ) (z : Cell) → i < length left → length right ≤ i → IsRising left → SameFront left right i → IsFirstDifference (get_or left i z) (listed left) (listed right)
left_longer left right i z li le rises h = left_first left right [] i z li rises h (drop_all i right le) tt

pub right_longer : (left right : List Cell) (i : ℕ) (z : Cell) → i < length right → length left ≤ i → IsRising right → SameFront left right i → IsFirstDifference (get_or right i z) (listed left) (listed right)
right_longer left right i z ri le rises h = turned_around _ right left (left_longer right left i z ri le rises (front_turned left right i h))

-- ---- sets

pub difference_of_sets : (r : Option Cell) (cs ds : List Cell) (s t : Cells) → cs ≡ in_order s → ds ≡ in_order t → IfSome r (λ c. IsFirstDifference c (listed cs) (listed ds)) → IfSome r (λ c. IsFirstDifference c (alive s) (alive t))
difference_of_sets None cs ds s t e f h = tt
difference_of_sets (Some c) cs ds s t e f h = subst (λ p. IsFirstDifference c p (alive t)) (alive_of_order cs s e) (subst (λ p. IsFirstDifference c (listed cs) p) (alive_of_order ds t f) h)

pub no_difference : (r : Option Cell) (cs ds : List Cell) (s t : Cells) → cs ≡ in_order s → ds ≡ in_order t → IfNone r (cs ≡ ds) → IfNone r (s ≡ t)
no_difference None cs ds s t e f h = sym (from_list-in_order s) ∙ ap Rattle.life_cells.specs.Cells.from_list (sym e ∙ h ∙ f) ∙ from_list-in_order t
no_difference (Some c) cs ds s t e f h = tt
