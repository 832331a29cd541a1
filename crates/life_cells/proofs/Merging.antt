-- One step of a merge: done is what is merged so far, and ls and rs are what is left of the two lists.
use Rattle.std.proofs.Common.{◌≡◌, ℕ, ◌+◌, ◌<◌, ◌≤◌, length, drop, get_or, append_assoc, subst, arith, Bool, true, false, List, [], ◌∷◌, ◌++◌, refl, sym, ap, ◌∙◌}
use Rattle.std.specs.Prelude.{ℤ, ◌||◌}
use Rattle.std.specs.declared.cmp.Ordering.TheVariants.{Less, Equal, Greater}
use Rattle.std.specs.Ordering.{ordering_reverse}
use Rattle.std.specs.List.{AllByRecursion}
use Rattle.std.specs.List.Sorted.{IsStrictlySortedBy}
use Rattle.std.proofs.lemmas.List.{drop_more}
use Rattle.std.proofs.Math.Bool.{or_comm, or_assoc}
use Rattle.life_cells.specs.declared.cell.Cell.{Cell}
use Rattle.life_cells.specs.Cells.{cell, cell_cmp, IsRising}
use Rattle.life_cells.specs.Listed.{same_cell, listed}
use Rattle.life_cells.specs.OrderLaws.{cells_total, cells_antisymmetric}
use Rattle.life_cells.specs.Laws.{listed-append_at}
use Rattle.life_plane.specs.Plane.{union, same_plane}

-- what comes after b comes after each cell before b
pub all_after : (a b : Cell) (cs : List Cell) → cell_cmp a b ≡ Less → AllByRecursion (λ d. cell_cmp b d ≡ Less) cs → AllByRecursion (λ d. cell_cmp a d ≡ Less) cs
all_after a b [] e h = tt
all_after a b (c ∷ cs) e h = (cells_total.trans a b c e h.0, all_after a b cs e h.1)

each_between : (P : Cell → Type 0) (done : List Cell) (a : Cell) (ls rs : List Cell) → AllByRecursion P (done ++ a ∷ ls) → AllByRecursion P (done ++ rs) → AllByRecursion P (done ++ a ∷ rs)
each_between P [] a ls rs h k = (h.0, k)
each_between P (c ∷ done) a ls rs h k = (h.0, each_between P done a ls rs h.1 k.1)

-- the lesser head goes in front of the other list
pub rising_between : (done : List Cell) (a b : Cell) (ls rs : List Cell) → cell_cmp a b ≡ Less → IsRising (done ++ a ∷ ls) → IsRising (done ++ b ∷ rs) → IsRising (done ++ a ∷ (b ∷ rs))
unfolding IsStrictlySortedBy
rising_between [] a b ls rs e h k = ((e, all_after a b rs e k.0), k)
rising_between (c ∷ done) a b ls rs e h k = (each_between (λ d. cell_cmp c d ≡ Less) done a ls (b ∷ rs) h.0 k.0, rising_between done a b ls rs e h.1 k.1)

-- done is merged from the first i and the first j cells
pub record IsMerging (left right : List Cell) (i j : ℕ) (done : List Cell) : Type 0 where
  pub left_in : i ≤ length left
  pub right_in : j ≤ length right
  pub left_rises : IsRising (done ++ drop i left)
  pub right_rises : IsRising (done ++ drop j right)
  pub both : (x y : ℤ) → (listed done x y || (listed (drop i left) x y || listed (drop j right) x y)) ≡ (listed left x y || listed right x y)

taken_left : (d s a b : Bool) → ((d || (s || false)) || (a || b)) ≡ (d || ((s || a) || b))
taken_left true s a b = refl
taken_left false true a b = refl
taken_left false false a b = refl

taken_both : (d s a b : Bool) → ((d || (s || false)) || (a || b)) ≡ (d || ((s || a) || (s || b)))
taken_both true s a b = refl
taken_both false true a b = refl
taken_both false false a b = refl

pub merging_swapped : {left right : List Cell} {i j : ℕ} {done : List Cell} → IsMerging left right i j done → IsMerging right left j i done
merging_swapped {left} {right} {i} {j} {done} h = record {
  left_in = h.right_in;
  right_in = h.left_in;
  left_rises = h.right_rises;
  right_rises = h.left_rises;
  both = λ x y. ap (λ b. listed done x y || b) (or_comm (listed (drop j right) x y) (listed (drop i left) x y)) ∙ h.both x y ∙ or_comm (listed left x y) (listed right x y);
}

-- the left head comes first
pub merge_left : (left right : List Cell) (i j : ℕ) (done next : List Cell) (z : Cell) → i < length left → j < length right
    → cell_cmp (get_or left i z) (get_or right j z) ≡ Less → IsMerging left right i j done → next ≡ done ++ get_or left i z ∷ [] → IsMerging left right (i + 1) j next
merge_left left right i j done next z li lj less h e =
    let a = get_or left i z in
    let b = get_or right j z in
    let ls = drop (i + 1) left in
    let rs = drop (j + 1) right in
    let left_is : drop i left ≡ a ∷ ls = drop_more left i z li in
    let right_is : drop j right ≡ b ∷ rs = drop_more right j z lj in
    let l : IsRising (done ++ a ∷ ls) = subst (λ xs. IsRising (done ++ xs)) left_is h.left_rises in
    let r : IsRising (done ++ b ∷ rs) = subst (λ xs. IsRising (done ++ xs)) right_is h.right_rises in
    subst (IsMerging left right (i + 1) j) (sym e) (record {
      left_in = omega arith;
      right_in = h.right_in;
      left_rises = subst IsRising (sym (append_assoc done (a ∷ []) ls)) l;
      right_rises = subst IsRising (ap (λ xs. done ++ a ∷ xs) (sym right_is) ∙ sym (append_assoc done (a ∷ []) (drop j right))) (rising_between done a b ls rs less l r);
      both = λ x y.
          ap (λ t. t || (listed ls x y || listed (drop j right) x y)) (listed-append_at done (a ∷ []) x y)
          ∙ taken_left (listed done x y) (same_cell (cell x y) a) (listed ls x y) (listed (drop j right) x y)
          ∙ ap (λ xs. listed done x y || (listed xs x y || listed (drop j right) x y)) (sym left_is)
          ∙ h.both x y;
    })

turned : (a b : Cell) → cell_cmp a b ≡ Greater → cell_cmp b a ≡ Less
turned a b e = cells_total.antisymm b a ∙ ap ordering_reverse e

-- the right head comes first
pub merge_right : (left right : List Cell) (i j : ℕ) (done next : List Cell) (z : Cell) → i < length left → j < length right
    → cell_cmp (get_or left i z) (get_or right j z) ≡ Greater → IsMerging left right i j done → next ≡ done ++ get_or right j z ∷ [] → IsMerging left right i (j + 1) next
merge_right left right i j done next z li lj more h e =
    merging_swapped (merge_left right left j i done next z lj li (turned (get_or left i z) (get_or right j z) more) (merging_swapped h) e)

-- the two heads are one cell
pub merge_both : (left right : List Cell) (i j : ℕ) (done next : List Cell) (z : Cell) → i < length left → j < length right
    → cell_cmp (get_or left i z) (get_or right j z) ≡ Equal → IsMerging left right i j done → next ≡ done ++ get_or left i z ∷ [] → IsMerging left right (i + 1) (j + 1) next
merge_both left right i j done next z li lj tie h e =
    let a = get_or left i z in
    let ls = drop (i + 1) left in
    let rs = drop (j + 1) right in
    let same : a ≡ get_or right j z = cells_antisymmetric a (get_or right j z) tie in
    let left_is : drop i left ≡ a ∷ ls = drop_more left i z li in
    let right_is : drop j right ≡ a ∷ rs = drop_more right j z lj ∙ ap (λ c. c ∷ rs) (sym same) in
    subst (IsMerging left right (i + 1) (j + 1)) (sym e) (record {
      left_in = omega arith;
      right_in = omega arith;
      left_rises = subst IsRising (ap (λ xs. done ++ xs) left_is ∙ sym (append_assoc done (a ∷ []) ls)) h.left_rises;
      right_rises = subst IsRising (ap (λ xs. done ++ xs) right_is ∙ sym (append_assoc done (a ∷ []) rs)) h.right_rises;
      both = λ x y.
          ap (λ t. t || (listed ls x y || listed rs x y)) (listed-append_at done (a ∷ []) x y)
          ∙ taken_both (listed done x y) (same_cell (cell x y) a) (listed ls x y) (listed rs x y)
          ∙ (λ k. listed done x y || (listed (sym left_is k) x y || listed (sym right_is k) x y))
          ∙ h.both x y;
    })

-- at the end the rest of both lists follows
pub merged_both : (left right : List Cell) (i j : ℕ) (done all : List Cell) → IsMerging left right i j done → all ≡ (done ++ drop i left) ++ drop j right → listed all ≡ union (listed left) (listed right)
merged_both left right i j done all h e = same_plane _ _ (λ x y.
    ap (λ xs. listed xs x y) e
    ∙ listed-append_at (done ++ drop i left) (drop j right) x y
    ∙ ap (λ t. t || listed (drop j right) x y) (listed-append_at done (drop i left) x y)
    ∙ or_assoc (listed done x y) (listed (drop i left) x y) (listed (drop j right) x y)
    ∙ h.both x y)
