-- Runs of equal cells in a sorted list, and which of them are kept.
use Rattle.std.proofs.Common.{◌≡◌, ℕ, suc, ◌+◌, ◌<◌, ◌≤◌, drop, Bool, true, false, cond, List, [], ◌∷◌, ◌++◌, length, get_or, refl, sym, ap, ◌∙◌, arith, add-zero, zero-add}
use Rattle.std.specs.Prelude.{ℤ, ◌||◌}
use Rattle.std.specs.declared.cmp.Ordering.{Ordering}
use Rattle.std.specs.declared.cmp.Ordering.TheVariants.{Less, Equal, Greater}
use Rattle.std.specs.Ordering.{is_lt, is_eq, ordering_reverse}
use Rattle.std.specs.Cmp.{alike_right}
use Rattle.std.specs.List.{AllByRecursion}
use Rattle.std.specs.List.Sorted.{IsStrictlySortedBy, IsSorted}
use Rattle.std.proofs.lemmas.List.Sorted.{sorted_far, ranks_by}
use Rattle.life_cells.specs.declared.cell.Cell.{Cell}
use Rattle.life_cells.specs.Cells.{cell, cell_cmp, IsRising, Cells}
use Rattle.life_cells.specs.Listed.{same_cell, listed, times}
use Rattle.life_cells.specs.OrderLaws.{cells_total, same_cell_is, rising-none}
use Rattle.life_cells.specs.Laws.{listed-append_at}
use Rattle.life_cells.specs.Survivors.{kept, lives_with}
use Rattle.std.proofs.lemmas.List.{drop_all}
use Rattle.std.proofs.Math.Bool.{or-false}
use Rattle.life_cells.specs.Same.{same_fields}
use Rattle.life_cells.specs.SameLaws.{same_fields_tie, same_fields_is}
use Rattle.life_cells.proofs.Times.{none_before}
use Rattle.life_plane.specs.Plane.{one_if}

-- ---- lists that do not fall

-- no listed cell is before c
abbrev pub NoneBefore : Cell → List Cell → Type 0
NoneBefore c cs = AllByRecursion (λ d. is_lt (cell_cmp d c) ≡ false) cs

-- no cell is before an earlier one
abbrev pub Ascends : List Cell → Type 0
Ascends [] = Unit {0}
Ascends (c ∷ cs) = NoneBefore c cs × Ascends cs

none_before_by_place : (c : Cell) (cs : List Cell) → ((k : ℕ) (d : Cell) → k < length cs → is_lt (cell_cmp (get_or cs k d) c) ≡ false) → NoneBefore c cs
none_before_by_place c [] h = tt
none_before_by_place c (d ∷ cs) h = (h 0 d (omega arith), none_before_by_place c cs (λ k e lt. h (suc k) e (omega arith)))

ascends_by_place : (cs : List Cell) → ((i j : ℕ) (d : Cell) → i < j → j < length cs → is_lt (cell_cmp (get_or cs j d) (get_or cs i d)) ≡ false) → Ascends cs
ascends_by_place [] h = tt
ascends_by_place (c ∷ cs) h = (none_before_by_place c cs (λ k d lt. h 0 (suc k) d (omega arith) (omega arith)), ascends_by_place cs (λ i j d a b. h (suc i) (suc j) d (omega arith) (omega arith)))

-- what a sort leaves
pub ascends_from_sorted : (cs : List Cell) → IsSorted cell_cmp cs → Ascends cs
ascends_from_sorted cs h = ascends_by_place cs (λ i j d a b. sorted_far (λ x y. is_lt (cell_cmp x y)) (ranks_by cells_total (λ (x : Cell). x)) cs h i j d (omega arith) b)

less_of : (a b : Cell) → is_lt (cell_cmp b a) ≡ false → same_cell a b ≡ false → cell_cmp a b ≡ Less
less_of a b h k = by_cases (cell_cmp a b) refl
  where
    by_cases : (o : Ordering) → cell_cmp a b ≡ o → cell_cmp a b ≡ Less
    by_cases Less e = e
    by_cases Equal e = let t : same_cell a b ≡ true = ap is_eq e in cc
    by_cases Greater e = let t : is_lt (cell_cmp b a) ≡ true = ap is_lt (cells_total.antisymm b a ∙ ap ordering_reverse e) in cc

less_on : (a b c : Cell) → cell_cmp a b ≡ Less → is_lt (cell_cmp c b) ≡ false → cell_cmp a c ≡ Less
less_on a b c h k = by_cases (cell_cmp b c) refl
  where
    by_cases : (o : Ordering) → cell_cmp b c ≡ o → cell_cmp a c ≡ Less
    by_cases Less e = cells_total.trans a b c h e
    by_cases Equal e = sym (alike_right cells_total b c a e) ∙ h
    by_cases Greater e = let t : is_lt (cell_cmp c b) ≡ true = ap is_lt (cells_total.antisymm c b ∙ ap ordering_reverse e) in cc

all_less_on : (a b : Cell) (cs : List Cell) → cell_cmp a b ≡ Less → NoneBefore b cs → AllByRecursion (λ d. cell_cmp a d ≡ Less) cs
all_less_on a b [] h k = tt
all_less_on a b (c ∷ cs) h k = (less_on a b c h k.0, all_less_on a b cs h k.1)

-- a new cell, and all after it, come after c
later : (c d : Cell) (cs : List Cell) → Ascends (c ∷ (d ∷ cs)) → same_fields d c ≡ false → AllByRecursion (λ e. cell_cmp c e ≡ Less) (d ∷ cs)
later c d cs h e =
    let turn : same_cell c d ≡ false = ap is_eq (cells_total.antisymm c d) ∙ turned (cell_cmp d c) ∙ sym (same_fields_tie d c) ∙ e in
    let l = less_of c d h.0.0 turn in
    (l, all_less_on c d cs l h.1.0)
  where
    turned : (o : Ordering) → is_eq (ordering_reverse o) ≡ is_eq o
    turned Less = refl
    turned Equal = refl
    turned Greater = refl

-- ---- runs

-- c came n times so far; then come the listed cells
abbrev pub runs : (Cell → ℕ → Bool) → Cell → ℕ → List Cell → List Cell
runs lives c n [] = kept lives c n
runs lives c n (d ∷ cs) = cond (same_fields d c) (runs lives c (n + 1) cs) (kept lives c n ++ runs lives d 1 cs)

-- the kept cells of a whole list
abbrev pub kept_runs : (Cell → ℕ → Bool) → List Cell → List Cell
kept_runs lives [] = []
kept_runs lives (c ∷ cs) = runs lives c 1 cs

each_kept : (lives : Cell → ℕ → Bool) (P : Cell → Type 0) (c : Cell) (n : ℕ) (ds : List Cell) → P c → AllByRecursion P ds → AllByRecursion P (kept lives c n ++ ds)
each_kept lives P c n ds p h = elim (lives c n) as (λ b. AllByRecursion P (cond b (c ∷ []) [] ++ ds)) [ true ↦ (p, h) | false ↦ h ]

each_of_runs : (lives : Cell → ℕ → Bool) (P : Cell → Type 0) (c : Cell) (n : ℕ) (cs : List Cell) → P c → AllByRecursion P cs → AllByRecursion P (runs lives c n cs)
each_of_runs lives P c n [] p h = elim (lives c n) as (λ b. AllByRecursion P (cond b (c ∷ []) [])) [ true ↦ (p, tt) | false ↦ tt ]
each_of_runs lives P c n (d ∷ cs) p h =
    elim (same_fields d c) as (λ b. AllByRecursion P (cond b (runs lives c (n + 1) cs) (kept lives c n ++ runs lives d 1 cs))) [
      | true ↦ each_of_runs lives P c (n + 1) cs p h.1
      | false ↦ each_kept lives P c n (runs lives d 1 cs) p (each_of_runs lives P d 1 cs h.0 h.1)
    ]

pub rising-runs : (lives : Cell → ℕ → Bool) (c : Cell) (n : ℕ) (cs : List Cell) → Ascends (c ∷ cs) → IsRising (runs lives c n cs)
unfolding IsStrictlySortedBy
rising-runs lives c n [] h = elim (lives c n) as (λ b. IsRising (cond b (c ∷ []) [])) [ true ↦ (tt, tt) | false ↦ tt ]
rising-runs lives c n (d ∷ cs) h =
    elim (same_fields d c) as (λ b. same_fields d c ≡ b → IsRising (cond b (runs lives c (n + 1) cs) (kept lives c n ++ runs lives d 1 cs))) [
      | true ↦ λ _. rising-runs lives c (n + 1) cs (h.0.1, h.1.1)
      | false ↦ λ e. let after = later c d cs h e in let rest = rising-runs lives d 1 cs h.1 in
          elim (lives c n) as (λ b. IsRising (cond b (c ∷ []) [] ++ runs lives d 1 cs)) [
            | true ↦ (each_of_runs lives (λ f. cell_cmp c f ≡ Less) d 1 cs after.0 after.1, rest)
            | false ↦ rest
          ]
    ] refl

-- how often the cell at x and y comes, where c came n times before the listed cells
abbrev times_with : Cell → ℕ → List Cell → ℤ → ℤ → ℕ
times_with c n cs x y = cond (same_cell (cell x y) c) n 0 + times cs x y

kept_there : (lives : Cell → ℕ → Bool) (c : Cell) (n : ℕ) (x y : ℤ) → same_cell (cell x y) c ≡ true → listed (kept lives c n) x y ≡ lives (cell x y) n
kept_there lives c n x y e =
    elim (lives c n) as (λ b. listed (cond b (c ∷ []) []) x y ≡ b) [ true ↦ ap (λ a. a || false) e | false ↦ refl ]
    ∙ ap (λ d. lives d n) (sym (same_cell_is (cell x y) c e))

kept_elsewhere : (lives : Cell → ℕ → Bool) (c : Cell) (n : ℕ) (x y : ℤ) → same_cell (cell x y) c ≡ false → listed (kept lives c n) x y ≡ false
kept_elsewhere lives c n x y e = elim (lives c n) as (λ b. listed (cond b (c ∷ []) []) x y ≡ false) [ true ↦ ap (λ a. a || false) e | false ↦ refl ]

one_more : (b : Bool) (n t : ℕ) → cond b (n + 1) 0 + t ≡ cond b n 0 + (one_if b + t)
one_more true n t = omega arith
one_more false n t = omega arith

-- a new cell begins a run
new_run : (lives : Cell → ℕ → Bool) → ((c : Cell) → lives c 0 ≡ false) → (c : Cell) (n : ℕ) (d : Cell) (cs : List Cell) (x y : ℤ) → AllByRecursion (λ e. cell_cmp c e ≡ Less) (d ∷ cs)
    → listed (runs lives d 1 cs) x y ≡ lives (cell x y) (times_with d 1 cs x y) → (listed (kept lives c n) x y || listed (runs lives d 1 cs) x y) ≡ lives (cell x y) (times_with c n (d ∷ cs) x y)
new_run lives quiet c n d cs x y after rest =
    let p = cell x y in
    elim (same_cell p c) as (λ b. same_cell p c ≡ b → (listed (kept lives c n) x y || listed (runs lives d 1 cs) x y) ≡ lives p (cond b n 0 + times (d ∷ cs) x y)) [
      | true ↦ λ e.
          let none : times (d ∷ cs) x y ≡ 0 = ap (λ (f : Cell). times (d ∷ cs) f.x f.y) (same_cell_is p c e) ∙ none_before c (d ∷ cs) after in
          (λ i. kept_there lives c n x y e i || (rest ∙ ap (lives p) none ∙ quiet p) i) ∙ or-false (lives p n) ∙ ap (lives p) (sym (add-zero n) ∙ ap (λ t. n + t) (sym none))
      | false ↦ λ e. (λ i. kept_elsewhere lives c n x y e i || rest i) ∙ ap (lives p) (sym (zero-add (times (d ∷ cs) x y)))
    ] refl

-- what is kept is what lives by how often it comes
pub listed-runs : (lives : Cell → ℕ → Bool) → ((c : Cell) → lives c 0 ≡ false) → (c : Cell) (n : ℕ) (cs : List Cell) → Ascends (c ∷ cs) → (x y : ℤ) → listed (runs lives c n cs) x y ≡ lives (cell x y) (times_with c n cs x y)
listed-runs lives quiet c n [] h x y =
    elim (same_cell (cell x y) c) as (λ b. same_cell (cell x y) c ≡ b → listed (kept lives c n) x y ≡ lives (cell x y) (cond b n 0 + 0)) [
      | true ↦ λ e. kept_there lives c n x y e ∙ ap (lives (cell x y)) (sym (add-zero n))
      | false ↦ λ e. kept_elsewhere lives c n x y e ∙ sym (quiet (cell x y))
    ] refl
listed-runs lives quiet c n (d ∷ cs) h x y =
    let p = cell x y in
    elim (same_fields d c) as (λ f. same_fields d c ≡ f → listed (cond f (runs lives c (n + 1) cs) (kept lives c n ++ runs lives d 1 cs)) x y ≡ lives p (cond (same_cell p c) n 0 + (one_if (same_cell p d) + times cs x y))) [
      | true ↦ λ f. listed-runs lives quiet c (n + 1) cs (h.0.1, h.1.1) x y ∙ ap (lives p) (one_more (same_cell p c) n (times cs x y) ∙ ap (λ g. cond (same_cell p c) n 0 + (one_if (same_cell p g) + times cs x y)) (sym (same_fields_is d c f)))
      | false ↦ λ f. listed-append_at (kept lives c n) (runs lives d 1 cs) x y ∙ new_run lives quiet c n d cs x y (later c d cs h f) (listed-runs lives quiet d 1 cs h.1 x y)
    ] refl

pub rising-kept_runs : (lives : Cell → ℕ → Bool) (cs : List Cell) → Ascends cs → IsRising (kept_runs lives cs)
rising-kept_runs lives [] h = rising-none
rising-kept_runs lives (c ∷ cs) h = rising-runs lives c 1 cs h

pub listed-kept_runs : (lives : Cell → ℕ → Bool) → ((c : Cell) → lives c 0 ≡ false) → (cs : List Cell) → Ascends cs → (x y : ℤ) → listed (kept_runs lives cs) x y ≡ lives (cell x y) (times cs x y)
listed-kept_runs lives quiet [] h x y = sym (quiet (cell x y))
listed-kept_runs lives quiet (c ∷ cs) h x y = listed-runs lives quiet c 1 cs h x y

-- ---- a walk over the marks

-- next is what is kept so far, and place was marked n times among the marks before the i-th of the rest
pub record IsWalk (lives : Cell → ℕ → Bool) (marks rest : List Cell) (i : ℕ) (place : Cell) (n : ℕ) (next : List Cell) : Type 0 where
  pub so_far : next ++ runs lives place n (drop i rest) ≡ kept_runs lives marks
  pub few : n ≤ i + 1

pub walk_ends : (lives : Cell → ℕ → Bool) (marks rest : List Cell) (i : ℕ) (place : Cell) (n : ℕ) (next all : List Cell) → IsWalk lives marks rest i place n next → length rest ≤ i → all ≡ next ++ kept lives place n → all ≡ kept_runs lives marks
walk_ends lives marks rest i place n next all h le e = e ∙ ap (λ xs. next ++ runs lives place n xs) (sym (drop_all i rest le)) ∙ h.so_far

pub lives_with-none : (live : Cells) (c : Cell) → lives_with live c 0 ≡ false
lives_with-none live c = refl
