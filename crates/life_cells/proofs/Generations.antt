-- One generation by counting marks, and how far cells wander in many.
use Rattle.std.proofs.Common.{◌≡◌, ℕ, ◌+◌, true, false, Bool, List, sym, ap, subst, ◌∙◌, arith, add-one}
use Rattle.std.specs.Prelude.{ℤ, ◌||◌, ◌&&◌, nat_eq}
use Rattle.std.specs.List.Sorted.{IsPermutation}
use Rattle.std.proofs.lemmas.Bool.Decides.{nat_tests}
use Rattle.life_cells.specs.declared.cell.Cell.{Cell}
use Rattle.life_cells.specs.Cells.{cell, Cells, alive, in_order, from_list, IsRising}
use Rattle.life_cells.specs.Laws.{alive-from_list, alive_of_order}
use Rattle.life_cells.specs.Listed.{listed, times}
use Rattle.life_cells.specs.Near.{near_list, block}
use Rattle.life_cells.specs.Survivors.{lives_with}
use Rattle.life_cells.specs.Boxes.{IsInRange}
use Rattle.life_cells.proofs.Times.{times-permutation}
use Rattle.life_cells.proofs.Around.{times-near}
use Rattle.life_plane.specs.Plane.{Plane, step, run, one_if, neighbours, lives_on, same_plane}
use Rattle.life_cells.specs.BoxLaws.{range_wider, range_step}

-- a cell that counts itself lives with three, or with four where it lived
counted : (a : Bool) (n : ℕ) → (nat_eq (one_if a + n) 3 || (nat_eq (one_if a + n) 4 && a)) ≡ lives_on a n
counted true n = grind (arith, nat_tests)
counted false n = grind (arith, nat_tests)

-- what lives by its marks is the next generation
pub marks_step : (cells : Cells) (cs near sorted marks next : List Cell) → cs ≡ in_order cells → IsRising cs → near ≡ near_list cs → IsPermutation near sorted → marks ≡ sorted
    → ((x y : ℤ) → listed next x y ≡ lives_with cells (cell x y) (times marks x y)) → alive (from_list next) ≡ step (alive cells)
unfolding step
marks_step cells cs near sorted marks next order rises is moved same lives = alive-from_list next ∙ same_plane _ _ (λ x y.
    let count : times marks x y ≡ block (alive cells) x y =
    ap (λ xs. times xs x y) same ∙ times-permutation near sorted x y moved ∙ ap (λ xs. times xs x y) is ∙ times-near cs x y rises ∙ ap (λ (p : Plane). block p x y) (alive_of_order cs cells order) in
    lives x y ∙ ap (lives_with cells (cell x y)) count ∙ counted (alive cells x y) (neighbours (alive cells) x y))

-- the n-th generation, in its range
pub record IsGeneration (first : Plane) (range n : ℕ) (now : Plane) : Type 0 where
  pub is : now ≡ run n first
  pub in_range : IsInRange (range + n) now

pub first_generation : (first now : Plane) (range : ℕ) → now ≡ first → IsInRange range first → IsGeneration first range 0 now
first_generation first now range e h = record { is = e; in_range = subst (IsInRange (range + 0)) (sym e) (range_wider range (range + 0) first h (omega arith)) }

pub next_generation : (first now next : Plane) (range n : ℕ) → IsGeneration first range n now → next ≡ step now → IsGeneration first range (n + 1) next
next_generation first now next range n h e = record {
  is = e ∙ ap step h.is ∙ ap (λ k. run k first) (sym (add-one n));
  in_range = subst (IsInRange (range + (n + 1))) (sym e) (range_wider ((range + n) + 1) (range + (n + 1)) (step now) (range_step (range + n) now h.in_range) (omega arith));
}
