-- A pattern on its way, generation by generation, and where two sets of cells first differ.
use Rattle.std.proofs.Common.{◌≡◌, ℕ, suc, ◌+◌, sym, ap, ◌∙◌, arith}
use Rattle.life_plane.specs.Plane.{Plane, run, step}
use Rattle.life_cells.specs.declared.cell.Cell.{Cell}
use Rattle.life_cells.specs.Cells.{cell}
use Rattle.life_cells.specs.Difference.{IsFirstDifference}
use Rattle.life_cells.specs.Firsts.{IsFirstDifferent}

-- one generation on
pub course_more : (start s next : Plane) (t : ℕ) → s ≡ run t start → next ≡ step s → next ≡ run (t + 1) start
course_more start s next t same is = is ∙ ap step same ∙ ap (λ k. run k start) (let e : suc t ≡ t + 1 = omega arith in e)

-- the first cell in just one of two sets
pub first_different : (s t p q : Plane) (c : Cell) → s ≡ p → t ≡ q → IsFirstDifference c s t → IsFirstDifferent p q c
first_different s t p q c same_s same_t first = record {
  is = λ e. first.differs (ap (λ (r : Plane). r c.x c.y) same_s ∙ e ∙ ap (λ (r : Plane). r c.x c.y) (sym same_t));
  none_before = λ x y apart before. apart (ap (λ (r : Plane). r x y) (sym same_s) ∙ first.same_before (cell x y) before ∙ ap (λ (r : Plane). r x y) same_t);
}
