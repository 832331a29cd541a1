-- Generations of a pattern that is replayed.
use Rattle.std.proofs.Common.{◌≡◌, ℕ, suc, ◌+◌, ◌-◌, ◌<◌, ◌≤◌, ◌^◌, sym, ap, subst, ◌∙◌, arith, Result, Ok, Err, IfOk}
use Rattle.life_plane.specs.Plane.{Plane, step, run}
use Rattle.life_plane.specs.EvolveLaws.{run-add, still_run}
use Rattle.life_cells.specs.Cells.{Cells, alive}
use Rattle.life_cells.specs.Boxes.{IsInRange}
use Rattle.life_cells.specs.BoxLaws.{range_wider, range_run}

-- one more generation
pub one_more : (s : Plane) (n : ℕ) (t u : Cells) → alive t ≡ run n s → alive u ≡ step (alive t) → alive u ≡ run (n + 1) s
one_more s n t u is next =
    let same : suc n ≡ n + 1 = omega arith in
    next ∙ ap step is ∙ ap (λ (k : ℕ). run k s) same

-- where a generation is the one before it, it is every later one
pub no_more : (s : Plane) (n last : ℕ) (t u : Cells) → n < last → alive t ≡ run n s → alive u ≡ step (alive t) → u ≡ t → alive u ≡ run last s
no_more s n last t u before is next same =
    let still : step (alive t) ≡ alive t = sym next ∙ ap alive same in
    let split : (last - n) + n ≡ last = omega arith in
    ap alive same ∙ sym (still_run (alive t) still (last - n)) ∙ ap (run (last - n)) is ∙ sym (run-add (last - n) n s) ∙ ap (λ (k : ℕ). run k s) split

-- a generation under 2^32 lies within the range of a step
pub near_enough : (s : Plane) (n : ℕ) (t : Cells) (most : ℕ) → IsInRange (2 ^ 40) s → n < 2 ^ 32 → (2 ^ 40 + 2 ^ 32) ≤ most → alive t ≡ run n s → IsInRange most (alive t)
near_enough s n t most range short wide is =
    subst (λ (p : Plane). IsInRange most p) (sym is) (range_wider (2 ^ 40 + n) most (run n s) (range_run n (2 ^ 40) s range) (omega arith))

-- so does a generation that was read off
pub later_in_range : {E : Type 0} (s : Plane) (n : ℕ) (t : Cells) (r : Result Cells E) → IsInRange (2 ^ 40) s → n < 2 ^ 32 → alive t ≡ run n s → IfOk r (λ later. later ≡ t) → IfOk r (λ later. IsInRange (2 ^ 58) (alive later))
later_in_range s n t (Ok later) range short is same = near_enough s n later (2 ^ 58) range short (omega arith) (ap alive same ∙ is)
later_in_range s n t (Err e) range short is same = tt
