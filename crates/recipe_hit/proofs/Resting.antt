-- A pattern generation by generation, until it is still.
use Rattle.std.proofs.Common.{◌≡◌, ℕ, suc, ◌+◌, ◌-◌, ◌^◌, ◌<◌, ◌≤◌, ◌⊎◌, inl, inr, sym, ap, subst, ◌∙◌, arith}
use Rattle.std.proofs.lemmas.Bool.{cases_lt}
use Rattle.life_plane.specs.Plane.{Plane, run, step, union, IsStill}
use Rattle.life_cells.specs.declared.bounds.Bounds.{Bounds}
use Rattle.life_cells.specs.Cells.{Cells, alive}
use Rattle.life_cells.specs.Boxes.{IsInRange, IsLeastBox}
use Rattle.life_cells.specs.BoxLaws.{range_run, range_wider}
use Rattle.life_cells.specs.Laws.{same_cells}
use Rattle.life_plane.specs.EvolveLaws.{run-add}
use Rattle.recipe_hit.specs.Strike.{ever}
use Rattle.recipe_hit.specs.Rest.{NeverRests}
use Rattle.recipe_hit.specs.Endless.{NeverStill}
use Rattle.recipe_hit.specs.FrontLaws.{back_never_still}
use Rattle.recipe_hit.specs.declared.limits.TheConstants.{LONGEST_HIT}

-- none of the generations before this one is still
abbrev pub MovesBefore : Plane → ℕ → Type 0
MovesBefore start n = (t : ℕ) → t < n → IsStill (run t start) → ⊥

-- how far the cells of a generation lie
pub course_range : (start s : Plane) (t : ℕ) → IsInRange (2 ^ 44) start → t ≤ LONGEST_HIT → s ≡ run t start → IsInRange (2 ^ 58) s
course_range start s t h le same = subst (IsInRange (2 ^ 58)) (sym same) (range_wider (2 ^ 44 + t) (2 ^ 58) _ (range_run t (2 ^ 44) start h) (omega arith))

-- what a step changes isn't still
pub not_still_now : (start : Plane) (s next : Cells) (t : ℕ) → alive s ≡ run t start → alive next ≡ step (alive s) → (next ≡ s → ⊥) → IsStill (run t start) → ⊥
not_still_now start s next t same is changed still = changed (same_cells next s (is ∙ ap step same ∙ still ∙ sym same))

pub moves_more : (start : Plane) (t : ℕ) → MovesBefore start t → (IsStill (run t start) → ⊥) → MovesBefore start (t + 1)
moves_more start t before here k lt still = elim (cases_lt k t) [
  | inl l ↦ before k l still
  | inr ge ↦ let same : k ≡ t = omega arith in here (subst (λ n. IsStill (run n start)) same still)
]

-- all cells of one generation more
pub ever_more : (start s : Plane) (box : Bounds) (t : ℕ) → s ≡ run (t + 1) start → IsLeastBox box (union (ever t start) s) → IsLeastBox box (ever (t + 1) start)
ever_more start s box t same h =
    let one : suc t ≡ t + 1 = omega arith in
    subst (λ n. IsLeastBox box (ever n start)) one (subst (λ p. IsLeastBox box (union (ever t start) p)) (same ∙ ap (λ n. run n start) (sym one)) h)

-- a generation that was looked at, the first one or one before so many
pub record WasSeen (start : Plane) (before : Cells) (n : ℕ) : Type 0 where
  pub at : ℕ
  pub early : at ≤ n - 1
  pub is : alive before ≡ run at start

pub seen_more : (start : Plane) (cells before after : Cells) (n : ℕ) → alive cells ≡ run n start → WasSeen start before n → (after ≡ before) ⊎ (after ≡ cells) → WasSeen start after (n + 1)
seen_more start cells before after n now seen (inl same) = let early = seen.early in record { at = seen.at; early = omega arith; is = ap alive same ∙ seen.is }
seen_more start cells before after n now seen (inr same) = record { at = n; early = omega arith; is = ap alive same ∙ now }

-- what is as it was, or is led by a glider, never rests
pub never_rests : (start : Plane) (cells before : Cells) (n : ℕ) → alive cells ≡ run n start → MovesBefore start n → WasSeen start before n →
    ((0 < n) × (cells ≡ before)) ⊎ NeverStill (alive cells) → NeverRests start
never_rests start cells before n now moves seen why t le still = elim (cases_lt t n) [
  | inl early ↦ moves t early still
  | inr ge ↦ on why (t - n) (subst (λ k. IsStill (run k start)) (let sum : t ≡ (t - n) + n = omega arith in sum) still)
]
  where
    on : ((0 < n) × (cells ≡ before)) ⊎ NeverStill (alive cells) → (k : ℕ) → IsStill (run (k + n) start) → ⊥
    on (inl back) k still =
        let early = seen.early in
        let some = back.0 in
        let first : seen.at < n = omega arith in
        back_never_still start seen.at n first (sym now ∙ ap alive back.1 ∙ seen.is) (moves seen.at first) k (subst IsStill (run-add k n start) still)
    on (inr never) k still = never k (subst (λ (s : Plane). IsStill (run k s)) (sym now) (subst IsStill (run-add k n start) still))
