-- Cells of a set, looked at one by one.
use Rattle.std.proofs.Common.{◌≡◌, ◌↔◌, IsTrue, ℕ, ◌+◌, ◌<◌, ◌≤◌, Bool, false, List, length, take, get_or, inl, inr, sym, ap, subst, ◌∙◌}
use Rattle.std.specs.Prelude.{ℤ}
use Rattle.std.proofs.lemmas.List.{take_all}
use Rattle.std.proofs.lemmas.List.Folds.{list_any_more}
use Rattle.std.proofs.lemmas.Bool.{or_cases}
use Rattle.life_cells.specs.declared.cell.Cell.{Cell}
use Rattle.life_cells.specs.Cells.{cell, Cells, in_order, alive}
use Rattle.life_cells.specs.Laws.{alive_of_order}
use Rattle.life_cells.specs.PlaceLaws.{live_at}
use Rattle.life_cells.specs.Listed.{same_cell, listed}
use Rattle.life_cells.specs.OrderLaws.{same_cell_is}
use Rattle.life_plane.specs.Plane.{Plane}
use Rattle.life_plane.specs.Strips.{Each}

-- one cell more
pub each_more : (P : ℤ → ℤ → Type 0) (cs : List Cell) (i : ℕ) (d : Cell) → i < length cs → P (get_or cs i d).x (get_or cs i d).y → Each P (listed (take i cs)) → Each P (listed (take (i + 1) cs))
each_more P cs i d lt here before x y live =
    elim (or_cases (listed (take i cs) x y) (same_cell (cell x y) (get_or cs i d)) (sym (list_any_more (same_cell (cell x y)) cs i d lt) ∙ live)) [
      | inl h ↦ before x y h
      | inr h ↦ subst (λ (c : Cell). P c.x c.y) (sym (same_cell_is (cell x y) (get_or cs i d) h)) here
    ]

-- all cells
pub each_of_set : (P : ℤ → ℤ → Type 0) (cs : List Cell) (s : Cells) (n : ℕ) → cs ≡ in_order s → length cs ≤ n → Each P (listed (take n cs)) → Each P (alive s)
each_of_set P cs s n e le all x y live =
    all x y (ap (λ (p : Plane). p x y) (ap listed (take_all n cs le) ∙ alive_of_order cs s e) ∙ live)

-- a cell that fails
pub not_each : (P : ℤ → ℤ → Type 0) (cs : List Cell) (s : Cells) (i : ℕ) (d : Cell) (test : Bool) → cs ≡ in_order s → i < length cs → (IsTrue test ↔ P (get_or cs i d).x (get_or cs i d).y) → test ≡ false → IsTrue false ↔ Each P (alive s)
not_each P cs s i d test e lt exact fails = (λ h. absurd (cc), λ h. sym fails ∙ exact.1 (h _ _ (live_at s cs e i d lt)))
