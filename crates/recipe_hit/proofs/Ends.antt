-- What a salvo leaves, against what it states.
use Rattle.std.proofs.Common.{◌≡◌, ◌↔◌, IsTrue, Bool, true, ℕ, ◌<◌, ◌≤◌, length, Some, refl, sym, ap, ◌∙◌, inl, inr}
use Rattle.std.specs.List.{slice_get}
use Rattle.life_plane.specs.Plane.{Plane}
use Rattle.life_plane.specs.Apart.{Apart}
use Rattle.life_cells.specs.declared.cell.Cell.{Cell}
use Rattle.life_cells.specs.Cells.{Cells, alive, empty, in_order}
use Rattle.life_cells.specs.Close.{Close}
use Rattle.life_cells.specs.Laws.{alive-empty, same_cells}
use Rattle.life_islands.specs.Islands.{IsOneIsland}
use Rattle.recipe_hit.specs.Sound.{IsWhole}
use Rattle.recipe_hit.specs.SalvoRefusals.{IsFirstNear}
use Rattle.life_cells.specs.PlaceLaws.{each_live}

-- nothing is whole
pub whole_if_empty : (s : Cells) → s ≡ empty → IsTrue true ↔ IsWhole (alive s)
whole_if_empty s e = (λ h. inl (ap alive e ∙ alive-empty), λ h. refl)

-- and what lives is whole where it is one island
pub whole_if_island : (s : Cells) (one : Bool) → (s ≡ empty → ⊥) → IsTrue one ↔ IsOneIsland (alive s) → IsTrue one ↔ IsWhole (alive s)
whole_if_island s one some decides = (λ h. inr (decides.0 h), λ whole. elim whole [ inl none ↦ absurd (some (same_cells s empty (none ∙ sym alive-empty))) | inr island ↦ decides.1 island ])

-- where no cell of a product is close to the hand both are apart
pub none_near : (product : Cells) (hand : Plane) (n : ℕ) → length (in_order product) ≤ n → ((k : ℕ) (d : Cell) → k < n → slice_get (in_order product) k ≡ Some d → Close hand d.x d.y → ⊥) →
    Apart (alive product) hand
none_near product hand n short each = record {
  far = λ x y a b p q w. each_live product (λ x y. Close hand x y → ⊥) n short each x y p (record { a = a; b = b; lives = q; near = w });
}

-- close cells are not apart
pub near_not_apart : (product hand : Plane) (c : Cell) → IsFirstNear product hand c → Apart product hand → ⊥
near_not_apart product hand c first apart = let near = first.is.1 in apart.far c.x c.y near.a near.b first.is.0 near.lives near.near
