-- What is known of a salvo that was checked.
use Rattle.std.specs.Prelude.{◌≡◌, ℕ, ◌^◌, pos, neg_ℤ, ℤ, List}
use Rattle.std.specs.declared.option.Option.{Option}
use Rattle.std.specs.declared.option.Option.TheVariants.{Some, None}
use Rattle.std.specs.List.{AllByRecursion}
use Rattle.std.specs.Coded.{Coded, code_by, coded×, coded_ℕ, coded_list}
use Rattle.std.proofs.Common.{refl}
use Rattle.life_cells.specs.Cells.{Cells, alive, empty, coded_cells}
use Rattle.life_cells.specs.declared.cell.Cell.{Cell}
use Rattle.life_islands.specs.Shapes.{IsShapeOf}
use Rattle.book_parts.specs.Limits.{IsFrom}
use Rattle.book_parts.specs.Proper.{IsProperSalvo}
use Rattle.book_parts.specs.declared.salvo.RawSalvo.{RawSalvo}
use Rattle.recipe_hit.specs.declared.frame.HitFrame.{HitFrame}
use Rattle.book_parts.specs.contracts.salvo.RawSalvo as raw_salvo
use Rattle.recipe_hit.specs.contracts.frame.HitFrame as frame_row
use Rattle.recipe_hit.specs.declared.frame.Hit.{Hit}
use Rattle.recipe_hit.specs.Sound.{IsSound}

-- from -2^31 to 2^31
abbrev pub IsSmall : ℤ → Type 0
IsSmall z = IsFrom (neg_ℤ (pos (2 ^ 31))) (pos (2 ^ 31)) z

-- all numbers of a frame are small
pub record IsSmallFrame (frame : HitFrame) : Type 0 where
  pub lane : IsSmall frame.lane
  pub start : IsSmall frame.start
  pub left : IsSmall frame.bounds.left
  pub top : IsSmall frame.bounds.top
  pub right : IsSmall frame.bounds.right
  pub bottom : IsSmall frame.bounds.bottom

-- all frames of these hits are small
abbrev pub AreSmallFrames : List Hit → Type 0
AreSmallFrames hits = AllByRecursion (λ (hit : Hit). IsSmallFrame hit.frame) hits

-- a salvo, with the hand under which it was checked and its hits
pub record Struck : Type 0 where
  pub raw : RawSalvo
  pub hand : Cells
  pub hits : List Hit

-- a hit as the tuple of its fields
abbrev pub coded_hit : Coded Hit
coded_hit = code_by (Cells × (ℕ × HitFrame)) (coded× coded_cells (coded× coded_ℕ frame_row.the_row.coded))
    (λ h. (h.after, (h.generations, h.frame))) (λ p. record { after = p.0; generations = p.1.0; frame = p.1.1 }) (λ _. refl)

abbrev pub coded_struck : Coded Struck
coded_struck = code_by (RawSalvo × (Cells × List Hit)) (coded× raw_salvo.the_row.coded (coded× coded_cells (coded_list coded_hit)))
    (λ s. (s.raw, (s.hand, s.hits))) (λ p. record { raw = p.0; hand = p.1.0; hits = p.1.1 }) (λ _. refl)

-- what the type of a checked salvo keeps
pub record IsChecked (salvo : Struck) : Type 0 where
  pub proper : IsProperSalvo salvo.raw
  pub sound : IsSound (alive salvo.hand) salvo.raw salvo.hits
  pub small : AreSmallFrames salvo.hits

-- the shape of a product, and the top left of its box; none where it has no cell
abbrev pub IsShown : Cells → Option (Cells × Cell) → Type 0
IsShown product None = product ≡ empty
IsShown product (Some shown) = IsShapeOf (alive product) (alive shown.0) shown.1

-- what the type of a checked salvo keeps, with the shape of its product
pub record IsKept (salvo : Struck) (product : Option (Cells × Cell)) : Type 0 where
  pub checked : IsChecked salvo
  pub shown : IsShown salvo.raw.product product
