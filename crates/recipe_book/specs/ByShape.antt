-- The salvos of a book by the shape of what they build.
use Rattle.std.specs.Prelude.{◌≡◌, false, ℕ, ◌+◌, ◌<◌, List, [], ◌∷◌, ◌++◌, Vec}
use Rattle.std.specs.List.{AllByRecursion, Contains, slice_get}
use Rattle.std.specs.Map.{lookup}
use Rattle.std.specs.declared.alloc.Global.{Global}
use Rattle.std.specs.declared.option.Option.{Option}
use Rattle.std.specs.declared.option.Option.TheVariants.{Some, None}
use Rattle.life_plane.specs.Plane.{Plane}
use Rattle.life_cells.specs.Cells.{Cells, alive}
use Rattle.life_cells.specs.Same.{same_set}
use Rattle.life_cells.specs.declared.cell.Cell.{Cell}
use Rattle.life_islands.specs.Shapes.{IsShapeOf}
use Rattle.recipe_hit.specs.Checked.{Struck}

-- what a salvo builds has this shape: it is the shape, moved to some place
pub record Builds (salvo : Struck) (shape : Plane) : Type 0 where
  pub place : Cell
  pub is : IsShapeOf (alive salvo.raw.product) shape place

-- the salvo with this number, counted from 1, builds this shape
pub record IsNumberOf (salvos : List Struck) (shape : Plane) (number : ℕ) : Type 0 where
  pub place : ℕ
  pub number_is : number ≡ place + 1
  pub salvo : Struck
  pub there : slice_get salvos place ≡ Some salvo
  pub builds : Builds salvo shape

-- each number is below all later ones
abbrev pub AreAscending : List ℕ → Type 0
AreAscending [] = Unit {0}
AreAscending (number ∷ numbers) = AllByRecursion (λ later. number < later) numbers × AreAscending numbers

-- the numbers of exactly the salvos that build this shape, ascending
pub record AreNumbersOf (salvos : List Struck) (shape : Plane) (numbers : List ℕ) : Type 0 where
  pub each : AllByRecursion (IsNumberOf salvos shape) numbers
  pub all : (number : ℕ) → IsNumberOf salvos shape number → Contains numbers number
  pub ascending : AreAscending numbers

-- the items, or none where there is no list
abbrev pub items_or_none : Option (Vec ℕ Global) → List ℕ
items_or_none None = []
items_or_none (Some numbers) = numbers.items

-- what an index has under a shape
abbrev pub numbers_under : List (Cells × Vec ℕ Global) → Cells → List ℕ
numbers_under index shape = items_or_none (lookup (same_set shape) index)

-- an index has under each shape the numbers of the salvos that build it
abbrev pub IsIndex : List Struck → List (Cells × Vec ℕ Global) → Type 0
IsIndex salvos index = (shape : Cells) → AreNumbersOf salvos (alive shape) (numbers_under index shape)

-- an index gained a number under the shape of a product, as the last there, and is the same under all others
pub record AddsNumber (product : Plane) (number : ℕ) (before after : List (Cells × Vec ℕ Global)) : Type 0 where
  pub shape : Cells
  pub place : Cell
  pub shape_is : IsShapeOf product (alive shape) place
  pub here : numbers_under after shape ≡ numbers_under before shape ++ (number ∷ [])
  pub others : (other : Cells) → same_set shape other ≡ false → numbers_under after other ≡ numbers_under before other
