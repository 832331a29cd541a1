-- Salvos by their numbers that a hand can be under, one after the other.
use Rattle.std.specs.Prelude.{◌≡◌, ℕ, ◌^◌, List, [], ◌∷◌, Option}
use Rattle.std.specs.declared.option.Option.TheVariants.{Some, None}
use Rattle.life_cells.specs.declared.cell.Cell.{Cell}
use Rattle.life_cells.specs.Boxes.{IsCellInRange}
use Rattle.elbow_graph.specs.Numbered.{IsNumbered}
use Rattle.recipe_hit.specs.Checked.{Struck}
use Rattle.build_plan.specs.Numbers.{item_of}
use Rattle.build_plan.specs.Throws.{place_past}

-- there is a salvo with the number, and the hand's place before it is in the range
pub record IsVisited (salvos : List Struck) (number : ℕ) (from : Cell) : Type 0 where
  pub salvo : Struck
  pub numbered : IsNumbered salvos number salvo
  pub range : IsCellInRange (2 ^ 50) from

-- each of them, from where the one before leaves the hand
abbrev pub AreVisited : List Struck → Cell → List ℕ → Type 0
AreVisited salvos from [] = Unit {0}
AreVisited salvos from (k ∷ ks) = IsVisited salvos k from × AreVisited salvos (place_past (item_of salvos k) from) ks

-- the salvos of a way can be visited one after the other; the first hand has none
abbrev pub IsCarried : List Struck → Option Cell → List ℕ → Type 0
IsCarried salvos None way = way ≡ []
IsCarried salvos (Some from) way = AreVisited salvos from way
