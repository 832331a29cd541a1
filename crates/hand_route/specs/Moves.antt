-- Salvos that build nothing: where each carries the hand, or that it takes the hand away.
use Rattle.std.specs.Prelude.{◌≡◌, ℕ, ◌+ℤ◌, List}
use Rattle.std.specs.declared.option.Option.{Option}
use Rattle.std.specs.declared.option.Option.TheVariants.{Some, None}
use Rattle.life_plane.specs.Plane.{Plane, nothing}
use Rattle.life_cells.specs.Cells.{alive, cell}
use Rattle.life_cells.specs.Boxes.{InBox}
use Rattle.life_cells.specs.declared.cell.Cell.{Cell}
use Rattle.life_cells.specs.declared.bounds.Bounds.{Bounds}
use Rattle.book_parts.specs.declared.settings.Settings.{Settings}
use Rattle.elbow_graph.specs.Numbered.{IsNumbered}
use Rattle.recipe_hit.specs.Checked.{Struck}
use Rattle.hand_route.specs.Clearings.{IsSalvoClear}

-- where the hand moves: the book's settings and salvos, the room for its places, and what is built
pub record Site : Type 0 where
  pub settings : Settings
  pub salvos : List Struck
  pub room : Bounds
  pub built : Plane

abbrev pub site : Settings → List Struck → Bounds → Plane → Site
site settings salvos room built = record { settings = settings; salvos = salvos; room = room; built = built }

-- the salvo leaves no island
abbrev pub BuildsNothing : Struck → Type 0
BuildsNothing salvo = alive salvo.raw.product ≡ nothing

-- where a hand is after a salvo that states this of it
abbrev pub moved_by : Cell → Option Cell → Option Cell
moved_by from None = None
moved_by from (Some by) = Some (cell (from.x +ℤ by.x) (from.y +ℤ by.y))

-- where a salvo leaves the hand that stood at this place before it, if it leaves one
abbrev pub leaves_hand : Struck → Cell → Option Cell
leaves_hand salvo from = moved_by from salvo.raw.hand

-- the salvo with this number builds nothing, and is clear of what is built where the hand stands
pub record OnlyMoves (site : Site) (number : ℕ) (from : Cell) (salvo : Struck) : Type 0 where
  pub numbered : IsNumbered site.salvos number salvo
  pub builds_nothing : BuildsNothing salvo
  pub clear : IsSalvoClear site.settings site.built salvo from

-- it carries the hand from one place to another, which is in the room
pub record Carries (site : Site) (number : ℕ) (from to : Cell) : Type 0 where
  pub salvo : Struck
  pub moves : OnlyMoves site number from salvo
  pub leaves : leaves_hand salvo from ≡ Some to
  pub in_room : InBox site.room to.x to.y

-- it takes the hand away
pub record TakesAway (site : Site) (number : ℕ) (from : Cell) : Type 0 where
  pub salvo : Struck
  pub moves : OnlyMoves site number from salvo
  pub gone : leaves_hand salvo from ≡ None
