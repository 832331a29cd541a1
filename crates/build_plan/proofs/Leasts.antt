-- What is known of least lists: there is at most one of each kind.
use Rattle.std.specs.Prelude.{◌≡◌, ℕ, ℤ, List}
use Rattle.life_cells.specs.declared.cell.Cell.{Cell}
use Rattle.book_parts.specs.declared.turn.RawTurn.{RawTurn}
use Rattle.elbow_graph.specs.declared.elbow.Elbow.{Elbow}
use Rattle.elbow_route.specs.Lists.{IsLeastServing, IsLeastClosing}
use Rattle.hand_route.specs.Moves.{Site}
use Rattle.hand_route.specs.Lists.{IsLeastHandList, IsLeastFarewell}

-- lists that serve a lane
abbrev pub ServingIsOne : Type 0
ServingIsOne = (turns : List RawTurn) (span lane : ℤ) (from : Elbow) (a b : List ℕ) → IsLeastServing turns span lane from a → IsLeastServing turns span lane from b → a ≡ b

pub record LeastAreOne : Type 0 where
  pub serving : ServingIsOne
  pub closing : (turns : List RawTurn) (span : ℤ) (from : Elbow) (a b : List ℕ) → IsLeastClosing turns span from a → IsLeastClosing turns span from b → a ≡ b
  pub hand : (site : Site) (from to : Cell) (a b : List ℕ) → IsLeastHandList site from a to → IsLeastHandList site from b to → a ≡ b
  pub farewell : (site : Site) (from : Cell) (a b : List ℕ) → IsLeastFarewell site from a → IsLeastFarewell site from b → a ≡ b
