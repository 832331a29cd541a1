-- The tables of a graph.
use Rattle.std.specs.Prelude.{◌≡◌, List}
use Rattle.elbow_graph.specs.declared.exit.Exit.{Exit}
use Rattle.elbow_graph.specs.declared.table.Table.TheVariants.{Moves, Leading, Closing, Throws}
use Rattle.elbow_graph.specs.Tables.{Listed, listed}

-- each table is over these turns
pub record AreTabled (exits : List Exit) (moves leading closing throws : Listed) : Type 0 where
  pub moves_are : moves ≡ listed Moves exits
  pub leading_are : leading ≡ listed Leading exits
  pub closing_are : closing ≡ listed Closing exits
  pub throws_are : throws ≡ listed Throws exits
