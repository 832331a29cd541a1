-- What a planner plans with, and the ways of its hand.
use Rattle.std.specs.Prelude.{◌≡◌, ◌^◌, Option}
use Rattle.std.specs.declared.option.Option.TheVariants.{Some, None}
use Rattle.life_cells.specs.declared.cell.Cell.{Cell}
use Rattle.life_cells.specs.Boxes.{IsCellInRange}
use Rattle.elbow_graph.specs.Exits.{exits_of}
use Rattle.recipe_turn.specs.Checked.{raws}
use Rattle.breadth_search.specs.Labelled.{Labelled}
use Rattle.hand_route.specs.Moves.{Site}
use Rattle.hand_route.specs.Rooms.{IsRoom}
use Rattle.hand_route.specs.Ways as hand
use Rattle.hand_route.specs.Ways.{Ground}
use Rattle.build_plan.specs.declared.planner.Planner.{Planner}

-- the graph is that of the book's turns, the salvos are the book's, the move is not too far, and the room is one
pub record IsPlanner (planner : Planner) : Type 0 where
  pub graph : planner.graph.now ≡ exits_of (raws planner.book.now.turns)
  pub settings : planner.salvos.now.settings ≡ planner.book.now.settings
  pub salvos : planner.salvos.now.salvos ≡ planner.book.now.salvos
  pub by : IsCellInRange (2 ^ 41) planner.placing.by
  pub room : IsRoom planner.placing.room

-- what is known of the ways of a hand
abbrev pub HandLabels : Type 0
HandLabels = Labelled Ground Cell

-- the ways of a hand from its place among what is built; none before the first hand
abbrev pub AreWays : Site → Option Cell → Option HandLabels → Type 0
AreWays site None None = Unit {0}
AreWays site None (Some ways) = ⊥
AreWays site (Some from) None = ⊥
AreWays site (Some from) (Some ways) = (hand.site_of ways.graph ≡ site) × (ways.from ≡ from)
