-- Where a numbered salvo leaves the hand.
use Rattle.std.specs.Prelude.{◌≡◌, ℕ, List, Option}
use Rattle.std.specs.declared.option.Option.TheVariants.{Some, None}
use Rattle.std.proofs.Common.{ap, ◌∙◌}
use Rattle.life_cells.specs.declared.cell.Cell.{Cell}
use Rattle.elbow_graph.specs.Numbered.{IsNumbered}
use Rattle.recipe_hit.specs.Checked.{Struck}
use Rattle.hand_route.specs.Moves.{moved_by, leaves_hand}
use Rattle.build_plan.specs.Numbers.{item_of}
use Rattle.build_plan.specs.NumberLaws.{item_numbered}
use Rattle.build_plan.specs.Throws.{carried, place_past}

-- where a hand goes that a salvo leaves there
carried_there : (from to : Cell) (by : Option Cell) → moved_by from by ≡ Some to → carried from by ≡ to
carried_there from to None h = absurd (cc)
carried_there from to (Some by) h = cc

pub past_there : (salvos : List Struck) (number : ℕ) (salvo : Struck) (from to : Cell) → IsNumbered salvos number salvo → leaves_hand salvo from ≡ Some to → place_past (item_of salvos number) from ≡ to
past_there salvos number salvo from to numbered leaves =
    ap (λ (o : Option Struck). place_past o from) (item_numbered salvos number salvo numbered) ∙ carried_there from to salvo.raw.hand leaves
