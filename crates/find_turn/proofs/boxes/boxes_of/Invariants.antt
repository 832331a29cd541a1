use Rattle.std.proofs.Common.{◌^◌, take}
use Rattle.std.specs.List.{AllByRecursion}
use Rattle.life_cells.specs.Boxes.{IsBoxInRange}
use Rattle.find_turn.specs.Boxes.{AreBoxesOf}
use Rattle.find_turn.proofs.boxes.boxes_of.Given as goal

abbrev pub invariant-loop-kind : goal.invariant-loop-kind
invariant-loop-kind l = record {
  boxes : AreBoxesOf (take l.kind-index l.kinds) l.boxes.items;
  range : AllByRecursion (IsBoxInRange (2 ^ 30)) l.boxes.items;
}
