use Rattle.std.proofs.Common.{◌+◌, ◌^◌, take, Vec, Global, sym, subst}
use Rattle.std.specs.List.{AllByRecursion}
use Rattle.life_plane.specs.ListLaws.{all_push}
use Rattle.life_cells.specs.Boxes.{IsBoxInRange}
use Rattle.life_cells.specs.declared.bounds.Bounds.{Bounds}
use Rattle.find_turn.specs.Boxes.{AreBoxesOf}
use Rattle.find_turn.proofs.KindBoxes.{kind_read, boxes_more, boxes_all, box_placed, lives_not_empty}
use Rattle.find_turn.proofs.boxes.boxes_of.Goals as goal
use Rattle.find_turn.proofs.boxes.boxes_of.Goals.{in-Some+in_ok-push, in_default}

pub loop-kind-preserved : goal.loop-kind-preserved
loop-kind-preserved c =
    let proper = kind_read c.args.kinds.now c.requires c.loop-kind.kind-index c.kind-item.result c.loop-kind-test.true c.kind-item.is in
    elim c.match-bounds.branch [
      | in-Some+in_ok-push w ↦ record {
        boxes = subst (λ (v : Vec Bounds Global). AreBoxesOf (take (c.loop-kind.kind-index + 1) c.args.kinds.now) v.items) (sym w.boxes-is)
            (boxes_more c.args.kinds.now _ _ w.in-Some.bounds c.loop-kind.kind-index c.kind-item.result c.loop-kind-test.true c.kind-item.is c.loop-kind.invariant.boxes w.in-Some.ensures.some w.in_ok-push.ensures.items);
        range = subst (λ (v : Vec Bounds Global). AllByRecursion (IsBoxInRange (2 ^ 30)) v.items) (sym w.boxes-is)
            (subst (AllByRecursion (IsBoxInRange (2 ^ 30))) (sym w.in_ok-push.ensures.items) (all_push (IsBoxInRange (2 ^ 30)) _ w.in-Some.bounds c.loop-kind.invariant.range (box_placed w.in-Some.bounds _ w.in-Some.ensures.some proper.placed)));
      }
      | in_default w ↦ absurd (lives_not_empty _ proper.lives w.in_default.ensures.none)
    ]

pub returns-clause-boxes : goal.returns-clause-boxes
returns-clause-boxes c = boxes_all c.args.kinds.now _ c.loop-kind.kind-index c.loop-kind-test.false c.loop-kind.invariant.boxes
