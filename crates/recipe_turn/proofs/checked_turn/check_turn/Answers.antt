use Rattle.std.proofs.Common.{◌∙◌, ap, subst, sym}
use Rattle.std.specs.List.{AllByRecursion}
use Rattle.life_cells.specs.Cells.{alive}
use Rattle.life_cells.specs.Laws.{alive-empty}
use Rattle.book_parts.specs.Limits.{IsPlaced}
use Rattle.book_parts.specs.Proper.{IsProperKind}
use Rattle.book_parts.specs.KindLaws.{kind_placed, next_placed}
use Rattle.recipe_turn.proofs.checked_turn.check_turn.Goals as goal

pub next_cells-next-requires-clause-none : goal.next_cells-next-requires-clause-none
next_cells-next-requires-clause-none g c = ap alive c.empty-none.ensures ∙ alive-empty

pub test_turn-requires-clause-kind : goal.test_turn-requires-clause-kind
test_turn-requires-clause-kind g c =
    subst IsPlaced (sym c.kind_cells-kind.ensures) (kind_placed _ (subst (AllByRecursion IsProperKind) (sym c.raw.ensures.raw) c.raw.ensures.checked.proper) c.args.turn.kind)

pub test_turn-requires-clause-next : goal.test_turn-requires-clause-next
test_turn-requires-clause-next g c =
    subst IsPlaced (sym c.next_cells-next.ensures) (next_placed _ (subst (AllByRecursion IsProperKind) (sym c.raw-2.ensures.raw) c.raw-2.ensures.checked.proper) c.args.turn.end)
