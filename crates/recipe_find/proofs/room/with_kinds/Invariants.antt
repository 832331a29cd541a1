use Rattle.std.proofs.Common.{◌≡◌, ◌+◌, take, length}
use Rattle.std.specs.List.{sum_by}
use Rattle.life_cells.specs.Cells.{in_order}
use Rattle.book_parts.specs.declared.kind.RawKind.{RawKind}
use Rattle.recipe_find.proofs.room.with_kinds.Given as goal

-- those so far are counted
abbrev pub invariant-loop-kind : goal.invariant-loop-kind
invariant-loop-kind l = l.count ≡ l.fn.cells + sum_by (λ (kind : RawKind). length (in_order kind.cells)) (take l.kind-index l.kinds)
