-- One more line.
use Rattle.std.proofs.Common.{subst}
use Rattle.book_parts.specs.declared.kind.RawKind.{RawKind}
use Rattle.book_write.specs.Laid.{AppendsLine}
use Rattle.book_write.specs.Parts.{IsKindLine}
use Rattle.book_write.proofs.Laying.{lines_push}
use Rattle.book_write.proofs.kinds.push_kinds.Goals as goal

pub loop-kind-preserved : goal.loop-kind-preserved
loop-kind-preserved c =
    lines_push IsKindLine c.args.kinds.now c.loop-kind.kind-index c.kind-item.result _ _ _ c.loop-kind-test.true c.loop-kind.invariant
    (subst (λ (x : RawKind). AppendsLine c.loop-kind.text.items c.push_kind.new.text.items (IsKindLine x)) c.kind-item.is c.in_ok-push_kind.ensures)
