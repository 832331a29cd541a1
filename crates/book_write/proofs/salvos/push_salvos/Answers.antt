-- One more line.
use Rattle.std.proofs.Common.{subst}
use Rattle.book_parts.specs.declared.salvo.RawSalvo.{RawSalvo}
use Rattle.book_write.specs.Laid.{AppendsLine}
use Rattle.book_write.specs.Parts.{IsSalvoLine}
use Rattle.book_write.proofs.Laying.{lines_push}
use Rattle.book_write.proofs.salvos.push_salvos.Goals as goal

pub loop-salvo-preserved : goal.loop-salvo-preserved
loop-salvo-preserved c =
    lines_push IsSalvoLine c.args.salvos.now c.loop-salvo.salvo-index c.salvo-item.result _ _ _ c.loop-salvo-test.true c.loop-salvo.invariant
    (subst (λ (x : RawSalvo). AppendsLine c.loop-salvo.text.items c.push_salvo.new.text.items (IsSalvoLine x)) c.salvo-item.is c.in_ok-push_salvo.ensures)
