use Rattle.book_lines.specs.Lines.{texts}
use Rattle.book_lines.proofs.salvo.salvo.Goals as goal
use Rattle.book_lines.specs.Forms.{IsSalvoLine}
use Rattle.book_lines.specs.declared.statement.SalvoLine.{SalvoLine}
use Rattle.book_lines.specs.Values.{Level}
use Rattle.book_lines.proofs.Lifting.{err_reads}
use Rattle.book_lines.proofs.Stating.{salvo_stated, salvo_unread, salvo_error, whole_numbers}

pub returns-in_default-2-clause-salvo : goal.returns-in_default-2-clause-salvo
returns-in_default-2-clause-salvo c =
    let parts = c.in-Some.parts in
    salvo_unread _ parts.name.now (texts parts.lanes.now) (texts parts.product.now) (texts parts.hand.now) c.in-Some.ensures.some
    (λ salvo r. (rw c.in_default-2.is at c.in_ok-lanes.ensures.numbers) salvo.lanes r.lanes_are)

pub returns-in_default-hand_place-clause-salvo : goal.returns-in_default-hand_place-clause-salvo
returns-in_default-hand_place-clause-salvo c =
    let parts = c.in-Some.parts in
    salvo_unread _ parts.name.now (texts parts.lanes.now) (texts parts.product.now) (texts parts.hand.now) c.in-Some.ensures.some
    (λ salvo r. c.in_default-hand_place.ensures salvo.hand r.hand_is)

pub returns-in_err-product-clause-salvo : goal.returns-in_err-product-clause-salvo
returns-in_err-product-clause-salvo c =
    let parts = c.in-Some.parts in
    err_reads (λ (l : Level) (s : SalvoLine). IsSalvoLine l s (texts c.args.items.now)) c.from_residual-in_err-product.result c.in_err-product.field-0.0 c.from_residual-in_err-product.ensures.1
    (salvo_error _ parts.name.now (texts parts.lanes.now) (texts parts.product.now) (texts parts.hand.now) c.in-Some.ensures.some c.in-Some-2.lanes c.in-Some-hand_place.hand
    (rw c.in-Some-2.is at c.in_ok-lanes.ensures.numbers) c.in-Some-hand_place.ensures c.in_err-product.field-0.0 c.in_err-product.ensures.product)

pub returns-clause-salvo : goal.returns-clause-salvo
returns-clause-salvo c =
    let parts = c.in-Some.parts in
    salvo_stated Level.Whole whole_numbers _ parts.name.now (texts parts.lanes.now) (texts parts.product.now) (texts parts.hand.now) c.in-Some.ensures.some
    c.in_ok-from_text.field-0 c.in-Some-2.lanes c.in_ok-product.product c.in-Some-hand_place.hand c.in_ok-from_text.ensures
    (rw c.in-Some-2.is at c.in_ok-lanes.ensures.numbers) c.in_ok-product.ensures.product c.in-Some-hand_place.ensures
