-- The kind at one place less.
use Rattle.std.proofs.Common.{◌∙◌, sym, arith, ◌-◌}
use Rattle.book_write.proofs.Numbering.{name_at}
use Rattle.book_write.proofs.kinds.name_of.Goals as goal

pub returns : goal.returns
returns c =
    let some = c.requires.some in
    let most = c.requires.most in
    c.text.ensures ∙ sym (name_at c.args.kinds.now c.args.number (c.args.number - 1) c.index-kinds-number.result (omega arith) (omega arith))
