use Rattle.std.proofs.Common.{ap, sym, ◌∙◌}
use Rattle.book_read.proofs.read.is_version.Goals as goal
use Rattle.book_lines.specs.Lines.{texts}

pub returns : goal.returns
returns c =
    let same = ap texts c.deref.ensures.value ∙ c.in_ok-words.ensures in
    ((λ h. sym same ∙ c.are_version.ensures.0 h), (λ v. c.are_version.ensures.1 (same ∙ v)))
