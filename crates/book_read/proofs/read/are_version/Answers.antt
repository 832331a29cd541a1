use Rattle.std.proofs.Common.{sym, ◌∙◌}
use Rattle.std.proofs.lemmas.Bool.{false≢true}
use Rattle.book_read.proofs.read.are_version.Goals as goal
use Rattle.book_read.proofs.Refusing.{version_of, version_is}

pub returns-then-is_word : goal.returns-then-is_word
returns-then-is_word c =
    let e = c.in-Some.ensures in (
      (λ h. version_of _ c.in-Some.word.now c.in-Some.number.now e (c.is_word.ensures.0 c.if-is_word.true) (c.is_word-then-is_word.ensures.0 h)),
      (λ v. c.is_word-then-is_word.ensures.1 (version_is _ c.in-Some.word.now c.in-Some.number.now e v).1),
    )

pub returns-else-is_word : goal.returns-else-is_word
returns-else-is_word c =
    ((λ h. absurd (false≢true (sym c.if-is_word.false ∙ h))), (λ v. c.is_word.ensures.1 (version_is _ c.in-Some.word.now c.in-Some.number.now c.in-Some.ensures v).0))
