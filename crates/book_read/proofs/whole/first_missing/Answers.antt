use Rattle.std.proofs.Common.{take, get_or, subst, sym, ◌∙◌}
use Rattle.std.specs.List.{AllByRecursion}
use Rattle.std.proofs.lemmas.Bool.{false≢true}
use Rattle.std.proofs.lemmas.List.{take_all, take_more}
use Rattle.life_plane.specs.ListLaws.{all_push}
use Rattle.book_lines.specs.declared.book_word.TheConstants.{BOOK_WORDS}
use Rattle.book_lines.specs.declared.book_word.BookWord.{BookWord}
use Rattle.book_lines.specs.declared.book_word.BookWord.TheVariants.{Approach}
use Rattle.book_lines.specs.WordLaws.{each_word}
use Rattle.book_read.specs.Stated.{Stated}
use Rattle.book_read.specs.Reading.{IsMissing}
use Rattle.book_read.specs.Drafted.{stated_of}
use Rattle.book_read.proofs.Settings.{first_at}
use Rattle.book_read.proofs.whole.first_missing.Goals as goal

abbrev IsThere : Stated → BookWord → Type 0
IsThere stated word = IsMissing stated word → ⊥

pub returns-then-is_missing : goal.returns-then-is_missing
returns-then-is_missing c = first_at (stated_of c.args.draft.now) BOOK_WORDS c.loop-word.word-index Approach c.loop-word-test.true c.loop-word.invariant (c.is_missing.ensures.0 c.if-is_missing.true)

pub returns : goal.returns
returns c = each_word (IsThere (stated_of c.args.draft.now)) (subst (AllByRecursion (IsThere (stated_of c.args.draft.now))) (take_all c.loop-word.word-index BOOK_WORDS c.loop-word-test.false) c.loop-word.invariant)

pub loop-word-preserved : goal.loop-word-preserved
loop-word-preserved c =
    let there = IsThere (stated_of c.args.draft.now) in
    let i = c.loop-word.word-index in
    subst (AllByRecursion there) (sym (take_more BOOK_WORDS i Approach c.loop-word-test.true))
    (all_push there (take i BOOK_WORDS) (get_or BOOK_WORDS i Approach) c.loop-word.invariant (λ missing. false≢true (sym c.if-is_missing.false ∙ c.is_missing.ensures.1 missing)))
