use Rattle.std.proofs.Common.{take}
use Rattle.std.specs.List.{AllByRecursion}
use Rattle.book_lines.specs.declared.book_word.BookWord.{BookWord}
use Rattle.book_read.specs.Reading.{IsMissing}
use Rattle.book_read.specs.Drafted.{stated_of}
use Rattle.book_read.proofs.whole.first_missing.Given as goal

-- none of the words so far is missing
abbrev pub invariant-loop-word : goal.invariant-loop-word
invariant-loop-word l = AllByRecursion (λ (w : BookWord). IsMissing (stated_of l.draft) w → ⊥) (take l.word-index l.word-items)
