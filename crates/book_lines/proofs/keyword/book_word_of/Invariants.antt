use Rattle.std.proofs.Common.{◌≡◌, take}
use Rattle.std.specs.List.{AllByRecursion}
use Rattle.book_lines.proofs.keyword.book_word_of.Given as goal
use Rattle.book_lines.specs.declared.book_word.BookWord.{BookWord}
use Rattle.book_lines.specs.Words.{word_text}

-- the word is none of those so far
abbrev pub invariant-loop-book_word : goal.invariant-loop-book_word
invariant-loop-book_word l = AllByRecursion (λ (w : BookWord). l.word ≡ word_text w → ⊥) (take l.book_word-index l.book_word-items)
