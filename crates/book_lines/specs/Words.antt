-- The words that a line may begin with, behind its first line.
use Rattle.std.specs.Prelude.{ℕ, List, codes}
use Rattle.book_lines.specs.declared.book_word.BookWord.{BookWord}
use Rattle.book_lines.specs.declared.book_word.BookWord.TheVariants.{Approach, Wall, Reach, Corner, Room, Span, Lanes, Delays, Hand, Elbow, Start}
use Rattle.book_lines.specs.declared.keyword.Keyword.{Keyword}
use Rattle.book_lines.specs.declared.keyword.Keyword.TheVariants.{Book, Turn, Salvo}

-- how a word that every book has is written
abbrev pub word_text : BookWord → List ℕ
word_text Approach = codes "approach"
word_text Wall = codes "wall"
word_text Reach = codes "reach"
word_text Corner = codes "corner"
word_text Room = codes "room"
word_text Span = codes "span"
word_text Lanes = codes "lanes"
word_text Delays = codes "delays"
word_text Hand = codes "hand"
word_text Elbow = codes "elbow"
word_text Start = codes "start"

-- how the first word of a line is written
abbrev pub spelling : Keyword → List ℕ
spelling (Book word) = word_text word
spelling Turn = codes "turn"
spelling Salvo = codes "salvo"
