-- What holds of each word, and that no two words are written alike.
use Rattle.std.proofs.Common.{◌≡◌, ℕ, Bool, true, not, ◌||◌, List, [], ◌∷◌, codes, refl, ap, sym}
use Rattle.std.specs.List.{AllByRecursion, list_all}
use Rattle.std.specs.Str.{bytes_eq}
use Rattle.std.proofs.lemmas.Bool.{and_parts}
use Rattle.std.proofs.lemmas.Slice.Eq.{bytes_eq-Decides}
use denote.Enum.Bare.{sameb, same_true}
use Rattle.book_lines.specs.declared.book_word.TheConstants.{BOOK_WORDS}
use Rattle.book_lines.specs.declared.book_word.BookWord.{BookWord}
use Rattle.book_lines.specs.declared.book_word.BookWord.TheVariants.{Approach, Wall, Reach, Corner, Room, Span, Lanes, Delays, Hand, Elbow, Start}
use Rattle.book_lines.specs.declared.keyword.Keyword.{Keyword}
use Rattle.book_lines.specs.declared.keyword.Keyword.TheVariants.{Book, Turn, Salvo}
use Rattle.book_lines.specs.contracts.book_word.BookWord.{the_type}
use Rattle.book_lines.specs.Words.{word_text, spelling}

-- what holds of each word that is listed holds of each
pub each_word : (P : BookWord → Type 0) → AllByRecursion P BOOK_WORDS → (word : BookWord) → P word
each_word P h Approach = h.0
each_word P h Wall = h.1.0
each_word P h Reach = h.1.1.0
each_word P h Corner = h.1.1.1.0
each_word P h Room = h.1.1.1.1.0
each_word P h Span = h.1.1.1.1.1.0
each_word P h Lanes = h.1.1.1.1.1.1.0
each_word P h Delays = h.1.1.1.1.1.1.1.0
each_word P h Hand = h.1.1.1.1.1.1.1.1.0
each_word P h Elbow = h.1.1.1.1.1.1.1.1.1.0
each_word P h Start = h.1.1.1.1.1.1.1.1.1.1.0

all_pass : (test : BookWord → Bool) (words : List BookWord) → list_all test words ≡ true → AllByRecursion (λ word. test word ≡ true) words
all_pass test [] e = tt
all_pass test (word ∷ words) e = let both = and_parts (test word) (list_all test words) e in (both.0, all_pass test words both.1)

-- a test that each word passes
pub each_passes : (test : BookWord → Bool) → list_all test BOOK_WORDS ≡ true → (word : BookWord) → test word ≡ true
each_passes test e = each_word (λ word. test word ≡ true) (all_pass test BOOK_WORDS e)

implied : (a b : Bool) → (not a || b) ≡ true → a ≡ true → b ≡ true
implied a b e h = rw h at e

denied : (a : Bool) → not a ≡ true → a ≡ true → ⊥
denied a e h = let f : not true ≡ true = rw h at e in cc f

-- words that are written alike are one
pub one_word : (v w : BookWord) → word_text v ≡ word_text w → v ≡ w
one_word v w e =
    let alike = λ (v w : BookWord). not (bytes_eq (word_text v) (word_text w)) || sameb the_type v w in
    let row = each_passes (λ (v : BookWord). list_all (alike v) BOOK_WORDS) refl v in
    let pair = each_passes (alike v) row w in
    same_true the_type tt v w (implied (bytes_eq (word_text v) (word_text w)) (sameb the_type v w) pair ((bytes_eq-Decides (word_text v) (word_text w)).1 e))

no_word : (text : List ℕ) → list_all (λ word. not (bytes_eq (word_text word) text)) BOOK_WORDS ≡ true → (word : BookWord) → word_text word ≡ text → ⊥
no_word text e word same = denied (bytes_eq (word_text word) text) (each_passes (λ word. not (bytes_eq (word_text word) text)) e word) ((bytes_eq-Decides (word_text word) text).1 same)

-- first words that are written alike are one
pub one_keyword : (j k : Keyword) → spelling j ≡ spelling k → j ≡ k
one_keyword (Book v) (Book w) e = ap Book (one_word v w e)
one_keyword (Book v) Turn e = absurd (no_word (codes "turn") refl v e)
one_keyword (Book v) Salvo e = absurd (no_word (codes "salvo") refl v e)
one_keyword Turn (Book w) e = absurd (no_word (codes "turn") refl w (sym e))
one_keyword Turn Turn e = refl
one_keyword Turn Salvo e = absurd (cc e)
one_keyword Salvo (Book w) e = absurd (no_word (codes "salvo") refl w (sym e))
one_keyword Salvo Turn e = absurd (cc e)
one_keyword Salvo Salvo e = refl
