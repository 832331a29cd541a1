-- The words of the command line, the command that they say, and why they say none.
use Rattle.std.specs.Prelude.{◌≡◌, ◌≢◌, ℕ, zero, suc, ◌+◌, ◌-◌, ◌≤◌, ◌^◌, ◌==◌, Bool, false, List, [], ◌∷◌, length, codes, map}
use Rattle.std.specs.Prelude.{String}
use Rattle.std.specs.declared.alloc.Global.{Global}
use Rattle.std.specs.List.{AllZip, position}
use Rattle.std.specs.String.{string_bytes}
use Rattle.std.specs.declared.option.Option.{Option}
use Rattle.std.specs.declared.option.Option.TheVariants.{Some, None}
use Rattle.std.specs.Str.Parse.{IsNumeral, digits_value}
use Rattle.life_sample.specs.declared.limits.TheConstants.{GREATEST_GAP, LEAST_GAP, MOST_COUNT}
use Rattle.life_words.specs.declared.number.Limits.{Limits}
use Rattle.life_words.specs.declared.command.Command.{Command}
use Rattle.life_words.specs.declared.command.Command.TheVariants.{Check, Extend, Compile, Certify, Audit, Replay, Sample}
use Rattle.life_words.specs.declared.refusal.WordsError.{WordsError}
use Rattle.life_words.specs.declared.refusal.WordsError.TheVariants.{NoCommand, Dash, UnknownCommand, WrongCount, BadNumber, Memory}

abbrev pub Words : Type 0
Words = List (String Global)

-- the words as texts
abbrev pub texts_of : Words → List (List ℕ)
texts_of words = map (λ (word : String Global). string_bytes word) words

-- a text that begins with `-`
abbrev pub has_dash : List ℕ → Bool
has_dash [] = false
has_dash (b ∷ bs) = b == 45

-- a text that begins with `+`
abbrev pub has_plus : List ℕ → Bool
has_plus [] = false
has_plus (b ∷ bs) = b == 43

-- the place of the first word that begins with `-`, counted from 0
abbrev pub first_dash : Words → Option ℕ
first_dash words = position (λ (word : String Global). has_dash (string_bytes word)) words

-- ---- what words say

-- 1 to 10 digits that spell such a number
pub record Spells (limits : Limits) (word : List ℕ) (n : ℕ) : Type 0 where
  pub digits : IsNumeral 10 word
  pub short : length word ≤ 10
  pub is : digits_value 10 word ≡ n
  pub least : limits.least ≤ n
  pub most : n ≤ limits.most

-- what a word behind a command's own says: a text, or a number within limits
pub data Saying : Type 0 where
  text : List ℕ → Saying
  number : Limits → ℕ → Saying

abbrev pub Says : List ℕ → Saying → Type 0
Says word (text bytes) = word ≡ bytes
Says word (number limits n) = Spells limits word n

-- a command's own word, and what those behind it say
pub record Phrase : Type 0 where
  pub command : List ℕ
  pub sayings : List Saying

-- any number of 32 bits; how many kinds of a sample, and how far apart their blocks
abbrev pub any_number : Limits
any_number = record { least = 0; most = 2 ^ 32 - 1 }

abbrev pub sample_counts : Limits
sample_counts = record { least = 1; most = MOST_COUNT }

abbrev pub sample_gaps : Limits
sample_gaps = record { least = LEAST_GAP; most = GREATEST_GAP }

-- a command in words
abbrev pub phrase_of : Command → Phrase
phrase_of (Check book) = record { command = codes "check"; sayings = text book ∷ [] }
phrase_of (Extend book budget) = record { command = codes "extend"; sayings = text book ∷ (number any_number budget ∷ []) }
phrase_of (Compile book target) = record { command = codes "compile"; sayings = text book ∷ (text target ∷ []) }
phrase_of (Certify book target) = record { command = codes "certify"; sayings = text book ∷ (text target ∷ []) }
phrase_of (Audit book target cert) = record { command = codes "audit"; sayings = text book ∷ (text target ∷ (text cert ∷ [])) }
phrase_of (Replay pattern generations) = record { command = codes "replay"; sayings = text pattern ∷ (number any_number generations ∷ []) }
phrase_of (Sample count gap) = record { command = codes "sample"; sayings = number sample_counts count ∷ (number sample_gaps gap ∷ []) }

-- no word begins with `-`, and the first is this, with these behind it
pub record BeginWith (words : Words) (first : List ℕ) (rest : List (List ℕ)) : Type 0 where
  pub whole : texts_of words ≡ first ∷ rest
  pub plain : first_dash words ≡ None

-- the words ask for this command: its own word, and behind it one word for each thing to be said, which says it
pub record Ask (words : Words) (command : Command) : Type 0 where
  pub rest : List (List ℕ)
  pub begin : BeginWith words (phrase_of command).command rest
  pub said : AllZip Says rest (phrase_of command).sayings

-- ---- why words say no command

-- the first word is no command's
pub record AreUnknown (words : Words) : Type 0 where
  pub first : List ℕ
  pub rest : List (List ℕ)
  pub begin : BeginWith words first rest
  pub unknown : (command : Command) → (phrase_of command).command ≢ first

-- The first word is a command's, which takes another number of words. Any command of this word will do: only its texts and its numbers are its own.
pub record AreMiscounted (words : Words) : Type 0 where
  pub command : Command
  pub rest : List (List ℕ)
  pub begin : BeginWith words (phrase_of command).command rest
  pub other : length rest ≢ length (phrase_of command).sayings

-- a word may stand where this is said: any word for a text, and for a number one that spells any within the limits
abbrev pub MayStand : List ℕ → Saying → Type 0
MayStand word (text bytes) = Unit {0}
MayStand word (number limits n) = (m : ℕ) × Spells limits word m

-- the place, counted from 0, of the first word that may not stand where it does
abbrev pub IsFirstMisplaced : List (List ℕ) → List Saying → ℕ → Type 0
IsFirstMisplaced (word ∷ words) (saying ∷ sayings) zero = MayStand word saying → ⊥
IsFirstMisplaced (word ∷ words) (saying ∷ sayings) (suc place) = MayStand word saying × IsFirstMisplaced words sayings place
IsFirstMisplaced words sayings place = ⊥

-- the first word is a command's, which takes so many words, and the word at this place, counted from 1, is the first that is to be a number and is none
pub record AreMisnumbered (words : Words) (place : ℕ) : Type 0 where
  pub command : Command
  pub rest : List (List ℕ)
  pub begin : BeginWith words (phrase_of command).command rest
  pub counted : length rest ≡ length (phrase_of command).sayings
  pub behind : ℕ
  pub misplaced : IsFirstMisplaced rest (phrase_of command).sayings behind
  pub is : place ≡ behind + 2

-- the words are refused so; places count from 1. Want of memory is no refusal of words.
abbrev pub AreRefused : Words → WordsError → Type 0
AreRefused words NoCommand = words ≡ []
AreRefused words (Dash place) = (before : ℕ) × ((first_dash words ≡ Some before) × (place ≡ before + 1))
AreRefused words UnknownCommand = AreUnknown words
AreRefused words WrongCount = AreMiscounted words
AreRefused words (BadNumber place) = AreMisnumbered words place
AreRefused words Memory = ⊥
