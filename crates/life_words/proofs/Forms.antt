-- What commands of one word have in common: how many words stand behind it, and where they are to be numbers.
use Rattle.std.proofs.Common.{◌≡◌, ◌∙◌, ℕ, zero, suc, refl, sym, ap, subst, List, [], ◌∷◌, length, map, Option, Some}
use Rattle.std.specs.Prelude.{unwrap_or}
use Rattle.std.specs.List.{AllZip, find}
use Rattle.std.specs.Str.{bytes_eq}
use Rattle.life_words.specs.declared.command.Command.{Command}
use Rattle.life_words.specs.declared.command.Command.TheVariants.{Check, Extend, Compile, Certify, Audit, Replay, Sample}
use Rattle.life_words.specs.Words.{Saying, Says, MayStand, IsFirstMisplaced, phrase_of}
use Rattle.life_words.specs.Words.Saying.{text, number}

-- a saying without its own text or number
abbrev pub blank : Saying → Saying
blank (text bytes) = text []
blank (number limits n) = number limits 0

-- one command of each word
abbrev blank_commands : List Command
blank_commands = Check [] ∷ (Extend [] 0 ∷ (Compile [] [] ∷ (Certify [] [] ∷ (Audit [] [] [] ∷ (Replay [] 0 ∷ (Sample 0 0 ∷ []))))))

-- the sayings of a word's command, without texts and numbers
abbrev form_of : List ℕ → Option (List Saying)
form_of word = Rattle.std.specs.Prelude.option_map (λ (c : Command). (phrase_of c).sayings) (find (λ (c : Command). bytes_eq (phrase_of c).command word) blank_commands)

has_form : (command : Command) → form_of (phrase_of command).command ≡ Some (map blank (phrase_of command).sayings)
has_form (Check book) = refl
has_form (Extend book budget) = refl
has_form (Compile book target) = refl
has_form (Certify book target) = refl
has_form (Audit book target cert) = refl
has_form (Replay pattern generations) = refl
has_form (Sample count gap) = refl

pub same_form : (a b : Command) → (phrase_of a).command ≡ (phrase_of b).command → map blank (phrase_of a).sayings ≡ map blank (phrase_of b).sayings
same_form a b same = ap (λ (o : Option (List Saying)). unwrap_or o []) (sym (has_form a) ∙ (ap form_of same ∙ has_form b))

length_blank : (sayings : List Saying) → length (map blank sayings) ≡ length sayings
length_blank [] = refl
length_blank (s ∷ ss) = ap suc (length_blank ss)

-- so many words stand behind it
pub same_length : (a b : Command) → (phrase_of a).command ≡ (phrase_of b).command → length (phrase_of a).sayings ≡ length (phrase_of b).sayings
same_length a b same = sym (length_blank (phrase_of a).sayings) ∙ (ap length (same_form a b same) ∙ length_blank (phrase_of b).sayings)

-- ---- words that may stand where they do

may_stand_blank : (word : List ℕ) (s : Saying) → MayStand word s → MayStand word (blank s)
may_stand_blank word (text bytes) h = h
may_stand_blank word (number limits n) h = h

blank_may_stand : (word : List ℕ) (s : Saying) → MayStand word (blank s) → MayStand word s
blank_may_stand word (text bytes) h = h
blank_may_stand word (number limits n) h = h

misplaced_blank : (rest : List (List ℕ)) (sayings : List Saying) (place : ℕ) → IsFirstMisplaced rest sayings place → IsFirstMisplaced rest (map blank sayings) place
misplaced_blank [] sayings place h = h
misplaced_blank (w ∷ ws) [] place h = h
misplaced_blank (w ∷ ws) (s ∷ ss) zero h = λ may. h (blank_may_stand w s may)
misplaced_blank (w ∷ ws) (s ∷ ss) (suc place) h = (may_stand_blank w s h.0, misplaced_blank ws ss place h.1)

-- the first word that may not stand where it does is one
one_misplaced : (rest : List (List ℕ)) (sayings : List Saying) (a b : ℕ) → IsFirstMisplaced rest sayings a → IsFirstMisplaced rest sayings b → a ≡ b
one_misplaced [] sayings a b h k = absurd h
one_misplaced (w ∷ ws) [] a b h k = absurd h
one_misplaced (w ∷ ws) (s ∷ ss) zero zero h k = refl
one_misplaced (w ∷ ws) (s ∷ ss) zero (suc b) h k = absurd (h k.0)
one_misplaced (w ∷ ws) (s ∷ ss) (suc a) zero h k = absurd (k h.0)
one_misplaced (w ∷ ws) (s ∷ ss) (suc a) (suc b) h k = ap suc (one_misplaced ws ss a b h.1 k.1)

-- also by two commands of one word
pub one_place : (rest : List (List ℕ)) (c d : Command) (a b : ℕ) → (phrase_of c).command ≡ (phrase_of d).command
    → IsFirstMisplaced rest (phrase_of c).sayings a → IsFirstMisplaced rest (phrase_of d).sayings b → a ≡ b
one_place rest c d a b same h k = one_misplaced rest (map blank (phrase_of d).sayings) a b
    (subst (λ (ss : List Saying). IsFirstMisplaced rest ss a) (same_form c d same) (misplaced_blank rest (phrase_of c).sayings a h)) (misplaced_blank rest (phrase_of d).sayings b k)

-- what says so may stand
said_may_stand : (word : List ℕ) (s : Saying) → Says word s → MayStand word s
said_may_stand word (text bytes) h = tt
said_may_stand word (number limits n) h = (n, h)

said_not_misplaced : (rest : List (List ℕ)) (sayings : List Saying) (place : ℕ) → AllZip Says rest sayings → IsFirstMisplaced rest (map blank sayings) place → ⊥
said_not_misplaced [] sayings place said h = h
said_not_misplaced (w ∷ ws) [] place said h = h
said_not_misplaced (w ∷ ws) (s ∷ ss) zero said h = h (may_stand_blank w s (said_may_stand w s said.0))
said_not_misplaced (w ∷ ws) (s ∷ ss) (suc place) said h = said_not_misplaced ws ss place said.1 h.1

-- words that say something are not misplaced by another command of the word
pub not_misplaced : (rest : List (List ℕ)) (c d : Command) (place : ℕ) → (phrase_of c).command ≡ (phrase_of d).command
    → AllZip Says rest (phrase_of c).sayings → IsFirstMisplaced rest (phrase_of d).sayings place → ⊥
not_misplaced rest c d place same said h = said_not_misplaced rest (phrase_of c).sayings place said
    (subst (λ (ss : List Saying). IsFirstMisplaced rest ss place) (sym (same_form c d same)) (misplaced_blank rest (phrase_of d).sayings place h))

pub length_said : (rest : List (List ℕ)) (sayings : List Saying) → AllZip Says rest sayings → length rest ≡ length sayings
length_said [] [] said = refl
length_said [] (s ∷ ss) said = absurd said
length_said (w ∷ ws) [] said = absurd said
length_said (w ∷ ws) (s ∷ ss) said = ap suc (length_said ws ss said.1)
