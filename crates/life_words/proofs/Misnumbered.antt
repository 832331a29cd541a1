-- Words behind a command's own that are to be numbers and are none.
use Rattle.std.proofs.Common.{◌≡◌, ◌+◌, ℕ, refl, sym, subst, inr, List, [], ◌∷◌, length, get_or, Result, Ok, Err, arith}
use Rattle.std.specs.Prelude.{◌⊎◌, IfErr}
use Rattle.std.specs.Result.{IsErrAnd}
use Rattle.life_words.specs.declared.command.Command.{Command}
use Rattle.life_words.specs.declared.number.Limits.{Limits}
use Rattle.life_words.specs.declared.refusal.WordsError.{WordsError}
use Rattle.life_words.specs.declared.refusal.WordsError.TheVariants.{BadNumber, Memory}
use Rattle.life_words.specs.Words.{Words, Saying, number, Spells, MayStand, BeginWith, AreRefused, IsFirstMisplaced, phrase_of}

-- a word of a command that is misplaced is refused
pub misnumbered : {T : Type 0} (words : Words) (command : Command) (rest : List (List ℕ)) (behind : ℕ) (result : Result T WordsError) (met : WordsError)
    → BeginWith words (phrase_of command).command rest → length rest ≡ length (phrase_of command).sayings → IsFirstMisplaced rest (phrase_of command).sayings behind
    → met ≡ BadNumber (behind + 2) → IsErrAnd result (λ (e : WordsError). e ≡ met) → IfErr result (λ (e : WordsError). (e ≡ Memory) ⊎ AreRefused words e)
misnumbered words command rest behind (Ok x) met begin counted misplaced place is = tt
misnumbered words command rest behind (Err e) met begin counted misplaced place is =
    let same : BadNumber (behind + 2) ≡ e = cc in
    inr (subst (AreRefused words) same (record { command = command; rest = rest; begin = begin; counted = counted; behind = behind; misplaced = misplaced; is = refl }))

-- the first of the words behind spells no number
pub first_misplaced : (texts rest : List (List ℕ)) (limits : Limits) (n : ℕ) (sayings : List Saying) → texts ≡ rest → length rest ≡ length (number limits n ∷ sayings)
    → ((m : ℕ) → Spells limits (get_or texts 0 []) m → ⊥) → IsFirstMisplaced rest (number limits n ∷ sayings) 0
first_misplaced texts [] limits n sayings same counted none = absurd (omega arith)
first_misplaced texts (a ∷ rest) limits n sayings same counted none = λ h. none h.0 (subst (λ (ts : List (List ℕ)). Spells limits (get_or ts 0 []) h.0) (sym same) h.1)

-- the second spells none, and the first may stand where it does
pub second_misplaced : (texts rest : List (List ℕ)) (saying : Saying) (limits : Limits) (n : ℕ) → texts ≡ rest → length rest ≡ 2 → MayStand (get_or texts 0 []) saying
    → ((m : ℕ) → Spells limits (get_or texts 1 []) m → ⊥) → IsFirstMisplaced rest (saying ∷ (number limits n ∷ [])) 1
second_misplaced texts [] saying limits n same two may none = absurd (omega arith)
second_misplaced texts (a ∷ []) saying limits n same two may none = absurd (omega arith)
second_misplaced texts (a ∷ (b ∷ [])) saying limits n same two may none = (
  subst (λ (ts : List (List ℕ)). MayStand (get_or ts 0 []) saying) same may,
  λ h. none h.0 (subst (λ (ts : List (List ℕ)). Spells limits (get_or ts 1 []) h.0) (sym same) h.1),
)
second_misplaced texts (a ∷ (b ∷ (c ∷ rest))) saying limits n same two may none = absurd (omega arith)
