-- How words begin.
use Rattle.std.proofs.Common.{◌≡◌, ◌∙◌, ◌≤◌, ℕ, sym, ap, List, [], ◌∷◌, length, get_or, arith, Global, String}
use Rattle.std.specs.Prelude.{◌≢◌, None, codes}
use Rattle.std.specs.String.{string_bytes}
use Rattle.life_words.specs.declared.command.Command.{Command}
use Rattle.life_words.specs.declared.command.Command.TheVariants.{Check, Extend, Compile, Certify, Audit, Replay, Sample}
use Rattle.life_words.specs.Words.{Words, BeginWith, first_dash, texts_of, phrase_of}

pub begin_with_first : (words : Words) (first : String Global) (name : List ℕ) → 1 ≤ length words → first ≡ get_or words 0 first → name ≡ string_bytes first → first_dash words ≡ None
    → (rest : List (List ℕ)) × BeginWith words name rest
begin_with_first [] first name some at is plain = absurd (omega arith)
begin_with_first (w ∷ ws) first name some at is plain = (texts_of ws, record { whole = ap (λ t. t ∷ texts_of ws) (sym (is ∙ ap string_bytes at)); plain = plain })

-- a word that is none of these is no command's
pub no_command : (word : List ℕ) → (word ≡ codes "check" → ⊥) → (word ≡ codes "extend" → ⊥) → (word ≡ codes "compile" → ⊥) → (word ≡ codes "certify" → ⊥)
    → (word ≡ codes "audit" → ⊥) → (word ≡ codes "replay" → ⊥) → (word ≡ codes "sample" → ⊥) → (command : Command) → (phrase_of command).command ≢ word
no_command word check extend compile certify audit replay sample (Check book) same = check (sym same)
no_command word check extend compile certify audit replay sample (Extend book budget) same = extend (sym same)
no_command word check extend compile certify audit replay sample (Compile book target) same = compile (sym same)
no_command word check extend compile certify audit replay sample (Certify book target) same = certify (sym same)
no_command word check extend compile certify audit replay sample (Audit book target cert) same = audit (sym same)
no_command word check extend compile certify audit replay sample (Replay pattern n) same = replay (sym same)
no_command word check extend compile certify audit replay sample (Sample count gap) same = sample (sym same)
