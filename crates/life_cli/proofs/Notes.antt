-- The note that names the generations has no line feed.
use Rattle.std.specs.Prelude.{◌≢◌, ℕ, ◌+◌, ◌<◌, ◌^◌, ◌%◌, List, [], ◌∷◌, ◌++◌, codes}
use Rattle.std.specs.List.{AllByRecursion}
use Rattle.std.specs.Fmt.{decimal}
use Rattle.std.proofs.Common.{arith}
use Rattle.std.proofs.lemmas.Fmt.{decimal_by_steps}
use Rattle.life_cli.specs.Compiled.{generations}

abbrev NoBreak : List ℕ → Type 0
NoBreak bs = AllByRecursion (λ b. b ≢ 10) bs

both : (xs ys : List ℕ) → NoBreak xs → NoBreak ys → NoBreak (xs ++ ys)
both [] ys p q = q
both (x ∷ xs) ys p q = (p.0, both xs ys p.1 q)

digit : (d : ℕ) → (48 + d) ≢ 10
digit d e = absurd (omega arith)

pub decimal_has_no_break : (n : ℕ) → n < 2 ^ 64 → NoBreak (decimal n)
decimal_has_no_break n small =
    decimal_by_steps (λ n ds. NoBreak ds) (λ m h. (digit m, tt)) (λ m ds h p. both ds ((48 + m % 10) ∷ []) p (digit (m % 10), tt)) n small

pub note_has_no_break : (n : ℕ) → n < 2 ^ 64 → NoBreak (generations n)
note_has_no_break n small = both (codes "generations ") (decimal n)
    ((λ e. cc), ((λ e. cc), ((λ e. cc), ((λ e. cc), ((λ e. cc), ((λ e. cc), ((λ e. cc), ((λ e. cc), ((λ e. cc), ((λ e. cc), ((λ e. cc), ((λ e. cc), tt))))))))))))
    (decimal_has_no_break n small)
