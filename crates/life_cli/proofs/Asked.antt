-- What words ask for has numbers within their limits.
use Rattle.std.specs.Prelude.{ℕ, List, [], ◌∷◌}
use Rattle.std.specs.List.{AllZip}
use Rattle.life_words.specs.Words.{Words, Ask, Says, sample_counts, sample_gaps}
use Rattle.life_words.specs.Words.Saying.{number}
use Rattle.life_words.specs.declared.command.Command.{Command}
use Rattle.life_words.specs.declared.command.Command.TheVariants.{Check, Extend, Compile, Certify, Audit, Replay, Sample}
use Rattle.life_cli.specs.Commands.{IsWithinLimits}

two_numbers : (count gap : ℕ) (rest : List (List ℕ)) → AllZip Says rest (number sample_counts count ∷ (number sample_gaps gap ∷ [])) → IsWithinLimits (Sample count gap)
two_numbers count gap [] said = absurd said
two_numbers count gap (one ∷ []) said = absurd said.1
two_numbers count gap (one ∷ (two ∷ rest)) said = ((said.0.least, said.0.most), (said.1.0.least, said.1.0.most))

pub asked_within : (words : Words) (command : Command) → Ask words command → IsWithinLimits command
asked_within words (Sample count gap) ask = two_numbers count gap ask.rest ask.said
asked_within words (Check book) ask = tt
asked_within words (Extend book budget) ask = tt
asked_within words (Compile book target) ask = tt
asked_within words (Certify book target) ask = tt
asked_within words (Audit book target cert) ask = tt
asked_within words (Replay pattern generations) ask = tt
