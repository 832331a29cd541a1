-- The stages of a command, and the names of its texts.
use Rattle.std.specs.Prelude.{ℕ, ◌≤◌, List, [], ◌∷◌}
use Rattle.life_words.specs.declared.command.Command.{Command}
use Rattle.life_words.specs.declared.command.Command.TheVariants.{Check, Extend, Compile, Certify, Audit, Replay, Sample}
use Rattle.life_words.specs.declared.refusal.WordsError.TheVariants.{UnknownCommand}
use Rattle.life_sample.specs.declared.limits.TheConstants.{MOST_COUNT, LEAST_GAP, GREATEST_GAP}
use Rattle.life_cli.specs.Inputs.{Told}
use Rattle.life_cli.specs.Stages.{Stages, Test}
use Rattle.life_cli.specs.Stages.Stages.{Answer}
use Rattle.life_cli.specs.Verdicts.{check}
use Rattle.life_cli.specs.Extended.{extend}
use Rattle.life_cli.specs.Compiled.{compile}
use Rattle.life_cli.specs.Replayed.{replay}
use Rattle.life_cli.specs.Sampled.{sample}
use Rattle.life_cli.specs.declared.status.Status.{Status}
use Rattle.life_cli.specs.declared.status.Status.TheVariants.{Words}

-- the words are refused as no command's
abbrev pub IsUnknown : Status → Type 0
IsUnknown (Words UnknownCommand) = Unit {0}
IsUnknown other = ⊥

-- a command that the program doesn't have yet: its one stage refuses
abbrev pub no_stages : Stages
no_stages = Test ⊥ IsUnknown 0 (Answer 0 (λ bytes. ⊥))

-- the stages of a command, over the texts that the depot tells
abbrev pub stages_of : Told → Command → Stages
stages_of told (Check book) = check told book
stages_of told (Extend book budget) = extend told book budget
stages_of told (Compile book target) = compile told book target
stages_of told (Certify book target) = no_stages
stages_of told (Audit book target cert) = no_stages
stages_of told (Replay pattern generations) = replay told pattern generations
stages_of told (Sample count gap) = sample count gap

-- the names of a command's texts
abbrev pub names_of : Command → List (List ℕ)
names_of (Check book) = book ∷ []
names_of (Extend book budget) = book ∷ []
names_of (Compile book target) = book ∷ (target ∷ [])
names_of (Certify book target) = book ∷ (target ∷ [])
names_of (Audit book target cert) = book ∷ (target ∷ (cert ∷ []))
names_of (Replay pattern generations) = pattern ∷ []
names_of (Sample count gap) = []

-- a sample's numbers are such as one may be made from
abbrev pub IsWithinLimits : Command → Type 0
IsWithinLimits (Sample count gap) = ((1 ≤ count) × (count ≤ MOST_COUNT)) × ((LEAST_GAP ≤ gap) × (gap ≤ GREATEST_GAP))
IsWithinLimits other = Unit {0}
