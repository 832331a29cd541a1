-- Stages that are exact, and why stages that pass don't refuse.
use Rattle.std.specs.Prelude.{◌≡◌}
use Rattle.life_cli.specs.declared.status.Status.{Status}
use Rattle.life_cli.specs.Stages.{Stages}
use Rattle.life_cli.specs.Stages.Stages.{Answer, Stage}

-- a stage passes with one value at most, and where it passes it doesn't refuse
pub record IsExact (Value : Type 0) (Passes : Value → Type 0) (Refuses : Status → Type 0) : Type 0 where
  pub one : (a b : Value) → Passes a → Passes b → a ≡ b
  pub apart : (value : Value) (status : Status) → Passes value → Refuses status → ⊥

-- each stage is
abbrev pub AreExact : Stages → Type 0
AreExact (Answer most Is) = Unit {0}
AreExact (Stage Value Passes Refuses most next) = IsExact Value Passes Refuses × ((value : Value) → AreExact (next value))
