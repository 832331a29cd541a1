-- A command is a list of stages that leads to an answer. The stages that pass and the one that refuses, and what a run of them comes to.
use Rattle.std.specs.Prelude.{◌⊎◌, ℕ, ◌+◌, ◌≤◌, List, IfOk, IfErr, Vec}
use Rattle.std.specs.declared.alloc.Global.{Global}
use Rattle.std.specs.declared.result.Result.{Result}
use Rattle.life_cli.specs.declared.status.Status.{Status}
use Rattle.life_cli.specs.declared.status.Status.TheVariants.{Done, ReadFault, WriteFault, Memory}

pub data Stages : Type 1 where
  -- the last: bytes of which this holds are the answer; it counts so many generations at most
  Answer : (most : ℕ) (Is : List ℕ → Type 0) → Stages
  -- a stage passes with a value, which those behind it may use, or refuses with a status; it counts so many generations at most
  Stage : (Value : Type 0) (Passes : Value → Type 0) (Refuses : Status → Type 0) (most : ℕ) (next : Value → Stages) → Stages

-- a stage that has no value: it passes where this holds
abbrev pub Test : Type 0 → (Status → Type 0) → ℕ → Stages → Stages
Test Holds Refuses most next = Stage (Unit {0}) (λ _. Holds) Refuses most (λ _. next)

-- each stage passes, and these bytes are the answer
abbrev pub Give : Stages → List ℕ → Type 0
Give (Answer most Is) bytes = Is bytes
Give (Stage Value Passes Refuses most next) bytes = (value : Value) × (Passes value × Give (next value) bytes)

-- a stage refuses so, and each before it passes
abbrev pub Refuse : Stages → Status → Type 0
Refuse (Answer most Is) status = ⊥
Refuse (Stage Value Passes Refuses most next) status = Refuses status ⊎ ((value : Value) × (Passes value × Refuse (next value) status))

-- each stage passes
abbrev pub Pass : Stages → Type 0
Pass (Answer most Is) = Unit {0}
Pass (Stage Value Passes Refuses most next) = (value : Value) × (Passes value × Pass (next value))

-- the counter of generations rose at most by what a stage may count, and those before it, each of which passes
abbrev pub CountWithin : Stages → ℕ → ℕ → Type 0
CountWithin (Answer most Is) before now = now ≤ before + most
CountWithin (Stage Value Passes Refuses most next) before now = (now ≤ before + most) ⊎ ((value : Value) × (Passes value × CountWithin (next value) (before + most) now))

-- why stages give no answer: want of memory is free, a fault of reading has a cause of its own, and any other status is that of a refusal; none is Done or of
-- writing
abbrev pub HasCause : Type 0 → (Status → Type 0) → Status → Type 0
HasCause Fault Refuses Memory = Unit {0}
HasCause Fault Refuses ReadFault = Fault
HasCause Fault Refuses Done = ⊥
HasCause Fault Refuses WriteFault = ⊥
HasCause Fault Refuses other = Refuses other

-- how stages end: with an answer, or with a status that has a cause; and the generations that were counted before and are now
pub record EndWith (stages : Stages) (Fault : Type 0) (before now : ℕ) (result : Result (Vec ℕ Global) Status) : Type 0 where
  pub ok : IfOk result (λ bytes. Give stages bytes.items)
  pub err : IfErr result (λ status. HasCause Fault (Refuse stages) status)
  pub counted : CountWithin stages before now
