-- A depot in memory: its texts, and which of its calls are to fail.
use Rattle.std.specs.Prelude.{ℕ, List, map}
use Rattle.std.specs.String.{string_bytes}
use Rattle.life_io.specs.declared.mem_depot.NamedText.{NamedText}
use Rattle.life_io.specs.Texts.{HeldText}

-- the texts, the numbers of the calls that are to fail, and how many calls and faults there were
pub record DepotState : Type 0 where
  pub texts : List HeldText
  pub fails : List ℕ
  pub calls : ℕ
  pub faults : ℕ

-- a text in memory, by its bytes
abbrev pub held_text : NamedText → HeldText
held_text t = record { name = string_bytes t.name; text = t.text.items }

-- before the first call
abbrev pub new_depot : List NamedText → List ℕ → DepotState
new_depot texts fails = record { texts = map held_text texts; fails = fails; calls = 0; faults = 0 }
