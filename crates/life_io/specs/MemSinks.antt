-- A sink in memory: what was written, and which of its calls are to fail.
use Rattle.std.specs.Prelude.{◌≡◌, ◌==◌, ℕ, List, [], ◌++◌, take, IsNone, IsSomeAnd, Ok, Err}
use Rattle.std.specs.List.{find}
use Rattle.std.specs.Option.{option_map}
use Rattle.std.specs.declared.option.Option.{Option}
use Rattle.std.specs.declared.result.Result.{Result}
use Rattle.life_io.specs.declared.mem_sink.PutFail.{PutFail}
use Rattle.life_io.specs.declared.sink.PutError.{PutError}
use Rattle.life_io.specs.declared.sink.PutError.TheVariants.{Failed, Memory}

-- the bytes, the calls that are to fail, and how many calls and faults there were
pub record SinkState : Type 0 where
  pub written : List ℕ
  pub fails : List PutFail
  pub calls : ℕ
  pub faults : ℕ

-- after how many bytes this call is to fail, if it is: of two entries for one call the first is meant
abbrev pub fail_of : List PutFail → ℕ → Option ℕ
fail_of fails call =
    option_map (λ (f : PutFail). f.after) (find (λ (f : PutFail). f.call == call) fails)

-- the answer of a call that is `due` to fail after so many bytes, or is not to fail, and what it leaves
abbrev pub PutsUntil : {T : Type 0} → Option ℕ → List ℕ → List ℕ → List ℕ → Result T PutError → Type 0
PutsUntil due before now bytes (Ok _) = IsNone due × (now ≡ before ++ bytes)
PutsUntil due before now bytes (Err Failed) = IsSomeAnd due (λ after. now ≡ before ++ take after bytes)
PutsUntil due before now bytes (Err Memory) = now ≡ before

-- before the first call
abbrev pub new_sink : List PutFail → SinkState
new_sink fails = record { written = []; fails = fails; calls = 0; faults = 0 }
