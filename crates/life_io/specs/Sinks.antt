-- What a put answers, what it leaves in the sink, and what it does to the count of faults.
use Rattle.std.specs.Prelude.{◌≡◌, ℕ, List}
use Rattle.std.specs.Prelude.{Ok, Err}
use Rattle.std.specs.Io.{StartsWith}
use Rattle.std.specs.Io.KnownBytes.{append_known}
use Rattle.std.specs.declared.option.Option.{Option}
use Rattle.std.specs.declared.result.Result.{Result}
use Rattle.life_io.specs.declared.sink.PutError.{PutError}
use Rattle.life_io.specs.declared.sink.PutError.TheVariants.{Failed, Memory}
use Rattle.life_io.specs.Counts.{Rose, one_more}

-- some first part of the bytes was appended, perhaps none of them or all
pub record AppendsPrefix (before now : Option (List ℕ)) (bytes : List ℕ) : Type 0 where
  pub prefix : List ℕ
  pub begins : StartsWith bytes prefix
  pub appended : now ≡ append_known before prefix

-- the count rises where a put failed, and stays at every other answer
abbrev pub CountsPut : {T : Type 0} → ℕ → ℕ → Result T PutError → Type 0
CountsPut before now (Ok _) = now ≡ before
CountsPut before now (Err Failed) = Rose before now
CountsPut before now (Err Memory) = now ≡ before

-- the count of faults after an answer: one more at a failure
abbrev pub put_faults_after : {T : Type 0} → ℕ → Result T PutError → ℕ
put_faults_after before (Ok _) = before
put_faults_after before (Err Failed) = one_more before
put_faults_after before (Err Memory) = before
