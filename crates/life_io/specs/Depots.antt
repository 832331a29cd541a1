-- What a fetch answers, what it leaves in the buffer, and what it does to the count of faults.
use Rattle.std.specs.Prelude.{◌≡◌, ℕ, ◌+◌, ◌<◌, ◌≤◌, List, ◌++◌, length, take, Some, IfSome, IsSomeAnd}
use Rattle.std.specs.Prelude.{Ok, Err}
use Rattle.std.specs.declared.option.Option.{Option}
use Rattle.std.specs.declared.result.Result.{Result}
use Rattle.life_io.specs.declared.depot.FetchError.{FetchError}
use Rattle.life_io.specs.declared.depot.FetchError.TheVariants.{Failed, TooLong, Memory}
use Rattle.life_io.specs.Counts.{Rose, one_more}
use Rattle.life_io.specs.Texts.{HeldText, text_of}

-- a text of at most `limit` bytes was appended, and where texts are told it is the one of that name
pub record AppendsText (told : Option (List HeldText)) (name : List ℕ) (limit : ℕ) (before now : List ℕ) : Type 0 where
  pub text : List ℕ
  pub appended : now ≡ before ++ text
  pub within : length text ≤ limit
  pub named : IfSome told (λ texts. text_of texts name ≡ Some text)

-- `start` is what a longer text has up to one byte past the limit
pub record IsCutAt (limit : ℕ) (text start : List ℕ) : Type 0 where
  pub longer : limit < length text
  pub cut : start ≡ take (limit + 1) text

-- limit + 1 bytes were appended, and where texts are told they begin the longer text of that name
pub record AppendsStart (told : Option (List HeldText)) (name : List ℕ) (limit : ℕ) (before now : List ℕ) : Type 0 where
  pub start : List ℕ
  pub appended : now ≡ before ++ start
  pub size : length start ≡ limit + 1
  pub named : IfSome told (λ texts. IsSomeAnd (text_of texts name) (λ text. IsCutAt limit text start))

-- the count rises where a fetch failed, and stays at every other answer
abbrev pub CountsFetch : {T : Type 0} → ℕ → ℕ → Result T FetchError → Type 0
CountsFetch before now (Ok _) = now ≡ before
CountsFetch before now (Err Failed) = Rose before now
CountsFetch before now (Err TooLong) = now ≡ before
CountsFetch before now (Err Memory) = now ≡ before

-- the count of faults after an answer: one more at a failure
abbrev pub fetch_faults_after : {T : Type 0} → ℕ → Result T FetchError → ℕ
fetch_faults_after before (Ok _) = before
fetch_faults_after before (Err Failed) = one_more before
fetch_faults_after before (Err TooLong) = before
fetch_faults_after before (Err Memory) = before
