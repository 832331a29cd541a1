-- What a run of the program comes to: the cause of each status, what the sink of the answer gains, and which counts of faults rise.
use Rattle.std.specs.Prelude.{◌≡◌, ◌⊎◌, ℕ, List}
use Rattle.std.specs.List.{AllByRecursion}
use Rattle.std.specs.Io.KnownBytes.{append_known}
use Rattle.std.specs.declared.option.Option.{Option}
use Rattle.life_io.specs.Counts.{Rose}
use Rattle.life_io.specs.Sinks.{AppendsPrefix}
use Rattle.life_io.specs.Texts as depot
use Rattle.life_cli.specs.declared.status.Status.{Status}
use Rattle.life_cli.specs.declared.status.Status.TheVariants.{Done, Words, ReadFault, WriteFault, Memory}
use Rattle.life_words.specs.Words as words
use Rattle.life_words.specs.Words.{Ask, AreRefused}
use Rattle.life_words.specs.declared.command.Command.{Command}
use Rattle.life_cli.specs.Commands.{stages_of, names_of}
use Rattle.life_cli.specs.Inputs.{Told}
use Rattle.life_cli.specs.Stages.{Give, Refuse, CountWithin}

-- what stood before a run, and stands behind it
pub record Run : Type 0 where
  -- the words, and the texts that the depot tells
  pub words : words.Words
  pub told : Told
  -- the depot's count of faults, before and behind
  pub reads : ℕ
  pub reads_then : ℕ
  -- the bytes of the sink for the answer, and its count of faults
  pub out : Option (List ℕ)
  pub out_then : Option (List ℕ)
  pub writes : ℕ
  pub writes_then : ℕ

-- the words ask for a command of which this holds
abbrev pub AskFor : words.Words → (Command → Type 0) → Type 0
AskFor words P = (command : Command) × (Ask words command × P command)

abbrev pub NoFaultOfReading : Run → Type 0
NoFaultOfReading run = run.reads_then ≡ run.reads

abbrev pub NoFaultOfWriting : Run → Type 0
NoFaultOfWriting run = run.writes_then ≡ run.writes

abbrev pub NothingIsPut : Run → Type 0
NothingIsPut run = run.out_then ≡ run.out

-- the whole answer was appended
abbrev pub GainsAnswer : Run → Type 0
GainsAnswer run = AskFor run.words (λ command. (bytes : List ℕ) × ((run.out_then ≡ append_known run.out bytes) × Give (stages_of run.told command) bytes))

-- a first part of the answer was appended
abbrev pub GainsPart : Run → Type 0
GainsPart run = AskFor run.words (λ command. (bytes : List ℕ) × (AppendsPrefix run.out run.out_then bytes × Give (stages_of run.told command) bytes))

-- a stage of what the words ask for refuses so
abbrev pub StagesRefuse : Run → Status → Type 0
StagesRefuse run status = AskFor run.words (λ command. Refuse (stages_of run.told command) status)

-- How a run ends. At Memory a fault of reading may have come before: there was no memory for its line.
abbrev pub Ends : Run → Status → Type 0
Ends run Done = NoFaultOfReading run × (NoFaultOfWriting run × GainsAnswer run)
Ends run WriteFault = NoFaultOfReading run × (Rose run.writes run.writes_then × GainsPart run)
Ends run Memory = NoFaultOfWriting run × NothingIsPut run
Ends run ReadFault = NoFaultOfWriting run × (NothingIsPut run × (Rose run.reads run.reads_then × AskFor run.words (λ command. Unit {0})))
Ends run (Words e) = NoFaultOfWriting run × (NothingIsPut run × (NoFaultOfReading run × (AreRefused run.words e ⊎ StagesRefuse run (Words e))))
Ends run other = NoFaultOfWriting run × (NothingIsPut run × (NoFaultOfReading run × StagesRefuse run other))

-- the counter of generations stays, or rises as far as the stages of what the words ask for may count
abbrev pub Counted : words.Words → Told → ℕ → ℕ → Type 0
Counted words told before now = (now ≡ before) ⊎ AskFor words (λ command. CountWithin (stages_of told command) before now)

-- the texts that a command names are held
abbrev pub AreHeld : Told → Command → Type 0
AreHeld told command = AllByRecursion (depot.Holds told) (names_of command)

-- the texts that the words name are held
abbrev pub NamesAreHeld : words.Words → Told → Type 0
NamesAreHeld words told = (command : Command) → Ask words command → AreHeld told command
