-- How a run ends, from how its stages end, what was put, and what became of its line.
use Rattle.std.specs.Prelude.{◌≡◌, ◌≢◌, ◌⊎◌, ℕ, List, IfSome}
use Rattle.std.specs.declared.option.Option.TheVariants.{Some, None}
use Rattle.std.proofs.Common.{refl, sym, subst, ◌∙◌, inl, inr}
use Rattle.life_io.specs.Counts.{Rose}
use Rattle.life_io.specs.Texts.{HeldText}
use Rattle.life_words.specs.Words.{Ask, AreRefused}
use Rattle.life_words.specs.Words as words
use Rattle.life_words.specs.declared.command.Command.{Command}
use Rattle.life_words.specs.declared.refusal.WordsError.{WordsError}
use Rattle.life_cli.specs.declared.status.Status.{Status}
use Rattle.life_cli.specs.declared.status.Status.TheVariants.{Done, Words, ReadFault, WriteFault, Memory}
use Rattle.life_cli.specs.Inputs.{Told}
use Rattle.life_cli.specs.Stages.{Give, Refuse, Pass, HasCause}
use Rattle.life_cli.specs.Putting.{PuttingRefuses}
use Rattle.life_cli.specs.Commands.{stages_of}
use Rattle.life_cli.specs.Run.{Run, StagesRefuse, NoFaultOfReading, NoFaultOfWriting, NothingIsPut, Ends}
use Rattle.life_cli.specs.Complete.{IsDue, IsDoneBut}
use Rattle.life_cli.specs.ErrorLines.{without_line}

-- no answer was made
pub refused : (run : Run) (command : Command) (status : Status) → Ask run.words command → HasCause (Rose run.reads run.reads_then) (Refuse (stages_of run.told command)) status →
    (status ≢ ReadFault → NoFaultOfReading run) → NoFaultOfWriting run → NothingIsPut run → Ends run status
refused run command Done ask h reads writes none = absurd h
refused run command (Words e) ask h reads writes none = (writes, (none, (reads (λ e. cc), inr (command, (ask, h)))))
refused run command WriteFault ask h reads writes none = absurd h
refused run command Memory ask h reads writes none = (writes, none)
refused run command ReadFault ask h reads writes none = (writes, (none, (h, (command, (ask, tt)))))
refused run command other ask h reads writes none = (writes, (none, (reads (λ e. cc), (command, (ask, h)))))

-- an answer was made, and not put, or not all of it
pub unput : (run : Run) (command : Command) (bytes : List ℕ) (status : Status) → Ask run.words command → Give (stages_of run.told command) bytes → NoFaultOfReading run →
    PuttingRefuses run.out run.out_then bytes run.writes run.writes_then status → (status ≢ WriteFault → NoFaultOfWriting run) → Ends run status
unput run command bytes WriteFault ask give reads h writes = (reads, (h.0, (command, (ask, (bytes, (h.1, give))))))
unput run command bytes Memory ask give reads h writes = (writes (λ e. cc), h)
unput run command bytes other ask give reads h writes = absurd h

-- there was no memory for the line
unreported : (run : Run) (status : Status) → Ends run status → status ≢ Done → Ends run (without_line status)
unreported run Done h other = absurd (other refl)
unreported run WriteFault h other = h
unreported run Memory h other = h
unreported run status h other = (h.0, h.1.0)

done_or_not : (status : Status) → (status ≡ Done) ⊎ (status ≢ Done)
done_or_not Done = inl refl
done_or_not other = inr (λ e. cc)

pub reported : (run : Run) (status result : Status) → Ends run status → (result ≡ status) ⊎ (result ≡ without_line status) → (status ≡ Done → result ≡ Done) → Ends run result
reported run status result h (inl e) done = subst (λ (s : Status). Ends run s) (sym e) h
reported run status result h (inr e) done = elim (done_or_not status) [
  | inl is ↦ subst (λ (s : Status). Ends run s) (is ∙ sym (done is)) h
  | inr other ↦ subst (λ (s : Status). Ends run s) (sym e) (unreported run status h other)
]

-- the laws of words and of stages: words ask for one command and aren't refused then, and where each stage passes none refuses
pub record LawsOfRuns : Type 0 where
  pub one_command : (ws : words.Words) (a b : Command) → Ask ws a → Ask ws b → a ≡ b
  pub not_refused : (ws : words.Words) (command : Command) (e : WordsError) → Ask ws command → AreRefused ws e → ⊥
  pub passing : (texts : List HeldText) (command : Command) (status : Status) → Pass (stages_of (Some texts) command) → Refuse (stages_of (Some texts) command) status → ⊥

-- so no stage refuses
no_stage : LawsOfRuns → (run : Run) (texts : List HeldText) (status : Status) → run.told ≡ Some texts → IsDue run.words texts → StagesRefuse run status → ⊥
no_stage laws run texts status told d r =
    laws.passing texts d.command status d.passes
    (subst (λ (c : Command). Refuse (stages_of (Some texts) c) status) (laws.one_command run.words r.0 d.command r.1.0 d.asks)
    (subst (λ (t : Told). Refuse (stages_of t r.0) status) told r.1.1))

due : LawsOfRuns → (run : Run) (texts : List HeldText) (status : Status) → run.told ≡ Some texts → Ends run status → IsDue run.words texts → IsDoneBut status
due laws run texts Done told h d = tt
due laws run texts Memory told h d = tt
due laws run texts ReadFault told h d = tt
due laws run texts WriteFault told h d = tt
due laws run texts (Words e) told h d = elim h.1.1.1 [
  | inl refused ↦ absurd (laws.not_refused run.words d.command e d.asks refused)
  | inr stages ↦ absurd (no_stage laws run texts (Words e) told d stages)
]
due laws run texts other told h d = absurd (no_stage laws run texts other told d h.1.1.1)

pub due_runs_are_done : LawsOfRuns → (run : Run) (status : Status) (told : Told) → run.told ≡ told → Ends run status → IfSome told (λ texts. IsDue run.words texts → IsDoneBut status)
due_runs_are_done laws run status None is h = tt
due_runs_are_done laws run status (Some texts) is h = λ d. due laws run texts status is h d
