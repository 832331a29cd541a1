-- `sample COUNT GAP`: the summary of what the sample builds for the empty target.
use Rattle.std.specs.Prelude.{◌≡◌, ℕ, List}
use Rattle.life_plane.specs.Plane.{nothing}
use Rattle.life_target.specs.Targets.{IsTarget}
use Rattle.recipe_book.specs.Checked.{CheckedEntries}
use Rattle.build_plan.specs.declared.event.Plan as plans
use Rattle.build_plan.specs.Plan.{IsPlan}
use Rattle.stream_time.specs.declared.times.Schedule.{Schedule}
use Rattle.stream_time.specs.InTime.{IsSchedule}
use Rattle.stream_time.specs.LastDelay.{IsLastDelay}
use Rattle.life_sample.specs.Sample.{IsSample}
use Rattle.life_sample.specs.Summary.{summary}
use Rattle.book_text.specs.Book.{Said}
use Rattle.life_cli.specs.Book.{book_tests}
use Rattle.life_cli.specs.Stages.{Stages, Test}
use Rattle.life_cli.specs.Stages.Stages.{Answer, Stage}
use Rattle.life_cli.specs.Compiled.{TargetRefuses, HasPlan, PlanRefuses}

-- The bytes are the summary of what the book builds for the empty target: the number of its generations, and how late the last glider is.
pub record IsSummedUp (count : ℕ) (book : CheckedEntries) (bytes : List ℕ) : Type 0 where
  pub plan : plans.Plan
  pub is_plan : IsPlan book nothing plan
  pub schedule : Schedule
  pub is_schedule : IsSchedule book plan schedule
  pub delay : ℕ
  pub is_last : IsLastDelay book.settings is_schedule.happenings delay
  pub written : bytes ≡ summary count delay schedule.n

-- ---- the stages

-- from the checked book on
abbrev pub summing : ℕ → CheckedEntries → Stages
summing count book = Test (HasPlan book nothing) (PlanRefuses book nothing) 0 (Answer 0 (IsSummedUp count book))

-- from the sample on; the empty target is tested as any other
abbrev pub sampling : ℕ → Said → Stages
sampling count said = Test (IsTarget nothing) (TargetRefuses nothing) 1 (book_tests said (summing count))

abbrev pub sample : ℕ → ℕ → Stages
sample count gap = Stage Said (IsSample count gap) (λ status. ⊥) 0 (sampling count)
