-- `compile BOOK TARGET`: a pattern, and the number of generations after which it is exactly the target.
use Rattle.std.specs.Prelude.{◌≡◌, ◌≢◌, ℕ, List, ◌++◌, codes, Some}
use Rattle.std.specs.Fmt.{decimal}
use Rattle.life_plane.specs.Plane.{Plane, run}
use Rattle.life_cells.specs.Cells.{alive}
use Rattle.life_rle.specs.Text.{Means}
use Rattle.life_rle.specs.Written.{IsRleText}
use Rattle.life_target.specs.Targets.{IsTarget, TargetIsRefused}
use Rattle.life_target.specs.declared.refusal.TargetError as target
use Rattle.recipe_book.specs.Checked.{CheckedEntries}
use Rattle.build_plan.specs.Plan.{IsPlan}
use Rattle.build_plan.specs.Stops.{PlanStops}
use Rattle.build_plan.specs.declared.event.Plan as plans
use Rattle.build_plan.specs.declared.error.PlanError.TheVariants as stop
use Rattle.stream_time.specs.Built.{IsBuilt}
use Rattle.stream_time.specs.declared.building.Built.{Built}
use Rattle.book_text.specs.Book.{Said}
use Rattle.life_cli.specs.Book.{book_tests}
use Rattle.life_cli.specs.Inputs.{Told, book_input, pattern_input}
use Rattle.life_cli.specs.Stages.{Stages, Test}
use Rattle.life_cli.specs.Stages.Stages.{Answer}
use Rattle.life_cli.specs.declared.status.Which.TheVariants.{Target}
use Rattle.life_cli.specs.declared.status.Status.{Status}
use Rattle.life_cli.specs.declared.status.Status.TheVariants.{BadTarget, NoPlan, StreamLong}

-- ---- the target

-- the tests of a target refuse so
abbrev pub TargetRefuses : Plane → Status → Type 0
TargetRefuses s (BadTarget e) = (e ≢ target.TheVariants.Memory) × TargetIsRefused s e
TargetRefuses s other = ⊥

-- ---- the plan

-- the book has a plan for the target
abbrev pub HasPlan : CheckedEntries → Plane → Type 0
HasPlan book target = (plan : plans.Plan) × IsPlan book target plan

-- planning refuses so: it stops at an island without a recipe, at an elbow that no list closes, or with a stream that is too long
abbrev pub PlanRefuses : CheckedEntries → Plane → Status → Type 0
PlanRefuses book target (NoPlan (stop.NoRecipe island at)) = PlanStops book target (stop.NoRecipe island at)
PlanRefuses book target (NoPlan (stop.NoClosing kind shift)) = PlanStops book target (stop.NoClosing kind shift)
PlanRefuses book target (StreamLong count) = PlanStops book target (stop.StreamLong count)
PlanRefuses book target other = ⊥

-- ---- the answer

-- the note that names the number of generations
abbrev pub generations : ℕ → List ℕ
generations n = codes "generations " ++ decimal n

-- The bytes are the text of the pattern with the note of its n, and the n-th generation of the cells that these bytes mean is the target.
pub record IsCompiled (book : CheckedEntries) (target : Plane) (bytes : List ℕ) : Type 0 where
  -- the pattern and n, which are those of the book's plan for the target at its chosen times
  pub built : Built
  pub is_built : IsBuilt book target built
  -- what is written
  pub written : IsRleText (alive built.pattern) (Some (generations built.n)) bytes
  pub means : Means bytes (alive built.pattern)
  -- what it comes to
  pub exact : run built.n (alive built.pattern) ≡ target

-- ---- the stages

-- from the checked book on
abbrev pub planning : CheckedEntries → Plane → Stages
planning book target = Test (HasPlan book target) (PlanRefuses book target) 0 (Answer 0 (IsCompiled book target))

-- from the target on
abbrev pub building : Said → Plane → Stages
building said target = Test (IsTarget target) (TargetRefuses target) 1 (book_tests said (λ book. planning book target))

abbrev pub compile : Told → List ℕ → List ℕ → Stages
compile told book_name target_name = book_input told book_name (λ said. pattern_input told target_name Target (λ target. building said target))
