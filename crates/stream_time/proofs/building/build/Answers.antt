use Rattle.std.proofs.Common.{ℕ, List, sym, subst, ◌∙◌}
use Rattle.life_cells.specs.Cells.{alive}
use Rattle.plan_facts.specs.Happenings.{Happening}
use Rattle.build_plan.specs.declared.event.Plan.{Plan}
use Rattle.stream_time.specs.InTime.{IsSchedule}
use Rattle.stream_time.specs.NearPlanLaws.{plan_near}
use Rattle.stream_time.specs.declared.times.Schedule.{Schedule}
use Rattle.recipe_book.specs.Checked.{CheckedEntries}
use Rattle.stream_time.specs.Laying.{AreStarted}
use Rattle.life_plane.specs.Plane.{Plane}
use Rattle.build_plan.specs.Plan.{IsPlan}
use Rattle.build_plan.specs.Happenings.{AllStandFor}
use Rattle.stream_time.specs.Built.{IsBuilt}
use Rattle.stream_time.proofs.Compiled.{laid_pattern, built_exact}
use Rattle.stream_time.proofs.building.build.Goals as goal

started : (book : CheckedEntries) (plan : Plan) (schedule : Schedule) (s : IsSchedule book plan schedule) → AreStarted book plan.events.items schedule.starts.items s.happenings
started book plan schedule s = record { stand = s.in_time.stand; starts_are = s.is_theirs.starts }

pub pattern_of-requires-clause-near : goal.pattern_of-requires-clause-near
pattern_of-requires-clause-near c = plan_near c.args.book.now c.settings.ensures.checked _ c.cells.ensures.target c.args.plan.now c.requires

pub returns : goal.returns
returns c =
    let s = c.in_ok-schedule.ensures.schedule in
    let target : Plane = alive c.args.target.now in
    let constructs = λ (plan : Plan) (is : IsPlan c.args.book.now target plan) (hs : List Happening) (stand : AllStandFor c.args.book.now plan.events.items hs). c.plans_construct.ensures c.args.book.now c.settings.ensures.checked target plan is hs stand in
    let built : IsBuilt c.args.book.now target (record { pattern = c.in_ok-pattern.pattern; n = c.in_ok-schedule.schedule.n }) = record {
      plan = c.args.plan.now;
      is_plan = c.requires;
      happenings = s.happenings;
      in_time = s.in_time;
      pattern_is = c.in_ok-pattern.ensures.cells s.happenings (subst (λ (ks : List ℕ). AreStarted c.args.book.now c.args.plan.now.events.items ks s.happenings) (sym c.deref.ensures.value) (started c.args.book.now c.args.plan.now c.in_ok-schedule.schedule s))
          ∙ laid_pattern c.args.book.now target c.args.plan.now s.happenings (constructs c.args.plan.now c.requires) s.in_time.stand;
      number = s.is_theirs.number;
    } in
    record {
      built = built;
      exact = built_exact c.args.book.now target _ c.settings.ensures.checked constructs c.chosen_times_are_valid.ensures c.valid_constructions_build.ensures built;
      range = c.in_ok-pattern.ensures.range;
    }
