-- What is laid out is the pattern of the plan, and its n-th generation is the target.
use Rattle.std.proofs.Common.{◌≡◌, ℕ, neg_ℤ, ◌-ℤ◌, List, [], ◌∷◌, Option, sym, ap, ◌∙◌, arith}
use Rattle.std.proofs.lemmas.Int.{ints}
use Rattle.life_plane.specs.Plane.{Plane, union, shift, run, same_plane, IsStill}
use Rattle.life_cells.specs.Cells.{alive}
use Rattle.life_cells.specs.declared.cell.Cell.{Cell}
use Rattle.book_parts.specs.Kinds.{kind_plane}
use Rattle.book_parts.specs.Limits.{AreProper}
use Rattle.book_parts.specs.declared.settings.Settings.{Settings}
use Rattle.book_parts.specs.declared.kind.RawKind.{RawKind}
use Rattle.recipe_book.specs.Checked.{CheckedEntries, IsCheckedBook}
use Rattle.life_islands.specs.declared.island.Island.{Island}
use Rattle.event_times.specs.Events as timed
use Rattle.event_times.specs.Lane.{indices, IsOneLane}
use Rattle.plan_facts.specs.Happenings.{Happening, events_of}
use Rattle.plan_facts.specs.State.{hand_plane, first_hand}
use Rattle.plan_facts.specs.Facts.{IsConstruction}
use Rattle.plan_facts.specs.FirstHandLaws.{hand_at_first}
use Rattle.build_plan.specs.declared.event.Plan.{Plan}
use Rattle.build_plan.specs.declared.error.PlanError.TheVariants.{Memory}
use Rattle.build_plan.specs.Happenings.{AllStandFor}
use Rattle.build_plan.specs.Plan.{IsPlan}
use Rattle.build_plan.specs.PlanHits.{HitsForIslands}
use Rattle.build_plan.specs.Stops.{PlanStops}
use Rattle.stream_time.specs.Built.{plan_pattern, IsBuilt}
use Rattle.stream_time.specs.Laying.{laid}
use Rattle.stream_time.specs.Parts.{IsHandFor, HasParts}
use Rattle.stream_time.specs.declared.building.Built.{Built}

-- there and back
pub moved_back : (target : Plane) (back : Cell) → shift back.x back.y (shift (neg_ℤ back.x) (neg_ℤ back.y) target) ≡ target
moved_back target back = same_plane _ _ (λ x y. (
    let ex : (x -ℤ back.x) -ℤ neg_ℤ back.x ≡ x = omega (arith, ints) in
    let ey : (y -ℤ back.y) -ℤ neg_ℤ back.y ≡ y = omega (arith, ints) in
    λ i. target (ex i) (ey i)))

-- the target, away from its own place
abbrev pub away : Plan → Plane → Plane
away plan target = shift (neg_ℤ plan.back.x) (neg_ℤ plan.back.y) target

abbrev pub Constructs : CheckedEntries → Plane → Plan → Type 0
Constructs book target plan = (happenings : List Happening) → AllStandFor book plan.events.items happenings → IsConstruction book.settings book.kinds book.start (alive book.hand) plan.first_hand happenings (away plan target)

-- what is laid out is the pattern
pub laid_pattern : (book : CheckedEntries) (target : Plane) (plan : Plan) (happenings : List Happening) → Constructs book target plan → AllStandFor book plan.events.items happenings →
    shift plan.back.x plan.back.y (laid book plan happenings) ≡ plan_pattern book plan happenings
laid_pattern book target plan happenings constructs stand =
    ap (λ (s : Plane). shift plan.back.x plan.back.y (union (kind_plane book.kinds book.start) (union s (timed.stream_of book.settings (events_of happenings)))))
    (sym (hand_at_first book.settings book.kinds (alive book.hand) (away plan target) book.start plan.first_hand happenings (constructs happenings stand)))

-- constructions with valid times build
abbrev pub Build : Type 0
Build =
    (settings : Settings) → AreProper settings → (kinds : List RawKind) (hand target : Plane) → IsStill hand → (start : ℕ) (first : Option Cell) (happenings : List Happening) → IsConstruction settings kinds start hand first happenings target →
    timed.AreValidEvents settings timed.no_history (events_of happenings) → (n : ℕ) → timed.IsNumber (events_of happenings) n → (back : Cell) →
    run n (timed.pattern_of settings kinds start (hand_plane hand (first_hand first)) (events_of happenings) back) ≡ shift back.x back.y target

abbrev pub Valid : Type 0
Valid = (settings : Settings) (past : timed.History) (events : List timed.Event) → timed.AreChosenEvents settings past events → timed.AreValidEvents settings past events

-- The n-th generation of what is built is the target.
pub built_exact : (book : CheckedEntries) (target : Plane) (built : Built) → IsCheckedBook book → ((plan : Plan) → IsPlan book target plan → Constructs book target plan) → Valid → Build → IsBuilt book target built →
    run built.n (alive built.pattern) ≡ target
built_exact book target built checked constructs valid build is =
    let plan = is.plan in
    ap (run built.n) is.pattern_is
    ∙ build book.settings checked.proper.settings book.kinds (alive book.hand) (away plan target) checked.still book.start plan.first_hand is.happenings (constructs plan is.is_plan is.happenings is.in_time.stand)
    (valid book.settings timed.no_history (events_of is.happenings) is.in_time.chosen) built.n is.number plan.back
    ∙ moved_back target plan.back

-- where there is a plan, want of memory is a stop all the same
pub no_memory_stops : (book : CheckedEntries) (target : Plane) (plan : Plan) → IsPlan book target plan → PlanStops book target Memory
no_memory_stops book target plan is = tt

-- ---- the parts of the pattern

abbrev pub OneLane : Type 0
OneLane =
    (settings : Settings) (kinds : List RawKind) (hand target : Plane) (start : ℕ) (first : Option Cell) (happenings : List Happening) → IsConstruction settings kinds start hand first happenings target →
    timed.AreValidEvents settings timed.no_history (events_of happenings) → IsOneLane settings (events_of happenings)

hand_for : (islands : List Island) (plan : Plan) → HitsForIslands islands plan → IsHandFor islands plan.first_hand
hand_for [] plan h = h.0
hand_for (island ∷ islands) plan h = h.0

pub built_parts : (book : CheckedEntries) (target : Plane) (built : Built) (islands : List Island) → ((plan : Plan) → IsPlan book target plan → Constructs book target plan) → ((plan : Plan) → IsPlan book target plan → HitsForIslands islands plan) →
    Valid → OneLane → IsBuilt book target built → HasParts book islands (alive built.pattern)
built_parts book target built islands constructs hits valid lane is =
    let plan = is.plan in
    let c = constructs plan is.is_plan is.happenings is.in_time.stand in
    let one = lane book.settings book.kinds (alive book.hand) (away plan target) book.start plan.first_hand is.happenings c (valid book.settings timed.no_history (events_of is.happenings) is.in_time.chosen) in
    record {
      first = plan.first_hand;
      one_hand = hand_for islands plan (hits plan is.is_plan);
      gliders = indices book.settings (events_of is.happenings);
      in_line = one.in_line;
      back = plan.back;
      is =
          is.pattern_is
          ∙ (λ i. shift plan.back.x plan.back.y (union (kind_plane book.kinds book.start)
          (union (hand_at_first book.settings book.kinds (alive book.hand) (away plan target) book.start plan.first_hand is.happenings c i) (one.stream i))));
    }
