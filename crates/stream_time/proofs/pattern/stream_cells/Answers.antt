use Rattle.std.proofs.Common.{◌≡◌, ℕ, ◌+◌, ◌≤◌, pos, w64, to_z, of_z, List, get_or, Vec, Global, sym, ap, subst, ◌∙◌, arith}
use Rattle.std.proofs.lemmas.Int.{ints}
use Rattle.life_plane.specs.ListLaws.{each_at}
use Rattle.build_plan.specs.declared.event.Event.TheVariants.{Turn}
use Rattle.life_plane.specs.Plane.{union}
use Rattle.life_cells.specs.Listed.{listed}
use Rattle.life_cells.specs.declared.cell.Cell.{Cell}
use Rattle.book_parts.specs.declared.turn.RawTurn.{RawTurn}
use Rattle.elbow_graph.specs.Numbered.{IsNumbered}
use Rattle.recipe_turn.specs.Checked.{Checked, raws}
use Rattle.event_times.specs.Events.{turn_gliders}
use Rattle.event_times.specs.Early.{IsNearShift, latest_end}
use Rattle.stream_time.specs.NearEvents.{IsNearEvent}
use Rattle.stream_time.proofs.Laid.{IsLaid, some_start, some_turn, turn_laid, hit_laid, laid_ends}
use Rattle.stream_time.proofs.pattern.stream_cells.Goals as goal
use Rattle.stream_time.proofs.pattern.stream_cells.Goals.{in-Turn+in_ok-push_turn-in-Turn, in-Hit}

pub offset_bounds-starts-started : goal.offset_bounds-starts-started
offset_bounds-starts-started c =
    let lt = some_start c.args.book.now c.args.events.now c.args.starts.now c.requires.started.0 c.loop-event.event-index c.loop-event.started c.loop-event.cells.items (c.loop-event.invariant c.requires.started.0 c.requires.started.1)
    c.loop-event-test.true (Turn 0 (pos 0)) c.in-Turn.turn c.in-Turn.shift c.in-Turn.is in
    let few = c.requires.few in
    record { fits = omega arith }

pub bounds-starts-started : goal.bounds-starts-started
bounds-starts-started c =
    some_start c.args.book.now c.args.events.now c.args.starts.now c.requires.started.0 c.loop-event.event-index c.loop-event.started c.loop-event.cells.items (c.loop-event.invariant c.requires.started.0 c.requires.started.1)
    c.loop-event-test.true (Turn 0 (pos 0)) c.in-Turn.turn c.in-Turn.shift c.in-Turn.is

pub push_turn-requires-clause-shift : goal.push_turn-requires-clause-shift
push_turn-requires-clause-shift c =
    let near : IsNearShift c.in-Turn.shift = subst IsNearEvent c.in-Turn.is (each_at IsNearEvent c.args.events.now c.requires.near c.loop-event.event-index (Turn 0 (pos 0)) c.loop-event-test.true) in
    let low = near.low in
    let high = near.high in
    let shift_is : to_z w64 (of_z w64 c.in-Turn.shift) ≡ c.in-Turn.shift = omega (arith, ints) in
    subst IsNearShift (sym shift_is) near

pub overflow_add-started : goal.overflow_add-started
overflow_add-started c =
    let lt = some_start c.args.book.now c.args.events.now c.args.starts.now c.requires.started.0 c.loop-event.event-index c.loop-event.started c.loop-event.cells.items (c.loop-event.invariant c.requires.started.0 c.requires.started.1)
    c.loop-event-test.true (Turn 0 (pos 0)) c.in-Turn.turn c.in-Turn.shift c.in-Turn.is in
    let few = c.requires.few in
    omega arith

pub loop-event-preserved : goal.loop-event-preserved
loop-event-preserved c whole started =
    let s = c.loop-event.invariant whole started in
    elim c.match-event.branch [
      | in-Turn+in_ok-push_turn-in-Turn w ↦
          let near : IsNearShift w.in-Turn.shift = subst IsNearEvent w.in-Turn.is (each_at IsNearEvent c.args.events.now c.requires.near c.loop-event.event-index (Turn 0 (pos 0)) c.loop-event-test.true) in
          let low = near.low in
          let high = near.high in
          let shift_is : to_z w64 (of_z w64 w.in-Turn.shift) ≡ w.in-Turn.shift = omega (arith, ints) in
          subst (λ (n : ℕ). IsLaid c.args.book.now c.args.events.now c.args.starts.now whole (c.loop-event.event-index + 1) n c.match-event.cells.items) (sym w.started-is)
          (turn_laid c.args.book.now c.args.events.now c.args.starts.now whole c.loop-event.event-index c.loop-event.started c.loop-event.cells.items s c.loop-event-test.true (Turn 0 (pos 0)) w.in-Turn.turn w.in-Turn.shift w.in-Turn.is
          c.match-event.cells.items w.turn_at-turn.result.now 0 (subst (λ (ts : List Checked). IsNumbered (raws ts) w.in-Turn.turn w.turn_at-turn.result.now) w.turns.ensures w.turn_at-turn.ensures.turn)
          (ap (λ (v : Vec Cell Global). listed v.items) w.cells-is ∙ w.in_ok-push_turn-in-Turn.ensures
          ∙ (λ i. union (listed c.loop-event.cells.items) (turn_gliders (c.settings-settings.ensures.settings i) (record { turn = w.turn_at-turn.result.now; shift = shift_is i; start = get_or c.args.starts.now c.loop-event.started 0 })))))
      | in-Hit w ↦
          subst (λ (n : ℕ). IsLaid c.args.book.now c.args.events.now c.args.starts.now whole (c.loop-event.event-index + 1) n c.match-event.cells.items) (sym w.started-is)
          (subst (λ (v : Vec Cell Global). IsLaid c.args.book.now c.args.events.now c.args.starts.now whole (c.loop-event.event-index + 1) c.loop-event.started v.items) (sym w.cells-is)
          (hit_laid c.args.book.now c.args.events.now c.args.starts.now whole c.loop-event.event-index c.loop-event.started c.loop-event.cells.items s c.loop-event-test.true (Turn 0 (pos 0)) w.in-Hit.salvo w.in-Hit.place w.in-Hit.at w.in-Hit.is))
    ]

pub turn_at-turn-requires-clause-numbered : goal.turn_at-turn-requires-clause-numbered
turn_at-turn-requires-clause-numbered c =
    subst (λ (ts : List Checked). (x : RawTurn) × IsNumbered (raws ts) c.in-Turn.turn x) (sym c.turns.ensures)
    (some_turn c.args.book.now c.args.events.now c.args.starts.now c.requires.started.0 c.loop-event.event-index c.loop-event.started c.loop-event.cells.items (c.loop-event.invariant c.requires.started.0 c.requires.started.1)
    c.loop-event-test.true (Turn 0 (pos 0)) c.in-Turn.turn c.in-Turn.shift c.in-Turn.is)

pub push_turn-requires-clause-start : goal.push_turn-requires-clause-start
push_turn-requires-clause-start c =
    each_at (λ (k : ℕ). k ≤ latest_end) c.args.starts.now c.requires.early c.loop-event.started 0
    (some_start c.args.book.now c.args.events.now c.args.starts.now c.requires.started.0 c.loop-event.event-index c.loop-event.started c.loop-event.cells.items (c.loop-event.invariant c.requires.started.0 c.requires.started.1)
    c.loop-event-test.true (Turn 0 (pos 0)) c.in-Turn.turn c.in-Turn.shift c.in-Turn.is)

pub returns : goal.returns
returns c whole started = laid_ends c.args.book.now c.args.events.now c.args.starts.now whole c.loop-event.event-index c.loop-event.started c.loop-event.cells.items c.loop-event-test.false (c.loop-event.invariant whole started)
