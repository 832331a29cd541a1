-- Each turn adds less than 2^35 generations, so that all numbers stay small.
use Rattle.std.specs.Prelude.{ℕ, ◌+◌, ◌≤◌, ◌^◌, ℤ, pos, List, [], ◌∷◌, ◌++◌, drop, take, Option}
use Rattle.std.specs.List.{AllByRecursion}
use Rattle.std.specs.declared.option.Option.TheVariants.{Some, None}
use Rattle.std.proofs.Common.{sym, subst, arith, inl}
use Rattle.std.proofs.lemmas.Int.{ints}
use Rattle.std.proofs.lemmas.List.{take-append-drop}
use Rattle.life_plane.specs.ListLaws.{all_back, all_push, all_weaker}
use Rattle.life_cells.specs.Boxes.{IsBoxInRange}
use Rattle.life_cells.specs.declared.bounds.Bounds.{Bounds}
use Rattle.book_parts.specs.Limits.{IsFrom, IsCoordinate}
use Rattle.book_parts.specs.Proper.{IsProperEnd, IsProperTurn}
use Rattle.book_parts.specs.declared.limits.TheConstants.{GREATEST_REACH, MOST_GLIDERS}
use Rattle.book_parts.specs.declared.turn.RawTurn.{RawTurn}
use Rattle.book_parts.specs.declared.turn.TurnEnd.{TurnEnd}
use Rattle.book_parts.specs.declared.turn.TurnEnd.TheVariants.{Close, Move, Emit}
use Rattle.recipe_hit.specs.declared.frame.HitFrame.{HitFrame}
use Rattle.recipe_hit.specs.declared.limits.TheConstants.{LONGEST_HIT}
use Rattle.event_times.specs.TimedTurns.{advance_of}
use Rattle.event_times.specs.Events.{IsSpared}
use Rattle.event_times.specs.Least.{been, IsBehindTime, IsBehindSent, SparesThese, MayStartThen, IsLeastOf, IsNearTurn, IsNearSent, AreNearEmissions, IsNearHit, AreNear}
use Rattle.event_times.specs.declared.least.TurnTime.{TurnTime}
use Rattle.event_times.specs.declared.least.Emission.{Emission}
use Rattle.event_times.specs.declared.least.Sent.{Sent}
use Rattle.event_times.specs.declared.least.HitTime.{HitTime}
use Rattle.event_times.specs.declared.clock.Clock.{Clock}
use Rattle.event_times.specs.Clock.{emission_of, sent_after, AddsHit, TurnIsAdded, HitIsAdded}
use Rattle.event_times.specs.Early.{IsNearShift, IsBy, latest, latest_end, longest_flight, IsEarlyTurn, IsEarlySent, IsEarlyHit, IsEarlyFrame, IsEarly}

-- the hits that are looked at
live_early : (turns : ℕ) (clock : Clock) → IsEarly turns clock → AllByRecursion (IsEarlyHit (latest turns)) (drop clock.over clock.hits.items)
live_early turns clock early =
    all_back (IsEarlyHit (latest turns)) (take clock.over clock.hits.items) (drop clock.over clock.hits.items)
    (subst (AllByRecursion (IsEarlyHit (latest turns))) (sym (take-append-drop clock.over clock.hits.items)) early.hits)

wider : (box : Bounds) → IsBoxInRange (2 ^ 33) box → IsBoxInRange (2 ^ 56) box
wider box b =
    let ll = b.left_low in let lh = b.left_high in let tl = b.top_low in let th = b.top_high in
    let rl = b.right_low in let rh = b.right_high in let bl = b.bottom_low in let bh = b.bottom_high in
    record {
      left_low = omega (arith, ints);
      left_high = omega (arith, ints);
      top_low = omega (arith, ints);
      top_high = omega (arith, ints);
      right_low = omega (arith, ints);
      right_high = omega (arith, ints);
      bottom_low = omega (arith, ints);
      bottom_high = omega (arith, ints);
    }

by_wider : (n m : ℕ) (z : ℤ) → n ≤ m → IsBy n z → IsBy m z
by_wider n m z le b = let low = b.low in let high = b.high in record { low = omega (arith, ints); high = omega (arith, ints) }

-- ---- within the range of least starts

module _ (turns : ℕ) (few : turns ≤ MOST_GLIDERS) where
  near_turn : (o : Option TurnTime) → IsEarlyTurn (latest turns) o → IsNearTurn o
  near_turn None h = tt
  near_turn (Some turn) h = let early = h.0 in (omega arith, let low = h.1.low in let high = h.1.high in record { low = omega (arith, ints); high = omega (arith, ints) })

  near_sent : (o : Option Sent) → IsEarlySent (latest turns) o → IsNearSent o
  near_sent None h = tt
  near_sent (Some sent) h = let early = h.0 in (omega arith, (by_wider (2 ^ 31) (2 ^ 56) sent.glider.lane (omega arith) h.1.0, by_wider 9126805504 (2 ^ 56) sent.glider.j (omega arith) h.1.1))

  near_hit : (hit : HitTime) → IsEarlyHit (latest turns) hit → IsNearHit hit
  near_hit hit h = let early = h.0 in (omega arith, wider hit.bounds h.1)

  -- the last glider, for its hit
  pub sent_early : (o : Option Sent) → IsEarlySent (latest turns) o → IsEarlySent latest_end o
  sent_early None h = tt
  sent_early (Some sent) h = let early = h.0 in (omega arith, h.1)

-- what a proper turn throws at a shift of a plan
record IsEarlyEmission (glider : Emission) : Type 0 where
  lane : IsBy (2 ^ 31) glider.lane
  j : IsBy 9126805504 glider.j

abbrev AreEarlyEmissions : Option Emission → Type 0
AreEarlyEmissions None = Unit {0}
AreEarlyEmissions (Some glider) = IsEarlyEmission glider

thrown_early : (kinds : ℕ) (e : TurnEnd) (shift : ℤ) → IsProperEnd kinds e → IsNearShift shift → AreEarlyEmissions (emission_of e shift)
thrown_early kinds Close shift p near = tt
thrown_early kinds (Move kind advance) shift p near = tt
thrown_early kinds (Emit kind advance lane j) shift p near =
    let low = near.low in let high = near.high in
    let ll = p.1.1.0.low in let lh = p.1.1.0.high in
    let jl = p.1.1.1.low in let jh = p.1.1.1.high in
    record { lane = record { low = omega (arith, ints); high = omega (arith, ints) }; j = record { low = omega (arith, ints); high = omega (arith, ints) } }

near_thrown : (o : Option Emission) → AreEarlyEmissions o → AreNearEmissions o
near_thrown None h = tt
near_thrown (Some glider) h = (by_wider (2 ^ 31) (2 ^ 56) glider.lane (omega arith) h.lane, by_wider 9126805504 (2 ^ 56) glider.j (omega arith) h.j)

pub early_near : (turns kinds : ℕ) (clock : Clock) (reach : ℤ) (e : TurnEnd) (shift : ℤ) → turns ≤ MOST_GLIDERS → IsFrom (pos 0) GREATEST_REACH reach → IsProperEnd kinds e → IsNearShift shift → IsEarly turns clock →
    AreNear reach clock.before clock.sent (emission_of e shift) (drop clock.over clock.hits.items)
early_near turns kinds clock reach e shift few r proper near early =
    let low = r.low in
    let high = r.high in
    record {
      near_reach = record { low = omega (arith, ints); high = omega (arith, ints) };
      near_turn = near_turn turns few clock.before early.before;
      near_sent = near_sent turns few clock.sent early.sent;
      near_glider = near_thrown (emission_of e shift) (thrown_early kinds e shift proper near);
      near_hits = all_weaker (IsEarlyHit (latest turns)) IsNearHit (near_hit turns few) (drop clock.over clock.hits.items) (live_early turns clock early);
    }

-- ---- a turn starts early, and ends early

-- a start that a turn may have in any case
abbrev in_any_case : ℕ → ℕ
in_any_case turns = latest turns + longest_flight

may_in_any_case : (turns n : ℕ) (clock : Clock) (reach : ℤ) (emits : Option Emission) → IsFrom (pos 0) GREATEST_REACH reach → IsEarly turns clock →
    MayStartThen reach clock.before clock.sent n emits (drop clock.over clock.hits.items) (in_any_case turns)
may_in_any_case turns n clock reach emits r early = record {
  behind_turn = behind clock.before early.before;
  behind_glider = passed clock.sent early.sent;
  spares = spares emits;
}
  where
    behind : (o : Option TurnTime) → IsEarlyTurn (latest turns) o → IsBehindTime o (in_any_case turns)
    behind None h = tt
    behind (Some turn) h = let ended = h.0 in let high = h.1.high in (omega arith, omega (arith, ints))

    passed : (o : Option Sent) → IsEarlySent (latest turns) o → IsBehindSent reach o (in_any_case turns)
    passed None h = tt
    passed (Some sent) h = let ended = h.0 in let low = h.1.0.low in let least = h.1.1.low in let high = r.high in (omega arith, omega (arith, ints))

    each : (glider : Emission) (hits : List HitTime) → AllByRecursion (IsEarlyHit (latest turns)) hits →
        AllByRecursion (λ (hit : HitTime). IsSpared (in_any_case turns + n) glider.lane glider.j (been hit)) hits
    each glider [] h = tt
    each glider (hit ∷ hits) h = (let ended = h.0.0 in inl (omega (arith, ints)), each glider hits h.1)

    spares : (o : Option Emission) → SparesThese (in_any_case turns + n) o (drop clock.over clock.hits.items)
    spares None = tt
    spares (Some glider) = each glider (drop clock.over clock.hits.items) (live_early turns clock early)

pub ends_early : (turns n start : ℕ) (clock : Clock) (reach : ℤ) (emits : Option Emission) → IsFrom (pos 0) GREATEST_REACH reach → IsEarly turns clock → n ≤ 65536 →
    IsLeastOf reach clock.before clock.sent n emits (drop clock.over clock.hits.items) start → start + n ≤ latest (turns + 1)
ends_early turns n start clock reach emits r early short least =
    let before = least.least (in_any_case turns) (may_in_any_case turns n clock reach emits r early) in omega arith

hits_later : (time later : ℕ) (hits : List HitTime) → time ≤ later → AllByRecursion (IsEarlyHit time) hits → AllByRecursion (IsEarlyHit later) hits
hits_later time later hits le h = all_weaker (IsEarlyHit time) (IsEarlyHit later) (λ hit e. (let ended = e.0 in omega arith, e.1)) hits h

-- one more turn
pub early_more : (turns kinds : ℕ) (old new : Clock) (reach : ℤ) (turn : RawTurn) (shift : ℤ) → IsFrom (pos 0) GREATEST_REACH reach → IsProperTurn kinds turn → IsNearShift shift → IsEarly turns old →
    TurnIsAdded reach turn shift old new → IsEarly (turns + 1) new
early_more turns kinds old new reach turn shift r proper near early added =
    let short = proper.short in
    let ended = ends_early turns turn.n added.start old reach (emission_of turn.end shift) r early (omega arith) added.least in
    record {
      before = subst (IsEarlyTurn (latest (turns + 1))) (sym added.before) (ended, advances turn.end proper.leaves);
      sent = subst (IsEarlySent (latest (turns + 1))) (sym added.sent) (sends (emission_of turn.end shift) (thrown_early kinds turn.end shift proper.leaves near) ended);
      hits = subst (AllByRecursion (IsEarlyHit (latest (turns + 1)))) (sym added.hits) (hits_later (latest turns) (latest (turns + 1)) old.hits.items (omega arith) early.hits);
    }
  where
    advances : (e : TurnEnd) → IsProperEnd kinds e → IsCoordinate (advance_of e)
    advances Close p = record { low = omega (arith, ints); high = omega (arith, ints) }
    advances (Move kind advance) p = p.1
    advances (Emit kind advance lane j) p = p.1.0

    before_then : (o : Option Sent) → IsEarlySent (latest turns) o → IsEarlySent (latest (turns + 1)) o
    before_then None h = tt
    before_then (Some sent) h = let was = h.0 in (omega arith, h.1)

    sends : (o : Option Emission) → AreEarlyEmissions o → added.start + turn.n ≤ latest (turns + 1) → IsEarlySent (latest (turns + 1)) (sent_after o (added.start + turn.n) old.sent)
    sends None h ended = before_then old.sent early.sent
    sends (Some glider) h ended = (ended, (h.lane, h.j))

-- one more hit
pub early_hit : (turns generations : ℕ) (old new : Clock) (frame : HitFrame) → IsEarly turns old → IsEarlyFrame frame → generations ≤ LONGEST_HIT → HitIsAdded frame generations old new → IsEarly turns new
early_hit turns generations old new frame early near short added = record {
  before = subst (IsEarlyTurn (latest turns)) (sym added.before) early.before;
  sent = subst (IsEarlySent (latest turns)) (sym added.sent) early.sent;
  hits = by old.sent early.sent added.hits;
}
  where
    by : (o : Option Sent) → IsEarlySent (latest turns) o → AddsHit o frame generations old.hits.items new.hits.items → AllByRecursion (IsEarlyHit (latest turns)) new.hits.items
    by None h is = subst (AllByRecursion (IsEarlyHit (latest turns))) (sym is) early.hits
    by (Some sent) h (ended, (at, is)) =
        let thrown = h.0 in
        let low = h.1.1.low in
        let high = near.start.high in
        subst (AllByRecursion (IsEarlyHit (latest turns))) (sym is)
        (all_push (IsEarlyHit (latest turns)) old.hits.items (record { end = ended; bounds = frame.bounds }) early.hits (omega (arith, ints), near.bounds))
