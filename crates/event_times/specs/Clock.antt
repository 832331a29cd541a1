-- Turns and hits in time, one after the other, as the code keeps them.
use Rattle.std.specs.Prelude.{◌≡◌, ℕ, ◌+◌, ◌≤◌, max, ℤ, pos, ◌+ℤ◌, ◌-ℤ◌, ◌*ℤ◌, List, [], ◌∷◌, ◌++◌, length, map, take, drop, reverse, Option}
use Rattle.std.specs.List.{AllByRecursion}
use Rattle.std.specs.declared.option.Option.TheVariants.{Some, None}
use Rattle.book_parts.specs.declared.turn.RawTurn.{RawTurn}
use Rattle.book_parts.specs.declared.turn.TurnEnd.{TurnEnd}
use Rattle.book_parts.specs.declared.turn.TurnEnd.TheVariants.{Close, Move, Emit}
use Rattle.recipe_hit.specs.declared.frame.HitFrame.{HitFrame}
use Rattle.event_times.specs.TimedTurns.{Timed, end, advance_of, Thrown}
use Rattle.event_times.specs.Events.{History, hit_end}
use Rattle.event_times.specs.Least.{thrown_of, been, IsLeastOf}
use Rattle.event_times.specs.declared.least.TurnTime.{TurnTime}
use Rattle.event_times.specs.declared.least.Emission.{Emission}
use Rattle.event_times.specs.declared.least.Sent.{Sent}
use Rattle.event_times.specs.declared.least.HitTime.{HitTime}
use Rattle.event_times.specs.declared.clock.Clock.{Clock}

-- what a turn of this end throws at a shift, in the plane's coordinates
abbrev pub emission_of : TurnEnd → ℤ → Option Emission
emission_of Close at = None
emission_of (Move kind advance) at = None
emission_of (Emit kind advance lane j) at = Some (record { lane = lane +ℤ pos 2 *ℤ at; j = j -ℤ pos 4 *ℤ at })

-- the last glider thrown, after a turn that throws this and ends then
abbrev pub sent_after : Option Emission → ℕ → Option Sent → Option Sent
sent_after None time before = before
sent_after (Some glider) time before = Some (record { glider = glider; end = time })

-- these hits are over by then
abbrev pub AreOver : ℕ → List HitTime → Type 0
AreOver time hits = AllByRecursion (λ (hit : HitTime). hit.end ≤ time) hits

-- they are over when the last turn ends
abbrev pub AreOverAfter : Option TurnTime → List HitTime → Type 0
AreOverAfter None hits = hits ≡ []
AreOverAfter (Some turn) hits = AreOver turn.end hits

-- the hits that are no longer looked at are over
pub record IsKept (clock : Clock) : Type 0 where
  pub within : clock.over ≤ length clock.hits.items
  pub past : AreOverAfter clock.before (take clock.over clock.hits.items)

-- a turn was added, started as early as it may
pub record TurnIsAdded (reach : ℤ) (turn : RawTurn) (shift : ℤ) (old new : Clock) : Type 0 where
  pub start : ℕ
  pub least : IsLeastOf reach old.before old.sent turn.n (emission_of turn.end shift) (drop old.over old.hits.items) start
  pub starts : new.starts.items ≡ old.starts.items ++ start ∷ []
  pub before : new.before ≡ Some (record { end = start + turn.n; step = advance_of turn.end })
  pub sent : new.sent ≡ sent_after (emission_of turn.end shift) (start + turn.n) old.sent
  pub hits : new.hits.items ≡ old.hits.items
  pub kept : IsKept new

-- the hit of the glider thrown last is one more; without a glider there is none
abbrev pub AddsHit : Option Sent → HitFrame → ℕ → List HitTime → List HitTime → Type 0
AddsHit None frame generations old new = new ≡ old
AddsHit (Some sent) frame generations old new =
    (ended : ℕ) × ((pos ended ≡ hit_end (thrown_of sent) (record { frame = frame; generations = generations })) × (new ≡ old ++ record { end = ended; bounds = frame.bounds } ∷ []))

-- a hit was added
pub record HitIsAdded (frame : HitFrame) (generations : ℕ) (old new : Clock) : Type 0 where
  pub starts : new.starts.items ≡ old.starts.items
  pub over : new.over ≡ old.over
  pub before : new.before ≡ old.before
  pub sent : new.sent ≡ old.sent
  pub hits : AddsHit old.sent frame generations old.hits.items new.hits.items

-- nothing was added
pub record IsSameClock (old new : Clock) : Type 0 where
  pub starts : new.starts.items ≡ old.starts.items
  pub hits : new.hits.items ≡ old.hits.items
  pub over : new.over ≡ old.over
  pub before : new.before ≡ old.before
  pub sent : new.sent ≡ old.sent

-- ---- what the clock shows

abbrev pub time_of : Option Timed → Option TurnTime
time_of None = None
time_of (Some m) = Some (record { end = end m; step = advance_of m.turn.end })

abbrev pub throw_of : Option Sent → Option Thrown
throw_of None = None
throw_of (Some sent) = Some (thrown_of sent)

-- the clock shows what has been
pub record Shows (past : History) (clock : Clock) : Type 0 where
  pub turn : clock.before ≡ time_of past.past.turn
  pub throw : past.past.throw ≡ throw_of clock.sent
  pub hits : past.hits ≡ map been (reverse clock.hits.items)
  pub kept : IsKept clock

-- ---- what is told of it in the end

abbrev pub ends_of : List HitTime → List ℕ
ends_of hits = map (λ (hit : HitTime). hit.end) hits

abbrev pub turn_end_of : Option TurnTime → ℕ
turn_end_of None = 0
turn_end_of (Some turn) = turn.end

-- the greater of two ends, of which the second is the first of these, if there is one
abbrev pub later_of : ℕ → List ℕ → ℕ
later_of time [] = time
later_of time (ended ∷ ends) = max time ended

abbrev pub n_of : Option TurnTime → List HitTime → ℕ
n_of before hits = later_of (turn_end_of before) (reverse (ends_of hits))
