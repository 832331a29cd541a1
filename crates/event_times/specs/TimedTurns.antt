-- Turns in time: what has been before a turn, and when the turn before it and the last throw let it start.
use Rattle.std.specs.Prelude.{ℕ, ◌+◌, ◌≤◌, ℤ, pos, ◌+ℤ◌, ◌-ℤ◌, ◌*ℤ◌, ◌≤ℤ◌, Option}
use Rattle.std.specs.declared.option.Option.TheVariants.{Some, None}
use Rattle.life_plane.specs.Tracks.{gap}
use Rattle.life_scene.specs.Turns.{until_past}
use Rattle.book_parts.specs.declared.settings.Settings.{Settings}
use Rattle.book_parts.specs.declared.turn.RawTurn.{RawTurn}
use Rattle.book_parts.specs.declared.turn.TurnEnd.{TurnEnd}
use Rattle.book_parts.specs.declared.turn.TurnEnd.TheVariants.{Close, Move, Emit}

-- a turn: the elbow's shift before it, and when it starts
pub record Timed : Type 0 where
  pub turn : RawTurn
  pub shift : ℤ
  pub start : ℕ

-- when it ends
abbrev pub end : Timed → ℕ
end m = m.start + m.turn.n

-- how far a turn moves the elbow
abbrev pub advance_of : TurnEnd → ℤ
advance_of Close = pos 0
advance_of (Move kind advance) = advance
advance_of (Emit kind advance lane j) = advance

-- a thrown glider: the end of its turn, and its lane and index there, in the plane's coordinates
pub record Thrown : Type 0 where
  pub time : ℕ
  pub lane : ℤ
  pub j : ℤ

-- what has been before a turn: the turn before it, and the last throw
pub record Past : Type 0 where
  pub turn : Option Timed
  pub throw : Option Thrown

abbrev pub no_past : Past
no_past = record { turn = None; throw = None }

-- the last throw after a turn
abbrev pub throw_after : TurnEnd → Timed → Option Thrown → Option Thrown
throw_after Close m before = before
throw_after (Move kind advance) m before = before
throw_after (Emit kind advance lane j) m before = Some (record { time = end m; lane = lane +ℤ pos 2 *ℤ m.shift; j = j -ℤ pos 4 *ℤ m.shift })

abbrev pub past_after : Past → Timed → Past
past_after past m = record { turn = Some m; throw = throw_after m.turn.end m past.throw }

-- not before a turn has ended, and a gap behind it, and 4 more generations for each cell by which it has moved the elbow on
abbrev pub IsAfter : ℕ → ℤ → ℕ → Type 0
IsAfter ended advance start = (ended ≤ start) × (((pos ended +ℤ pos gap) +ℤ pos 4 *ℤ advance) ≤ℤ pos start)

-- the turn before, if there is one
abbrev pub IsBehindTurn : Option Timed → ℕ → Type 0
IsBehindTurn None start = Unit {0}
IsBehindTurn (Some m) start = IsAfter (end m) (advance_of m.turn.end) start

-- not before a thrown glider has passed the reach
abbrev pub HasPassed : ℤ → Thrown → ℕ → Type 0
HasPassed reach g start = (g.time ≤ start) × ((pos g.time +ℤ until_past reach g.lane g.j) ≤ℤ pos start)

-- the last glider thrown, if there is one
abbrev pub IsBehindThrow : Settings → Option Thrown → ℕ → Type 0
IsBehindThrow settings None start = Unit {0}
IsBehindThrow settings (Some g) start = HasPassed settings.reach g start

-- a turn may start then
pub record MayStart (settings : Settings) (past : Past) (start : ℕ) : Type 0 where
  pub turn : IsBehindTurn past.turn start
  pub throw : IsBehindThrow settings past.throw start
