-- A turn of a book as the composition theorem sees it.
use Rattle.std.specs.Prelude.{◌≡◌, ℤ, pos, ◌*ℤ◌, List, map, unsigned_abs}
use Rattle.std.proofs.Common.{arith}
use Rattle.std.proofs.lemmas.Int.{ints}
use Rattle.life_scene.specs.Turns as scene
use Rattle.life_scene.specs.Turns.Throw.{Keeps, Throws}
use Rattle.book_parts.specs.declared.settings.Settings.{Settings}
use Rattle.book_parts.specs.declared.kind.RawKind.{RawKind}
use Rattle.book_parts.specs.declared.turn.RawTurn.{RawTurn}
use Rattle.book_parts.specs.declared.turn.TurnEnd.{TurnEnd}
use Rattle.book_parts.specs.declared.turn.TurnEnd.TheVariants.{Close, Move, Emit}
use Rattle.book_parts.specs.Limits.{AreProper, IsApproach}
use Rattle.event_times.specs.TimedTurns.{Timed, advance_of}
use Rattle.book_parts.specs.Kinds.{kind_plane, next_plane}

-- half of the approach, which is a multiple of 4
pub record Half (settings : Settings) : Type 0 where
  pub half : ℤ
  pub is : settings.approach ≡ pos 2 *ℤ half

pub half_approach : (settings : Settings) → IsApproach settings.approach → Half settings
half_approach settings a = record { half = pos 2 *ℤ a.quarters; is = let m = a.multiple in omega (arith, ints) }

-- what all turns of a book keep to
abbrev pub rules : (settings : Settings) → AreProper settings → scene.Rules
rules settings p = record {
  half = (half_approach settings p.approach).half;
  wall = settings.wall;
  reach = settings.reach;
  wide = p.wall.low;
}

abbrev pub throw_of : TurnEnd → scene.Throw
throw_of Close = Keeps
throw_of (Move kind advance) = Keeps
throw_of (Emit kind advance lane j) = Throws lane j

-- the turn in its own frame
abbrev pub framed : List RawKind → RawTurn → scene.Turn
framed kinds turn = record {
  n = turn.n;
  delays = map unsigned_abs turn.delays;
  kind = kind_plane kinds turn.kind;
  next = next_plane kinds turn.end;
  advance = advance_of turn.end;
  throw = throw_of turn.end;
}

abbrev pub placed : List RawKind → Timed → scene.Timed
placed kinds m = record { turn = framed kinds m.turn; start = m.start; at = m.shift }
