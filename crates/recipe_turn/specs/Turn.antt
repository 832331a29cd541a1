-- A sound turn: it ends as it states, and keeps its bounds in each generation on the way.
use Rattle.std.specs.Prelude.{◌≡◌, true, ℕ, ◌≤◌, ℤ, pos, ◌+ℤ◌, ◌-ℤ◌, ◌*ℤ◌, ◌≤ℤ◌, ◌<ℤ◌, List, [], ◌∷◌, length}
use Rattle.std.specs.Int.{int_div_euclid}
use Rattle.std.specs.List.{AllByRecursion}
use Rattle.book_parts.specs.Proper.{IsDelay}
use Rattle.life_plane.specs.Plane.{Plane, run, union, shift, nothing}
use Rattle.life_plane.specs.Tracks.{gap, stream_glider}
use Rattle.life_plane.specs.Salvo.{salvo_glider}
use Rattle.book_parts.specs.declared.settings.Settings.{Settings}
use Rattle.book_parts.specs.declared.turn.RawTurn.{RawTurn}
use Rattle.book_parts.specs.declared.turn.TurnEnd.{TurnEnd}
use Rattle.book_parts.specs.declared.turn.TurnEnd.TheVariants.{Close, Move, Emit}
use Rattle.book_parts.specs.declared.limits.TheConstants.{MOST_DELAYS, LONGEST_TURN}

-- the turn's own gliders at time t, had they met nothing: for each delay one of index t - approach - delay
abbrev pub gliders : Settings → List ℤ → ℤ → Plane
gliders settings [] t = nothing
gliders settings (delay ∷ delays) t = union (stream_glider ((t -ℤ settings.approach) -ℤ delay)) (gliders settings delays t)

-- the turn as it begins: its kind, and its gliders on their way
abbrev pub turn_start : Settings → Plane → RawTurn → Plane
turn_start settings kind turn = union kind (gliders settings turn.delays (pos 0))

-- what a turn is to leave, next being the kind that it leads to
abbrev pub turn_end : TurnEnd → Plane → Plane
turn_end Close next = nothing
turn_end (Move kind advance) next = shift advance advance next
turn_end (Emit kind advance lane j) next = union (shift advance advance next) (salvo_glider lane j)

-- each delay is at least a gap more than the one before it, and n at least a gap more than the last
abbrev pub AreSpacedFrom : ℤ → List ℤ → ℤ → Type 0
AreSpacedFrom before [] n = (before +ℤ pos gap) ≤ℤ n
AreSpacedFrom before (delay ∷ delays) n = ((before +ℤ pos gap) ≤ℤ delay) × AreSpacedFrom delay delays n

-- the first delay is 0
abbrev pub AreSpaced : List ℤ → ℤ → Type 0
AreSpaced [] n = ⊥
AreSpaced (delay ∷ delays) n = (delay ≡ pos 0) × AreSpacedFrom delay delays n

-- u = x - y is at most the reach
pub record IsInReach (settings : Settings) (x y : ℤ) : Type 0 where
  pub u : (x -ℤ y) ≤ℤ settings.reach

-- a cell with v = x + y under 1 less half the approach is one of the turn's own gliders, not yet there
pub record IsAheadOrOwn (settings : Settings) (delays : List ℤ) (t : ℕ) (x y : ℤ) : Type 0 where
  pub own : (pos 2 *ℤ (x +ℤ y) +ℤ settings.approach) <ℤ pos 2 → gliders settings delays (pos t) x y ≡ true

-- what is thrown has left the wall by 5
abbrev pub IsInFront : Settings → TurnEnd → Type 0
IsInFront settings Close = Unit {0}
IsInFront settings (Move kind advance) = Unit {0}
IsInFront settings (Emit kind advance lane j) = (settings.wall +ℤ pos 5) ≤ℤ ((lane +ℤ pos 2 *ℤ int_div_euclid j (pos 4)) +ℤ pos 1)

-- the generations of a turn up to and with generation n keep the reach and the tail
pub record KeepsBounds (settings : Settings) (delays : List ℤ) (start : Plane) (n : ℕ) : Type 0 where
  pub reach : (t : ℕ) (x y : ℤ) → t ≤ n → run t start x y ≡ true → IsInReach settings x y
  pub tail : (t : ℕ) (x y : ℤ) → t ≤ n → run t start x y ≡ true → IsAheadOrOwn settings delays t x y

-- A turn is sound: its gaps are wide enough, it ends as it states, it keeps its bounds on the way, and what it throws is in front of the wall.
pub record IsSound (settings : Settings) (kind next : Plane) (turn : RawTurn) : Type 0 where
  pub gaps : AreSpaced turn.delays (pos turn.n)
  pub ends : run turn.n (turn_start settings kind turn) ≡ turn_end turn.end next
  pub bounds : KeepsBounds settings turn.delays (turn_start settings kind turn) turn.n
  pub front : IsInFront settings turn.end

-- the numbers of a turn are within the limits of a book
pub record AreFewDelays (turn : RawTurn) : Type 0 where
  pub count : length turn.delays ≤ MOST_DELAYS
  pub range : AllByRecursion IsDelay turn.delays
  pub n : turn.n ≤ LONGEST_TURN
