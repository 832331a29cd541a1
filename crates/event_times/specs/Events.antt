-- Turns and hits in time, for any list of them: when each turn may start, the pattern, and the number of its generations.
use Rattle.std.specs.Prelude.{◌≡◌, ◌⊎◌, ℕ, ◌≤◌, ℤ, pos, ◌+ℤ◌, ◌-ℤ◌, ◌*ℤ◌, ◌≤ℤ◌, List, [], ◌∷◌, Option, Bool, true, false, if◌then◌else◌}
use Rattle.std.specs.List.{AllByRecursion}
use Rattle.std.specs.declared.option.Option.TheVariants.{Some, None}
use Rattle.life_plane.specs.Plane.{Plane, nothing, union, shift}
use Rattle.life_scene.specs.Hits.{last_index_before}
use Rattle.life_cells.specs.declared.cell.Cell.{Cell}
use Rattle.life_cells.specs.declared.bounds.Bounds.{Bounds}
use Rattle.book_parts.specs.declared.settings.Settings.{Settings}
use Rattle.book_parts.specs.declared.kind.RawKind.{RawKind}
use Rattle.recipe_hit.specs.declared.frame.HitFrame.{HitFrame}
use Rattle.book_parts.specs.declared.turn.TurnEnd.{TurnEnd}
use Rattle.book_parts.specs.declared.turn.TurnEnd.TheVariants.{Close, Move, Emit}
use Rattle.book_parts.specs.Kinds.{kind_plane}
use Rattle.recipe_hit.specs.SceneBoxes.{as_box}
use Rattle.event_times.specs.TimedTurns.{Timed, end, Thrown, Past, no_past, past_after, MayStart}
use Rattle.recipe_turn.specs.Turn.{gliders}

-- a hit at the hand, moved to the hand's place: its lane, the quarter of its glider's index at which it begins, its bounds, and how long it lasts
pub record Struck : Type 0 where
  pub frame : HitFrame
  pub generations : ℕ

-- what happens, in order: each hit is that of the glider thrown last
pub data Event : Type 0 where
  Turn : Timed → Event
  Hit : Struck → Event

-- a hit that has been: its end, and its bounds
pub record HasBeen : Type 0 where
  pub ended : ℤ
  pub bounds : Bounds

-- what has been: the turn before, the last throw, and all hits, the last one first
pub record History : Type 0 where
  pub past : Past
  pub hits : List HasBeen

abbrev pub no_history : History
no_history = record { past = no_past; hits = [] }

-- a hit begins when its glider has the index at which it begins
abbrev pub hit_end : Thrown → Struck → ℤ
hit_end g h = ((pos g.time +ℤ pos 4 *ℤ h.frame.start) -ℤ g.j) +ℤ pos h.generations

-- what has been after a hit, which is that of the last throw; one before any throw is none
abbrev pub hits_with : Option Thrown → Struck → List HasBeen → List HasBeen
hits_with None h hits = hits
hits_with (Some g) h hits = record { ended = hit_end g h; bounds = h.frame.bounds } ∷ hits

abbrev pub history_after : History → Event → History
history_after past (Turn m) = record { past = past_after past.past m; hits = past.hits }
history_after past (Hit h) = record { past = past.past; hits = hits_with past.past.throw h past.hits }

-- a glider that is thrown then, on a lane and with an index, leaves a hit in peace: the hit is over, or the glider is not yet there when the hit
-- ends
abbrev pub IsSpared : ℕ → ℤ → ℤ → HasBeen → Type 0
IsSpared thrown_at lane j hit = (hit.ended ≤ℤ pos thrown_at) ⊎ (((j +ℤ hit.ended) -ℤ pos thrown_at) ≤ℤ last_index_before lane (as_box hit.bounds))

-- what a turn throws does
abbrev pub SparesHit : Timed → ℤ → ℤ → HasBeen → Type 0
SparesHit m lane j hit = IsSpared (end m) lane j hit

-- what a turn throws, if it throws, spares all hits that have been
abbrev pub SparesHits : TurnEnd → Timed → List HasBeen → Type 0
SparesHits Close m hits = Unit {0}
SparesHits (Move kind advance) m hits = Unit {0}
SparesHits (Emit kind advance lane j) m hits = AllByRecursion (SparesHit m (lane +ℤ pos 2 *ℤ m.shift) (j -ℤ pos 4 *ℤ m.shift)) hits

-- a turn may start as it is timed
pub record MayHappen (settings : Settings) (past : History) (m : Timed) : Type 0 where
  pub start : MayStart settings past.past m.start
  pub spares : SparesHits m.turn.end m past.hits

-- each turn starts when it may
abbrev pub AreValidEvents : Settings → History → List Event → Type 0
AreValidEvents settings past [] = Unit {0}
AreValidEvents settings past (Turn m ∷ events) = MayHappen settings past m × AreValidEvents settings (history_after past (Turn m)) events
AreValidEvents settings past (Hit h ∷ events) = AreValidEvents settings (history_after past (Hit h)) events

-- the same turn, started at another moment
abbrev pub started : Timed → ℕ → Timed
started m start = record { turn = m.turn; shift = m.shift; start = start }

-- a turn starts at the least moment at which it may
pub record StartsEarliest (settings : Settings) (past : History) (m : Timed) : Type 0 where
  pub may : MayHappen settings past m
  pub least : (other : ℕ) → MayHappen settings past (started m other) → m.start ≤ other

-- each turn in order starts as soon as it may, with any number of gliders in flight
abbrev pub AreChosenEvents : Settings → History → List Event → Type 0
AreChosenEvents settings past [] = Unit {0}
AreChosenEvents settings past (Turn m ∷ events) = StartsEarliest settings past m × AreChosenEvents settings (history_after past (Turn m)) events
AreChosenEvents settings past (Hit h ∷ events) = AreChosenEvents settings (history_after past (Hit h)) events

-- a turn's gliders in the plane at generation 0: one for each delay, of index -(start + approach - 4 shift) - delay
abbrev pub turn_gliders : Settings → Timed → Plane
turn_gliders settings m = gliders settings m.turn.delays (pos 4 *ℤ m.shift -ℤ pos m.start)

-- the gliders of all turns
abbrev pub stream_of : Settings → List Event → Plane
stream_of settings [] = nothing
stream_of settings (Turn m ∷ events) = union (turn_gliders settings m) (stream_of settings events)
stream_of settings (Hit h ∷ events) = stream_of settings events

abbrev pub has_hit : List Event → Bool
has_hit [] = false
has_hit (Turn m ∷ events) = has_hit events
has_hit (Hit h ∷ events) = true

-- the first hand, where there is a hit
abbrev pub first_hand : Plane → List Event → Plane
first_hand hand events = if has_hit events then hand else nothing

-- the start elbow, the first hand and the stream, moved back to the target's place
abbrev pub pattern_of : Settings → List RawKind → ℕ → Plane → List Event → Cell → Plane
pattern_of settings kinds start hand events back = shift back.x back.y (union (kind_plane kinds start) (union (first_hand hand events) (stream_of settings events)))

-- the end of the last turn, those before it ending by this
abbrev pub turns_end : ℕ → List Event → ℕ
turns_end last [] = last
turns_end last (Turn m ∷ events) = turns_end (end m) events
turns_end last (Hit h ∷ events) = turns_end last events

-- what has been when all of this is over
abbrev pub history_of : History → List Event → History
history_of past [] = past
history_of past (event ∷ events) = history_of (history_after past event) events

-- the end of the last of these hits, of which the last comes first
abbrev pub last_end_of : List HasBeen → Option ℤ
last_end_of [] = None
last_end_of (hit ∷ hits) = Some hit.ended

-- the end of the last hit, if there is one
abbrev pub hits_end : List Event → Option ℤ
hits_end events = last_end_of (history_of no_history events).hits

-- n is the greater of the end of the last turn and the end of the last hit
pub record IsNumber (events : List Event) (n : ℕ) : Type 0 where
  pub turns : turns_end 0 events ≤ n
  pub hits : (last : ℤ) → hits_end events ≡ Some last → last ≤ℤ pos n
  pub least : (n ≡ turns_end 0 events) ⊎ ((last : ℤ) × ((hits_end events ≡ Some last) × (pos n ≡ last)))
