-- Why kinds are refused, and why a turn is: the first part that fails.
use Rattle.std.specs.Prelude.{◌≡◌, ℕ, ◌+◌, ◌≤◌, ℤ, pos, ◌+ℤ◌, ◌*ℤ◌, List, ◌∷◌, ◌++◌, length}
use Rattle.std.specs.Int.{int_div_euclid}
use Rattle.life_plane.specs.Plane.{Plane, run}
use Rattle.life_cells.specs.Cells.{alive}
use Rattle.book_parts.specs.declared.settings.Settings.{Settings}
use Rattle.book_parts.specs.declared.kind.RawKind.{RawKind}
use Rattle.book_parts.specs.declared.turn.RawTurn.{RawTurn}
use Rattle.book_parts.specs.declared.turn.TurnEnd.{TurnEnd}
use Rattle.book_parts.specs.declared.turn.TurnEnd.TheVariants.{Close, Move, Emit}
use Rattle.life_cells.specs.Firsts.{IsFirstChange, IsFirstDifferent}
use Rattle.recipe_turn.specs.Kind.{AreInPlace, IsFirstOutOfPlace}
use Rattle.recipe_turn.specs.Checked.{AreValid}
use Rattle.recipe_turn.specs.Turn.{turn_start, turn_end, AreSpaced, IsAheadOrOwn, IsInFront, KeepsBounds}
use Rattle.recipe_turn.specs.Gaps.{AreApart, IsFirstNarrow}
use Rattle.recipe_turn.specs.Breaches.{KeepsReach, KeepsBefore, IsFirstBreach}
use Rattle.recipe_turn.specs.declared.refusal.KindsError.{KindsError}
use Rattle.recipe_turn.specs.declared.refusal.KindsError.TheVariants as kinds
use Rattle.recipe_turn.specs.declared.refusal.TurnRefusal.{TurnRefusal}
use Rattle.recipe_turn.specs.declared.refusal.TurnRefusal.TheVariants.{Gap, Short, EndDiffers, Reach, Tail, Wall, Memory}

-- ---- kinds

-- the kinds before this number are valid, and this holds of the cells of the kind with this number, counted from 1
pub record IsFirstInvalid (settings : Settings) (kinds : List RawKind) (number : ℕ) (Fails : Plane → Type 0) : Type 0 where
  pub front : List RawKind
  pub here : RawKind
  pub back : List RawKind
  pub split : kinds ≡ front ++ (here ∷ back)
  pub number_is : number ≡ length front + 1
  pub before : AreValid settings front
  pub fails : Fails (alive here.cells)

-- kinds are refused so
abbrev pub KindsAreRefused : Settings → List RawKind → KindsError → Type 0
KindsAreRefused settings list (kinds.Place kind cell) = IsFirstInvalid settings list kind (λ s. IsFirstOutOfPlace settings s cell)
KindsAreRefused settings list (kinds.NotStill kind cell) = IsFirstInvalid settings list kind (λ s. AreInPlace settings s × IsFirstChange s cell)
KindsAreRefused settings list kinds.Memory = Unit {0}

-- the kind with this number is refused so, by its cells
abbrev pub KindIsRefused : Settings → ℕ → Plane → KindsError → Type 0
KindIsRefused settings number s (kinds.Place kind cell) = (kind ≡ number) × IsFirstOutOfPlace settings s cell
KindIsRefused settings number s (kinds.NotStill kind cell) = (kind ≡ number) × (AreInPlace settings s × IsFirstChange s cell)
KindIsRefused settings number s kinds.Memory = Unit {0}

-- ---- turns

-- a turn with wide gaps ends as it states
pub record EndsAsStated (settings : Settings) (kind next : Plane) (turn : RawTurn) : Type 0 where
  pub gaps : AreSpaced turn.delays (pos turn.n)
  pub ends : run turn.n (turn_start settings kind turn) ≡ turn_end turn.end next

-- the least u of what a turn throws
abbrev pub IsFrontOf : TurnEnd → ℤ → Type 0
IsFrontOf Close u = ⊥
IsFrontOf (Move kind advance) u = ⊥
IsFrontOf (Emit kind advance lane j) u = u ≡ (lane +ℤ pos 2 *ℤ int_div_euclid j (pos 4)) +ℤ pos 1

-- the delays of a turn of n generations are refused so
abbrev pub GapsAreRefused : List ℤ → ℕ → TurnRefusal → Type 0
GapsAreRefused delays n (Gap place) = IsFirstNarrow delays place
GapsAreRefused delays n (Short m) = (m ≡ n) × (AreApart delays × ¬ AreSpaced delays (pos n))
GapsAreRefused delays n (EndDiffers cell) = ⊥
GapsAreRefused delays n (Reach generation cell) = ⊥
GapsAreRefused delays n (Tail generation cell) = ⊥
GapsAreRefused delays n (Wall u) = ⊥
GapsAreRefused delays n Memory = ⊥

-- what a turn throws is refused so
abbrev pub FrontIsRefused : Settings → TurnEnd → TurnRefusal → Type 0
FrontIsRefused settings stated (Gap place) = ⊥
FrontIsRefused settings stated (Short m) = ⊥
FrontIsRefused settings stated (EndDiffers cell) = ⊥
FrontIsRefused settings stated (Reach generation cell) = ⊥
FrontIsRefused settings stated (Tail generation cell) = ⊥
FrontIsRefused settings stated (Wall u) = IsFrontOf stated u × ¬ IsInFront settings stated
FrontIsRefused settings stated Memory = ⊥

-- a turn between these kinds is refused so
abbrev pub TurnIsRefused : Settings → Plane → Plane → RawTurn → TurnRefusal → Type 0
TurnIsRefused settings kind next turn (Gap place) = IsFirstNarrow turn.delays place
TurnIsRefused settings kind next turn (Short n) = (n ≡ turn.n) × (AreApart turn.delays × ¬ AreSpaced turn.delays (pos turn.n))
TurnIsRefused settings kind next turn (EndDiffers cell) =
    AreSpaced turn.delays (pos turn.n) × IsFirstDifferent (run turn.n (turn_start settings kind turn)) (turn_end turn.end next) cell
TurnIsRefused settings kind next turn (Reach generation cell) =
    EndsAsStated settings kind next turn × ((generation ≤ turn.n) × IsFirstBreach (KeepsReach settings) (turn_start settings kind turn) generation cell)
TurnIsRefused settings kind next turn (Tail generation cell) =
    EndsAsStated settings kind next turn × (KeepsBefore (KeepsReach settings) (turn_start settings kind turn) (turn.n + 1)
    × ((generation ≤ turn.n) × IsFirstBreach (IsAheadOrOwn settings turn.delays) (turn_start settings kind turn) generation cell))
TurnIsRefused settings kind next turn (Wall u) =
    EndsAsStated settings kind next turn × (KeepsBounds settings turn.delays (turn_start settings kind turn) turn.n
    × (IsFrontOf turn.end u × ¬ IsInFront settings turn.end))
TurnIsRefused settings kind next turn Memory = Unit {0}
