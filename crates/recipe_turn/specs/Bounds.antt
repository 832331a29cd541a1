-- The bounds that the cells of kinds and turns keep. A bound says of an x and a y whether there may be a live cell.
use Rattle.std.specs.Prelude.{◌≡◌, ℕ, ◌≤◌, true, ℤ, List}
use Rattle.std.specs.List.{AllByRecursion}
use Rattle.life_plane.specs.Plane.{Plane}
use Rattle.life_cells.specs.declared.cell.Cell.{Cell}
use Rattle.life_cells.specs.Firsts.{IsFirstOf}
use Rattle.book_parts.specs.declared.limits.TheConstants.{LONGEST_TURN}
use Rattle.book_parts.specs.declared.settings.Settings.{Settings}
use Rattle.book_parts.specs.Proper.{IsDelay}
use Rattle.recipe_turn.specs.Kind.{IsInPlace}
use Rattle.recipe_turn.specs.Turn.{IsInReach, IsAheadOrOwn}
use Rattle.recipe_turn.specs.declared.bounds.Bound.{Bound}
use Rattle.recipe_turn.specs.declared.bounds.Bound.TheVariants.{Place, Reach, Tail}

-- each live cell is one of which this holds
abbrev pub AllKeep : (ℤ → ℤ → Type 0) → Plane → Type 0
AllKeep Keeps s = (x y : ℤ) → s x y ≡ true → Keeps x y

-- the first live cell of which it doesn't
abbrev pub IsFirstBreaking : (ℤ → ℤ → Type 0) → Plane → Cell → Type 0
IsFirstBreaking Keeps s cell = IsFirstOf (λ x y. (s x y ≡ true) × ¬ Keeps x y) cell

-- what a bound says
abbrev pub Keeps : Settings → Bound → ℤ → ℤ → Type 0
Keeps settings Place x y = IsInPlace settings x y
Keeps settings Reach x y = IsInReach settings x y
Keeps settings (Tail delays t) x y = IsAheadOrOwn settings delays.now t x y

-- the numbers of a bound are within the limits of a book
abbrev pub IsProperBound : Bound → Type 0
IsProperBound (Tail delays t) = AllByRecursion IsDelay delays.now × (t ≤ LONGEST_TURN)
IsProperBound other = Unit {0}

-- a generation of a turn keeps the reach and the tail
pub record KeepsBoth (settings : Settings) (delays : List ℤ) (generation : ℕ) (s : Plane) : Type 0 where
  pub reach : AllKeep (IsInReach settings) s
  pub tail : AllKeep (IsAheadOrOwn settings delays generation) s
