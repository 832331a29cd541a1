-- Where a pattern first breaks a bound on its way.
-- A bound says of a generation, an x and a y whether that generation may have a live cell there.
use Rattle.std.specs.Prelude.{ℕ, ◌<◌, ℤ, List}
use Rattle.std.specs.declared.option.Option.{Option}
use Rattle.std.specs.declared.option.Option.TheVariants.{Some, None}
use Rattle.life_plane.specs.Plane.{Plane, run}
use Rattle.life_cells.specs.declared.cell.Cell.{Cell}
use Rattle.book_parts.specs.declared.settings.Settings.{Settings}
use Rattle.recipe_turn.specs.Turn.{IsInReach, IsAheadOrOwn}
use Rattle.recipe_turn.specs.Bounds.{AllKeep, IsFirstBreaking}
use Rattle.recipe_turn.specs.declared.breaches.Breach.{Breach}
use Rattle.recipe_turn.specs.declared.breaches.Breaches.{Breaches}

-- the reach, as a bound of each generation
abbrev pub KeepsReach : Settings → ℕ → ℤ → ℤ → Type 0
KeepsReach settings t x y = IsInReach settings x y

-- the generations before this one keep a bound
abbrev pub KeepsBefore : (ℕ → ℤ → ℤ → Type 0) → Plane → ℕ → Type 0
KeepsBefore Keeps start generation = (t : ℕ) → t < generation → AllKeep (Keeps t) (run t start)

-- the first generation with a cell that breaks a bound, and the first such cell in it
pub record IsFirstBreach (Keeps : ℕ → ℤ → ℤ → Type 0) (start : Plane) (generation : ℕ) (cell : Cell) : Type 0 where
  pub before : KeepsBefore Keeps start generation
  pub first : IsFirstBreaking (Keeps generation) (run generation start) cell

-- what is known of a bound from the generations before this one
abbrev pub IsKnown : (ℕ → ℤ → ℤ → Type 0) → Plane → ℕ → Option Breach → Type 0
IsKnown Keeps start generation None = KeepsBefore Keeps start generation
IsKnown Keeps start generation (Some breach) = (breach.generation < generation) × IsFirstBreach Keeps start breach.generation breach.cell

-- what is known of the reach and of the tail
pub record AreKnown (settings : Settings) (delays : List ℤ) (start : Plane) (generation : ℕ) (breaches : Breaches) : Type 0 where
  pub reach : IsKnown (KeepsReach settings) start generation breaches.reach
  pub tail : IsKnown (IsAheadOrOwn settings delays) start generation breaches.tail
