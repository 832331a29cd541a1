-- The rank of an island, by which islands are put in order, and islands under their ranks.
use Rattle.std.specs.Prelude.{◌⊎◌, neg_ℤ, List, [], ◌∷◌}
use Rattle.std.specs.List.{AllByRecursion}
use Rattle.life_cells.specs.Cells.{Cells, alive}
use Rattle.life_cells.specs.declared.cell.Cell.{Cell}
use Rattle.life_islands.specs.Islands.{IsIsland}
use Rattle.life_islands.specs.Joined.{Lives}
use Rattle.life_cells.specs.Firsts.{IsFirstLive}
use Rattle.life_islands.specs.Order.{IsGreatestU}
use Rattle.life_islands.specs.declared.rank.Rank.{Rank}
use Rattle.life_plane.specs.Plane.{Plane}

-- the rank of a plane: its greatest u, negated, and its first cell
pub record IsRankOf (rank : Rank) (s : Plane) : Type 0 where
  pub greatest : IsGreatestU (neg_ℤ rank.minus_u) s
  pub first : IsFirstLive s rank.first

-- the set under a rank is an island of the plane, and the rank is its own
pub record IsRanked (s : Plane) (entry : Rank × Cells) : Type 0 where
  pub is : IsIsland s (alive entry.1)
  pub rank : IsRankOf entry.0 (alive entry.1)

-- the cell lives in one of the sets
abbrev pub IsUnderOne : List (Rank × Cells) → Cell → Type 0
IsUnderOne [] c = ⊥
IsUnderOne (entry ∷ entries) c = Lives (alive entry.1) c ⊎ IsUnderOne entries c

-- islands of a plane under their ranks; the cells of some part live in one of them
pub record AreRanked (s part : Plane) (entries : List (Rank × Cells)) : Type 0 where
  pub each : AllByRecursion (IsRanked s) entries
  pub all : (c : Cell) → Lives part c → IsUnderOne entries c

-- the island of a cell is there, and the cells of those that were there before
pub record AddsIsland (start : Cell) (before after : List (Rank × Cells)) : Type 0 where
  pub there : IsUnderOne after start
  pub kept : (c : Cell) → IsUnderOne before c → IsUnderOne after c
