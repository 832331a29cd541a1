-- The hits of a list of lanes, kept for the next list.
use Rattle.std.specs.Prelude.{◌≤◌, ℤ, List, length, map, refl}
use Rattle.std.specs.declared.option.Option.{Option}
use Rattle.std.specs.declared.option.Option.TheVariants.{Some, None}
use Rattle.std.specs.Coded.{Coded, code_by, coded×, coded_ℤ, coded_list, coded_option}
use Rattle.life_plane.specs.Plane.{Plane}
use Rattle.life_cells.specs.Cells.{Cells, alive, coded_cells}
use Rattle.book_parts.specs.declared.limits.TheConstants.{MOST_LANES}
use Rattle.recipe_hit.specs.declared.frame.Hit.{Hit}
use Rattle.recipe_hit.specs.Refusals.{HasNoHit}
use Rattle.recipe_hit.specs.Sound.{AreHits, what_is_left}
use Rattle.recipe_hit.specs.Checked.{coded_hit}

-- hits at a hand, and a lane that has no hit behind them, if one is known
pub record Kept : Type 0 where
  pub hand : Cells
  pub hits : List Hit
  pub missing : Option ℤ

abbrev pub coded_kept : Coded Kept
coded_kept = code_by (Cells × (List Hit × Option ℤ)) (coded× coded_cells (coded× (coded_list coded_hit) (coded_option coded_ℤ)))
    (λ k. (k.hand, (k.hits, k.missing))) (λ p. record { hand = p.0; hits = p.1.0; missing = p.1.1 }) (λ _. refl)

-- the lanes of these hits
abbrev pub lanes_of : List Hit → List ℤ
lanes_of hits = map (λ (hit : Hit). hit.frame.lane) hits

-- what the kept hits leave
abbrev pub left_so_far : Kept → Plane
left_so_far kept = what_is_left (alive kept.hand) kept.hits

-- a glider of this lane, if there is one, has no hit
abbrev pub IsMissing : Plane → Option ℤ → Type 0
IsMissing struck None = Unit {0}
IsMissing struck (Some lane) = HasNoHit struck lane

-- these are the hits of their lanes, one after the other, at most as many as a list of lanes may have, and the lane has none behind them
pub record IsKept (kept : Kept) : Type 0 where
  pub hits_are : AreHits (alive kept.hand) (lanes_of kept.hits) kept.hits
  pub few : length kept.hits ≤ MOST_LANES
  pub missing : IsMissing (left_so_far kept) kept.missing
