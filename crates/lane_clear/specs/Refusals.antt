-- Why a hit isn't clear: the first part that fails.
use Rattle.std.specs.Prelude.{◌≡◌, true, ℤ, ◌-ℤ◌}
use Rattle.life_plane.specs.Plane.{Plane}
use Rattle.life_plane.specs.Strips.{Each}
use Rattle.life_cells.specs.Firsts.{IsFirstOf}
use Rattle.book_parts.specs.declared.settings.Settings.{Settings}
use Rattle.recipe_hit.specs.declared.frame.HitFrame.{HitFrame}
use Rattle.lane_clear.specs.Clear.{AreBeyond, IsOffBounds, IsAside}
use Rattle.lane_clear.specs.declared.refusal.ClearRefusal.{ClearRefusal}
use Rattle.lane_clear.specs.declared.refusal.ClearRefusal.TheVariants.{Works, NearBox, InLane}

-- a live cell for which this doesn't hold
pub record Fails (P : ℤ → ℤ → Type 0) (s : Plane) (x y : ℤ) : Type 0 where
  pub lives : s x y ≡ true
  pub not_so : P x y → ⊥

-- the hit isn't clear, and why
abbrev pub IsRefused : Settings → Plane → HitFrame → ClearRefusal → Type 0
IsRefused settings built frame (Works u) = (u ≡ frame.bounds.left -ℤ frame.bounds.bottom) × (AreBeyond settings frame.bounds → ⊥)
IsRefused settings built frame (NearBox cell) = AreBeyond settings frame.bounds × IsFirstOf (Fails (IsOffBounds frame.bounds) built) cell
IsRefused settings built frame (InLane cell) = AreBeyond settings frame.bounds × (Each (IsOffBounds frame.bounds) built × IsFirstOf (Fails (IsAside frame) built) cell)
