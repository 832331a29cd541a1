-- Why there is no hit, and why a set is no hand: the first part that fails.
use Rattle.std.specs.Prelude.{◌≡◌, ℤ}
use Rattle.life_plane.specs.Plane.{Plane, nothing}
use Rattle.life_cells.specs.Firsts.{IsFirstChange}
use Rattle.book_parts.specs.Proper.{HasLife}
use Rattle.recipe_hit.specs.declared.frame.Hit.{Hit}
use Rattle.recipe_hit.specs.declared.refusal.HitRefusal.{HitRefusal}
use Rattle.recipe_hit.specs.declared.refusal.HitRefusal.TheVariants as hit
use Rattle.recipe_hit.specs.declared.refusal.HandRefusal.{HandRefusal}
use Rattle.recipe_hit.specs.declared.refusal.HandRefusal.TheVariants as hand
use Rattle.recipe_hit.specs.Strike.{IsHit}
use Rattle.recipe_hit.specs.declared.limits.TheConstants.{LONGEST_HIT}

-- a glider of this lane has no hit
abbrev pub HasNoHit : Plane → ℤ → Type 0
HasNoHit struck lane = (h : Hit) → IsHit struck lane h → ⊥

-- there is no hit for this cause
abbrev pub HitIsRefused : Plane → ℤ → HitRefusal → Type 0
HitIsRefused struck lane hit.Empty = struck ≡ nothing
HitIsRefused struck lane (hit.NotSettled after) = (after ≡ LONGEST_HIT) × (HasLife struck × HasNoHit struck lane)
HitIsRefused struck lane hit.Memory = Unit {0}

-- a set is no hand for this cause
abbrev pub HandIsRefused : Plane → HandRefusal → Type 0
HandIsRefused s (hand.NotStill cell) = IsFirstChange s cell
HandIsRefused s hand.Memory = Unit {0}
