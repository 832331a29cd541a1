-- A hit that isn't clear has one first cause, and a clear one has none.
use Rattle.std.specs.Prelude.{◌≡◌}
use Rattle.std.proofs.Common.{sym, ap, ◌∙◌}
use Rattle.life_plane.specs.Plane.{Plane}
use Rattle.life_cells.specs.FirstLaws.{one_first}
use Rattle.book_parts.specs.declared.settings.Settings.{Settings}
use Rattle.recipe_hit.specs.declared.frame.HitFrame.{HitFrame}
use Rattle.lane_clear.specs.Clear.{IsClear, IsOffBounds, IsAside}
use Rattle.lane_clear.specs.Refusals.{Fails, IsRefused}
use Rattle.lane_clear.specs.declared.refusal.ClearRefusal.{ClearRefusal}
use Rattle.lane_clear.specs.declared.refusal.ClearRefusal.TheVariants.{Works, NearBox, InLane}

pub one_refusal : (settings : Settings) (built : Plane) (frame : HitFrame) (e f : ClearRefusal) → IsRefused settings built frame e → IsRefused settings built frame f → e ≡ f
one_refusal settings built frame (Works u) (Works w) h k = ap Works (h.0 ∙ sym k.0)
one_refusal settings built frame (Works u) (NearBox d) h k = absurd (h.1 k.0)
one_refusal settings built frame (Works u) (InLane d) h k = absurd (h.1 k.0)
one_refusal settings built frame (NearBox c) (Works w) h k = absurd (k.1 h.0)
one_refusal settings built frame (NearBox c) (NearBox d) h k = ap NearBox (one_first (Fails (IsOffBounds frame.bounds) built) c d h.1 k.1)
one_refusal settings built frame (NearBox c) (InLane d) h k = absurd (h.1.is.not_so (k.1.0 c.x c.y h.1.is.lives))
one_refusal settings built frame (InLane c) (Works w) h k = absurd (k.1 h.0)
one_refusal settings built frame (InLane c) (NearBox d) h k = absurd (k.1.is.not_so (h.1.0 d.x d.y k.1.is.lives))
one_refusal settings built frame (InLane c) (InLane d) h k = ap InLane (one_first (Fails (IsAside frame) built) c d h.1.1 k.1.1)

pub clear_has_none : (settings : Settings) (built : Plane) (frame : HitFrame) (e : ClearRefusal) → IsClear settings built frame → IsRefused settings built frame e → ⊥
clear_has_none settings built frame (Works u) clear h = h.1 clear.works
clear_has_none settings built frame (NearBox c) clear h = h.1.is.not_so (clear.near c.x c.y h.1.is.lives)
clear_has_none settings built frame (InLane c) clear h = h.1.1.is.not_so (clear.lane_free c.x c.y h.1.1.is.lives)
