-- A hit has one refusal, and so has a hand.
use Rattle.std.proofs.Common.{◌≡◌, ◌≢◌, ℤ, refl, sym, ap, ◌∙◌}
use Rattle.life_plane.specs.Plane.{Plane}
use Rattle.life_cells.specs.FirstLaws.{one_first}
use Rattle.recipe_hit.specs.declared.frame.Hit.{Hit}
use Rattle.recipe_hit.specs.declared.refusal.HitRefusal.{HitRefusal}
use Rattle.recipe_hit.specs.declared.refusal.HitRefusal.TheVariants as hit
use Rattle.recipe_hit.specs.declared.refusal.HandRefusal.{HandRefusal}
use Rattle.recipe_hit.specs.declared.refusal.HandRefusal.TheVariants as hand
use Rattle.recipe_hit.specs.Strike.{IsHit}
use Rattle.recipe_hit.specs.Hands.{IsHand}
use Rattle.recipe_hit.specs.Refusals.{HitIsRefused, HandIsRefused}
use Rattle.recipe_hit.specs.OneHitLaws.{lives_not_nothing}

-- where there is a hit it is not refused
pub no_hit_refusal : (struck : Plane) (lane : ℤ) (h : Hit) (e : HitRefusal) → IsHit struck lane h → HitIsRefused struck lane e → e ≡ hit.Memory
no_hit_refusal struck lane h hit.Empty is empty = absurd (lives_not_nothing struck is.box_is.lives empty)
no_hit_refusal struck lane h (hit.NotSettled after) is none = absurd (none.1.1 h is)
no_hit_refusal struck lane h hit.Memory is none = refl

-- a hit has one refusal
pub one_hit_refusal : (struck : Plane) (lane : ℤ) (e f : HitRefusal) → HitIsRefused struck lane e → HitIsRefused struck lane f → e ≢ hit.Memory → f ≢ hit.Memory → e ≡ f
one_hit_refusal struck lane hit.Empty hit.Empty h k other another = refl
one_hit_refusal struck lane hit.Empty (hit.NotSettled m) h k other another = absurd (lives_not_nothing struck k.1.0 h)
one_hit_refusal struck lane (hit.NotSettled n) hit.Empty h k other another = absurd (lives_not_nothing struck h.1.0 k)
one_hit_refusal struck lane (hit.NotSettled n) (hit.NotSettled m) h k other another = ap hit.NotSettled (h.0 ∙ sym k.0)
one_hit_refusal struck lane hit.Empty hit.Memory h k other another = absurd (another refl)
one_hit_refusal struck lane (hit.NotSettled n) hit.Memory h k other another = absurd (another refl)
one_hit_refusal struck lane hit.Memory f h k other another = absurd (other refl)

-- a hand has no refusal
pub no_hand_refusal : (s : Plane) (e : HandRefusal) → IsHand s → HandIsRefused s e → e ≡ hand.Memory
no_hand_refusal s (hand.NotStill c) is change = absurd (change.is (ap (λ (p : Plane). p c.x c.y) is.still))
no_hand_refusal s hand.Memory is change = refl

-- a set has one refusal as a hand
pub one_hand_refusal : (s : Plane) (e f : HandRefusal) → HandIsRefused s e → HandIsRefused s f → e ≢ hand.Memory → f ≢ hand.Memory → e ≡ f
one_hand_refusal s (hand.NotStill c) (hand.NotStill d) h k other another = ap hand.NotStill (one_first _ c d h k)
one_hand_refusal s (hand.NotStill c) hand.Memory h k other another = absurd (another refl)
one_hand_refusal s hand.Memory f h k other another = absurd (other refl)
