-- Laws of planes laid over each other, and moved.
use Rattle.std.specs.Prelude.{◌≡◌, ℤ, pos, ◌-ℤ◌}
use Rattle.std.proofs.Common.{refl, arith}
use Rattle.std.proofs.lemmas.Int.{ints}
use Rattle.std.proofs.Math.Bool.{or_assoc, or_comm, or-false}
use Rattle.life_plane.specs.Plane.{Plane, union, nothing, shift, same_plane}

pub union_assoc : (s t r : Plane) → union (union s t) r ≡ union s (union t r)
union_assoc s t r = same_plane _ _ (λ x y. or_assoc (s x y) (t x y) (r x y))

pub union_swap : (s t : Plane) → union s t ≡ union t s
union_swap s t = same_plane _ _ (λ x y. or_comm (s x y) (t x y))

pub union_none : (s : Plane) → union s nothing ≡ s
union_none s = same_plane _ _ (λ x y. or-false (s x y))

pub shift_none : (s : Plane) → shift (pos 0) (pos 0) s ≡ s
shift_none s = same_plane _ _ (λ x y. let same : (z : ℤ) → z -ℤ pos 0 ≡ z = λ z. omega (arith, ints) in rw (same x, same y) refl)
