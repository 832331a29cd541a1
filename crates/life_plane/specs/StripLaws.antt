-- Diagonals that lie apart keep planes apart; apart from parts is apart from their union.
use Rattle.std.specs.Prelude.{ℤ, pos, ◌+ℤ◌}
use Rattle.std.proofs.Common.{arith, inl, inr}
use Rattle.std.proofs.lemmas.Int.{ints}
use Rattle.std.proofs.lemmas.Bool.{or_cases}
use Rattle.life_plane.specs.Plane.{Plane, union, nothing}
use Rattle.life_plane.specs.Apart.{Apart}
use Rattle.life_plane.specs.Strips.{Each, UAtMost, UAtLeast}

-- five between their diagonals keep two planes apart
pub apart_by_u : (limit : ℤ) (s t : Plane) → Each (UAtMost limit) s → Each (UAtLeast (limit +ℤ pos 5)) t → Apart s t
apart_by_u limit s t hs ht = record {
  far = λ x y a b p q w.
      let low = (hs x y p).u in let high = (ht a b q).u in let r = w.right in let l = w.left in let d = w.below in let u = w.above in omega (arith, ints);
}

pub apart_symmetric : {s t : Plane} → Apart s t → Apart t s
apart_symmetric h = record { far = λ x y a b p q w. h.far a b x y q p (record { right = w.left; left = w.right; below = w.above; above = w.below }) }

-- apart from both parts is apart from the union
pub apart_union : {s t r : Plane} → Apart s t → Apart s r → Apart s (union t r)
apart_union {s} {t} {r} hs hr = record { far = λ x y a b p q w. elim (or_cases (t a b) (r a b) q) [ inl k ↦ hs.far x y a b p k w | inr k ↦ hr.far x y a b p k w ] }

pub apart_nothing : (s : Plane) → Apart s nothing
apart_nothing s = record { far = λ x y a b p q w. cc }
