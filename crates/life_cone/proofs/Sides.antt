-- Planes kept apart by a strip, or by a diagonal between them.
use Rattle.std.proofs.Common.{◌≡◌, ◌↔◌, IsTrue, Bool, true, ℤ, pos, ◌+ℤ◌, sym, subst, arith, inl, inr}
use Rattle.std.proofs.lemmas.Int.{ints}
use Rattle.life_plane.specs.Plane.{Plane}
use Rattle.life_plane.specs.Apart.{Apart}
use Rattle.life_plane.specs.Strips.{Each, UAtMost, UAtLeast}
use Rattle.life_plane.specs.StripLaws.{apart_by_u}
use Rattle.life_cone.specs.Sides.{IsInStrip, IsBesideStrip, AreSplit}

-- the tests of both sides
pub split_test : (s t : Plane) (limit at over : ℤ) (west east : Bool) → at ≡ limit → over ≡ limit +ℤ pos 5 → (IsTrue west ↔ Each (UAtMost at) s) → west ≡ true → (IsTrue east ↔ Each (UAtLeast over) t) →
    (IsTrue east ↔ AreSplit limit s t)
split_test s t limit at over west east ea eo hw is he = (
  λ h. record { west = subst (λ m. Each (UAtMost m) s) ea (hw.0 is); east = subst (λ m. Each (UAtLeast m) t) eo (he.0 h) },
  λ p. he.1 (subst (λ m. Each (UAtLeast m) t) (sym eo) p.east),
)

pub split_sets_apart : (limit : ℤ) (s t : Plane) → AreSplit limit s t → Apart s t
split_sets_apart limit s t h = apart_by_u limit s t h.west h.east

-- cells beside a strip are apart from the cells in it
pub beside_apart : (low high : ℤ) (s t : Plane) → Each (IsBesideStrip low high) s → Each (IsInStrip low high) t → Apart s t
beside_apart low high s t hs ht = record {
  far = λ x y a b p q w.
      let inside = ht a b q in let from = inside.from in let to = inside.to in let r = w.right in let l = w.left in let d = w.below in let u = w.above in
      elim (hs x y p).side [ inl k ↦ absurd (omega (arith, ints)) | inr k ↦ absurd (omega (arith, ints)) ];
}

-- the strip's ends, read
pub strip_ends : (P : ℤ → ℤ → Type 0) (low high low' high' : ℤ) → low' ≡ low → high' ≡ high → P low' high' → P low high
strip_ends P low high low' high' el eh p = subst (λ m. P m high) el (subst (λ m. P low' m) eh p)
