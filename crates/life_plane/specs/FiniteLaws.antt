-- Laws of listed planes: what holds of each listed cell, and a generation within a small box checked cell by cell.
use Rattle.std.specs.Prelude.{◌≡◌, Bool, true, false, ◌⊎◌, ℤ, pos, negsuc, ◌≤ℤ◌, List, [], ◌∷◌}
use Rattle.std.specs.Ordering.{int_eq}
use Rattle.std.specs.Cmp.{signed_Decides}
use Rattle.std.proofs.Common.{refl, ap, sym, ◌∙◌, arith, inl, inr}
use Rattle.std.proofs.lemmas.Int.{ints}
use Rattle.std.proofs.lemmas.Bool.{and_parts, false_from_ne_true}
use Rattle.life_plane.specs.Plane.{Plane, step, same_plane}
use Rattle.life_plane.specs.Apart.{Live, Dead}
use Rattle.life_plane.specs.ApartLaws.{live_or_dead, dead_step}
use Rattle.life_plane.specs.Finite.{is_at, plane_of, IsIn, all_of, around_box, same_bool, FitsBox, each_cell, steps_to_in_box}

all_of-in : (f : ℤ → Bool) (xs : List ℤ) (x : ℤ) → all_of f xs ≡ true → IsIn x xs → f x ≡ true
all_of-in f [] x all h = absurd h
all_of-in f (a ∷ as') x all (inl e) = ap f e ∙ (and_parts (f a) (all_of f as') all).0
all_of-in f (a ∷ as') x all (inr h) = all_of-in f as' x (and_parts (f a) (all_of f as') all).1 h

in_around_box : (x : ℤ) → negsuc 0 ≤ℤ x → x ≤ℤ pos 4 → IsIn x around_box
in_around_box x low high = grind (arith, ints)

same_bool_is : (a b : Bool) → same_bool a b ≡ true → a ≡ b
unfolding same_bool
same_bool_is true true h = refl
same_bool_is true false h = cc
same_bool_is false true h = cc
same_bool_is false false h = refl

in_box : (f : ℤ → ℤ → Bool) → all_of (λ x. all_of (λ y. f x y) around_box) around_box ≡ true → (x y : ℤ) → IsIn x around_box → IsIn y around_box → f x y ≡ true
in_box f all x y hx hy = all_of-in (λ y. f x y) around_box y (all_of-in (λ x. all_of (λ y. f x y) around_box) around_box x all hx) hy

-- a place in the box, or one that no cell of a plane that fits the box is near
place : (x : ℤ) → IsIn x around_box ⊎ ((x ≤ℤ negsuc 1) ⊎ (pos 5 ≤ℤ x))
place x = by_low (low_or x)
  where
    low_or : (x : ℤ) → (negsuc 0 ≤ℤ x) ⊎ (x ≤ℤ negsuc 1)
    low_or x = grind (arith, ints)

    high_or : (x : ℤ) → (x ≤ℤ pos 4) ⊎ (pos 5 ≤ℤ x)
    high_or x = grind (arith, ints)

    by_high : negsuc 0 ≤ℤ x → (x ≤ℤ pos 4) ⊎ (pos 5 ≤ℤ x) → IsIn x around_box ⊎ ((x ≤ℤ negsuc 1) ⊎ (pos 5 ≤ℤ x))
    by_high l (inl h) = inl (in_around_box x l h)
    by_high l (inr h) = inr (inr h)

    by_low : (negsuc 0 ≤ℤ x) ⊎ (x ≤ℤ negsuc 1) → IsIn x around_box ⊎ ((x ≤ℤ negsuc 1) ⊎ (pos 5 ≤ℤ x))
    by_low (inl l) = by_high l (high_or x)
    by_low (inr l) = inr (inl l)

-- far from the box both planes are dead, and stay so
far_column : (s t : Plane) → FitsBox s → FitsBox t → (x y : ℤ) → (x ≤ℤ negsuc 1) ⊎ (pos 5 ≤ℤ x) → step s x y ≡ t x y
far_column s t fs ft x y far = quiet (live_or_dead s x y)
  where
    none : t x y ≡ true → ⊥
    none h = elim far [ inl l ↦ absurd (omega (arith, ints, ft.west x y h, l)) | inr l ↦ absurd (omega (arith, ints, ft.east x y h, l)) ]

    near : Live s x y → ⊥
    near l = elim far [ inl m ↦ absurd (omega (arith, ints, fs.west l.a l.b l.lives, l.near.right, m)) | inr m ↦ absurd (omega (arith, ints, fs.east l.a l.b l.lives, l.near.left, m)) ]

    quiet : (Live s x y) ⊎ (Dead s x y) → step s x y ≡ t x y
    quiet (inl l) = absurd (near l)
    quiet (inr d) = dead_step s x y d ∙ sym (false_from_ne_true (t x y) none)

far_row : (s t : Plane) → FitsBox s → FitsBox t → (x y : ℤ) → (y ≤ℤ negsuc 1) ⊎ (pos 5 ≤ℤ y) → step s x y ≡ t x y
far_row s t fs ft x y far = quiet (live_or_dead s x y)
  where
    none : t x y ≡ true → ⊥
    none h = elim far [ inl l ↦ absurd (omega (arith, ints, ft.north x y h, l)) | inr l ↦ absurd (omega (arith, ints, ft.south x y h, l)) ]

    near : Live s x y → ⊥
    near l = elim far [ inl m ↦ absurd (omega (arith, ints, fs.north l.a l.b l.lives, l.near.below, m)) | inr m ↦ absurd (omega (arith, ints, fs.south l.a l.b l.lives, l.near.above, m)) ]

    quiet : (Live s x y) ⊎ (Dead s x y) → step s x y ≡ t x y
    quiet (inl l) = absurd (near l)
    quiet (inr d) = dead_step s x y d ∙ sym (false_from_ne_true (t x y) none)

-- where the test passes, the one plane is the other's next generation
pub steps_to : (s t : Plane) → FitsBox s → FitsBox t → steps_to_in_box s t ≡ true → step s ≡ t
unfolding steps_to_in_box
steps_to s t fs ft all = same_plane _ _ (λ x y. by_column x y (place x) (place y))
  where
    by_row : (x y : ℤ) → IsIn x around_box → IsIn y around_box ⊎ ((y ≤ℤ negsuc 1) ⊎ (pos 5 ≤ℤ y)) → step s x y ≡ t x y
    by_row x y hx (inl hy) = same_bool_is _ _ (in_box (λ x y. same_bool (step s x y) (t x y)) all x y hx hy)
    by_row x y hx (inr far) = far_row s t fs ft x y far

    by_column : (x y : ℤ) → IsIn x around_box ⊎ ((x ≤ℤ negsuc 1) ⊎ (pos 5 ≤ℤ x)) → IsIn y around_box ⊎ ((y ≤ℤ negsuc 1) ⊎ (pos 5 ≤ℤ y)) → step s x y ≡ t x y
    by_column x y (inl hx) py = by_row x y hx py
    by_column x y (inr far) py = far_column s t fs ft x y far

is_at_same : (x y : ℤ) (c : ℤ × ℤ) → is_at x y c ≡ true → (x ≡ c.0) × (y ≡ c.1)
is_at_same x y c h = let both = and_parts (int_eq x c.0) (int_eq y c.1) h in ((signed_Decides x c.0).0 both.0, (signed_Decides y c.1).0 both.1)

-- what holds of each listed cell holds of each live one
pub each_live : (f : ℤ → ℤ → Bool) (cs : List (ℤ × ℤ)) → each_cell f cs ≡ true → (x y : ℤ) → plane_of cs x y ≡ true → f x y ≡ true
each_live f [] all x y h = cc
each_live f (c ∷ cs) all x y h = by_first (is_at x y c) refl (each_live f cs (and_parts (f c.0 c.1) (each_cell f cs) all).1 x y)
  where
    by_first : (b : Bool) → is_at x y c ≡ b → (plane_of cs x y ≡ true → f x y ≡ true) → f x y ≡ true
    by_first true e rest = let same = is_at_same x y c e in ap (λ a. f a y) same.0 ∙ ap (f c.0) same.1 ∙ (and_parts (f c.0 c.1) (each_cell f cs) all).0
    by_first false e rest = rest (rw e at h)
