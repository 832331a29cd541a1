-- The gaps of a turn, place by place.
use Rattle.std.specs.Prelude.{◌≡◌, ℕ, ◌+◌, ℤ, pos, ◌+ℤ◌, ◌≤ℤ◌, List, [], ◌∷◌, ◌++◌, length}
use Rattle.life_plane.specs.Tracks.{gap}

-- each delay is at least a gap more than the one before it
abbrev pub AreApartFrom : ℤ → List ℤ → Type 0
AreApartFrom before [] = Unit {0}
AreApartFrom before (delay ∷ delays) = ((before +ℤ pos gap) ≤ℤ delay) × AreApartFrom delay delays

-- and the first, if there is one, is 0
abbrev pub AreApart : List ℤ → Type 0
AreApart [] = Unit {0}
AreApart (delay ∷ delays) = (delay ≡ pos 0) × AreApartFrom delay delays

-- the delays before this place, counted from 1, are apart, and with the one at it they aren't
pub record IsFirstNarrow (delays : List ℤ) (place : ℕ) : Type 0 where
  pub front : List ℤ
  pub here : ℤ
  pub back : List ℤ
  pub split : delays ≡ front ++ (here ∷ back)
  pub place_is : place ≡ length front + 1
  pub before : AreApart front
  pub narrow : ¬ AreApart (front ++ (here ∷ []))
