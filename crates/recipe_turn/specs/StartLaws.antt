-- The start of a turn: how far its cells lie from the origin, and that they keep the bounds of the turn.
use Rattle.std.proofs.Common.{◌≡◌, ℕ, ◌^◌, true, ℤ, pos, neg_ℤ, ◌-ℤ◌, ◌≤ℤ◌, List, [], ◌∷◌, inl, inr, sym, arith}
use Rattle.std.specs.List.{AllByRecursion}
use Rattle.std.proofs.lemmas.Int.{ints}
use Rattle.std.proofs.lemmas.Bool.{or_cases, true≢false}
use Rattle.life_plane.specs.Plane.{Plane, union}
use Rattle.life_plane.specs.Tracks.{stream_glider}
use Rattle.life_plane.specs.TrackLaws.{stream_range}
use Rattle.life_cells.specs.Boxes.{IsInRange}
use Rattle.life_cells.specs.BoxLaws.{range_union}
use Rattle.book_parts.specs.Limits.{AreProper, IsPlaced}
use Rattle.book_parts.specs.Proper.{IsDelay}
use Rattle.book_parts.specs.declared.settings.Settings.{Settings}
use Rattle.recipe_turn.specs.Bounds.{KeepsBoth}
use Rattle.recipe_turn.specs.Kind.{AreInPlace}
use Rattle.recipe_turn.specs.Turn.{gliders}

-- a place with coordinates from -n to n
pub record Around (n : ℕ) (x y : ℤ) : Type 0 where
  pub left : neg_ℤ (pos n) ≤ℤ x
  pub right : x ≤ℤ pos n
  pub above : neg_ℤ (pos n) ≤ℤ y
  pub below : y ≤ℤ pos n

-- all live cells are such places
pub all_around : (n : ℕ) (s : Plane) → ((x y : ℤ) → s x y ≡ true → Around n x y) → IsInRange n s
all_around n s near = record {
  x_low = λ x y h. (near x y h).left;
  x_high = λ x y h. (near x y h).right;
  y_low = λ x y h. (near x y h).above;
  y_high = λ x y h. (near x y h).below;
}

-- a glider on its way to the frame
glider_around : (j x y : ℤ) → neg_ℤ (pos 100000) ≤ℤ j → j ≤ℤ pos 0 → stream_glider j x y ≡ true → Around (2 ^ 40) x y
glider_around j x y low high live =
    let r = stream_range j x y live in
    record { left = omega (arith, ints); right = omega (arith, ints); above = omega (arith, ints); below = omega (arith, ints) }

gliders_around : (settings : Settings) → AreProper settings → (ds : List ℤ) → AllByRecursion IsDelay ds → (x y : ℤ) → gliders settings ds (pos 0) x y ≡ true → Around (2 ^ 40) x y
gliders_around settings proper [] near x y live = absurd (true≢false (sym live))
gliders_around settings proper (d ∷ ds) near x y live =
    let range = proper.approach.range in let here = near.0 in
    elim (or_cases (stream_glider ((pos 0 -ℤ settings.approach) -ℤ d) x y) (gliders settings ds (pos 0) x y) live) [
      | inl h ↦ glider_around ((pos 0 -ℤ settings.approach) -ℤ d) x y (omega (arith, ints)) (omega (arith, ints)) h
      | inr h ↦ gliders_around settings proper ds near.1 x y h
    ]

-- a kind and the gliders before it
pub start_in_range : (settings : Settings) → AreProper settings → (kind : Plane) → IsPlaced kind → (ds : List ℤ) → AllByRecursion IsDelay ds → IsInRange (2 ^ 40) (union kind (gliders settings ds (pos 0)))
start_in_range settings proper kind placed ds near =
    range_union (2 ^ 40) kind (gliders settings ds (pos 0))
    (all_around (2 ^ 40) kind (λ x y h.
    let px = placed.x x y h in let py = placed.y x y h in
    record { left = omega (arith, ints); right = omega (arith, ints); above = omega (arith, ints); below = omega (arith, ints) }))
    (all_around (2 ^ 40) (gliders settings ds (pos 0)) (gliders_around settings proper ds near))

-- ---- bounds

-- the gliders on their way have u at most 1
gliders_right : (settings : Settings) (ds : List ℤ) (t x y : ℤ) → gliders settings ds t x y ≡ true → (x -ℤ y) ≤ℤ pos 1
gliders_right settings [] t x y live = absurd (true≢false (sym live))
gliders_right settings (d ∷ ds) t x y live = elim (or_cases (stream_glider ((t -ℤ settings.approach) -ℤ d) x y) (gliders settings ds t x y) live) [
  | inl h ↦ (stream_range ((t -ℤ settings.approach) -ℤ d) x y h).right
  | inr h ↦ gliders_right settings ds t x y h
]

-- a kind in its place, and the gliders before it, keep the reach and the tail
pub start_keeps : (settings : Settings) → AreProper settings → (kind : Plane) → AreInPlace settings kind → (ds : List ℤ) → KeepsBoth settings ds 0 (union kind (gliders settings ds (pos 0)))
start_keeps settings proper kind placed ds = record {
  reach = λ x y live.
      let wall = proper.wall.low in let reach = proper.reach.low in
      elim (or_cases (kind x y) (gliders settings ds (pos 0) x y) live) [
        | inl h ↦ let near = (placed.each x y h).wall in record { u = omega (arith, ints, near) }
        | inr h ↦ let near = gliders_right settings ds (pos 0) x y h in record { u = omega (arith, ints, near) }
      ];
  tail = λ x y live. elim (or_cases (kind x y) (gliders settings ds (pos 0) x y) live) [
    | inl h ↦ let ahead = (placed.each x y h).tail in record { own = λ behind. absurd (omega (arith, ints, ahead, behind)) }
    | inr h ↦ record { own = λ behind. h }
  ];
}
