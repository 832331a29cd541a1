-- What stands behind the wall and what is thrown in front of it.
use Rattle.std.proofs.Common.{◌≡◌, ℕ, zero, suc, ◌^◌, true, ℤ, pos, neg_ℤ, ◌+ℤ◌, ◌-ℤ◌, ◌*ℤ◌, ◌≤ℤ◌, List, [], ◌∷◌, length, w64, to_z, of_z, inl, inr, sym, ap, ◌∙◌, arith}
use Rattle.std.specs.Prelude.{int_le}
use Rattle.std.specs.Int.{int_div_euclid}
use Rattle.std.specs.List.{AllByRecursion}
use Rattle.std.specs.Cmp.{both_ways}
use Rattle.std.proofs.lemmas.Int.{ints}
use Rattle.std.proofs.lemmas.Bool.{and_parts, and_from, or_cases, or_left, or_right, true≢false}
use Rattle.life_plane.specs.NumberLaws.{le_from_test, test_from_le, lt_from_test, test_from_lt, cases_below}
use Rattle.life_plane.specs.Plane.{Plane, union, shift, same_plane}
use Rattle.life_plane.specs.Salvo.{salvo_glider}
use Rattle.life_plane.specs.SalvoLaws.{salvo_range, salvo_front}
use Rattle.life_cells.specs.Boxes.{IsInRange}
use Rattle.life_gliders.specs.Beyond.{beyond}
use Rattle.book_parts.specs.Kinds.{kind_plane}
use Rattle.book_parts.specs.Limits.{AreProper}
use Rattle.book_parts.specs.Proper.{IsKindNumber, IsProperKind, HasLife}
use Rattle.book_parts.specs.declared.kind.RawKind.{RawKind}
use Rattle.book_parts.specs.declared.settings.Settings.{Settings}
use Rattle.recipe_turn.specs.Checked.{AreValid}
use Rattle.recipe_turn.specs.Kind.{IsInPlace, AreInPlace}
use Rattle.recipe_turn.specs.QuarterLaws.{quarters_below}
use Rattle.find_turn.specs.Behind.{behind}

-- ---- kinds, moved

-- a cell of a kind is in its place
kind_in_place : (settings : Settings) (kinds : List RawKind) → AreValid settings kinds → (number : ℕ) (x y : ℤ) → kind_plane kinds number x y ≡ true → IsInPlace settings x y
kind_in_place settings [] valid number x y live = absurd (true≢false (sym live))
kind_in_place settings (kind ∷ kinds) valid zero x y live = absurd (true≢false (sym live))
kind_in_place settings (kind ∷ kinds) valid (suc zero) x y live = valid.0.place.each x y live
kind_in_place settings (kind ∷ kinds) valid (suc (suc k)) x y live = kind_in_place settings kinds valid.1 (suc k) x y live

-- each cell of a kind is
pub kind_is_placed : (settings : Settings) (kinds : List RawKind) → AreValid settings kinds → (number : ℕ) → AreInPlace settings (kind_plane kinds number)
kind_is_placed settings kinds valid number = record { each = kind_in_place settings kinds valid number }

-- a kind, moved along the diagonal, has u at most the wall
pub moved_behind : (settings : Settings) (kinds : List RawKind) → AreValid settings kinds → (number : ℕ) (a x y : ℤ) → shift a a (kind_plane kinds number) x y ≡ true → (x -ℤ y) ≤ℤ settings.wall
moved_behind settings kinds valid number a x y live = let wall = (kind_in_place settings kinds valid number (x -ℤ a) (y -ℤ a) live).wall in omega (arith, ints, wall)

-- a kind with a number lives
pub kind_lives : (kinds : List RawKind) → AllByRecursion IsProperKind kinds → (number : ℕ) → IsKindNumber (length kinds) number → HasLife (kind_plane kinds number)
kind_lives [] proper number is = let some = is.some in let most = is.most in absurd (omega arith)
kind_lives (kind ∷ kinds) proper zero is = let some = is.some in absurd (omega arith)
kind_lives (kind ∷ kinds) proper (suc zero) is = proper.0.lives
kind_lives (kind ∷ kinds) proper (suc (suc k)) is = let most = is.most in kind_lives kinds proper.1 (suc k) (record { some = omega arith; most = omega arith })

-- ---- thrown gliders

-- a glider that is thrown in front of the wall has u at least five more than it
pub thrown_beyond : (wall lane j x y : ℤ) → (wall +ℤ pos 5) ≤ℤ ((lane +ℤ pos 2 *ℤ int_div_euclid j (pos 4)) +ℤ pos 1) → salvo_glider lane j x y ≡ true → (wall +ℤ pos 5) ≤ℤ (x -ℤ y)
thrown_beyond wall lane j x y front live =
    let q = quarters_below j in
    let behind = (salvo_range lane j x y live).behind in
    omega (arith, ints, q, behind, front)

-- ---- both

-- what is thrown is what is in front of the wall
pub thrown_is : (wall : ℤ) (elbow thrown : Plane) → ((x y : ℤ) → elbow x y ≡ true → (x -ℤ y) ≤ℤ wall) → ((x y : ℤ) → thrown x y ≡ true → (wall +ℤ pos 5) ≤ℤ (x -ℤ y)) →
    beyond wall (union elbow thrown) ≡ thrown
thrown_is wall elbow thrown near far = same_plane _ _ (λ x y. both_ways (beyond wall (union elbow thrown) x y) (thrown x y)
    (λ h. let parts = and_parts _ _ h in elim (or_cases (elbow x y) (thrown x y) parts.0) [
      | inl l ↦ let close = near x y l in let over = le_from_test {a = wall +ℤ pos 5} {b = x -ℤ y} parts.1 in absurd (omega (arith, ints, close, over))
      | inr r ↦ r
    ])
    (λ r. and_from _ _ (or_right (elbow x y) (thrown x y) r) (test_from_le (far x y r))))

-- what is left is what isn't
pub left_is : (wall : ℤ) (elbow thrown : Plane) → ((x y : ℤ) → elbow x y ≡ true → (x -ℤ y) ≤ℤ wall) → ((x y : ℤ) → thrown x y ≡ true → (wall +ℤ pos 5) ≤ℤ (x -ℤ y)) →
    behind wall (union elbow thrown) ≡ elbow
left_is wall elbow thrown near far = same_plane _ _ (λ x y. both_ways (behind wall (union elbow thrown) x y) (elbow x y)
    (λ h. let parts = and_parts _ _ h in elim (or_cases (elbow x y) (thrown x y) parts.0) [
      | inl l ↦ l
      | inr r ↦ let over = far x y r in let close = lt_from_test {a = x -ℤ y} {b = wall +ℤ pos 5} parts.1 in absurd (omega (arith, ints, close, over))
    ])
    (λ l. and_from _ _ (or_left (elbow x y) (thrown x y) l) (test_from_lt {a = x -ℤ y} {b = wall +ℤ pos 5} (let close = near x y l in omega (arith, ints, close)))))

-- a plane is what is behind the wall and what is in front of it
pub both_parts : (wall : ℤ) (s : Plane) → s ≡ union (behind wall s) (beyond wall s)
both_parts wall s = same_plane _ _ (λ x y. both_ways (s x y) (union (behind wall s) (beyond wall s) x y)
    (λ live. elim (cases_below (x -ℤ y) (wall +ℤ pos 5)) [
      | inl near ↦ or_left (behind wall s x y) (beyond wall s x y) (and_from _ _ live (test_from_lt near))
      | inr far ↦ or_right (behind wall s x y) (beyond wall s x y) (and_from _ _ live (test_from_le far))
    ])
    (λ h. elim (or_cases (behind wall s x y) (beyond wall s x y) h) [ inl l ↦ (and_parts _ _ l).0 | inr r ↦ (and_parts _ _ r).0 ]))

-- ---- the range of what is thrown

pub record Near (lane j : ℤ) : Type 0 where
  pub lane_low : neg_ℤ (pos (2 ^ 50)) ≤ℤ lane
  pub lane_high : lane ≤ℤ pos (2 ^ 50)
  pub index_low : neg_ℤ (pos (2 ^ 50)) ≤ℤ j
  pub index_high : j ≤ℤ pos (2 ^ 50)

pub thrown_near : (wall lane j : ℤ) (s : Plane) → IsInRange (2 ^ 41) s → beyond wall s ≡ salvo_glider lane j → Near lane j
thrown_near wall lane j s range is =
    let f = salvo_front lane j in
    let live : s f.x f.y ≡ true = (and_parts _ _ (ap (λ (p : Plane). p f.x f.y) is ∙ f.lives)).0 in
    let on = salvo_range lane j f.x f.y f.lives in
    let behind = on.behind in let ahead = on.ahead in let low = on.low in let high = on.high in
    let left = range.x_low f.x f.y live in let right = range.x_high f.x f.y live in
    let top = range.y_low f.x f.y live in let bottom = range.y_high f.x f.y live in
    record { lane_low = omega (arith, ints); lane_high = omega (arith, ints); index_low = omega (arith, ints); index_high = omega (arith, ints) }

-- a glider in front of the wall has a cell there
pub front_lives : (wall lane j : ℤ) (s : Plane) → beyond wall s ≡ salvo_glider lane j → (x : ℤ) × ((y : ℤ) × ((s x y ≡ true) × ((wall +ℤ pos 5) ≤ℤ (x -ℤ y))))
front_lives wall lane j s is =
    let f = salvo_front lane j in
    let parts = and_parts (s f.x f.y) (int_le (wall +ℤ pos 5) (f.x -ℤ f.y)) (ap (λ (p : Plane). p f.x f.y) is ∙ f.lives) in
    (f.x, (f.y, (parts.0, le_from_test parts.1)))

-- a part is in range where all is
pub part_range : (n : ℕ) (part s : Plane) → ((x y : ℤ) → part x y ≡ true → s x y ≡ true) → IsInRange n s → IsInRange n part
part_range n part s each range = record {
  x_low = λ x y live. range.x_low x y (each x y live);
  x_high = λ x y live. range.x_high x y (each x y live);
  y_low = λ x y live. range.y_low x y (each x y live);
  y_high = λ x y live. range.y_high x y (each x y live);
}

pub behind_range : (n : ℕ) (wall : ℤ) (s : Plane) → IsInRange n s → IsInRange n (behind wall s)
behind_range n wall s range = part_range n (behind wall s) s (λ x y live. (and_parts _ _ live).0) range

-- ---- as numbers are read

pub read_wall : (settings : Settings) → AreProper settings → to_z w64 (of_z w64 settings.wall) ≡ settings.wall
read_wall settings proper = let low = proper.wall.low in let high = proper.wall.high in omega (arith, ints)

pub read_lane : (lane j : ℤ) → Near lane j → to_z w64 (of_z w64 lane) ≡ lane
read_lane lane j near = let low = near.lane_low in let high = near.lane_high in omega (arith, ints)

pub read_index : (lane j : ℤ) → Near lane j → to_z w64 (of_z w64 j) ≡ j
read_index lane j near = let low = near.index_low in let high = near.index_high in omega (arith, ints)
