-- Where a hand stands, by the cells of what is left.
use Rattle.std.proofs.Common.{◌≡◌, ◌≢◌, ℕ, ◌<◌, ◌≤◌, true, false, ℤ, ◌+ℤ◌, ◌-ℤ◌, List, [], ◌∷◌, length, Some, None, sym, ap, subst, ◌∙◌, arith}
use Rattle.std.specs.List.{slice_get}
use Rattle.std.proofs.lemmas.Int.{ints}
use Rattle.std.proofs.lemmas.Option.{slice_get_within}
use Rattle.life_plane.specs.Plane.{Plane}
use Rattle.life_cells.specs.declared.cell.Cell.{Cell}
use Rattle.life_cells.specs.Cells.{Cells, cell, cell_cmp, alive, in_order}
use Rattle.life_cells.specs.Moved.{moved}
use Rattle.life_cells.specs.MovedLaws.{cell_cmp-moved}
use Rattle.life_cells.specs.PlaceLaws.{each_live}
use Rattle.life_cells.specs.FirstLaws.{first_place}
use Rattle.life_cells.specs.Laws.{rising-in_order, alive-in_order, place_of_listed}
use Rattle.life_cells.specs.Boxes.{IsInRange, IsCellInRange}
use Rattle.book_parts.specs.Proper.{HasLife}
use Rattle.life_gliders.specs.Beyond.{IsPartOf}
use Rattle.recipe_hit.specs.LiveCellLaws.{live_there, live_in_range}
use Rattle.find_salvo.specs.Outcomes.{hand_at, StandsAt, StandsNowhere, IsFirstStand}

true≢false : true ≢ false
true≢false h = cc

there : (a b : ℤ) → (a +ℤ b) -ℤ b ≡ a
there a b = omega (arith, ints)

back : (a b : ℤ) → (a -ℤ b) +ℤ b ≡ a
back a b = omega (arith, ints)

-- ---- cells by their places

pub cell_in_range : (n : ℕ) (s : Cells) (k : ℕ) (c : Cell) → IsInRange n (alive s) → slice_get (in_order s) k ≡ Some c → IsCellInRange n c
cell_in_range n s k c range at_k = live_in_range n (alive s) c range (live_there s k c at_k)

-- a hand has a first cell
pub hand_lives : (s : Cells) → HasLife (alive s) → None ≡ slice_get (in_order s) 0 → ⊥
hand_lives s lives none =
    let there = place_of_listed (in_order s) lives.0 lives.1.0 (sym (ap (λ (q : Plane). q lives.0 lives.1.0) (alive-in_order s)) ∙ lives.1.1) in
    let within = slice_get_within (in_order s) there.0 _ there.1 in
    absurd (no_place (in_order s) there.0 within none)
  where
    no_place : (cs : List Cell) (k : ℕ) → k < length cs → None ≡ slice_get cs 0 → ⊥
    no_place [] k lt h = omega (arith, lt)
    no_place (c ∷ cs) k lt h = cc

-- ---- whether a hand at a place is a part of what is left

pub part_from_cells : (hand : Cells) (left : Plane) (place : Cell) (n : ℕ) → length (in_order hand) ≤ n →
    ((k : ℕ) (d : Cell) → k < n → slice_get (in_order hand) k ≡ Some d → left (d.x +ℤ place.x) (d.y +ℤ place.y) ≡ true) → IsPartOf (hand_at (alive hand) place) left
part_from_cells hand left place n short each = record {
  each = λ x y l. subst (λ b. left x b ≡ true) (back y place.y) (subst (λ a. left a ((y -ℤ place.y) +ℤ place.y) ≡ true) (back x place.x)
      (each_live hand (λ a b. left (a +ℤ place.x) (b +ℤ place.y) ≡ true) n short each (x -ℤ place.x) (y -ℤ place.y) l));
}

-- a cell of a hand that is a part lives there
pub part_lives : (hand left : Plane) (place : Cell) (x y : ℤ) → hand x y ≡ true → IsPartOf (hand_at hand place) left → left (x +ℤ place.x) (y +ℤ place.y) ≡ true
part_lives hand left place x y l part = part.each (x +ℤ place.x) (y +ℤ place.y) (subst (λ b. hand ((x +ℤ place.x) -ℤ place.x) b ≡ true) (sym (there y place.y)) (subst (λ a. hand a y ≡ true) (sym (there x place.x)) l))

pub not_part : (hand left : Plane) (place : Cell) (x y : ℤ) → hand x y ≡ true → left (x +ℤ place.x) (y +ℤ place.y) ≡ false → IsPartOf (hand_at hand place) left → ⊥
not_part hand left place x y l out part = true≢false (sym (part_lives hand left place x y l part) ∙ out)

-- ---- places by where a cell of the hand comes to

-- the place at which one cell comes to another
abbrev pub place_from : Cell → Cell → Cell
place_from first c = cell (c.x -ℤ first.x) (c.y -ℤ first.y)

-- a cell of the hand, moved to a place
abbrev reached : Cell → Cell → Cell
reached first place = moved first.x first.y place

place_from-reached : (first place : Cell) → place_from first (reached first place) ≡ place
place_from-reached first place = λ i. cell (there place.x first.x i) (there place.y first.y i)

reached-place_from : (first c : Cell) → reached first (place_from first c) ≡ c
reached-place_from first c = λ i. cell (back c.x first.x i) (back c.y first.y i)

swap : (a b : ℤ) → a +ℤ b ≡ b +ℤ a
swap a b = omega (arith, ints)

-- where the hand stands, a cell of it has come to a live one
stand_lives : (hand left : Plane) (first place : Cell) → hand first.x first.y ≡ true → StandsAt hand left place → left (reached first place).x (reached first place).y ≡ true
stand_lives hand left first place l stands =
    subst (λ b. left (place.x +ℤ first.x) b ≡ true) (swap first.y place.y) (subst (λ a. left a (first.y +ℤ place.y) ≡ true) (swap first.x place.x) (part_lives hand left place first.x first.y l stands.part))

-- what is tried so far: the hand stands at none of the places to which the first cells lead
abbrev pub TriedTo : Cells → Cells → Cell → ℕ → Type 0
TriedTo hand left first n = (k : ℕ) (d : Cell) → k < n → slice_get (in_order left) k ≡ Some d → StandsAt (alive hand) (alive left) (place_from first d) → ⊥

-- all were tried
pub stands_nowhere : (hand left : Cells) (first : Cell) (n : ℕ) → alive hand first.x first.y ≡ true → length (in_order left) ≤ n → TriedTo hand left first n → StandsNowhere (alive hand) (alive left)
stands_nowhere hand left first n l short tried place stands =
    let at = reached first place in
    each_live left (λ x y. StandsAt (alive hand) (alive left) (place_from first (cell x y)) → ⊥) n short tried at.x at.y (stand_lives (alive hand) (alive left) first place l stands)
    (subst (StandsAt (alive hand) (alive left)) (sym (place_from-reached first place)) stands)

-- the first of them
pub is_first_stand : (hand left : Cells) (first c : Cell) (i : ℕ) → alive hand first.x first.y ≡ true → slice_get (in_order left) i ≡ Some c → TriedTo hand left first i →
    StandsAt (alive hand) (alive left) (place_from first c) → IsFirstStand (alive hand) (alive left) (place_from first c)
is_first_stand hand left first c i l at_i tried stands = record {
  is = stands;
  none_before = λ x y other before.
      first_place (in_order left) (rising-in_order left) (λ a b. StandsAt (alive hand) (alive left) (place_from first (cell a b))) i c at_i tried
      (x +ℤ first.x) (y +ℤ first.y)
      (sym (ap (λ (q : Plane). q (x +ℤ first.x) (y +ℤ first.y)) (alive-in_order left)) ∙ stand_lives (alive hand) (alive left) first (cell x y) l other)
      (subst (StandsAt (alive hand) (alive left)) (sym (place_from-reached first (cell x y))) other)
      (ap (cell_cmp (reached first (cell x y))) (sym (reached-place_from first c)) ∙ cell_cmp-moved first.x first.y (cell x y) (place_from first c) ∙ before);
}
