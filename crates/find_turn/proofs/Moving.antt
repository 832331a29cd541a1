-- Sets of which one is the other, moved along the diagonal.
use Rattle.std.proofs.Common.{◌≡◌, ℕ, ◌+◌, ◌<◌, ◌≤◌, ℤ, ◌+ℤ◌, ◌-ℤ◌, List, [], ◌∷◌, ◌++◌, length, get_or, take, map, sym, ap, ◌∙◌, arith}
use Rattle.std.specs.List.{All}
use Rattle.find_turn.proofs.Kept.{in_range_at}
use Rattle.std.proofs.lemmas.List.{take_more, take_all, map_more, get_or-map, length-map}
use Rattle.life_plane.specs.Plane.{shift, same_plane}
use Rattle.life_cells.specs.declared.cell.Cell.{Cell}
use Rattle.life_cells.specs.Boxes.{IsInRange, IsCellInRange}
use Rattle.life_cells.specs.Cells.{Cells, alive, cell, in_order}
use Rattle.life_cells.specs.Laws.{alive-in_order, alive-in_order_at, rising-in_order, same_rising, place_of_listed}
use Rattle.life_cells.specs.Listed.{listed}
use Rattle.life_cells.specs.Moved.{moved}
use Rattle.life_cells.specs.MovedLaws.{listed-moved, rising-moved}
use Rattle.book_parts.specs.Proper.{HasLife}
use Rattle.std.proofs.lemmas.Option.{slice_get_within}

-- ---- lists

-- a list that is another, moved, place by place
pub moved_at : (from to : List Cell) (a : ℤ) (i : ℕ) (y z : Cell) → to ≡ map (moved a a) from → i < length from → get_or to i y ≡ moved a a (get_or from i z)
moved_at from to a i y z is lt = ap (λ cs. get_or cs i y) is ∙ get_or-map (moved a a) from i z y lt

-- one cell more
pub moved_more : (from to : List Cell) (a : ℤ) (i : ℕ) (z : Cell) → i < length from → i < length to → take i to ≡ map (moved a a) (take i from) → get_or to i z ≡ moved a a (get_or from i z) →
    take (i + 1) to ≡ map (moved a a) (take (i + 1) from)
moved_more from to a i z lt_from lt_to before here =
    take_more to i z lt_to ∙ (λ k. before k ++ here k ∷ []) ∙ sym (map_more (moved a a) from i z lt_from)

pub moved_all : (from to : List Cell) (a : ℤ) (n : ℕ) → length from ≤ n → length to ≤ n → take n to ≡ map (moved a a) (take n from) → to ≡ map (moved a a) from
moved_all from to a n long_from long_to h = sym (take_all n to long_to) ∙ h ∙ ap (map (moved a a)) (take_all n from long_from)

-- ---- sets

-- the cells in order of a set that is another, moved, are those of the other, moved
pub order_moves : (s t : Cells) (a : ℤ) → alive t ≡ shift a a (alive s) → in_order t ≡ map (moved a a) (in_order s)
order_moves s t a is = same_rising (in_order t) (map (moved a a) (in_order s)) (rising-in_order t) (rising-moved a a (in_order s) (rising-in_order s))
    (sym (alive-in_order t) ∙ is ∙ same_plane _ _ (λ x y. alive-in_order_at s (x -ℤ a) (y -ℤ a) ∙ sym (listed-moved a a (in_order s) x y)))

-- and the other way
pub set_moves : (s t : Cells) (a : ℤ) → in_order t ≡ map (moved a a) (in_order s) → alive t ≡ shift a a (alive s)
set_moves s t a is = same_plane _ _ (λ x y.
    alive-in_order_at t x y ∙ ap (λ cs. listed cs x y) is ∙ listed-moved a a (in_order s) x y ∙ sym (alive-in_order_at s (x -ℤ a) (y -ℤ a)))

-- a set that lives has a first cell
pub some_cell : (s : Cells) (cs : List Cell) → cs ≡ in_order s → HasLife (alive s) → 0 < length cs
some_cell s cs order lives =
    let there = place_of_listed cs lives.0 lives.1.0 (ap (λ l. listed l lives.0 lives.1.0) order ∙ sym (alive-in_order_at s lives.0 lives.1.0) ∙ lives.1.1) in
    let within = slice_get_within cs there.0 (cell lives.0 lives.1.0) there.1 in
    omega arith

-- cells of a list in order are in range where those of its set are
pub all_in_range : (n : ℕ) (s : Cells) (cs : List Cell) → cs ≡ in_order s → IsInRange n (alive s) → All (IsCellInRange n) cs
all_in_range n s cs order range k d lt = in_range_at n s cs order k d lt range

-- how far the first cell is moved is how far all are
pub first_advance : (from to : List Cell) (a : ℤ) (y z : Cell) → 0 < length from → to ≡ map (moved a a) from → (get_or to 0 y).y ≡ (get_or from 0 z).y +ℤ a
first_advance from to a y z some is = ap (λ (c : Cell). c.y) (moved_at from to a 0 y z is some)

-- as many cells
pub as_many : (s t : Cells) (from to : List Cell) (a : ℤ) → from ≡ in_order s → to ≡ in_order t → alive t ≡ shift a a (alive s) → length from ≡ length to
as_many s t from to a order_from order_to is = sym (ap length (order_to ∙ order_moves s t a is ∙ ap (map (moved a a)) (sym order_from)) ∙ length-map from (moved a a))

-- where the lists are moved the sets are
pub lists_move : (s t : Cells) (from to : List Cell) (a : ℤ) → from ≡ in_order s → to ≡ in_order t → alive t ≡ shift a a (alive s) → to ≡ map (moved a a) from
lists_move s t from to a order_from order_to is = order_to ∙ order_moves s t a is ∙ ap (map (moved a a)) (sym order_from)

-- and the other way
pub sets_move : (s t : Cells) (from to : List Cell) (a : ℤ) → from ≡ in_order s → to ≡ in_order t → to ≡ map (moved a a) from → alive t ≡ shift a a (alive s)
sets_move s t from to a order_from order_to is = set_moves s t a (sym order_to ∙ is ∙ ap (map (moved a a)) order_from)
