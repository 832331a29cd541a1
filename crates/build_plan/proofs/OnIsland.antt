-- A salvo's product on an island, where the product is one island.
use Rattle.std.specs.Prelude.{◌≡◌, ℕ, ◌^◌, ℤ, pos, neg_ℤ, ◌+ℤ◌, ◌-ℤ◌, true, List, [], ◌∷◌}
use Rattle.std.specs.List.{AllByRecursion}
use Rattle.std.proofs.Common.{refl, sym, ap, subst, ◌∙◌, arith, inl, inr}
use Rattle.std.proofs.lemmas.Int.{ints}
use Rattle.life_plane.specs.Plane.{Plane, nothing, shift, same_plane}
use Rattle.life_cells.specs.Cells.{Cells, alive, empty, cell}
use Rattle.life_cells.specs.Laws.{alive-empty}
use Rattle.life_cells.specs.Boxes.{IsInRange, IsCellInRange}
use Rattle.life_cells.specs.declared.cell.Cell.{Cell}
use Rattle.life_cells.specs.Firsts.{IsFirstLive}
use Rattle.life_cells.specs.Moved.{moved}
use Rattle.life_islands.specs.Islands.{IsIsland, IsNoted}
use Rattle.life_islands.specs.IslandLaws.{sharing_islands, same_noted}
use Rattle.life_islands.specs.Joined.{Lives}
use Rattle.life_islands.specs.Order.{ComesBefore, AreInOrder}
use Rattle.life_islands.specs.OrderLaws.{not_before_itself}
use Rattle.life_islands.specs.Shapes.{IsTopLeft, IsShapeOf}
use Rattle.life_islands.specs.ShapeLaws.{one_shape, shape_moves, moved_forth}
use Rattle.life_islands.specs.declared.island.Island.{Island}
use Rattle.book_parts.specs.Limits.{IsPlaced}
use Rattle.recipe_hit.specs.Sound.{IsWhole}
use Rattle.recipe_book.specs.Entries.{AreThose}
use Rattle.build_plan.specs.Fits.{Fits, IsOutside, AreLeftAfter}
use Rattle.life_islands.specs.MovedIslandLaws.{first_moves}
use Rattle.build_plan.proofs.OneTaken.{heads_same}

-- moved to one place and less another
twice_shifted : (s : Plane) (a b : Cell) → shift (a.x -ℤ b.x) (a.y -ℤ b.y) (shift b.x b.y s) ≡ shift a.x a.y s
twice_shifted s a b = same_plane _ _ (λ x y. let f : (z c d : ℤ) → (z -ℤ (c -ℤ d)) -ℤ d ≡ z -ℤ c = λ z c d. omega (arith, ints) in rw (f x a.x b.x, f y a.y b.y) refl)

-- the product is the shape, moved to some place
pub record IsSomewhere (product shape : Plane) : Type 0 where
  pub place : Cell
  pub is : IsShapeOf product shape place

-- a product of an island's shape, put on the island
pub put_on : (product island shape shown : Plane) (corner at : Cell) (place : Cell) → IsShapeOf island shape corner → IsShapeOf product shown at → IsSomewhere product shape → place ≡ cell (corner.x -ℤ at.x) (corner.y -ℤ at.y) →
    shift place.x place.y product ≡ island
put_on product island shape shown corner at place is shown_is builds place_is =
    let same = one_shape product shown shape at builds.place shown_is builds.is in
    let product_is : product ≡ shift at.x at.y shape = builds.is.moved ∙ (λ i. shift (sym same.1 i).x (sym same.1 i).y shape) in
    (λ i. shift (place_is i).x (place_is i).y (product_is i)) ∙ twice_shifted shape corner at ∙ sym is.moved

-- what a least box holds in a range has its top left there
pub top_left_small : (n : ℕ) (s : Plane) (corner : Cell) → IsInRange n s → IsTopLeft corner s → IsCellInRange n corner
top_left_small n s corner range h =
    let there = h.least.lives in
    let here = h.least.holds.each there.0 there.1.0 there.1.1 in
    let x_low = range.x_low there.0 there.1.0 there.1.1 in
    let x_high = range.x_high there.0 there.1.0 there.1.1 in
    let y_low = range.y_low there.0 there.1.0 there.1.1 in
    let y_high = range.y_high there.0 there.1.0 there.1.1 in
    let within = h.least.least (record { left = neg_ℤ (pos n); top = neg_ℤ (pos n); right = pos n; bottom = pos n })
    (record { each = λ x y live. record { right_of_left = range.x_low x y live; below_top = range.y_low x y live; left_of_right = range.x_high x y live; above_bottom = range.y_high x y live } }) in
    let left = h.left in let top = h.top in
    let right_of_left = here.right_of_left in let below_top = here.below_top in
    let low = within.left in let high = within.top in
    record { x_low = omega (arith, ints); x_high = omega (arith, ints); y_low = omega (arith, ints); y_high = omega (arith, ints) }

-- what a book may place
pub placed_in_range : (s : Plane) → IsPlaced s → IsInRange (2 ^ 40) s
placed_in_range s h = record {
  x_low = λ x y live. let i = h.x x y live in omega (arith, ints);
  x_high = λ x y live. let i = h.x x y live in omega (arith, ints);
  y_low = λ x y live. let i = h.y x y live in omega (arith, ints);
  y_high = λ x y live. let i = h.y x y live in omega (arith, ints);
}

pub less_in_range : (a b : Cell) → IsCellInRange (2 ^ 40) a → IsCellInRange (2 ^ 40) b → IsCellInRange (2 ^ 41) (cell (a.x -ℤ b.x) (a.y -ℤ b.y))
less_in_range a b h k = record { x_low = omega (arith, ints); x_high = omega (arith, ints); y_low = omega (arith, ints); y_high = omega (arith, ints) }

-- no cell has no shape
pub no_shape : (cells : Cells) (shape : Plane) (place : Cell) → cells ≡ empty → IsShapeOf (alive cells) shape place → ⊥
no_shape cells shape place none is =
    let there = is.top_left.least.lives in
    let lives : nothing there.0 there.1.0 ≡ true = subst (λ (p : Plane). p there.0 there.1.0 ≡ true) (ap alive none ∙ alive-empty) there.1.1 in
    cc

-- ---- a product that is one island

-- it fits where it is put on the first island left
pub fits_there : (s product : Plane) (wanted : Island) (others : List Island) (cells : Cells) (place : Cell) → IsNoted s wanted → alive cells ≡ product → IsWhole product → shift place.x place.y product ≡ alive wanted.cells →
    Fits (wanted ∷ others) product place
fits_there s product wanted others cells place noted cells_are whole on = by whole
  where
    back : Cell
    back = moved (neg_ℤ place.x) (neg_ℤ place.y) wanted.first

    unmoved : shift (neg_ℤ place.x) (neg_ℤ place.y) (alive wanted.cells) ≡ product
    unmoved = ap (shift (neg_ℤ place.x) (neg_ℤ place.y)) (sym on) ∙ moved_forth place.x place.y product

    first : IsFirstLive product back
    first = subst (λ (p : Plane). IsFirstLive p back) unmoved (first_moves (neg_ℤ place.x) (neg_ℤ place.y) (alive wanted.cells) wanted.first noted.first)

    own : Island
    own = record { cells = cells; first = back }

    by : IsWhole product → Fits (wanted ∷ others) product place
    by (inl none) = absurd (let lives : nothing back.x back.y ≡ true = subst (λ (p : Plane). Lives p back) none first.is in cc)
    by (inr one) = record {
      wanted = wanted;
      others = others;
      left_is = refl;
      first = own;
      more = [];
      islands_are = record {
        each = (record { is = subst (IsIsland product) (sym cells_are) one; first = subst (λ (p : Plane). IsFirstLive p back) (sym cells_are) first }, tt);
        all = λ c lives. inl (subst (λ (p : Plane). Lives p c) (sym cells_are) lives);
        in_order = (tt, tt);
      };
      first_is = ap (shift place.x place.y) cells_are ∙ on;
      each = (inl (sym (ap (shift place.x place.y) cells_are ∙ on)), tt);
    }

-- its first island is all of it
pub one_of_whole : (product : Plane) (left : List Island) (place : Cell) (f : Fits left product place) → IsWhole product → alive f.first.cells ≡ product
one_of_whole product left place f (inl none) =
    let lives = f.islands_are.each.0.is.within f.first.first f.islands_are.each.0.first.is in
    absurd (let dead : nothing f.first.first.x f.first.first.y ≡ true = subst (λ (p : Plane). Lives p f.first.first) none lives in cc)
one_of_whole product left place f (inr one) =
    let noted = f.islands_are.each.0 in
    sharing_islands product (alive f.first.cells) product noted.is one f.first.first noted.first.is (noted.is.within f.first.first noted.first.is)

-- what fits is put on the first island left
pub fits_on : (product : Plane) (wanted : Island) (others : List Island) (place : Cell) → Fits (wanted ∷ others) product place → IsWhole product → shift place.x place.y product ≡ alive wanted.cells
fits_on product wanted others place f whole =
    ap (shift place.x place.y) (sym (one_of_whole product (wanted ∷ others) place f whole)) ∙ f.first_is ∙ ap (λ (i : Island). alive i.cells) (sym (heads_same wanted f.wanted others f.others f.left_is))

-- and has its shape
pub fits_shape : (product shape : Plane) (wanted : Island) (others : List Island) (place corner : Cell) → Fits (wanted ∷ others) product place → IsWhole product → IsShapeOf (alive wanted.cells) shape corner → IsSomewhere product shape
fits_shape product shape wanted others place corner f whole is =
    let on = fits_on product wanted others place f whole in
    let back : shift (neg_ℤ place.x) (neg_ℤ place.y) (alive wanted.cells) ≡ product = ap (shift (neg_ℤ place.x) (neg_ℤ place.y)) (sym on) ∙ moved_forth place.x place.y product in
    record {
      place = cell (corner.x +ℤ neg_ℤ place.x) (corner.y +ℤ neg_ℤ place.y);
      is = subst (λ (p : Plane). IsShapeOf p shape (cell (corner.x +ℤ neg_ℤ place.x) (corner.y +ℤ neg_ℤ place.y))) back (shape_moves (neg_ℤ place.x) (neg_ℤ place.y) (alive wanted.cells) shape corner is);
    }

-- ---- the islands left after the first is built

-- the later ones are outside of an island that comes before each of them
all_outside : (s : Plane) (wanted : Island) (others : List Island) → IsNoted s wanted → AllByRecursion (IsNoted s) others → AllByRecursion (ComesBefore wanted) others → AreThose (IsOutside (alive wanted.cells)) others others
all_outside s wanted [] noted each before = refl
all_outside s wanted (island ∷ others) noted each before =
    inl (
      λ c here there.
          let same = same_noted s wanted island c noted each.0 there here in
          not_before_itself island (subst (λ (w : Island). ComesBefore w island) same before.0),
      (others, (refl, all_outside s wanted others noted each.1 before.1)),
    )

pub rest_left : (s : Plane) (wanted : Island) (others : List Island) (built : Plane) → AllByRecursion (IsNoted s) (wanted ∷ others) → AreInOrder (wanted ∷ others) → built ≡ alive wanted.cells → AreLeftAfter (wanted ∷ others) built others
rest_left s wanted others built each order is =
    subst (λ (p : Plane). AreThose (IsOutside p) (wanted ∷ others) others) (sym is)
    (inr (λ outside. outside wanted.first each.0.first.is each.0.first.is, all_outside s wanted others each.0 each.1 order.0))
