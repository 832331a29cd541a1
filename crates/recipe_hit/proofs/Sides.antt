-- Cells seen from another side.
use Rattle.std.proofs.Common.{◌≡◌, Bool, true, false, ◌||◌, ℤ, neg_ℤ, List, [], ◌∷◌, map, refl, sym, ap, subst, ◌∙◌, arith}
use Rattle.std.proofs.lemmas.Int.{ints}
use Rattle.life_plane.specs.Plane.{Plane}
use Rattle.life_cells.specs.declared.cell.Cell.{Cell}
use Rattle.life_cells.specs.Cells.{Cells, cell, alive, in_order, from_list}
use Rattle.life_cells.specs.Listed.{listed, same_cell}
use Rattle.life_cells.specs.Laws.{alive-from_list, alive-in_order}
use Rattle.life_cells.specs.OrderLaws.{same_cell_is, same_cell-itself}
use Rattle.recipe_hit.specs.Endless.{mirrored_cell}

same_if : (p q : Bool) → (p ≡ true → q ≡ true) → (q ≡ true → p ≡ true) → p ≡ q
same_if true q to from = sym (to refl)
same_if false true to from = from refl
same_if false false to from = refl

module _ (f : Cell → Cell) (back : (c : Cell) → f (f c) ≡ c) where
  same_turned : (x y : ℤ) (c : Cell) → same_cell (cell x y) (f c) ≡ same_cell (f (cell x y)) c
  same_turned x y c = same_if _ _
      (λ h. subst (λ (d : Cell). same_cell d c ≡ true) (sym (back c) ∙ ap f (sym (same_cell_is (cell x y) (f c) h))) (same_cell-itself c))
      (λ h. subst (λ (d : Cell). same_cell (cell x y) d ≡ true) (sym (back (cell x y)) ∙ ap f (same_cell_is (f (cell x y)) c h)) (same_cell-itself (cell x y)))

  listed_turned : (cs : List Cell) (x y : ℤ) → listed (map f cs) x y ≡ listed cs (f (cell x y)).x (f (cell x y)).y
  listed_turned [] x y = refl
  listed_turned (c ∷ cs) x y = λ i. same_turned x y c i || listed_turned cs x y i

  -- a set of turned cells
  pub alive_turned : (s t : Cells) (items made : List Cell) → items ≡ in_order s → made ≡ map f items → t ≡ from_list made → (x y : ℤ) → alive t x y ≡ alive s (f (cell x y)).x (f (cell x y)).y
  alive_turned s t items made order is whole x y =
      ap (λ (p : Plane). p x y) (ap alive whole ∙ alive-from_list made ∙ ap listed (is ∙ ap (map f) order)) ∙ listed_turned (in_order s) x y
      ∙ ap (λ (p : Plane). p (f (cell x y)).x (f (cell x y)).y) (sym (alive-in_order s))

pub mirrored_back : (c : Cell) → mirrored_cell (mirrored_cell c) ≡ c
mirrored_back c = let e : neg_ℤ (neg_ℤ c.x) ≡ c.x = omega (arith, ints) in λ i. cell (e i) c.y
