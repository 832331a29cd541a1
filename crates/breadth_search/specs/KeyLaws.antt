-- Keys that compare as equal are the same.
use Rattle.std.proofs.Common.{◌≡◌, ◌&&◌, ◌<ℤ◌, true, ℤ, refl}
use Rattle.std.specs.Ordering.{int_eq, int_cmp, is_eq, MatchOrdering}
use Rattle.std.specs.declared.cmp.Ordering.{Ordering}
use Rattle.std.specs.declared.cmp.Ordering.TheVariants.{Less, Equal, Greater}
use Rattle.std.proofs.lemmas.Bool.{and_parts}
use Rattle.std.proofs.lemmas.Cmp.{int_ranked}
use Rattle.life_cells.specs.declared.cell.Cell.{Cell}

equal_by : (x y : ℤ) (o : Ordering) → MatchOrdering o (x <ℤ y) (x ≡ y) (y <ℤ x) → is_eq o ≡ true → x ≡ y
equal_by x y Less says h = cc
equal_by x y Equal says h = says
equal_by x y Greater says h = cc

pub same_int : (x y : ℤ) → int_eq x y ≡ true → x ≡ y
same_int x y h = equal_by x y (int_cmp x y) (int_ranked x y (int_cmp x y) refl) h

pub same_cell : (a b : Cell) → (int_eq a.y b.y && int_eq a.x b.x) ≡ true → a ≡ b
same_cell a b h =
    let parts = and_parts (int_eq a.y b.y) (int_eq a.x b.x) h in
    let rows = same_int a.y b.y parts.0 in
    let columns = same_int a.x b.x parts.1 in
    λ i. record { y = rows i; x = columns i }
