-- How a hit begins.
use Rattle.std.proofs.Common.{◌≡◌, ◌^◌, ℤ, pos, neg_ℤ, ◌*ℤ◌, ◌≤ℤ◌, ap, sym, subst, ◌∙◌, arith}
use Rattle.std.proofs.lemmas.Int.{ints}
use Rattle.std.proofs.Math.Bool.{or_self_left}
use Rattle.life_plane.specs.Plane.{Plane, union, same_plane}
use Rattle.life_plane.specs.Salvo.{salvo_glider}
use Rattle.life_plane.specs.SalvoLaws.{salvo_range}
use Rattle.life_cells.specs.Boxes.{IsInRange, IsLeastBox}
use Rattle.life_cells.specs.BoxLaws.{range_union, range_wider}
use Rattle.life_cells.specs.declared.bounds.Bounds.{Bounds}

-- what is joined twice is joined
pub union_again : (s t : Plane) → union s (union s t) ≡ union s t
union_again s t = same_plane _ _ (λ x y. or_self_left (s x y) (t x y))

pub least_with_glider : (box : Bounds) (s t both : Plane) → both ≡ union s t → IsLeastBox box (union s both) → IsLeastBox box both
least_with_glider box s t both is h = subst (IsLeastBox box) (ap (union s) is ∙ union_again s t ∙ sym is) h

-- where a glider at the whole of a quarter lies
pub glider_in_range : (lane quarter : ℤ) → neg_ℤ (pos (2 ^ 41)) ≤ℤ lane → lane ≤ℤ pos (2 ^ 41) → neg_ℤ (pos (2 ^ 42)) ≤ℤ quarter → quarter ≤ℤ pos (2 ^ 42) →
    IsInRange (2 ^ 44) (salvo_glider lane (pos 4 *ℤ quarter))
glider_in_range lane quarter a b c d = record {
  x_low = λ x y l. let r = salvo_range lane (pos 4 *ℤ quarter) x y l in let p = r.behind in let q = r.ahead in let v = r.low in let w = r.high in omega (arith, ints);
  x_high = λ x y l. let r = salvo_range lane (pos 4 *ℤ quarter) x y l in let p = r.behind in let q = r.ahead in let v = r.low in let w = r.high in omega (arith, ints);
  y_low = λ x y l. let r = salvo_range lane (pos 4 *ℤ quarter) x y l in let p = r.behind in let q = r.ahead in let v = r.low in let w = r.high in omega (arith, ints);
  y_high = λ x y l. let r = salvo_range lane (pos 4 *ℤ quarter) x y l in let p = r.behind in let q = r.ahead in let v = r.low in let w = r.high in omega (arith, ints);
}

pub start_in_range : (lane quarter kept stored : ℤ) (struck start : Plane) → neg_ℤ (pos (2 ^ 41)) ≤ℤ lane → lane ≤ℤ pos (2 ^ 41) → neg_ℤ (pos (2 ^ 42)) ≤ℤ quarter → quarter ≤ℤ pos (2 ^ 42) →
    IsInRange (2 ^ 40) struck → kept ≡ lane → stored ≡ quarter → start ≡ union struck (salvo_glider kept (pos 4 *ℤ stored)) → IsInRange (2 ^ 44) start
start_in_range lane quarter kept stored struck start a b c d h on at is =
    let now : start ≡ union struck (salvo_glider lane (pos 4 *ℤ quarter)) = is ∙ (λ i. union struck (salvo_glider (on i) (pos 4 *ℤ at i))) in
    subst (IsInRange (2 ^ 44)) (sym now) (range_union (2 ^ 44) struck (salvo_glider lane (pos 4 *ℤ quarter)) (range_wider (2 ^ 40) (2 ^ 44) struck h (omega arith)) (glider_in_range lane quarter a b c d))
