-- The laws of the order of islands.
use Rattle.std.specs.Prelude.{◌≡◌, ◌⊎◌, true, ℤ, ◌<ℤ◌}
use Rattle.std.proofs.Common.{ap, ◌∙◌, arith, inl, inr}
use Rattle.std.proofs.lemmas.Int.{ints}
use Rattle.std.specs.declared.cmp.Ordering.TheVariants.{Less, Greater}
use Rattle.std.specs.Ordering.{ordering_reverse}
use Rattle.life_cells.specs.Cells.{alive, cell_cmp}
use Rattle.life_cells.specs.OrderLaws.{cells_total}
use Rattle.life_cells.specs.declared.cell.Cell.{Cell}
use Rattle.life_islands.specs.declared.island.Island.{Island}
use Rattle.life_cells.specs.Firsts.{IsFirstLive}
use Rattle.life_cells.specs.FirstLaws.{one_first}
use Rattle.life_islands.specs.Order.{IsGreatestU, ComesBefore}
use Rattle.life_plane.specs.Plane.{Plane}

-- a plane has one greatest u
pub one_greatest_u : (s : Plane) (u v : ℤ) → IsGreatestU u s → IsGreatestU v s → u ≡ v
one_greatest_u s u v h k =
    let low = k.each h.there.0 h.there.1.0 in
    let high = h.each k.there.0 k.there.1.0 in
    let at = h.there.1.1 in
    let other = k.there.1.1 in
    omega (arith, ints)

-- a plane has one first cell
pub one_first_cell : (s : Plane) (a b : Cell) → IsFirstLive s a → IsFirstLive s b → a ≡ b
one_first_cell s a b h k = one_first (λ x y. s x y ≡ true) a b h k

pub not_both : (a b : Cell) → cell_cmp a b ≡ Less → cell_cmp b a ≡ Less → ⊥
not_both a b h k = let e : cell_cmp b a ≡ Greater = cells_total.antisymm b a ∙ ap ordering_reverse h in cc

-- of two islands not each comes before the other
pub one_comes_before : (a b : Island) → ComesBefore a b → ComesBefore b a → ⊥
one_comes_before a b h k =
    by (one_greatest_u (alive a.cells) h.u k.other h.greatest k.greatest_other) (one_greatest_u (alive b.cells) h.other k.u h.greatest_other k.greatest) h.before k.before
  where
    by : h.u ≡ k.other → h.other ≡ k.u → (h.other <ℤ h.u) ⊎ ((h.u ≡ h.other) × (cell_cmp a.first b.first ≡ Less)) → (k.other <ℤ k.u) ⊎ ((k.u ≡ k.other) × (cell_cmp b.first a.first ≡ Less)) → ⊥
    by e f (inl p) (inl q) = omega (arith, ints)
    by e f (inl p) (inr q) = let same = q.0 in omega (arith, ints)
    by e f (inr p) (inl q) = let same = p.0 in omega (arith, ints)
    by e f (inr p) (inr q) = not_both a.first b.first p.1 q.1

-- an island doesn't come before itself
pub not_before_itself : (a : Island) → ComesBefore a a → ⊥
not_before_itself a h = one_comes_before a a h h
