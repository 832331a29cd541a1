use Rattle.std.proofs.Common.{◌≡◌, ◌<ℤ◌, ◌≤ℤ◌, ℤ, arith, refl, w64, to_z, of_z, subst}
use Rattle.std.proofs.lemmas.Int.{ints}
use Rattle.life_plane.specs.Strips.{Each}
use Rattle.life_cells.specs.Listed.{listed}
use Rattle.lane_clear.specs.Bare.{IsBefore, IsRowAfter}
use Rattle.lane_clear.proofs.BoxRows.{next_there, none_after, none_at_all, none_below, none_so_far, goes_down, fewer_rows, last_row}
use Rattle.lane_clear.specs.BaseLaws.{not_both}
use Rattle.lane_clear.proofs.rows.is_bare.Goals as goal

pub returns-in_default : goal.returns-in_default
returns-in_default c =
    let left : to_z w64 (of_z w64 c.args.bounds.left) ≡ c.args.bounds.left = omega (arith, ints) in
    (λ _. none_after _ _ _ c.rows.invariant (subst (λ (l : ℤ). Each (IsBefore l (to_z w64 c.rows.row-bits)) (listed c.args.cells.now)) left c.in_default.ensures.none), λ _. refl)

pub returns-then-bounds-cell : goal.returns-then-bounds-cell
returns-then-bounds-cell c =
    let below : c.args.bounds.bottom <ℤ c.in-Some.cell.y = omega (arith, ints) in
    (λ _. none_below _ _ _ _ c.rows.invariant (next_there _ _ _ _ _ (omega (arith, ints)) c.in-Some.ensures.some) below, λ _. refl)

pub returns-then-has_cell : goal.returns-then-has_cell
returns-then-has_cell c = (λ no. cc, λ bare. absurd (bare _ _ c.in-Some.ensures.some.lives (c.has_cell.ensures.0 c.if-has_cell.true)))

pub rows-smaller : goal.rows-smaller
rows-smaller c =
    let low : c.in-Some.cell.y ≤ℤ c.args.bounds.bottom = omega (arith, ints) in
    let is : c.next_row-row.result ≡ to_z w64 (of_z w64 c.next_row-row.result) = omega (arith, ints) in
    let after = subst (IsRowAfter c.args.bounds c.in-Some.cell) is c.next_row-row.ensures in
    fewer_rows c.args.bounds (to_z w64 c.rows.row-bits) (to_z w64 (of_z w64 c.next_row-row.result))
    (goes_down _ _ _ _ _ c.rows.invariant (next_there _ _ _ _ _ (omega (arith, ints)) c.in-Some.ensures.some) low (λ i. not_both c.if-has_cell.false (c.has_cell.ensures.1 i)) after) (last_row c.args.bounds c.in-Some.cell _ low after)

pub rows-preserved : goal.rows-preserved
rows-preserved c =
    let is : c.next_row-row.result ≡ to_z w64 (of_z w64 c.next_row-row.result) = omega (arith, ints) in
    none_so_far _ _ _ _ _ c.rows.invariant (next_there _ _ _ _ _ (omega (arith, ints)) c.in-Some.ensures.some) (subst (IsRowAfter c.args.bounds c.in-Some.cell) is c.next_row-row.ensures)

pub returns : goal.returns
returns c =
    let past : c.args.bounds.bottom <ℤ to_z w64 c.rows.row-bits = omega (arith, ints) in
    (λ _. none_at_all _ _ _ c.rows.invariant past, λ _. refl)
