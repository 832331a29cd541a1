use Rattle.std.proofs.Common.{◌-ℤ◌, pos, refl, sym, subst, w64, to_z, of_z, arith}
use Rattle.std.proofs.lemmas.Int.{ints, to_z-of_z}
use Rattle.std.proofs.lemmas.Bool.{true≢false}
use Rattle.std.proofs.lemmas.Option.{slice_get-get_or}
use Rattle.life_plane.specs.Strips.{Each, VAtMost}
use Rattle.life_cells.specs.Cells.{alive, cell}
use Rattle.life_cells.specs.PlaceLaws.{live_at, each_more}
use Rattle.life_cells.specs.declared.cell.Cell.{Cell}
use Rattle.find_turn.proofs.Kept.{in_range_at, each_of_set}
use Rattle.find_turn.proofs.settled.is_parted.Goals as goal
use Rattle.find_turn.specs.declared.settled.TheConstants.{FLIGHT_MARGIN}

pub v_of-requires : goal.v_of-requires
v_of-requires c = in_range_at _ c.args.cells.now _ c.cells-cell-items.ensures.order c.loop-cell.cell-index _ c.loop-cell-test.true c.requires.range

pub loop-cell-preserved : goal.loop-cell-preserved
loop-cell-preserved c =
    let cs = c.cells-cell-items.result.now in
    each_more cs (λ (d : Cell). VAtMost (to_z w64 (of_z w64 c.args.limit) -ℤ FLIGHT_MARGIN) d.x d.y) c.loop-cell.cell-index _ (slice_get-get_or cs c.loop-cell.cell-index (cell (pos 0) (pos 0)) c.loop-cell-test.true) c.loop-cell.invariant
    (record { v = let near = c.v_of.ensures.near in let low = near.low in let high = near.high in omega (arith, ints, c.v_of.ensures.value) })

pub returns-then-limit-v_of : goal.returns-then-limit-v_of
returns-then-limit-v_of c = (
  λ no. absurd (true≢false (sym no)),
  λ each.
      let live = live_at c.args.cells.now c.cells-cell-items.result.now c.cells-cell-items.ensures.order c.loop-cell.cell-index (cell (pos 0) (pos 0)) c.loop-cell-test.true in
      let v = (each _ _ live).v in
      let near = c.v_of.ensures.near in
      let low = near.low in let high = near.high in
      let limit = c.requires.limit in
      let limit_low = limit.low in let limit_high = limit.high in
      absurd (omega (arith, ints, v, c.v_of.ensures.value)),
)

pub returns : goal.returns
returns c = (
  λ _. subst (λ z. Each (VAtMost (z -ℤ FLIGHT_MARGIN)) (alive c.args.cells.now)) (to_z-of_z w64 c.args.limit c.ranges.limit)
      (each_of_set c.args.cells.now c.cells-cell-items.result.now c.cells-cell-items.ensures.order (VAtMost (to_z w64 (of_z w64 c.args.limit) -ℤ FLIGHT_MARGIN)) c.loop-cell.cell-index c.loop-cell-test.false c.loop-cell.invariant),
  λ _. refl,
)
