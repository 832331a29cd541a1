use Rattle.std.proofs.Common.{◌≡◌, ◌+◌, ◌-◌, suc, ◌∙◌, arith}
use Rattle.life_tiles.specs.Rows.{row_about}
use Rattle.life_tiles.proofs.Rowed.{next_along, fills_one, fills_both, inner_row}
use Rattle.life_tiles.proofs.tile_step.fill_inner.Goals as goal

pub loop-down-preserved : goal.loop-down-preserved
loop-down-preserved c =
    let rows = c.args.rows.now in
    let about = c.args.about.now in
    let i = c.loop-down.down in
    let from = c.loop-down.auto.down in
    let above : c.loop-down.down ≡ suc (c.loop-down.down - 1) = omega arith in
    let below : c.loop-down.down + 2 ≡ suc (c.loop-down.down + 1) = omega arith in
    let next = next_along _ (row_about rows about c.loop-down.down) _ (row_about rows about (c.loop-down.down + 1)) _ (row_about rows about (c.loop-down.down + 2)) c.next_word-word.result
    (c.row_at.ensures ∙ inner_row rows about c.loop-down.down (c.loop-down.down - 1) above (omega arith))
    (c.row_at-in-loop-down.ensures ∙ inner_row rows about (c.loop-down.down + 1) c.loop-down.down (omega arith) (omega arith))
    (c.row_at-in-loop-down-2.ensures ∙ inner_row rows about (c.loop-down.down + 2) (c.loop-down.down + 1) below (omega arith)) c.next_word-word.ensures in
    let long = c.loop-down.invariant.long in
    let room = c.requires.about.room in
    fills_both rows about c.args.next.now c.loop-down.next _ c.args.changes.now c.loop-down.changes _ c.args.span.from c.loop-down.down (c.loop-down.down + 1) from (omega arith) c.loop-down.invariant
    (fills_one rows about c.loop-down.next c.loop-down.changes c.loop-down.down c.next_word-word.result (omega arith) (omega (arith, c.loop-down.auto.next)) (omega (arith, c.told-changes)) next)
