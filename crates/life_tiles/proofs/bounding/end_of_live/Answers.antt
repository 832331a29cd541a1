use Rattle.std.proofs.Common.{◌≡◌, ◌+◌, ◌-◌, slice_index, Fits, w64, rules, subst, arith}
use Rattle.life_tiles.specs.LiveRows.{HasCell}
use Rattle.life_tiles.proofs.Boxed.{has_cell}
use Rattle.life_tiles.proofs.bounding.end_of_live.Goals as goal

pub returns-then-rows-first-ne0-clause-lives : goal.returns-then-rows-first-ne0-clause-lives
returns-then-rows-first-ne0-clause-lives c down is =
    let here : c.loop-down.down - 1 ≡ down = omega arith in
    let fits : Fits w64 (slice_index c.args.rows.now (c.args.first + (c.loop-down.down - 1))) = search rules in
    subst (λ n. HasCell (slice_index c.args.rows.now (c.args.first + n))) here (has_cell _ c.if-rows-first-ne0.true fits.fits)
