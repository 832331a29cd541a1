use Rattle.std.proofs.Common.{◌+◌, slice_index, Fits, w64, rules}
use Rattle.life_tiles.proofs.Boxed.{has_cell}
use Rattle.life_tiles.proofs.bounding.first_live.Goals as goal

pub returns-then-rows-first-ne0-clause-lives : goal.returns-then-rows-first-ne0-clause-lives
returns-then-rows-first-ne0-clause-lives c below =
    let fits : Fits w64 (slice_index c.args.rows.now (c.args.first + c.loop-down.down)) = search rules in
    has_cell _ c.if-rows-first-ne0.true fits.fits
