use Rattle.std.proofs.Common.{◌∙◌, ap, arith}
use Rattle.std.proofs.lemmas.Int.{ints}
use Rattle.life_plane.specs.Tracks.{stream_glider}
use Rattle.stream_time.proofs.gliders.glider_at.Goals as goal

pub returns : goal.returns
returns c =
    let range = c.requires.settings.approach.range in
    let time = c.requires.time in
    c.glider_cells.ensures.cells ∙ ap stream_glider (omega (arith, ints))
