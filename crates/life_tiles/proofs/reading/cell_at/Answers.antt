use Rattle.std.proofs.Common.{◌∙◌}
use Rattle.life_tiles.proofs.Lists.{cast_is}
use Rattle.life_tiles.proofs.reading.cell_at.Goals as goal

pub returns : goal.returns
returns c =
    let near = c.requires.near in
    let x = cast_is c.args.place.column c.args.right near.left near.right c.requires.right in
    let y = cast_is c.args.place.row c.args.down near.top near.bottom c.requires.down in
    c.new.ensures ∙ (λ i. record { y = y i; x = x i })
