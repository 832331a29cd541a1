use Rattle.std.proofs.Common.{arith}
use Rattle.std.proofs.lemmas.Int.{ints, clamps}
use Rattle.life_target.proofs.target.side_of.Goals as goal

pub returns : goal.returns
returns c =
    let value = c.max.ensures.value in
    let columns = c.requires.columns in
    let left = c.requires.range.left_low in
    let right = c.requires.range.right_high in
    let top = c.requires.range.top_low in
    let bottom = c.requires.range.bottom_high in
    let low = c.requires.range.bottom_low in
    let high = c.requires.range.top_high in
    omega (arith, ints, clamps)
