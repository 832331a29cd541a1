use Rattle.std.proofs.Common.{◌≡◌, ◌+◌, ◌*◌, ◌<◌, ◌∙◌, length, slice_index, arith}
use Rattle.std.proofs.lemmas.List.{get_or_default}
use Rattle.std.proofs.lemmas.Option.{slice_get_within}
use Rattle.life_tiles.proofs.Grown.{linked_tile}
use Rattle.life_tiles.proofs.growing.make_if.Goals as goal

pub returns-then-link-len-clause-there : goal.returns-then-link-len-clause-there
returns-then-link-len-clause-there c wanted =
    let tiled = c.requires.tiled in
    let few = tiled.room.few in
    let room = tiled.room.beside in
    let within = slice_get_within _ c.args.index c.args.place c.requires.at in
    let below = c.requires.direction in
    let short : 9 * c.args.index + c.args.direction < length c.args.tiles.now.beside.items = omega arith in
    let is : c.index-link.result.now ≡ slice_index c.args.tiles.now.beside.items (9 * c.args.index + c.args.direction) = c.index-link.ensures ∙ get_or_default _ _ _ 0 short in
    let less = c.if-link-len.true in
    linked_tile _ _ _ (tiled.links.each c.args.index c.args.direction c.args.place c.requires.at below) (omega (arith, c.len.ensures.len))
