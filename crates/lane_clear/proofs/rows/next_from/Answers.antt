use Rattle.std.proofs.Common.{◌∙◌, arith}
use Rattle.std.proofs.lemmas.Int.{ints}
use Rattle.lane_clear.proofs.BoxRows.{looked_up}
use Rattle.life_plane.specs.LookUpLaws.{copied_item}
use Rattle.lane_clear.proofs.rows.next_from.Goals as goal

pub returns : goal.returns
returns c =
    let found = looked_up _ c.args.left _ c.args.row _ _ c.copied.result (omega (arith, ints)) (omega (arith, ints)) c.requires c.first_from.ensures (c.copied.ensures ∙ copied_item _ _ c.get.result c.get.ensures.lookup) in
    record { some = found.0; none = found.1 }
