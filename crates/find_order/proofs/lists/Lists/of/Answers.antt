use Rattle.std.proofs.Common.{◌≡◌, replicate, to_z, of_z, w64, FitsSigned, rules}
use Rattle.std.proofs.lemmas.Int.{to_z-of_z}
use Rattle.find_order.proofs.Listed.{first_is_listed, all_lists}
use Rattle.find_order.proofs.lists.Lists.of.Goals as goal

pub invariant_of-result : goal.invariant_of-result
invariant_of-result c =
    let same : c.in_ok-list.list.items ≡ replicate c.args.shortest (to_z w64 (of_z w64 c.args.range.low)) = search rules in
    let fits_low : FitsSigned w64 c.args.range.low = search rules in
    let fits_high : FitsSigned w64 c.args.range.high = search rules in
    first_is_listed c.args.range.low c.args.range.high _ _ _ c.args.shortest _ c.requires.order (to_z-of_z w64 _ fits_low) (to_z-of_z w64 _ fits_high) c.requires.some same

pub returns : goal.returns
returns c =
    let same : c.in_ok-list.list.items ≡ replicate c.args.shortest (to_z w64 (of_z w64 c.args.range.low)) = search rules in
    let fits_low : FitsSigned w64 c.args.range.low = search rules in
    let fits_high : FitsSigned w64 c.args.range.high = search rules in
    all_lists c.args.range.low c.args.range.high _ _ _ c.args.shortest _ c.requires.order (to_z-of_z w64 _ fits_low) (to_z-of_z w64 _ fits_high) same
