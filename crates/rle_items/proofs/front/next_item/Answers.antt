use Rattle.std.proofs.Common.{sym}
use Rattle.std.proofs.lemmas.Bool.{eqb-true}
use Rattle.std.proofs.lemmas.List.{nil_from_length}
use Rattle.rle_items.specs.Gaps.{gap_of}
use Rattle.rle_items.specs.SpellingLaws.{kind_of}
use Rattle.rle_items.proofs.Fronts.{end_there}
use Rattle.rle_items.proofs.front.next_item.Goals as goal

pub returns-in-None-2-clause-end : goal.returns-in-None-2-clause-end
returns-in-None-2-clause-end c =
    let found = c.tag_place-place.result in
    end_there (gap_of c.args.gaps) (kind_of c.args.gaps) c.args.rest.now found.from.now found.digits.now found.at_tag.now c.tag_place-place.ensures.place
    c.in-Some-split_first.byte.now c.in-Some-split_first.more.now c.in-Some-split_first.ensures.cases.0 c.if-byte-ne33.false (nil_from_length found.digits.now (eqb-true _ 0 (sym c.if-is_empty.ensures)))
