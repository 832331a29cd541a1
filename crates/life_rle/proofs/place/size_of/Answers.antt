use Rattle.rle_items.specs.NumberLaws.{digit_at_place}
use Rattle.life_rle.proofs.Placing.{size_more}
use Rattle.life_rle.proofs.place.size_of.Goals as goal

pub with_digit-size-requires-clause-digit : goal.with_digit-size-requires-clause-digit
with_digit-size-requires-clause-digit c = (digit_at_place c.args.digits.now c.loop-digit.digit-index c.requires c.loop-digit-test.true).0

pub with_digit-size-requires-clause-nine : goal.with_digit-size-requires-clause-nine
with_digit-size-requires-clause-nine c = (digit_at_place c.args.digits.now c.loop-digit.digit-index c.requires c.loop-digit-test.true).1

pub loop-digit-preserved : goal.loop-digit-preserved
loop-digit-preserved c = record {
  told = size_more c.args.digits.now c.loop-digit.digit-index c.loop-digit.size c.with_digit-size.result c.requires c.loop-digit-test.true c.loop-digit.invariant.told c.with_digit-size.ensures.near c.with_digit-size.ensures.far;
  small = c.with_digit-size.ensures.bound;
}
