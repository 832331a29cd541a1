use Rattle.std.proofs.Common.{inl, inr, sym}
use Rattle.std.proofs.lemmas.Bool.{eqb-true}
use Rattle.life_rle.proofs.Lined.{some_of_false}
use Rattle.life_rle.proofs.Placing.{no_digits_spell}
use Rattle.life_rle.proofs.place.size_spelled.Goals as goal

pub returns-then-is_empty-clause-none : goal.returns-then-is_empty-clause-none
returns-then-is_empty-clause-none c = no_digits_spell c.args.bytes.now c.split_digits.result.0.now c.split_digits.result.1.now c.split_digits.ensures (inl (eqb-true _ 0 (sym c.if-is_empty.ensures)))

pub returns-else-is_empty-2-clause-none : goal.returns-else-is_empty-2-clause-none
returns-else-is_empty-2-clause-none c = no_digits_spell c.args.bytes.now c.split_digits.result.0.now c.split_digits.result.1.now c.split_digits.ensures (inr (some_of_false c.split_digits.result.1.now c.if-is_empty-2.ensures))
