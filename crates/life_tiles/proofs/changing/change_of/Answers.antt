use Rattle.life_tiles.proofs.Bits.{no_bit, dark_none}
use Rattle.life_tiles.proofs.changing.change_of.Goals as goal

pub returns-then-columns-eq0-clause-rows : goal.returns-then-columns-eq0-clause-rows
returns-then-columns-eq0-clause-rows c = λ down h other. no_bit _ (λ k live. dark_none c.any_of-columns.result k c.if-columns-eq0.true (c.any_of-columns.ensures.all down k h.from h.to live))
