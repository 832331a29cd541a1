use Rattle.std.proofs.Common.{◌≡◌, ◌+◌, ◌-◌, ◌*◌, ◌<◌, suc, slice_index, sym, ap, ◌∙◌, arith}
use Rattle.life_tiles.specs.Rows.{word_about}
use Rattle.life_tiles.proofs.Rowed.{above_word, below_word, own_word}
use Rattle.life_tiles.proofs.tile_step.word_of.Goals as goal

pub returns-then-at-eq0 : goal.returns-then-at-eq0
returns-then-at-eq0 c = sym (ap (word_about c.args.rows.now c.args.above c.args.here c.args.below) c.if-at-eq0.true ∙ above_word c.args.rows.now c.args.above c.args.here c.args.below)

pub returns-then-at-eq65 : goal.returns-then-at-eq65
returns-then-at-eq65 c = sym (ap (word_about c.args.rows.now c.args.above c.args.here c.args.below) c.if-at-eq65.true ∙ below_word c.args.rows.now c.args.above c.args.here c.args.below)

pub returns : goal.returns
returns c =
    let not_first = c.if-at-eq0.false in
    let not_last = c.if-at-eq65.false in
    let at : c.args.at ≡ suc (c.args.at - 1) = omega arith in
    let below : c.args.at - 1 < 64 = omega arith in
    let sum : 64 * c.args.here + (c.args.at - 1) ≡ 64 * c.args.here + c.args.at - 1 = omega arith in
    sym (ap (word_about c.args.rows.now c.args.above c.args.here c.args.below) at ∙ own_word c.args.rows.now c.args.above c.args.here c.args.below (c.args.at - 1) below ∙ ap (slice_index c.args.rows.now) sum)
