use Rattle.std.proofs.Common.{rules}
use mir.Syntax.{w64}
use mir.Val.{SFits}
use Rattle.std.proofs.lemmas.Int.{to_z-of_z}
use Rattle.life_cells.specs.Cells.{cell}
use Rattle.life_rle.proofs.Placing.{no_split, no_x, no_y, place_word_told}
use Rattle.life_rle.proofs.place.place_of.Goals as goal

pub returns-in_err-x-clause-none : goal.returns-in_err-x-clause-none
returns-in_err-x-clause-none c = rw c.from_residual-in_err-x.ensures (no_split c.args.word.now c.in_ok-numbers.numbers.now c.in_ok-numbers.ensures.some c.in_err-x.ensures.none)

pub returns-in_err-x-2-clause-none : goal.returns-in_err-x-2-clause-none
returns-in_err-x-2-clause-none c = rw c.from_residual-in_err-x-2.ensures (no_x c.args.word.now c.in_ok-numbers.numbers.now c.in_ok-x.x.now c.in_ok-x.y.now c.in_ok-numbers.ensures.some c.in_ok-x.ensures.some c.in_err-x-2.ensures.none)

pub returns-in_err-y-clause-none : goal.returns-in_err-y-clause-none
returns-in_err-y-clause-none c = rw c.from_residual-in_err-y.ensures (no_y c.args.word.now c.in_ok-numbers.numbers.now c.in_ok-x.x.now c.in_ok-x.y.now c.in_ok-numbers.ensures.some c.in_ok-x.ensures.some c.in_err-y.ensures.none)

pub returns-clause-some : goal.returns-clause-some
returns-clause-some c =
    let fits_x : SFits w64 c.in_ok-x-2.x = search rules in
    let fits_y : SFits w64 c.in_ok-y.y = search rules in
    rw (c.new.ensures, to_z-of_z w64 c.in_ok-x-2.x fits_x, to_z-of_z w64 c.in_ok-y.y fits_y)
    (place_word_told c.args.word.now c.in_ok-numbers.numbers.now c.in_ok-x.x.now c.in_ok-x.y.now c.in_ok-numbers.ensures.some c.in_ok-x.ensures.some (cell c.in_ok-x-2.x c.in_ok-y.y) c.in_ok-x-2.ensures.some c.in_ok-y.ensures.some)
