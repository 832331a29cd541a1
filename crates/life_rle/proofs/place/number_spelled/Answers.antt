use Rattle.std.proofs.Common.{rules, ℤ, sym, subst}
use mir.Syntax.{w64}
use mir.Val.{SFits}
use Rattle.rle_items.specs.Numbers.{IsWhole}
use Rattle.life_rle.specs.Told.{TellsNumber}
use Rattle.std.proofs.lemmas.Int.{to_z-of_z}
use Rattle.life_rle.proofs.Placing.{told_minus, told_plain}
use Rattle.life_rle.proofs.place.number_spelled.Goals as goal

pub returns-in-Some-size_spelled-clause-some : goal.returns-in-Some-size_spelled-clause-some
returns-in-Some-size_spelled-clause-some c =
    let fits : SFits w64 c.minus.result = search rules in
    let P : ℤ → Type 0 = λ n. (z : ℤ) × (IsWhole c.args.bytes.now z × TellsNumber z n) in
    let told : P c.minus.result = subst P (sym c.minus.ensures) (told_minus c.args.bytes.now c.in-Some.digits.now c.in-Some-size_spelled.size c.in-Some.ensures.some c.in-Some-size_spelled.ensures.some.0 c.in-Some-size_spelled.ensures.some.1) in
    rw to_z-of_z told

pub returns-in-Some-size_spelled-2-clause-some : goal.returns-in-Some-size_spelled-2-clause-some
returns-in-Some-size_spelled-2-clause-some c =
    let fits : SFits w64 c.plus.result = search rules in
    let P : ℤ → Type 0 = λ n. (z : ℤ) × (IsWhole c.args.bytes.now z × TellsNumber z n) in
    let told : P c.plus.result = subst P (sym c.plus.ensures) (told_plain c.args.bytes.now c.in-Some-size_spelled-2.size c.in-Some-size_spelled-2.ensures.some.0 c.in-Some-size_spelled-2.ensures.some.1) in
    rw to_z-of_z told
