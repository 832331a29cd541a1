use Rattle.std.proofs.Common.{◌-◌, length, pos, arith}
use Rattle.std.proofs.lemmas.Int.{ints}
use Rattle.book_parts.specs.Proper.{IsDelay}
use Rattle.life_plane.specs.ListLaws.{each_at}
use Rattle.find_turn.proofs.Tries.{last_at}
use Rattle.find_turn.proofs.tried.tried_numbers.Goals as goal

pub returns-clause-tried : goal.returns-clause-tried
returns-clause-tried c n =
    let ds = c.args.delays.now in
    let last = last_at ds (length ds - 1) (omega arith) in
    let here = each_at IsDelay ds c.requires.delays (length ds - 1) (pos 0) (omega arith) in
    let low = here.low in let high = here.high in
    let is = c.min.ensures in (
      λ t. let least = t.least in let most = t.most in let longest = t.longest in (omega (arith, ints), omega (arith, ints)),
      λ p. let a = p.0 in let b = p.1 in record { least = omega (arith, ints); most = omega (arith, ints); longest = omega (arith, ints) },
    )

pub returns-clause-most : goal.returns-clause-most
returns-clause-most c =
    let ds = c.args.delays.now in
    let last = last_at ds (length ds - 1) (omega arith) in
    let here = each_at IsDelay ds c.requires.delays (length ds - 1) (pos 0) (omega arith) in
    let low = here.low in let high = here.high in
    let is = c.min.ensures in
    omega (arith, ints)
