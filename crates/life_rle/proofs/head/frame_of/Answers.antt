-- The box of a set in the range has sides of at most 2^59 + 1.
use Rattle.std.proofs.Common.{◌≡◌, ◌∙◌, ap, refl, inl, inr, arith, rules, w64, to_z, of_z}
use Rattle.std.proofs.lemmas.Int.{ints}
use Rattle.life_cells.specs.declared.cell.Cell.{Cell}
use Rattle.life_cells.specs.Cells.{alive}
use Rattle.life_cells.specs.Laws.{alive-empty}
use Rattle.life_rle.proofs.Framing.{near_box}
use Rattle.life_rle.proofs.head.frame_of.Goals as goal

pub overflow_sub-result : goal.overflow_sub-result
overflow_sub-result c =
    let n = near_box c.in-Some.bounds (alive c.args.cells.now) c.in-Some.ensures.some c.requires in
    let a = n.left in let b = n.right in let d = n.across in
    omega (arith, ints)

pub overflow_cast-result : goal.overflow_cast-result
overflow_cast-result c =
    let n = near_box c.in-Some.bounds (alive c.args.cells.now) c.in-Some.ensures.some c.requires in
    let a = n.left in let b = n.right in let d = n.across in
    search (rules, arith, ints)

pub overflow_sub-result-in-Some : goal.overflow_sub-result-in-Some
overflow_sub-result-in-Some c =
    let n = near_box c.in-Some.bounds (alive c.args.cells.now) c.in-Some.ensures.some c.requires in
    let a = n.top in let b = n.bottom in let d = n.down in
    omega (arith, ints)

pub overflow_cast-result-in-Some : goal.overflow_cast-result-in-Some
overflow_cast-result-in-Some c =
    let n = near_box c.in-Some.bounds (alive c.args.cells.now) c.in-Some.ensures.some c.requires in
    let a = n.top in let b = n.bottom in let d = n.down in
    search (rules, arith, ints)

pub returns-in-None-clause-frame : goal.returns-in-None-clause-frame
returns-in-None-clause-frame c = inl (ap alive c.in-None.ensures.none ∙ alive-empty, (c.new.ensures, (refl, refl)))

pub returns-in-Some-clause-frame : goal.returns-in-Some-clause-frame
returns-in-Some-clause-frame c =
    let n = near_box c.in-Some.bounds (alive c.args.cells.now) c.in-Some.ensures.some c.requires in
    let l = n.left in let r = n.right in let a = n.across in let t = n.top in let b = n.bottom in let d = n.down in
    let x : to_z w64 (of_z w64 c.in-Some.bounds.left) ≡ c.in-Some.bounds.left = omega (arith, ints) in
    let y : to_z w64 (of_z w64 c.in-Some.bounds.top) ≡ c.in-Some.bounds.top = omega (arith, ints) in
    inr (c.in-Some.bounds, (c.in-Some.ensures.some, (c.new-in-Some.ensures ∙ (λ i. record { y = y i; x = x i }), (omega (arith, ints), omega (arith, ints)))))

pub returns-in-Some-clause-small : goal.returns-in-Some-clause-small
returns-in-Some-clause-small c =
    let n = near_box c.in-Some.bounds (alive c.args.cells.now) c.in-Some.ensures.some c.requires in
    let l = n.left in let r = n.right in let a = n.across in let t = n.top in let b = n.bottom in let d = n.down in
    let x = ap (λ (p : Cell). p.x) c.new-in-Some.ensures in
    let y = ap (λ (p : Cell). p.y) c.new-in-Some.ensures in
    record { left = omega (arith, ints); top = omega (arith, ints); x_high = omega (arith, ints); y_high = omega (arith, ints); width_small = omega (arith, ints); height_small = omega (arith, ints) }
