use Rattle.std.proofs.Common.{◌≡◌, ap, ◌+ℤ◌, arith}
use Rattle.std.proofs.lemmas.Int.{ints}
use Rattle.std.proofs.lemmas.Bool.{eqb-true, eq-eqb}
use Rattle.life_cells.specs.declared.cell.Cell.{Cell}
use Rattle.find_turn.proofs.standing.is_moved.Goals as goal

pub returns-then-to-from : goal.returns-then-to-from
returns-then-to-from c = (
  λ test.
      let down = eqb-true _ _ test in
      let x : c.args.to.x ≡ c.args.from.x +ℤ c.args.shift = omega (arith, ints) in
      let y : c.args.to.y ≡ c.args.from.y +ℤ c.args.shift = omega (arith, ints, down) in
      λ i. record { y = y i; x = x i },
  λ is. let y = ap (λ (d : Cell). d.y) is in eq-eqb _ _ (omega (arith, ints, y)),
)
