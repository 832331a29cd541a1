use Rattle.std.proofs.Common.{◌≡◌, ℤ, w64, to_z, of_z, sym, subst, ◌∙◌, arith, Result, Ok, Err, IfOk}
use Rattle.std.proofs.lemmas.Int.{ints}
use Rattle.life_plane.specs.Plane.{Plane, shift}
use Rattle.life_cells.specs.Boxes.{CanMove}
use Rattle.life_cells.specs.Cells.{Cells, alive}
use Rattle.stream_time.proofs.Near.{hand_moves}
use Rattle.stream_time.proofs.pattern.hand_at.Goals as goal

same_set : {E : Type 0} (r : Result Cells E) (p q : Plane) → p ≡ q → IfOk r (λ s. alive s ≡ p) → IfOk r (λ s. alive s ≡ q)
same_set (Ok s) p q same h = h ∙ same
same_set (Err e) p q same h = h

pub shift-requires : goal.shift-requires
shift-requires c =
    let xl = c.requires.x_low in let xh = c.requires.x_high in let yl = c.requires.y_low in let yh = c.requires.y_high in
    let x_is : to_z w64 (of_z w64 c.args.place.x) ≡ c.args.place.x = omega (arith, ints) in
    let y_is : to_z w64 (of_z w64 c.args.place.y) ≡ c.args.place.y = omega (arith, ints) in
    subst (λ (x : ℤ). CanMove x (to_z w64 (of_z w64 c.args.place.y)) (alive c.hand.result.now)) (sym x_is)
    (subst (λ (y : ℤ). CanMove c.args.place.x y (alive c.hand.result.now)) (sym y_is)
    (subst (λ (h : Cells). CanMove c.args.place.x c.args.place.y (alive h)) (sym c.hand.ensures) (hand_moves c.args.book.now c.settings.ensures.checked c.args.place c.requires)))

pub returns : goal.returns
returns c =
    let xl = c.requires.x_low in let xh = c.requires.x_high in let yl = c.requires.y_low in let yh = c.requires.y_high in
    let x_is : to_z w64 (of_z w64 c.args.place.x) ≡ c.args.place.x = omega (arith, ints) in
    let y_is : to_z w64 (of_z w64 c.args.place.y) ≡ c.args.place.y = omega (arith, ints) in
    same_set c.shift.result _ _ (λ i. shift (x_is i) (y_is i) (alive (c.hand.ensures i))) c.shift.ensures
