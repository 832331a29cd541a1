use Rattle.std.proofs.Common.{◌≡◌, ℤ, ◌^◌, w64, to_z, of_z, List, sym, ap, subst, ◌∙◌, arith, Result, Ok, Err, IfOk}
use Rattle.std.proofs.lemmas.Int.{ints}
use Rattle.life_plane.specs.Plane.{Plane, union, shift}
use Rattle.life_cells.specs.Boxes.{CanMove, IsInRange}
use Rattle.life_cells.specs.Cells.{Cells, alive}
use Rattle.life_cells.specs.Listed.{listed}
use Rattle.plan_facts.specs.Happenings.{Happening}
use Rattle.build_plan.specs.declared.event.Event.{Event}
use Rattle.stream_time.specs.Laying.{AreStarted, laid}
use Rattle.stream_time.proofs.Near.{laid_near, near_moves, moved_range}
use Rattle.stream_time.proofs.pattern.pattern_of.Goals as goal

done : {E : Type 0} (r : Result Cells E) (P Q : Cells → Type 0) → ((s : Cells) → P s → Q s) → IfOk r P → IfOk r Q
done (Ok s) P Q f h = f s h
done (Err e) P Q f h = h

-- the parts one by one
whole_is : (kind kind' hand rest gliders stream whole : Plane) → whole ≡ union kind' rest → kind' ≡ kind → rest ≡ union hand gliders → gliders ≡ stream → whole ≡ union kind (union hand stream)
whole_is kind kind' hand rest gliders stream whole a b c d = a ∙ (λ i. union (b i) (c i)) ∙ ap (λ (g : Plane). union kind (union hand g)) d

pub shift-requires : goal.shift-requires
shift-requires c =
    let hs = c.requires.started.0 in
    let back = c.args.plan.now.back in
    let xl = c.requires.near.back.x_low in let xh = c.requires.near.back.x_high in let yl = c.requires.near.back.y_low in let yh = c.requires.near.back.y_high in
    let x_is : to_z w64 (of_z w64 c.args.plan.now.back.x) ≡ c.args.plan.now.back.x = omega (arith, ints) in
    let y_is : to_z w64 (of_z w64 c.args.plan.now.back.y) ≡ c.args.plan.now.back.y = omega (arith, ints) in
    let cells = c.in_ok-cells.ensures hs (subst (λ (es : List Event). AreStarted c.args.book.now es c.args.starts.now hs) (sym c.deref.ensures.value) c.requires.started.1) in
    let whole : alive c.in_ok-whole.whole ≡ laid c.args.book.now c.args.plan.now hs =
    whole_is _ _ _ _ (alive c.in_ok-gliders.gliders) _ _ c.in_ok-whole.ensures c.start_elbow.ensures c.in_ok-with_hand.ensures (c.in_ok-gliders.ensures ∙ ap listed c.deref-2.ensures.value ∙ cells) in
    subst (λ (x : ℤ). CanMove x (to_z w64 (of_z w64 c.args.plan.now.back.y)) (alive c.in_ok-whole.whole)) (sym x_is)
    (subst (λ (y : ℤ). CanMove back.x y (alive c.in_ok-whole.whole)) (sym y_is)
    (subst (CanMove back.x back.y) (sym whole) (near_moves _ back (laid_near c.args.book.now c.settings.ensures.checked c.args.plan.now c.args.starts.now hs c.requires.near c.requires.early c.requires.started.1) c.requires.near.back)))

pub returns : goal.returns
returns c =
    let back = c.args.plan.now.back in
    let xl = c.requires.near.back.x_low in let xh = c.requires.near.back.x_high in let yl = c.requires.near.back.y_low in let yh = c.requires.near.back.y_high in
    let x_is : to_z w64 (of_z w64 c.args.plan.now.back.x) ≡ c.args.plan.now.back.x = omega (arith, ints) in
    let y_is : to_z w64 (of_z w64 c.args.plan.now.back.y) ≡ c.args.plan.now.back.y = omega (arith, ints) in
    let whole : (hs : List Happening) → AreStarted c.args.book.now c.args.plan.now.events.items c.args.starts.now hs → alive c.in_ok-whole.whole ≡ laid c.args.book.now c.args.plan.now hs = λ hs started.
    (whole_is _ _ _ _ (alive c.in_ok-gliders.gliders) _ _ c.in_ok-whole.ensures c.start_elbow.ensures c.in_ok-with_hand.ensures
    (c.in_ok-gliders.ensures ∙ ap listed c.deref-2.ensures.value ∙ c.in_ok-cells.ensures hs (subst (λ (es : List Event). AreStarted c.args.book.now es c.args.starts.now hs) (sym c.deref.ensures.value) started))) in
    record {
      cells = done c.shift.result _ _ (λ s h hs started. h ∙ (λ i. shift (x_is i) (y_is i) (whole hs started i))) c.shift.ensures;
      range = done c.shift.result _ _ (λ s h. subst (IsInRange (2 ^ 58)) (sym (h ∙ (λ i. shift (x_is i) (y_is i) (whole c.requires.started.0 c.requires.started.1 i))))
          (moved_range _ back (laid_near c.args.book.now c.settings.ensures.checked c.args.plan.now c.args.starts.now c.requires.started.0 c.requires.near c.requires.early c.requires.started.1) c.requires.near.back)) c.shift.ensures;
    }
