use Rattle.std.proofs.Common.{ℕ, ◌+◌, refl, sym, subst, Vec, Global}
use Rattle.std.proofs.lemmas.Option.{slice_get_read}
use Rattle.hand_route.specs.Carriers.{TakesAt}
use Rattle.lane_clear.specs.BaseLaws.{not_both}
use Rattle.hand_route.proofs.Sorting.{AreSoFar, skipped, pushed, all_so_far}
use Rattle.hand_route.proofs.salvos.takers_of.Goals as goal
use Rattle.hand_route.proofs.salvos.takers_of.Goals.{then-is_taker+in_ok-push, else-is_taker}

pub loop-place-preserved : goal.loop-place-preserved
loop-place-preserved c =
    let here = slice_get_read c.args.salvos.now _ c.loop-place.place c.index-salvos-place.result refl c.loop-place-test.true c.index-salvos-place.is in
    elim c.if-is_taker.branch [
      | then-is_taker+in_ok-push w ↦ subst (λ (v : Vec ℕ Global). AreSoFar (λ (number : ℕ). number) TakesAt c.args.salvos.now (c.loop-place.place + 1) v.items) (sym w.takers-is)
          (pushed (λ (number : ℕ). number) TakesAt c.args.salvos.now c.loop-place.place _ _ c.index-salvos-place.result (c.loop-place.place + 1) c.loop-place.invariant here refl (c.is_taker.ensures.0 w.if-is_taker.true) (λ y e _. e) w.in_ok-push.ensures.items)
      | else-is_taker w ↦ subst (λ (v : Vec ℕ Global). AreSoFar (λ (number : ℕ). number) TakesAt c.args.salvos.now (c.loop-place.place + 1) v.items) (sym w.takers-is)
          (skipped (λ (number : ℕ). number) TakesAt c.args.salvos.now c.loop-place.place _ c.index-salvos-place.result c.loop-place.invariant here (λ x takes. not_both w.if-is_taker.false (c.is_taker.ensures.1 takes)))
    ]

pub returns : goal.returns
returns c = all_so_far _ _ _ c.loop-place.place _ c.loop-place-test.false c.loop-place.invariant
