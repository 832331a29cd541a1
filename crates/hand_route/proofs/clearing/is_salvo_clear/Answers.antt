use Rattle.std.proofs.Common.{false, refl}
use Rattle.life_cells.specs.Cells.{alive}
use Rattle.lane_clear.specs.BaseLaws.{not_both}
use Rattle.hand_route.proofs.Clear.{clear_test, never_clear, beyond_of_clear, aside_of_clear}
use Rattle.hand_route.proofs.clearing.is_salvo_clear.Goals as goal

pub returns-then-are_all_aside : goal.returns-then-are_all_aside
returns-then-are_all_aside c =
    clear_test c.args.settings.now (alive c.args.built.now) c.args.salvo.now c.args.place _ c.are_all_off.result c.hits-hits.ensures.hits (c.are_all_beyond.ensures.0 c.if-not-are_all_beyond.false) (c.are_all_aside.ensures.0 c.if-are_all_aside.true)
    c.are_all_off.ensures

pub returns-else-are_all_aside : goal.returns-else-are_all_aside
returns-else-are_all_aside c =
    never_clear c.args.settings.now (alive c.args.built.now) c.args.salvo.now c.args.place _ c.are_all_aside.result c.hits-hits.ensures.hits c.if-are_all_aside.false
    (λ clear. not_both c.if-are_all_aside.false (c.are_all_aside.ensures.1 (aside_of_clear _ _ _ _ clear)))

pub returns-then-not-are_all_beyond : goal.returns-then-not-are_all_beyond
returns-then-not-are_all_beyond c =
    never_clear c.args.settings.now (alive c.args.built.now) c.args.salvo.now c.args.place _ false c.hits-hits.ensures.hits refl
    (λ clear. not_both c.if-not-are_all_beyond.true (c.are_all_beyond.ensures.1 (beyond_of_clear _ _ _ _ clear)))
