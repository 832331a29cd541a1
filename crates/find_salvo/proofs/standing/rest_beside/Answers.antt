use Rattle.std.proofs.Common.{◌≡◌, ◌∙◌, ap, subst, sym, rules}
use Rattle.life_plane.specs.Plane.{Plane}
use Rattle.life_plane.specs.Apart.{Apart}
use Rattle.life_cells.specs.Cells.{alive}
use Rattle.life_islands.specs.Islands.{rest_of}
use Rattle.recipe_hit.specs.Sound.{IsWhole}
use Rattle.life_plane.specs.LookUpLaws.{not_if_false}
use Rattle.find_salvo.specs.Outcomes.{hand_at}
use Rattle.find_salvo.proofs.standing.rest_beside.Goals as goal

pub returns-clause-some : goal.returns-clause-some
returns-clause-some c =
    let hand = alive c.args.hand.now in
    let left = alive c.args.left.now in
    let at : alive c.in_ok-moved.moved ≡ hand_at hand c.args.place = search rules in
    let beside = c.in_ok-rest.ensures ∙ ap (rest_of left) at in
    let near = c.apart.ensures.0 c.if-not-apart.false in
    record {
      part = c.lies_in.ensures.0 c.if-not-lies_in.false;
      clear = subst (λ (s : Plane). Apart s (hand_at hand c.args.place)) beside (subst (Apart (alive c.in_ok-rest.rest)) at near);
      whole = subst IsWhole beside (c.in_ok-is_whole.ensures.0 c.if-not-branch.false);
    }

pub returns-then-not-branch-clause-none : goal.returns-then-not-branch-clause-none
returns-then-not-branch-clause-none c stands =
    let hand = alive c.args.hand.now in
    let left = alive c.args.left.now in
    let at : alive c.in_ok-moved.moved ≡ hand_at hand c.args.place = search rules in
    let beside = c.in_ok-rest.ensures ∙ ap (rest_of left) at in
    not_if_false _ _ c.if-not-branch.true c.in_ok-is_whole.ensures (subst IsWhole (sym beside) stands.whole)
