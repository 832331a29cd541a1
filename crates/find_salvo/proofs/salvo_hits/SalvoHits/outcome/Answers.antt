use Rattle.std.proofs.Common.{◌∙◌, ap, subst, sym, ◌+◌, pos}
use Rattle.std.proofs.lemmas.Result.{IfOk-weaker}
use Rattle.std.proofs.lemmas.Option.{IfSome_then}
use Rattle.life_cells.specs.Boxes.{IsInRange}
use Rattle.life_plane.specs.ListLaws.{each_at}
use Rattle.book_parts.specs.Limits.{IsCoordinate}
use Rattle.book_parts.specs.LimitLaws.{coordinate_read}
use Rattle.find_salvo.specs.Kept.{Kept, lanes_of}
use Rattle.find_salvo.proofs.Hits.{kept_range, left_read, no_salvo_past, salvo_of_last, no_salvo_last, rest_at, all_struck}
use Rattle.find_salvo.proofs.Options.{none_more}
use Rattle.find_salvo.proofs.salvo_hits.SalvoHits.outcome.Goals as goal

pub returns-then-not-branch-clause-none : goal.returns-then-not-branch-clause-none
returns-then-not-branch-clause-none g c =
    let lanes = c.args.lanes.now in
    let shared = c.keep_shared-shared.result in
    let at = rest_at lanes shared c.loop-lane.lane-index (pos 0) c.loop-lane-test.true in
    no_salvo_past c.loop-lane.self c.args.self.now.hand lanes (shared + c.loop-lane.lane-index) _ (pos 0) c.loop-lane.invariant.hand c.loop-lane.invariant.kept c.loop-lane.invariant.struck at.0
    (coordinate_read _ (subst IsCoordinate (sym at.1) (each_at IsCoordinate lanes c.requires.lanes (shared + c.loop-lane.lane-index) (pos 0) at.0)) ∙ at.1)
    (c.in_ok-strike.ensures.none (c.if-not-branch.true))

pub outcome_of-requires : goal.outcome_of-requires
outcome_of-requires g c =
    subst (IsInRange 1099511627776) (sym (left_read _ _ _ _ _ c.left_by.ensures c.cells.ensures.cells c.deref.ensures.value))
    (kept_range _ c.cells.ensures.hand.proper c.self.invariant)

pub returns-clause-some : goal.returns-clause-some
returns-clause-some g c =
    let left = left_read _ _ _ _ _ c.left_by.ensures c.cells.ensures.cells c.deref.ensures.value in
    let same = ap (λ (k : Kept). k.hand) c.self.view_is ∙ c.loop-lane.invariant.hand in
    let all = ap (λ (k : Kept). lanes_of k.hits) c.self.view_is ∙ c.loop-lane.invariant.struck ∙ all_struck c.args.lanes.now _ _ c.loop-lane-test.false in
    IfOk-weaker c.outcome_of.result _ _ (λ found some. IfSome_then found some (λ outcome leaves. salvo_of_last _ c.args.self.now.hand c.args.lanes.now _ outcome same c.self.invariant all left leaves)) c.outcome_of.ensures.some

pub returns-clause-none : goal.returns-clause-none
returns-clause-none g c =
    let left = left_read _ _ _ _ _ c.left_by.ensures c.cells.ensures.cells c.deref.ensures.value in
    let same = ap (λ (k : Kept). k.hand) c.self.view_is ∙ c.loop-lane.invariant.hand in
    let all = ap (λ (k : Kept). lanes_of k.hits) c.self.view_is ∙ c.loop-lane.invariant.struck ∙ all_struck c.args.lanes.now _ _ c.loop-lane-test.false in
    IfOk-weaker c.outcome_of.result _ _ (λ found none. none_more found _ _ (no_salvo_last _ c.args.self.now.hand c.args.lanes.now _ same c.self.invariant all left) none) c.outcome_of.ensures.none
