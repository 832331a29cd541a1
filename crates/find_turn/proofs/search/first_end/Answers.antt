use Rattle.std.proofs.Common.{◌+◌, ◌^◌, sym, subst, rules, arith}
use Rattle.life_plane.specs.LookUpLaws.{not_if_false}
use Rattle.life_cells.specs.Cells.{alive}
use Rattle.life_tiles.specs.CourseLaws.{course_more}
use Rattle.find_turn.specs.Settled.{HasSettled}
use Rattle.find_turn.proofs.Searching.{course_range, box_of_set, kept_first, kept_more, none_first, none_more, still_now, never_when_still, never_when_broken, never_at_all, found_end, found_some, found_none}
use Rattle.find_turn.proofs.Settling.{never_when_settled, settled_first, settled_more, stops}
use Rattle.find_turn.proofs.search.first_end.Goals as goal
use Rattle.find_turn.proofs.search.first_end.Goals.{then-tried-n+in_ok-end+in_default+in_ok-is_over+else-branch, else-tried-n}

pub loop-done-init : goal.loop-done-init
loop-done-init g c = record {
  now = search rules;
  kept = kept_first c.args.settings.now c.args.delays.now (alive c.args.start.now) c.requires.begins;
  none = none_first c.args.settings.now c.args.kinds.now (alive c.args.start.now) c.args.tried.least c.requires.some;
  looks = settled_first (alive c.args.start.now) c.args.tried.least c.requires.some;
  least = search rules;
  most = search rules;
}

pub step-requires : goal.step-requires
step-requires g c = course_range (alive c.args.start.now) _ c.loop-done.done (2 ^ 61) c.requires.range (omega arith) c.loop-done.invariant.now (omega arith)

pub returns-then-tried-done-clause-found : goal.returns-then-tried-done-clause-found
returns-then-tried-done-clause-found g c =
    never_when_still c.args.settings.now c.args.kinds.now c.args.delays.now (alive c.args.start.now) c.args.tried c.loop-done.done c.loop-done.invariant.none c.if-tried-done.true
    (still_now (alive c.args.start.now) c.loop-done.tiles.cells c.step.new.self.cells c.loop-done.done c.in_ok-changed.changed c.loop-done.invariant.now c.in_ok-changed.ensures.next c.if-not-changed.true c.in_ok-changed.ensures.changed)

pub returns-then-tried-done-clause-settled : goal.returns-then-tried-done-clause-settled
returns-then-tried-done-clause-settled g c = let most = c.step.ensures.most in stops (alive c.args.start.now) c.args.tried.least c.loop-done.done _ _ c.loop-done.invariant.looks (omega arith)

pub is_kept-requires-clause-range : goal.is_kept-requires-clause-range
is_kept-requires-clause-range g c =
    let now = course_more (alive c.args.start.now) (alive c.loop-done.tiles.cells) _ c.loop-done.done c.loop-done.invariant.now c.in_ok-changed.ensures.next in
    course_range (alive c.args.start.now) _ (c.loop-done.done + 1) (2 ^ 41) c.requires.range (omega arith) now (omega arith)

pub is_kept-requires-clause-bounds : goal.is_kept-requires-clause-bounds
is_kept-requires-clause-bounds g c = box_of_set _ c.step.new.self.cells c.bounds-bounds.ensures.some c.bounds-bounds.ensures.none

pub returns-then-not-branch-clause-found : goal.returns-then-not-branch-clause-found
returns-then-not-branch-clause-found g c =
    let now = course_more (alive c.args.start.now) (alive c.loop-done.tiles.cells) _ c.loop-done.done c.loop-done.invariant.now c.in_ok-changed.ensures.next in
    never_when_broken c.args.settings.now c.args.kinds.now c.args.delays.now (alive c.args.start.now) (alive c.step.new.self.cells) c.args.tried c.loop-done.done c.loop-done.invariant.none now
    (not_if_false _ _ c.if-not-branch.true c.in_ok-is_kept.ensures)

pub returns-then-not-branch-clause-settled : goal.returns-then-not-branch-clause-settled
returns-then-not-branch-clause-settled g c = let most = c.step.ensures.most in stops (alive c.args.start.now) c.args.tried.least c.loop-done.done _ _ c.loop-done.invariant.looks (omega arith)

pub end_now-requires-clause-range : goal.end_now-requires-clause-range
end_now-requires-clause-range g c =
    let now = course_more (alive c.args.start.now) (alive c.loop-done.tiles.cells) _ c.loop-done.done c.loop-done.invariant.now c.in_ok-changed.ensures.next in
    course_range (alive c.args.start.now) _ (c.loop-done.done + 1) (2 ^ 41) c.requires.range (omega arith) now (omega arith)

pub end_now-requires-clause-bounds : goal.end_now-requires-clause-bounds
end_now-requires-clause-bounds g c = box_of_set _ c.step.new.self.cells c.bounds-bounds.ensures.some c.bounds-bounds.ensures.none

pub returns-in-Some-clause-found : goal.returns-in-Some-clause-found
returns-in-Some-clause-found g c =
    let now = course_more (alive c.args.start.now) (alive c.loop-done.tiles.cells) _ c.loop-done.done c.loop-done.invariant.now c.in_ok-changed.ensures.next in
    let kept = kept_more c.args.settings.now c.args.delays.now (alive c.args.start.now) (alive c.step.new.self.cells) c.loop-done.done c.loop-done.invariant.kept now (c.in_ok-is_kept.ensures.0 c.if-not-branch.false) in
    found_end c.args.settings.now c.args.kinds.now c.args.delays.now (alive c.args.start.now) (alive c.step.new.self.cells) c.args.tried c.loop-done.done c.in-Some.end c.loop-done.invariant.none now kept
    c.if-tried-n.true (omega arith) (found_some c.args.settings.now c.args.kinds.now (alive c.step.new.self.cells) _ c.in-Some.end c.in-Some.is c.in_ok-end.ensures)

pub returns-in-Some-clause-settled : goal.returns-in-Some-clause-settled
returns-in-Some-clause-settled g c = let most = c.step.ensures.most in stops (alive c.args.start.now) c.args.tried.least c.loop-done.done _ _ c.loop-done.invariant.looks (omega arith)

pub is_over-requires : goal.is_over-requires
is_over-requires g c =
    let now = course_more (alive c.args.start.now) (alive c.loop-done.tiles.cells) _ c.loop-done.done c.loop-done.invariant.now c.in_ok-changed.ensures.next in
    record { range = course_range (alive c.args.start.now) _ (c.loop-done.done + 1) (2 ^ 41) c.requires.range (omega arith) now (omega arith) }

pub returns-then-branch-clause-found : goal.returns-then-branch-clause-found
returns-then-branch-clause-found g c =
    let now = course_more (alive c.args.start.now) (alive c.loop-done.tiles.cells) _ c.loop-done.done c.loop-done.invariant.now c.in_ok-changed.ensures.next in
    let none = none_more c.args.settings.now c.args.kinds.now (alive c.args.start.now) (alive c.step.new.self.cells) c.args.tried.least c.loop-done.done c.loop-done.invariant.none now
    (λ _. found_none c.args.settings.now c.args.kinds.now (alive c.step.new.self.cells) _ c.in_default.is c.in_ok-end.ensures) in
    never_when_settled c.args.settings.now c.args.kinds.now c.requires.valid c.args.delays.now (alive c.args.start.now) (alive c.step.new.self.cells) c.args.tried (c.loop-done.done + 1) c.requires.range none c.if-tried-n.true now
    (c.in_ok-is_over.ensures.0 c.if-branch.true).1

pub returns-then-branch-clause-settled : goal.returns-then-branch-clause-settled
returns-then-branch-clause-settled g c = let most = c.step.ensures.most in stops (alive c.args.start.now) c.args.tried.least c.loop-done.done _ _ c.loop-done.invariant.looks (omega arith)

pub loop-done-preserved : goal.loop-done-preserved
loop-done-preserved g c =
    let now = course_more (alive c.args.start.now) (alive c.loop-done.tiles.cells) _ c.loop-done.done c.loop-done.invariant.now c.in_ok-changed.ensures.next in
    record {
      now = now;
      kept = kept_more c.args.settings.now c.args.delays.now (alive c.args.start.now) (alive c.step.new.self.cells) c.loop-done.done c.loop-done.invariant.kept now (c.in_ok-is_kept.ensures.0 c.if-not-branch.false);
      none = none_more c.args.settings.now c.args.kinds.now (alive c.args.start.now) (alive c.step.new.self.cells) c.args.tried.least c.loop-done.done c.loop-done.invariant.none now
          (λ late. elim c.if-tried-n.branch [
            | then-tried-n+in_ok-end+in_default+in_ok-is_over+else-branch w ↦ found_none c.args.settings.now c.args.kinds.now (alive c.step.new.self.cells) _ w.in_default.is w.in_ok-end.ensures
            | else-tried-n w ↦ let early = w.if-tried-n.false in absurd (omega arith)
          ]);
      looks = settled_more (alive c.args.start.now) c.args.tried.least c.loop-done.done c.loop-done.invariant.looks
          (λ late look settled. elim c.if-tried-n.branch [
            | then-tried-n+in_ok-end+in_default+in_ok-is_over+else-branch w ↦ not_if_false _ _ w.if-branch.false w.in_ok-is_over.ensures (look, subst HasSettled (sym now) settled)
            | else-tried-n w ↦ let early = w.if-tried-n.false in absurd (omega arith)
          ]);
      least = let least = c.step.ensures.least in omega arith;
      most = let most = c.step.ensures.most in omega arith;
    }

pub returns-clause-found : goal.returns-clause-found
returns-clause-found g c = never_at_all c.args.settings.now c.args.kinds.now c.args.delays.now (alive c.args.start.now) c.args.tried c.loop-done.done c.loop-done.invariant.none c.loop-done-test.false

pub returns-clause-settled : goal.returns-clause-settled
returns-clause-settled g c = stops (alive c.args.start.now) c.args.tried.least c.loop-done.done _ _ c.loop-done.invariant.looks (omega arith)
