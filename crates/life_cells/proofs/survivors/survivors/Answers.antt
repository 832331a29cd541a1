use Rattle.std.proofs.Common.{subst, sym, ap, ◌∙◌, arith}
use Rattle.life_cells.specs.Cells.{IsRising}
use Rattle.life_cells.specs.Listed.{listed}
use Rattle.life_cells.specs.OrderLaws.{rising-none}
use Rattle.life_cells.proofs.Runs.{walk_ends, rising-kept_runs, listed-kept_runs, ascends_from_sorted, lives_with-none}
use Rattle.life_cells.proofs.survivors.survivors.Goals as goal

pub returns-in_default-clause-rising : goal.returns-in_default-clause-rising
returns-in_default-clause-rising c = rw c.new-next.ensures.items rising-none

pub returns-clause-rising : goal.returns-clause-rising
returns-clause-rising c =
    subst IsRising (sym (walk_ends _ _ _ _ _ _ _ _ c.loop-mark.invariant (omega arith) c.in_ok-push_if_lives-2.ensures)) (rising-kept_runs _ _ (ascends_from_sorted _ c.requires))

pub returns-clause-lives : goal.returns-clause-lives
returns-clause-lives c = λ x y.
    ap (λ cs. listed cs x y) (walk_ends _ _ _ _ _ _ _ _ c.loop-mark.invariant (omega arith) c.in_ok-push_if_lives-2.ensures)
    ∙ listed-kept_runs _ (lives_with-none c.args.live.now) _ (ascends_from_sorted _ c.requires) x y
