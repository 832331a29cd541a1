use Rattle.std.proofs.Common.{◌≡◌, ◌∙◌, ap, subst, arith, refl, ◌≢◌, Bool}
use Rattle.std.specs.Bool.{MatchBool}
use Rattle.life_plane.specs.Plane.{run}
use Rattle.life_cells.specs.Cells.{alive}
use Rattle.life_cli.proofs.Generations.{one_more, no_more, near_enough}
use Rattle.life_cli.proofs.replaying.run_tiles.Goals as goal

pub loop-generation-init : goal.loop-generation-init
loop-generation-init g c = record { run = refl; least = omega arith; most = omega arith }

pub step-requires : goal.step-requires
step-requires g c =
    let test = c.loop-generation-test.true in
    let few = c.ranges.generations.fits in
    near_enough (alive c.args.tiles.now.cells) c.loop-generation._generation c.loop-generation.tiles.cells _ c.requires (omega arith) (omega arith) c.loop-generation.invariant.run

pub returns-in_err-step-clause-least : goal.returns-in_err-step-clause-least
returns-in_err-step-clause-least g c = let so_far = c.loop-generation.invariant.least in let least = c.step.ensures.least in omega arith

pub returns-in_err-step-clause-most : goal.returns-in_err-step-clause-most
returns-in_err-step-clause-most g c =
    let so_far = c.loop-generation.invariant.most in let most = c.step.ensures.most in let before = c.loop-generation-test.true in omega arith

pub returns-then-not-branch-clause-run : goal.returns-then-not-branch-clause-run
returns-then-not-branch-clause-run g c =
    no_more (alive c.args.tiles.now.cells) c.loop-generation._generation c.args.generations c.loop-generation.tiles.cells c.step.new.self.cells c.loop-generation-test.true c.loop-generation.invariant.run c.in_ok-step.ensures.next
    (subst (λ (b : Bool). MatchBool b (c.step.new.self.cells ≢ c.loop-generation.tiles.cells) (c.step.new.self.cells ≡ c.loop-generation.tiles.cells)) c.if-not-branch.true c.in_ok-step.ensures.changed)

pub returns-then-not-branch-clause-least : goal.returns-then-not-branch-clause-least
returns-then-not-branch-clause-least g c = let so_far = c.loop-generation.invariant.least in let least = c.step.ensures.least in omega arith

pub returns-then-not-branch-clause-most : goal.returns-then-not-branch-clause-most
returns-then-not-branch-clause-most g c =
    let so_far = c.loop-generation.invariant.most in let most = c.step.ensures.most in let before = c.loop-generation-test.true in omega arith

pub loop-generation-preserved : goal.loop-generation-preserved
loop-generation-preserved g c =
    let least = c.step.ensures.least in
    let most = c.step.ensures.most in
    let low = c.loop-generation.invariant.least in
    let high = c.loop-generation.invariant.most in
    record {
      run = one_more (alive c.args.tiles.now.cells) c.loop-generation._generation c.loop-generation.tiles.cells c.step.new.self.cells c.loop-generation.invariant.run c.in_ok-step.ensures.next;
      least = omega arith;
      most = omega arith;
    }

pub returns-clause-run : goal.returns-clause-run
returns-clause-run g c =
    let all = c.loop-generation-test.false in
    let end = c.loop-generation.auto._generation-end in
    let last : c.loop-generation._generation ≡ c.args.generations = omega arith in
    c.loop-generation.invariant.run ∙ ap (λ n. run n (alive c.args.tiles.now.cells)) last

pub returns-clause-least : goal.returns-clause-least
returns-clause-least g c = c.loop-generation.invariant.least

pub returns-clause-most : goal.returns-clause-most
returns-clause-most g c =
    let high = c.loop-generation.invariant.most in
    let all = c.loop-generation-test.false in
    let end = c.loop-generation.auto._generation-end in
    omega arith
