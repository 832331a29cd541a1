use Rattle.std.proofs.Common.{◌≡◌, ◌+◌, ℕ, List, [], ◌∷◌, ◌++◌, refl, arith, ap, subst, sym, ◌∙◌}
use Rattle.book_read.proofs.read.read_lines.Goals as goal
use Rattle.std.specs.Str.Lines.{lines}
use Rattle.std.proofs.lemmas.List.{append-nil}
use Rattle.book_read.specs.Stated.{nothing_stated}
use Rattle.book_read.specs.Reading.{AreFine}
use Rattle.book_read.specs.Drafted.{stated_of, IsBodyRefusal}
use Rattle.book_read.proofs.Refusing.{fine_taken, refused_among, one_more, longer, err_is, no_lines}

pub loop-rest-init : goal.loop-rest-init
loop-rest-init c = ([], (refl, (c.new-draft.ensures.stated, (c.new-draft.ensures.kept, (omega arith, omega arith)))))

pub loop-rest-preserved : goal.loop-rest-preserved
loop-rest-preserved c =
    let inv = c.loop-rest.invariant in
    let line = c.split_line.result.0.now in
    let n = inv.1.1.1.1.0 in
    let m = inv.1.1.1.1.1 in
    let shorter = c.split_line.ensures.shorter in
    let long = longer inv.0 line in (
      inv.0 ++ line ∷ [],
      (
        one_more (lines c.args.body.now) inv.0 (lines c.loop-rest.rest.now) (lines c.split_line.result.1.now) line inv.1.0 c.split_line.ensures.lines,
        (
          fine_taken nothing_stated inv.0 line (stated_of c.loop-rest.draft) (stated_of c.take_line.new.draft) inv.1.1.0 c.in_ok-take_line.ensures.taken,
          (c.in_ok-take_line.ensures.kept, (omega arith, omega arith)),
        ),
      ),
    )

pub loop-rest-smaller : goal.loop-rest-smaller
loop-rest-smaller c = c.split_line.ensures.shorter

pub returns-in_err-take_line-clause-err : goal.returns-in_err-take_line-clause-err
returns-in_err-take_line-clause-err c =
    let inv = c.loop-rest.invariant in
    let n = inv.1.1.1.1.0 in
    err_is c.from_residual.result c.in_err-take_line.field-0.0 (λ e. IsBodyRefusal c.args.before (lines c.args.body.now) e) c.from_residual.ensures.1
    (refused_among c.args.before (c.loop-rest.number + 1) (lines c.args.body.now) inv.0 c.split_line.result.0.now (lines c.split_line.result.1.now) (stated_of c.loop-rest.draft) c.in_err-take_line.field-0.0
    (inv.1.0 ∙ ap (λ (ts : List (List ℕ)). inv.0 ++ ts) c.split_line.ensures.lines) inv.1.1.0 c.in_err-take_line.ensures.other (omega arith) c.in_err-take_line.ensures.err)

pub returns-clause-fine : goal.returns-clause-fine
returns-clause-fine c =
    let inv = c.loop-rest.invariant in
    let whole : lines c.args.body.now ≡ inv.0 = inv.1.0 ∙ ap (λ (ts : List (List ℕ)). inv.0 ++ ts) (no_lines c.loop-rest.rest.now c.loop-rest-test.ensures) ∙ append-nil inv.0 in
    subst (λ (ls : List (List ℕ)). AreFine nothing_stated ls (stated_of c.loop-rest.draft)) (sym whole) inv.1.1.0

pub returns-clause-kept : goal.returns-clause-kept
returns-clause-kept c = c.loop-rest.invariant.1.1.1.0
