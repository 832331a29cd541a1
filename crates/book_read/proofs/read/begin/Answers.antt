use Rattle.std.proofs.Common.{◌≡◌, ◌+◌, inr, ℕ, List, [], ◌∷◌, ◌++◌, refl, arith, ap, subst, sym, ◌∙◌}
use Rattle.book_read.proofs.read.begin.Goals as goal
use Rattle.std.specs.Str.Lines.{lines}
use Rattle.std.specs.List.{AllByRecursion}
use Rattle.std.proofs.lemmas.List.{append-nil}
use Rattle.std.proofs.lemmas.Bool.{false≢true}
use Rattle.text_lines.specs.Blanks.{IsPassedOver}
use Rattle.book_read.specs.Drafted.{IsVersionRefusal}
use Rattle.book_read.proofs.Refusing.{all_over, one_more, longer, version_refused, err_is, no_lines}

pub loop-rest-init : goal.loop-rest-init
loop-rest-init c = ([], (refl, (tt, (refl, omega arith))))

pub loop-rest-preserved : goal.loop-rest-preserved
loop-rest-preserved c =
    let inv = c.loop-rest.invariant in
    let line = c.split_line.result.0.now in
    let n = inv.1.1.1.0 in
    let m = inv.1.1.1.1 in
    let shorter = c.split_line.ensures.shorter in
    let long = longer inv.0 line in (
      inv.0 ++ line ∷ [],
      (
        one_more (lines c.args.text.now) inv.0 (lines c.loop-rest.rest.now) (lines c.split_line.result.1.now) line inv.1.0 c.split_line.ensures.lines,
        (all_over inv.0 line inv.1.1.0 (c.is_passed_over.ensures.0 c.if-not-is_passed_over.false), (omega arith, omega arith)),
      ),
    )

pub loop-rest-smaller : goal.loop-rest-smaller
loop-rest-smaller c = c.split_line.ensures.shorter

pub returns-in_err-require_version-clause-err : goal.returns-in_err-require_version-clause-err
returns-in_err-require_version-clause-err c =
    let inv = c.loop-rest.invariant in
    err_is c.from_residual.result c.in_err-require_version.field-0.0 (λ e. IsVersionRefusal (lines c.args.text.now) e) c.from_residual.ensures.1
    (version_refused (lines c.args.text.now) inv.0 c.split_line.result.0.now (lines c.split_line.result.1.now) (c.loop-rest.number + 1) c.in_err-require_version.field-0.0
    (inv.1.0 ∙ ap (λ (ts : List (List ℕ)). inv.0 ++ ts) c.split_line.ensures.lines) inv.1.1.0 (λ over. let yes = c.is_passed_over.ensures.1 over in false≢true (sym c.if-not-is_passed_over.true ∙ yes))
    (ap (λ (n : ℕ). n + 1) inv.1.1.1.0) c.in_err-require_version.ensures.err)

pub returns-then-not-is_passed_over-clause-ok : goal.returns-then-not-is_passed_over-clause-ok
returns-then-not-is_passed_over-clause-ok c =
    let inv = c.loop-rest.invariant in
    record {
      head = inv.0;
      version = c.split_line.result.0.now;
      lines_are = inv.1.0 ∙ ap (λ (ts : List (List ℕ)). inv.0 ++ ts) c.split_line.ensures.lines;
      head_is = inv.1.1.0;
      version_is = c.in_ok-require_version.ensures.ok;
      number_is = ap (λ (n : ℕ). n + 1) inv.1.1.1.0;
    }

pub returns-clause-err : goal.returns-clause-err
returns-clause-err c =
    let inv = c.loop-rest.invariant in
    let whole : lines c.args.text.now ≡ inv.0 = inv.1.0 ∙ ap (λ (ts : List (List ℕ)). inv.0 ++ ts) (no_lines c.loop-rest.rest.now c.loop-rest-test.ensures) ∙ append-nil inv.0 in
    (refl, inr (subst (λ (ls : List (List ℕ)). AllByRecursion IsPassedOver ls) (sym whole) inv.1.1.0, refl))
