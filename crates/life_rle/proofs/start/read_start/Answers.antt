use Rattle.std.proofs.Common.{subst, sym}
use Rattle.std.proofs.lemmas.Bool.{eqb-true}
use Rattle.std.proofs.lemmas.List.{nil_from_length}
use Rattle.std.proofs.lemmas.Result.{err_from_is_err_and}
use Rattle.life_rle.specs.Header.{IsHeader}
use Rattle.life_rle.proofs.Lined.{some_of_false}
use Rattle.life_rle.proofs.BeforeItems.{no_lines, stops_at_header, body_from, stops_at_place}
use Rattle.life_rle.proofs.start.read_start.Goals as goal

pub returns-then-is_empty-clause-refusal : goal.returns-then-is_empty-clause-refusal
returns-then-is_empty-clause-refusal c =
    let opening = c.skip_passed_over-opening.result in
    no_lines c.args.text.now opening.rest.now opening.place_line opening.line c.skip_passed_over-opening.ensures.opened (nil_from_length opening.rest.now (eqb-true _ 0 (sym c.if-is_empty.ensures)))

pub returns-in_err-check_header-clause-refusal : goal.returns-in_err-check_header-clause-refusal
returns-in_err-check_header-clause-refusal c =
    let opening = c.skip_passed_over-opening.result in
    let some = some_of_false opening.rest.now c.if-is_empty.ensures in
    let p = err_from_is_err_and c.from_residual.result c.from_residual.ensures.1 in
    rw (p.1, p.2) (stops_at_header c.args.text.now opening.rest.now opening.place_line opening.line c.skip_passed_over-opening.ensures.opened (c.skip_passed_over-opening.ensures.stopped some) c.split_line.result.0.now c.split_line.ensures.line _ c.in_err-check_header.ensures.err)

pub returns-in_err-place-clause-refusal : goal.returns-in_err-place-clause-refusal
returns-in_err-place-clause-refusal c =
    let opening = c.skip_passed_over-opening.result in
    let some = some_of_false opening.rest.now c.if-is_empty.ensures in
    let p = err_from_is_err_and c.from_residual-in_err-place.result c.from_residual-in_err-place.ensures.1 in
    rw (p.1, p.2) (stops_at_place c.args.text.now opening.rest.now opening.place_line opening.line c.skip_passed_over-opening.ensures.opened (c.skip_passed_over-opening.ensures.stopped some) c.split_line.result.1.now _
    (subst IsHeader c.split_line.ensures.line c.in_ok-check_header.ensures.ok) c.split_line.ensures.rest c.in_err-place.ensures.far)

pub returns-clause-body : goal.returns-clause-body
returns-clause-body c =
    let opening = c.skip_passed_over-opening.result in
    let some = some_of_false opening.rest.now c.if-is_empty.ensures in
    body_from c.args.text.now opening.rest.now opening.place_line opening.line c.skip_passed_over-opening.ensures.opened (c.skip_passed_over-opening.ensures.stopped some) c.in_ok-place.place c.split_line.result.1.now
    (subst IsHeader c.split_line.ensures.line c.in_ok-check_header.ensures.ok) c.in_ok-place.ensures.place c.split_line.ensures.rest
