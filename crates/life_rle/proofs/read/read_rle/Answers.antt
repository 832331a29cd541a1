use Rattle.std.proofs.lemmas.Result.{err_from_is_err_and}
use Rattle.life_rle.proofs.Meaning.{body_short, body_refused, read_means, read_fine, read_range}
use Rattle.life_rle.proofs.read.read_rle.Goals as goal

pub read_items-requires-clause-within : goal.read_items-requires-clause-within
read_items-requires-clause-within c = rw (c.deref.ensures.value, c.in_ok-body.ensures) (body_short c.args.text.now c.in_ok-start.start.place c.in_ok-start.start.body.now c.in_ok-start.ensures.body)

pub returns-in_err-cells-clause-refusal : goal.returns-in_err-cells-clause-refusal
returns-in_err-cells-clause-refusal c =
    let p = err_from_is_err_and c.from_residual-in_err-cells.result c.from_residual-in_err-cells.ensures.1 in
    let stops = rw (c.deref.ensures.value, c.in_ok-body.ensures) at c.in_err-cells.ensures.refusal in
    rw (p.1, p.2) (body_refused c.args.text.now c.in_ok-start.start.place c.in_ok-start.start.body.now _ c.in_ok-start.ensures.body stops)

pub returns-clause-meaning : goal.returns-clause-meaning
returns-clause-meaning c =
    let read = rw (c.deref.ensures.value, c.in_ok-body.ensures) at c.in_ok-cells.ensures.read in
    read_means c.args.text.now c.in_ok-start.start.place c.in_ok-start.start.body.now c.in_ok-cells.cells _ c.in_ok-start.ensures.body read

pub returns-clause-fine : goal.returns-clause-fine
returns-clause-fine c =
    let read = rw (c.deref.ensures.value, c.in_ok-body.ensures) at c.in_ok-cells.ensures.read in
    read_fine c.args.text.now c.in_ok-start.start.place c.in_ok-start.start.body.now c.in_ok-cells.cells _ c.in_ok-start.ensures.body read

pub returns-clause-range : goal.returns-clause-range
returns-clause-range c =
    let read = rw (c.deref.ensures.value, c.in_ok-body.ensures) at c.in_ok-cells.ensures.read in
    read_range c.args.text.now c.in_ok-start.start.place c.in_ok-start.start.body.now c.in_ok-cells.cells _ c.in_ok-start.ensures.body read
