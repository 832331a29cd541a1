use Rattle.std.proofs.lemmas.Result.{err_from_is_err_and}
use Rattle.rle_items.specs.Gaps.{gap_of}
use Rattle.rle_items.proofs.ReadItems.{so_far_start, stops_at_fault, has_room, has_moved, row_fits, so_far_push, so_far_read, rest_shorter}
use Rattle.rle_items.proofs.reading.read_items.Goals as goal

pub loop-cells-init : goal.loop-cells-init
loop-cells-init c = rw c.new-cells.ensures.items (so_far_start (gap_of c.args.gaps) c.args.text.now c.args.place c.args.body.now c.start-cursor.result c.requires.near c.requires.within c.start-cursor.ensures)

pub returns-in_err-front-clause-refusal : goal.returns-in_err-front-clause-refusal
returns-in_err-front-clause-refusal c =
    let p = err_from_is_err_and c.from_residual.result c.from_residual.ensures.1 in
    rw (p.1, p.2) (stops_at_fault (gap_of c.args.gaps) c.args.text.now c.args.place c.args.body.now c.loop-cells.rest.now c.loop-cells.cursor c.loop-cells.cells.items _ c.loop-cells.invariant c.in_err-front.ensures.err)

pub check-requires-clause-room : goal.check-requires-clause-room
check-requires-clause-room c =
    let so_far = c.loop-cells.invariant in
    let small = rw c.in-Some.is at c.in_ok-front.ensures.small in
    has_moved so_far.items c.in-Some.front.item c.loop-cells.cursor c.behind-next.result (has_room c.args.place c.loop-cells.cursor c.requires.near so_far.within) small so_far.behind (c.behind-next.ensures so_far.items so_far.behind)

pub add_cells-requires-clause-last : goal.add_cells-requires-clause-last
add_cells-requires-clause-last c = λ alive.
    let so_far = c.loop-cells.invariant in
    row_fits c.args.place so_far.items c.in-Some.front.item c.loop-cells.cursor c.behind-next.result c.from_place.result alive so_far.behind (c.behind-next.ensures so_far.items so_far.behind) c.in_ok-check.ensures.ok c.from_place.ensures

pub loop-cells-preserved : goal.loop-cells-preserved
loop-cells-preserved c =
    let next = rw c.in-Some.is at c.in_ok-front.ensures.item in
    rw c.in_ok-add_cells.ensures
    (so_far_push (gap_of c.args.gaps) c.args.text.now c.args.place c.args.body.now c.loop-cells.rest.now c.loop-cells.cursor c.behind-next.result c.loop-cells.cells.items c.in-Some.front.item c.in-Some.front.at c.in-Some.front.more.now c.loop-cells.invariant next
    c.behind-next.ensures c.from_place.result c.from_place.ensures c.in_ok-check.ensures.ok)

pub loop-cells-smaller : goal.loop-cells-smaller
loop-cells-smaller c =
    let next = rw c.in-Some.is at c.in_ok-front.ensures.item in
    rest_shorter (gap_of c.args.gaps) c.args.text.now c.args.place c.args.body.now c.loop-cells.rest.now c.loop-cells.cursor c.behind-next.result c.loop-cells.cells.items c.in-Some.front.item c.in-Some.front.at c.in-Some.front.more.now c.loop-cells.invariant next c.behind-next.ensures

pub returns-clause-read : goal.returns-clause-read
returns-clause-read c =
    let end = rw c.in_default.is at c.in_ok-front.ensures.end in
    rw c.from_rising.ensures (so_far_read (gap_of c.args.gaps) c.args.text.now c.args.place c.args.body.now c.loop-cells.rest.now c.loop-cells.cursor c.loop-cells.cells.items c.loop-cells.invariant end)
