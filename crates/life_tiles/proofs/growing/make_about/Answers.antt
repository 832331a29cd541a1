use Rattle.std.proofs.Common.{◌≡◌, ◌+◌, ◌*◌, ◌<◌, pos, ◌+ℤ◌, ◌-ℤ◌, length, slice_index, slice_get, get_or, sym, ap, ◌∙◌, arith, Some}
use Rattle.std.proofs.lemmas.Int.{ints}
use Rattle.std.proofs.lemmas.List.{get_or_default}
use Rattle.life_kernel.specs.Rows.{test}
use Rattle.life_kernel.specs.Words.{part}
use Rattle.life_tiles.specs.declared.place.Place.{Place}
use Rattle.life_tiles.specs.declared.span.Span.{Span}
use Rattle.life_tiles.specs.Spans.{no_rows, span_of}
use Rattle.life_tiles.specs.Tiling.{place, cells_of}
use Rattle.life_tiles.proofs.Grown.{close_live, at_neighbour, surrounded, MakesRow, row_made, row_kept}
use Rattle.life_tiles.proofs.Rooms.{makes_both}
use Rattle.life_tiles.proofs.Tiling.{item_of, rows_room}
use Rattle.life_tiles.proofs.growing.make_about.Goals as goal
use Rattle.life_tiles.proofs.growing.make_about.Goals.{then-is_empty-via-then-is_empty, then-is_empty-via-else-is_empty+then-not-is_close}

abbrev none : Place
none = place (pos 0) (pos 0)

pub returns-then-is_empty-clause-about : goal.returns-then-is_empty-clause-about
returns-then-is_empty-clause-about c = record {
  about = λ x y a b at awake live w.
      let p : Place = get_or c.as_slice.result.now c.args.index none in
      let there : slice_get c.args.tiles.now.places.keys c.args.index ≡ Some p = item_of c.as_slice.result.now _ c.args.index none c.as_slice.ensures.keys c.requires.within in
      let room = c.requires.tiled.room.awake in
      let few = c.requires.tiled.room.few in
      let lt = c.requires.within in
      let within : c.args.index < length c.args.tiles.now.awake.items = omega arith in
      let span : c.index-span.result.now ≡ span_of c.args.tiles.now.awake.items c.args.index = c.index-span.ensures ∙ get_or_default _ _ _ no_rows within in
      elim c.then-is_empty.branch [
        | then-is_empty-via-then-is_empty w1 ↦
            let none_awake = c.is_empty.ensures.0 w1.if-is_empty.true in
            let from = awake.from in
            let to = awake.to in
            let same_from = ap (λ (s : Span). s.from) span in
            let same_to = ap (λ (s : Span). s.to) span in
            absurd (omega arith)
        | then-is_empty-via-else-is_empty+then-not-is_close w2 ↦
            let is : place (part x) (part y) ≡ p = cc in
            let yes = w2.is_close.ensures.1 (close_live (cells_of c.args.tiles.now) p x y c.requires.range is live) in
            let no = w2.if-not-is_close.true in
            absurd (cc)
      ];
}

pub make_row-requires-clause-at : goal.make_row-requires-clause-at
make_row-requires-clause-at c = item_of c.as_slice.result.now _ c.args.index none c.as_slice.ensures.keys c.requires.within

pub make_sides-requires-clause-at : goal.make_sides-requires-clause-at
make_sides-requires-clause-at c = c.make_row.ensures.makes.keeps c.args.index _ (item_of c.as_slice.result.now _ c.args.index none c.as_slice.ensures.keys c.requires.within)

pub make_row-requires-2-clause-at : goal.make_row-requires-2-clause-at
make_row-requires-2-clause-at c = c.make_sides.ensures.makes.keeps c.args.index _ (c.make_row.ensures.makes.keeps c.args.index _ (item_of c.as_slice.result.now _ c.args.index none c.as_slice.ensures.keys c.requires.within))

pub returns-in_err-make_sides-clause-makes : goal.returns-in_err-make_sides-clause-makes
returns-in_err-make_sides-clause-makes c = makes_both _ _ _ c.make_row.ensures.makes c.make_sides.ensures.makes

pub returns-in_err-make_row-2-clause-makes : goal.returns-in_err-make_row-2-clause-makes
returns-in_err-make_row-2-clause-makes c = makes_both _ _ _ c.make_row.ensures.makes (makes_both _ _ _ c.make_sides.ensures.makes c.make_row-2.ensures.makes)

pub returns-clause-makes : goal.returns-clause-makes
returns-clause-makes c = makes_both _ _ _ c.make_row.ensures.makes (makes_both _ _ _ c.make_sides.ensures.makes c.make_row-2.ensures.makes)

pub returns-clause-about : goal.returns-clause-about
returns-clause-about c =
    let p : Place = get_or c.as_slice.result.now c.args.index none in
    let there : slice_get c.args.tiles.now.places.keys c.args.index ≡ Some p = item_of c.as_slice.result.now _ c.args.index none c.as_slice.ensures.keys c.requires.within in
    let words = rows_room c.args.tiles.now c.requires.tiled c.args.index c.requires.within in
    let all = c.args.tiles.now.rows.ok.0 in
    let room = c.requires.tiled.room.awake in
    let few = c.requires.tiled.room.few in
    let lt = c.requires.within in
    let within : c.args.index < length c.args.tiles.now.awake.items = omega arith in
    let first : 64 * c.args.index < length c.args.tiles.now.rows.items = omega arith in
    let last : 64 * c.args.index + 63 < length c.args.tiles.now.rows.items = omega arith in
    let first_made = c.make_row.new.tiles in
    let second = c.make_sides.new.tiles in
    let after = c.make_row-2.new.tiles in
    let above : MakesRow c.make_row.new.tiles p.column (p.row -ℤ pos 1) c.index-top.result.now = row_made c.make_row.new.tiles p.column (p.row -ℤ pos 1) c.index-top.result.now
    (λ k live. at_neighbour first_made p 1 p.column (p.row -ℤ pos 1) (omega (arith, ints)) (omega (arith, ints)) (c.in_ok-make_row.ensures.here k live))
    (λ live. at_neighbour first_made p 0 (p.column -ℤ pos 1) (p.row -ℤ pos 1) (omega (arith, ints)) (omega (arith, ints)) (c.in_ok-make_row.ensures.west live))
    (λ live. at_neighbour first_made p 2 (p.column +ℤ pos 1) (p.row -ℤ pos 1) (omega (arith, ints)) (omega (arith, ints)) (c.in_ok-make_row.ensures.east live)) in
    let here : MakesRow c.make_sides.new.tiles p.column p.row c.any_of-any.result = row_made c.make_sides.new.tiles p.column p.row c.any_of-any.result
    (λ k live. record { index = c.args.index; at = c.make_sides.ensures.makes.keeps c.args.index p (c.make_row.ensures.makes.keeps c.args.index p there) })
    (λ live. at_neighbour second p 3 (p.column -ℤ pos 1) p.row (omega (arith, ints)) (omega (arith, ints)) (c.in_ok-make_sides.ensures.west live))
    (λ live. at_neighbour second p 5 (p.column +ℤ pos 1) p.row (omega (arith, ints)) (omega (arith, ints)) (c.in_ok-make_sides.ensures.east live)) in
    let below : MakesRow c.make_row-2.new.tiles p.column (p.row +ℤ pos 1) c.index-bottom.result.now = row_made c.make_row-2.new.tiles p.column (p.row +ℤ pos 1) c.index-bottom.result.now
    (λ k live. at_neighbour after p 7 p.column (p.row +ℤ pos 1) (omega (arith, ints)) (omega (arith, ints)) (c.in_ok-make_row-2.ensures.here k live))
    (λ live. at_neighbour after p 6 (p.column -ℤ pos 1) (p.row +ℤ pos 1) (omega (arith, ints)) (omega (arith, ints)) (c.in_ok-make_row-2.ensures.west live))
    (λ live. at_neighbour after p 8 (p.column +ℤ pos 1) (p.row +ℤ pos 1) (omega (arith, ints)) (omega (arith, ints)) (c.in_ok-make_row-2.ensures.east live)) in
    let span : c.index-span.result.now ≡ span_of c.args.tiles.now.awake.items c.args.index = c.index-span.ensures ∙ get_or_default _ _ _ no_rows within in
    surrounded c.args.tiles.now after c.args.index p c.requires.tiled there
    c.index-span.result.now c.index-top.result.now c.any_of-any.result c.index-bottom.result.now
    (sym span) (c.index-top.ensures ∙ get_or_default _ _ _ 0 first) (c.index-bottom.ensures ∙ get_or_default _ _ _ 0 last)
    (λ down k h live.
    let from = h.from in
    let to = h.to in
    c.any_of-any.ensures.all (64 * c.args.index + down) k (omega arith) (omega arith) (ap (λ xs. test (slice_index xs (64 * c.args.index + down)) k) c.deref.ensures.value ∙ live))
    (row_kept _ _ _ _ _ (makes_both _ _ _ c.make_sides.ensures.makes c.make_row-2.ensures.makes) above)
    (row_kept _ _ _ _ _ c.make_row-2.ensures.makes here)
    below
