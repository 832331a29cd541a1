use Rattle.std.proofs.Common.{◌≡◌, ◌+◌, ◌-◌, ◌<◌, arith, ap, sym, ◌∙◌, slice_index, Fits, w64, rules}
use Rattle.life_tiles.proofs.advancing.tile_differs.Goals as goal

pub returns-then-old-new : goal.returns-then-old-new
returns-then-old-new c =
    let a : Fits w64 (slice_index c.args.rows.now (c.args.first + c.loop-down.down)) = search rules in
    let b : Fits w64 (slice_index c.args.next.now (c.args.first + c.loop-down.down)) = search rules in
    record { at = c.args.first + c.loop-down.down; from = omega arith; within = omega arith; was_fits = a.fits; now_fits = b.fits; other = c.if-old-new.true }

pub returns : goal.returns
returns c = record {
  each = λ at low high.
      let down : at - c.args.first < 64 = omega arith in
      let done : at - c.args.first < c.loop-down.down = omega arith in
      let is : c.args.first + (at - c.args.first) ≡ at = omega arith in
      ap (slice_index c.args.next.now) (sym is) ∙ c.loop-down.invariant (at - c.args.first) done ∙ ap (slice_index c.args.rows.now) is;
}
