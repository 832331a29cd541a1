use Rattle.std.proofs.Common.{rules, zero-add, ◌≡◌, length, sym, ◌∙◌}
use Rattle.std.proofs.lemmas.Simd.{put_chunk_whole, get_or-chunk}
use Rattle.life_kernel.proofs.lanes.fill_1.Goals as goal

pub returns : goal.returns
returns c j h k hk =
    let inv = c.strips_1.type_inv in
    let long : length c.strips_1.result ≡ 1 = search (rules, inv) in
    let whole = put_chunk_whole c.args.next.now c.strips_1.result (c.requires.next ∙ sym long) in
    rw whole (
    rw (
      c.widened_1.ensures,
      c.widened_1-2.ensures,
      get_or-chunk 0 1 c.args.above.now j 0 h,
      get_or-chunk 0 1 c.args.here.now j 0 h,
      get_or-chunk 0 1 c.args.below.now j 0 h,
      get_or-chunk 0 1 c.args.west.now j 0 h,
      get_or-chunk 0 1 c.args.east.now j 0 h,
      zero-add j,
    ) at (c.strips_1.ensures j h k hk))
