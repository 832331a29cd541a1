use Rattle.std.proofs.Common.{rules, zero-add, ◌≡◌, length, sym, ◌∙◌}
use Rattle.std.proofs.lemmas.Simd.{put_chunk_whole, get_or-chunk}
use Rattle.life_kernel.proofs.lanes.fill_8.Goals as goal

pub returns : goal.returns
returns c j h k hk =
    let inv = c.strips_8.type_inv in
    let long : length c.strips_8.result ≡ 8 = search (rules, inv) in
    let whole = put_chunk_whole c.args.next.now c.strips_8.result (c.requires.next ∙ sym long) in
    rw whole (
    rw (
      c.widened_8.ensures,
      c.widened_8-2.ensures,
      get_or-chunk 0 8 c.args.above.now j 0 h,
      get_or-chunk 0 8 c.args.here.now j 0 h,
      get_or-chunk 0 8 c.args.below.now j 0 h,
      get_or-chunk 0 8 c.args.west.now j 0 h,
      get_or-chunk 0 8 c.args.east.now j 0 h,
      zero-add j,
    ) at (c.strips_8.ensures j h k hk))
