use Rattle.std.proofs.Common.{rules, zero-add, ◌≡◌, length, sym, ◌∙◌}
use Rattle.std.proofs.lemmas.Simd.{put_chunk_whole, get_or-chunk}
use Rattle.life_kernel.proofs.lanes.fill_4.Goals as goal

pub returns : goal.returns
returns c j h k hk =
    let inv = c.strips_4.type_inv in
    let long : length c.strips_4.result ≡ 4 = search (rules, inv) in
    let whole = put_chunk_whole c.args.next.now c.strips_4.result (c.requires.next ∙ sym long) in
    rw whole (
    rw (
      c.widened_4.ensures,
      c.widened_4-2.ensures,
      get_or-chunk 0 4 c.args.above.now j 0 h,
      get_or-chunk 0 4 c.args.here.now j 0 h,
      get_or-chunk 0 4 c.args.below.now j 0 h,
      get_or-chunk 0 4 c.args.west.now j 0 h,
      get_or-chunk 0 4 c.args.east.now j 0 h,
      zero-add j,
    ) at (c.strips_4.ensures j h k hk))
