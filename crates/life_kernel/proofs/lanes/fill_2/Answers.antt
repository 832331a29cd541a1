use Rattle.std.proofs.Common.{rules, zero-add, ◌≡◌, length, sym, ◌∙◌}
use Rattle.std.proofs.lemmas.Simd.{put_chunk_whole, get_or-chunk}
use Rattle.life_kernel.proofs.lanes.fill_2.Goals as goal

pub returns : goal.returns
returns c j h k hk =
    let inv = c.strips_2.type_inv in
    let long : length c.strips_2.result ≡ 2 = search (rules, inv) in
    let whole = put_chunk_whole c.args.next.now c.strips_2.result (c.requires.next ∙ sym long) in
    rw whole (
    rw (
      c.widened_2.ensures,
      c.widened_2-2.ensures,
      get_or-chunk 0 2 c.args.above.now j 0 h,
      get_or-chunk 0 2 c.args.here.now j 0 h,
      get_or-chunk 0 2 c.args.below.now j 0 h,
      get_or-chunk 0 2 c.args.west.now j 0 h,
      get_or-chunk 0 2 c.args.east.now j 0 h,
      zero-add j,
    ) at (c.strips_2.ensures j h k hk))
