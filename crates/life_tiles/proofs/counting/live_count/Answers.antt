use Rattle.std.proofs.Common.{◌≡◌, ◌+◌, ◌<◌, take, length, Fits, w64, sym, ap, ◌∙◌, arith, rules}
use Rattle.std.proofs.Math.Seq.{take-length}
use Rattle.std.proofs.lemmas.List.Sums.{count_by_more_no, count_by_more_yes}
use Rattle.std.proofs.lemmas.Option.{slice_get-get_or}
use Rattle.std.specs.List.{count_by}
use Rattle.life_tiles.specs.Tiling.{set_of}
use Rattle.life_tiles.proofs.Counted.{is_live, there_lives, tile_lives, empty_is_dead, live_places}
use Rattle.life_tiles.proofs.Pruned.{none, empty_tile, live_tile}
use Rattle.life_tiles.proofs.counting.live_count.Goals as goal
use Rattle.life_tiles.proofs.counting.live_count.Goals.{then-any_of-ne0, else-any_of-ne0}

pub tiles-preserved : goal.tiles-preserved
tiles-preserved c =
    let m = c.args.tiles.now in
    let i = c.tiles.index in
    let few = c.tiles.invariant.few in
    let within : c.tiles.index < length c.args.tiles.now.places.keys = omega (arith, c.len-count.ensures.len) in
    let at = slice_get-get_or c.args.tiles.now.places.keys c.tiles.index none within in
    elim c.if-any_of-ne0.branch [
      | then-any_of-ne0 w ↦
          let is = w.live-is in
          let other = w.if-any_of-ne0.true in
          let fits : Fits w64 c.any_of.result = search rules in
          let lives = live_tile _ _ c.tiles.index c.any_of.result c.deref.ensures.value other fits.fits c.any_of.ensures.some in
          let yes = there_lives (set_of c.args.tiles.now) _ (tile_lives c.args.tiles.now c.requires c.tiles.index _ at lives) in
          let more = count_by_more_yes (is_live (set_of c.args.tiles.now)) c.args.tiles.now.places.keys c.tiles.index none within yes in
          record { live = is ∙ ap (λ n. n + 1) c.tiles.invariant.live ∙ sym more; few = omega arith }
      | else-any_of-ne0 w ↦
          let is = w.live-is in
          let empty = empty_tile _ _ c.tiles.index c.any_of.result c.deref.ensures.value w.if-any_of-ne0.false c.any_of.ensures.all in
          let no = empty_is_dead c.args.tiles.now c.requires c.tiles.index _ at empty in
          let same = count_by_more_no (is_live (set_of c.args.tiles.now)) c.args.tiles.now.places.keys c.tiles.index none within no in
          record { live = is ∙ c.tiles.invariant.live ∙ sym same; few = omega arith }
    ]

pub returns : goal.returns
returns c =
    let end = c.tiles.auto.index-end in
    let past = c.tiles-test.false in
    let all : c.tiles.index ≡ length c.args.tiles.now.places.keys = omega (arith, c.len-count.ensures.len) in
    c.tiles.invariant.live ∙ ap (λ n. count_by (is_live (set_of c.args.tiles.now)) (take n c.args.tiles.now.places.keys)) all
    ∙ ap (count_by (is_live (set_of c.args.tiles.now))) (take-length c.args.tiles.now.places.keys) ∙ live_places c.args.tiles.now c.requires
