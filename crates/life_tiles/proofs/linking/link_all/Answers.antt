use Rattle.std.proofs.Common.{◌≡◌, ◌+◌, ◌*◌, sym, ap, ◌∙◌, subst, arith, inl, inr, slice_get, slice_index}
use Rattle.std.proofs.lemmas.Bool.{cases_lt}
use Rattle.std.proofs.lemmas.Option.{slice_get_within}
use Rattle.life_tiles.specs.Tiling.{neighbour, IsLink}
use Rattle.life_tiles.proofs.linking.link_all.Goals as goal

pub tiles-preserved : goal.tiles-preserved
tiles-preserved c = λ i direction p lt at below. elim (cases_lt i c.tiles.index) [
  | inl less ↦ c.link.ensures.keeps.each i direction p at below (c.tiles.invariant i direction p less at below)
  | inr ge ↦
      let same : i ≡ c.tiles.index = omega arith in
      subst (λ k. IsLink c.args.places.now.keys (neighbour p direction) (slice_index c.link.new.beside (9 * k + direction))) (sym same) (c.link.ensures.own direction p below (ap (slice_get c.args.places.now.keys) (sym same) ∙ at))
]

pub returns : goal.returns
returns c =
    let past = c.tiles-test.false in
    let count = c.len-count.ensures.len in
    record { each = λ i direction p at below. let within = slice_get_within c.args.places.now.keys i p at in c.tiles.invariant i direction p (omega arith) at below }
