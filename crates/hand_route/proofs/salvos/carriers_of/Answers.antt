use Rattle.std.proofs.Common.{ℕ, ◌+◌, List, Vec, Global, refl, sym, subst}
use Rattle.std.proofs.lemmas.Option.{slice_get_read}
use Rattle.std.specs.List.{AllByRecursion}
use Rattle.life_plane.specs.ListLaws.{all_push}
use Rattle.recipe_hit.specs.Checked.{Struck}
use Rattle.hand_route.specs.declared.salvos.Carrier.{Carrier}
use Rattle.hand_route.specs.Carriers.{number_of, CarriesBy, IsNear}
use Rattle.hand_route.proofs.Sorting.{AreSoFar, skipped, pushed, all_so_far, one_way}
use Rattle.hand_route.proofs.salvos.carriers_of.Goals as goal
use Rattle.hand_route.proofs.salvos.carriers_of.Goals.{in-Some+in_ok-push, in_default}

abbrev AreSorted : List Struck → ℕ → List Carrier → Type 0
AreSorted salvos place carriers = AreSoFar number_of CarriesBy salvos place carriers × AllByRecursion IsNear carriers

pub loop-place-preserved : goal.loop-place-preserved
loop-place-preserved c =
    let here = slice_get_read c.args.salvos.now _ c.loop-place.place c.index-salvos-place.result refl c.loop-place-test.true c.index-salvos-place.is in
    elim c.match-carrier_of.branch [
      | in-Some+in_ok-push w ↦ let some = w.in-Some.ensures.some in subst (λ (v : Vec Carrier Global). AreSorted c.args.salvos.now (c.loop-place.place + 1) v.items) (sym w.carriers-is) (
        pushed number_of CarriesBy c.args.salvos.now c.loop-place.place _ _ c.index-salvos-place.result w.in-Some.carrier c.loop-place.invariant.0 here some.0 some.1.0 (λ y e by. one_way c.index-salvos-place.result y w.in-Some.carrier e by some.1.0)
            w.in_ok-push.ensures.items,
        subst (AllByRecursion IsNear) (sym w.in_ok-push.ensures.items) (all_push IsNear _ w.in-Some.carrier c.loop-place.invariant.1 some.1.1),
      )
      | in_default w ↦ subst (λ (v : Vec Carrier Global). AreSorted c.args.salvos.now (c.loop-place.place + 1) v.items) (sym w.carriers-is)
          (skipped number_of CarriesBy c.args.salvos.now c.loop-place.place _ c.index-salvos-place.result c.loop-place.invariant.0 here w.in_default.ensures.none, c.loop-place.invariant.1)
    ]

pub returns : goal.returns
returns c = record { items = all_so_far _ _ _ c.loop-place.place _ c.loop-place-test.false c.loop-place.invariant.0; near = c.loop-place.invariant.1 }
