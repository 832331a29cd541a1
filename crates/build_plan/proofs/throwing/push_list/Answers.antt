use Rattle.std.proofs.Common.{◌≡◌, ◌++◌, suc, ap, sym, subst, ◌∙◌, get_or, Option, List, add-one}
use Rattle.std.specs.declared.option.Option.TheVariants.{Some}
use Rattle.elbow_graph.specs.Numbered.{IsNumbered}
use Rattle.recipe_hit.specs.Checked.{Struck}
use Rattle.build_plan.specs.Numbers.{item_of}
use Rattle.build_plan.specs.NumberLaws.{item_numbered}
use Rattle.build_plan.specs.Throws.{hits_of, hit_throws, place_past}
use Rattle.build_plan.proofs.Visiting.{IsGathered, next_visited, gathered_more, gathered_all}
use Rattle.build_plan.proofs.throwing.push_list.Goals as goal

pub salvo_at-salvo-requires-clause-numbered : goal.salvo_at-salvo-requires-clause-numbered
salvo_at-salvo-requires-clause-numbered c =
    let next = next_visited _ _ _ _ c.loop-number.number-index c.loop-number.place c.loop-number.throws.items c.loop-number-test.true c.loop-number.invariant in
    (next.0.salvo, rw c.salvos.ensures next.0.numbered)

pub push_salvo-requires : goal.push_salvo-requires
push_salvo-requires c = (next_visited _ _ _ _ c.loop-number.number-index c.loop-number.place c.loop-number.throws.items c.loop-number-test.true c.loop-number.invariant).0.range

pub place_past-place-requires : goal.place_past-place-requires
place_past-place-requires c = (next_visited _ _ _ _ c.loop-number.number-index c.loop-number.place c.loop-number.throws.items c.loop-number-test.true c.loop-number.invariant).0.range

pub loop-number-preserved : goal.loop-number-preserved
loop-number-preserved c =
    let salvos = c.args.book.now.salvos in
    let number = get_or c.args.list.now c.loop-number.number-index 0 in
    let at : item_of salvos number ≡ Some c.salvo_at-salvo.result.now =
    item_numbered salvos number c.salvo_at-salvo.result.now (subst (λ (l : List Struck). IsNumbered l number c.salvo_at-salvo.result.now) c.salvos.ensures c.salvo_at-salvo.ensures) in
    let past : c.place_past-place.result ≡ place_past (item_of salvos number) c.loop-number.place = c.place_past-place.ensures ∙ sym (ap (λ (o : Option Struck). place_past o c.loop-number.place) at) in
    rw (c.in_ok-push_salvo.ensures, add-one)
    (subst
    (λ (o : Option Struck). IsGathered salvos c.args.list.now c.args.from c.args.throws.now.items (suc c.loop-number.number-index) c.place_past-place.result (c.loop-number.throws.items ++ hit_throws number c.loop-number.place 1 (hits_of o)))
    at (gathered_more salvos c.args.list.now c.args.from c.args.throws.now.items c.loop-number.number-index c.loop-number.place c.place_past-place.result c.loop-number.throws.items c.loop-number-test.true c.loop-number.invariant past))

pub returns : goal.returns
returns c = gathered_all c.args.book.now.salvos c.args.list.now c.args.from c.args.throws.now.items c.loop-number.number-index c.loop-number.place c.loop-number.throws.items c.loop-number-test.false c.loop-number.invariant
