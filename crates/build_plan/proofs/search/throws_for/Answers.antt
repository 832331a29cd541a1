use Rattle.std.proofs.Common.{◌≡◌, ◌++◌, sym, ap, subst, List, Option}
use Rattle.std.specs.declared.option.Option.TheVariants.{Some}
use Rattle.elbow_graph.specs.Numbered.{IsNumbered}
use Rattle.recipe_hit.specs.Checked.{Struck}
use Rattle.build_plan.specs.Numbers.{item_of}
use Rattle.build_plan.specs.NumberLaws.{item_numbered}
use Rattle.build_plan.specs.Throws.{hits_of, hit_throws}
use Rattle.build_plan.specs.Usable.{carrying_throws}
use Rattle.build_plan.proofs.search.throws_for.Goals as goal

pub salvo_at-salvo-requires-clause-numbered : goal.salvo_at-salvo-requires-clause-numbered
salvo_at-salvo-requires-clause-numbered c = (c.requires.number.0, rw c.salvos.ensures c.requires.number.1)

pub returns : goal.returns
returns c =
    let salvos = c.args.book.now.salvos in
    let at : item_of salvos c.args.number ≡ Some c.salvo_at-salvo.result.now =
    item_numbered salvos c.args.number c.salvo_at-salvo.result.now (subst (λ (l : List Struck). IsNumbered l c.args.number c.salvo_at-salvo.result.now) c.salvos.ensures c.salvo_at-salvo.ensures) in
    rw (c.in_ok-push_salvo.ensures, c.in_ok-push_way.ensures, c.new-throws.ensures.items)
    (ap (λ (o : Option Struck). carrying_throws salvos c.args.from c.args.way.now ++ hit_throws c.args.number c.args.at 1 (hits_of o)) (sym at))
