use Rattle.std.proofs.Common.{arith, sym, subst}
use Rattle.elbow_graph.specs.Numbered.{IsNumbered}
use Rattle.build_plan.proofs.Numbers.{item_within, item_there}
use Rattle.build_plan.proofs.numbered.salvo_at.Goals as goal

pub overflow_sub-result : goal.overflow_sub-result
overflow_sub-result c = (item_within c.args.salvos.now c.args.number c.requires.numbered.0 c.requires.numbered.1).low

pub returns : goal.returns
returns c =
    subst (IsNumbered c.args.salvos.now c.args.number) (sym c.index-salvos-number.is)
    (item_there c.args.salvos.now c.args.number _ (item_within c.args.salvos.now c.args.number c.requires.numbered.0 c.requires.numbered.1))

pub bounds-salvos-number : goal.bounds-salvos-number
bounds-salvos-number c = let within = item_within c.args.salvos.now c.args.number c.requires.numbered.0 c.requires.numbered.1 in omega arith

pub offset_bounds-salvos-number : goal.offset_bounds-salvos-number
offset_bounds-salvos-number c =
    let within = item_within c.args.salvos.now c.args.number c.requires.numbered.0 c.requires.numbered.1 in
    let few = c.requires.few in
    record { fits = omega arith }
