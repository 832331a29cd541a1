use Rattle.std.proofs.Common.{arith, sym, subst}
use Rattle.elbow_graph.specs.Numbered.{IsNumbered}
use Rattle.hand_route.specs.Carriers.{Means}
use Rattle.elbow_graph.specs.NumberedLaws.{at_from_numbered}
use Rattle.hand_route.proofs.Sorting.{number_within, numbered_there}
use Rattle.hand_route.proofs.salvos.HandSalvos.salvo.Goals as goal

pub overflow_sub-result : goal.overflow_sub-result
overflow_sub-result c = let p = at_from_numbered _ c.args.number c.requires.0 c.requires.1 in let e = p.1.0 in omega arith

pub offset_bounds-salvos-number : goal.offset_bounds-salvos-number
offset_bounds-salvos-number c =
    let within = number_within _ c.args.number c.requires.0 (subst (λ (m : Means). IsNumbered m.salvos c.args.number c.requires.0) (sym c.self.view_is) c.requires.1) in
    let few = c.self.told in
    omega arith

pub bounds-salvos-number : goal.bounds-salvos-number
bounds-salvos-number c = number_within _ c.args.number c.requires.0 (subst (λ (m : Means). IsNumbered m.salvos c.args.number c.requires.0) (sym c.self.view_is) c.requires.1)

pub returns : goal.returns
returns c =
    subst (λ (m : Means). IsNumbered m.salvos c.args.number c.index-salvos-number.result) c.self.view_is
    (numbered_there _ c.args.number c.requires.0 c.index-salvos-number.result (subst (λ (m : Means). IsNumbered m.salvos c.args.number c.requires.0) (sym c.self.view_is) c.requires.1) c.index-salvos-number.is)
