use Rattle.std.proofs.Common.{sym, subst, arith}
use Rattle.elbow_graph.specs.Tables.{IsKeyed, IsLeastFrom, place_past}
use Rattle.elbow_graph.proofs.Leading.{turn_named, place_of_turn}
use Rattle.elbow_graph.proofs.way.first_past.Goals as goal

pub overflow_sub-number : goal.overflow_sub-number
overflow_sub-number c = let there = place_of_turn _ _ _ _ (turn_named _ _ _ _ c.in-Some.is c.requires) in let is = there.1.1 in omega arith

pub after-requires : goal.after-requires
after-requires c = (place_of_turn _ _ _ _ (turn_named _ _ _ _ c.in-Some.is c.requires)).0

pub returns-in-None : goal.returns-in-None
returns-in-None c = subst (λ o. IsLeastFrom (IsKeyed c.args.places.now.table c.args.places.now.exits c.args.key) (place_past o) c.first.result) (sym c.in-None.is) c.first.ensures

pub returns-in-Some : goal.returns-in-Some
returns-in-Some c =
    let there = place_of_turn _ _ _ _ (turn_named _ _ _ _ c.in-Some.is c.requires) in
    subst (λ o. IsLeastFrom (IsKeyed c.args.places.now.table c.args.places.now.exits c.args.key) (place_past o) c.after.result) (sym c.in-Some.is)
    (subst (λ n. IsLeastFrom (IsKeyed c.args.places.now.table c.args.places.now.exits c.args.key) n c.after.result) there.1.1 (c.after.ensures c.args.key there.1.0))
