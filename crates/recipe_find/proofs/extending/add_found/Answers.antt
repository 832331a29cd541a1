use Rattle.std.proofs.Common.{sym, subst}
use Rattle.recipe_book.specs.Checked.{said_of}
use Rattle.recipe_find.specs.Growing.{Grow}
use Rattle.recipe_find.proofs.Growth.{lanes_grow, delays_grow}
use Rattle.recipe_find.proofs.extending.add_found.Goals as goal

pub returns-in_ok-push_found-in-Lanes-clause-grow : goal.returns-in_ok-push_found-in-Lanes-clause-grow
returns-in_ok-push_found-in-Lanes-clause-grow g c =
    let turns = c.args.entries.now.turns.items in
    let salvos = c.args.entries.now.salvos.items in
    subst (λ candidate. Grow (said_of c.args.book.now) c.args.number candidate turns turns salvos c.push_found.new.entries.items) (sym c.in-Lanes.is)
    (lanes_grow (said_of c.args.book.now) c.args.number c.in-Lanes.lanes turns salvos _ _ c.in_ok-found-in-Lanes.ensures.found c.in_ok-push_found-in-Lanes.ensures)

pub returns-in_ok-push_found-in-Delays-clause-grow : goal.returns-in_ok-push_found-in-Delays-clause-grow
returns-in_ok-push_found-in-Delays-clause-grow g c =
    let turns = c.args.entries.now.turns.items in
    let salvos = c.args.entries.now.salvos.items in
    subst (λ candidate. Grow (said_of c.args.book.now) c.args.number candidate turns c.push_found-in-Delays.new.entries.items salvos salvos) (sym c.in-Delays.is)
    (delays_grow (said_of c.args.book.now) c.args.number c.in-Delays.kind c.in-Delays.delays turns _ salvos _ c.in_ok-found-in-Delays.ensures.found c.in_ok-push_found-in-Delays.ensures)
