use Rattle.std.proofs.Common.{sym, subst}
use Rattle.std.specs.List.{Contains}
use Rattle.life_cells.specs.declared.cell.Cell.{Cell}
use Rattle.life_cells.specs.declared.bounds.Bounds.{Bounds}
use Rattle.life_cells.specs.Boxes.{InBox}
use Rattle.breadth_search.specs.Labels.{label, IsAdded}
use Rattle.breadth_search.specs.Search.{first_of}
use Rattle.hand_route.specs.Ways.{ground, IsKept}
use Rattle.hand_route.proofs.CarriedPlaces.{near_in_room, near_by}
use Rattle.hand_route.proofs.Kept.{kept_adds}
use Rattle.hand_route.proofs.ways.grow_at.Goals as goal

pub carried-next-requires-clause-by : goal.carried-next-requires-clause-by
carried-next-requires-clause-by c = near_by c.in-Some.carrier c.in-Some.ensures.some.carrier_is.1

pub add-requires-clause-inside : goal.add-requires-clause-inside
add-requires-clause-inside c = subst (λ (p : Cell). InBox c.args.found.now.room p.x p.y) (sym c.carried-next.ensures) c.in-Some.ensures.some.on.carries_it.in_room

pub add-requires-clause-new : goal.add-requires-clause-new
add-requires-clause-new c = subst (λ (p : Cell). Contains c.args.found.now.cells p → ⊥) (sym c.carried-next.ensures) c.in-Some.ensures.some.on.new

pub returns-clause-room : goal.returns-clause-room
returns-clause-room c = c.in_ok-add.ensures.room

pub returns-clause-kept : goal.returns-clause-kept
returns-clause-kept c =
    let added = subst (λ (p : Cell). IsAdded p (label c.args.place c.in-Some.carrier.number) c.args.found.now.cells c.args.found.now.labels c.add.new.self.cells c.add.new.self.labels) c.carried-next.ensures c.in_ok-add.ensures.ok in
    subst (λ (r : Bounds). IsKept (ground c.args.salvos.now c.args.built.now r) (first_of c.args.found.now.cells c.args.at) c.args.place c.in-Some.carrier.number c.add.new.self.cells c.add.new.self.labels) (sym c.in_ok-add.ensures.room)
    (kept_adds (ground c.args.salvos.now c.args.built.now c.args.found.now.room) (first_of c.args.found.now.cells c.args.at) c.args.at c.args.place c.args.tried.now c.args.found.now.cells c.args.found.now.labels c.requires.kept c.requires.at
    c.in-Some.carrier c.add.new.self.cells c.add.new.self.labels c.in-Some.ensures.some added)

pub returns-clause-some : goal.returns-clause-some
returns-clause-some c = c.in_ok-add.ensures.ok.states_are

pub returns-clause-near : goal.returns-clause-near
returns-clause-near c = near_in_room c.args.found.now.room c.carried-next.result c.requires.room (subst (λ (p : Cell). InBox c.args.found.now.room p.x p.y) (sym c.carried-next.ensures) c.in-Some.ensures.some.on.carries_it.in_room)
