use Rattle.std.proofs.Common.{◌∷◌, [], ◌++◌, ◌∙◌, ap, sym, subst}
use Rattle.std.specs.List.{Contains}
use Rattle.life_cells.specs.Boxes.{InBox}
use Rattle.hand_route.specs.Rooms.{Places}
use Rattle.hand_route.proofs.Tabled.{table_of_more}
use Rattle.hand_route.proofs.found.Found.add.Goals as goal

pub invariant_of-self-2 : goal.invariant_of-self-2
invariant_of-self-2 c =
    let inside = subst (λ (p : Places). InBox p.room c.args.at.x c.args.at.y) (sym c.self.view_is) c.requires.inside in
    let new = subst (λ (p : Places). Contains p.cells c.args.at → ⊥) (sym c.self.view_is) c.requires.new in
    let grown = c.push_reserved.ensures.items ∙ ap (λ cs. cs ++ c.args.at ∷ []) c.reserve.ensures.items in
    table_of_more c.self.inside.room c.args.at c.self.inside.cells.items c.push_reserved.new.self.items c.self.inside.table.items c.index.result c.len.result c.index.ensures.is c.self.invariant inside new grown (c.len.ensures ∙ c.push_reserved.new.self.ok.0)
