use Rattle.std.proofs.Common.{◌∷◌, [], ◌++◌, ◌∙◌, ap}
use Rattle.hand_route.proofs.Tabled.{table_of_one}
use Rattle.hand_route.proofs.found.Found.start.Goals as goal

pub invariant_of-result : goal.invariant_of-result
invariant_of-result c =
    table_of_one c.args.room c.args.from c.push.new.self.items c.in_ok-table.table.items c.size.result c.index.result c.size.ensures c.index.ensures.is c.requires.room c.requires.from
    (c.in_ok-push.ensures.items ∙ ap (λ cs. cs ++ c.args.from ∷ []) c.new-cells.ensures.items) (c.in_ok-table.ensures.items_if_clones_equal (λ y h. h))
