use Rattle.std.proofs.Common.{ℤ, List, ◌++◌, subst, map}
use Rattle.book_read.proofs.outside.salvo_outside.Goals as goal
use Rattle.book_read.specs.Limited.{held, product_numbers, place_numbers, IsFirstOutside}
use Rattle.book_lines.specs.declared.limit.Limit.TheVariants as limit
use Rattle.book_read.proofs.FirstOutside.{first_append}

pub returns : goal.returns
returns c =
    let s = c.args.salvo.now in
    rw (c.or-2.ensures, c.or.ensures)
    (first_append (map (held limit.Coordinate) s.lanes) (product_numbers s.product ++ place_numbers s.hand) c.numbers_outside-lanes.result _ (subst (λ (ds : List ℤ). IsFirstOutside (map (held limit.Coordinate) ds) c.numbers_outside-lanes.result) c.items.ensures c.numbers_outside-lanes.ensures)
    (first_append (product_numbers s.product) (place_numbers s.hand) c.product_outside-product.result c.place_outside-hand.result c.product_outside-product.ensures c.place_outside-hand.ensures))
