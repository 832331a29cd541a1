use Rattle.std.proofs.Common.{arith}
use Rattle.life_islands.proofs.Flooding.{search_begins, one_inserted, search_more, search_ends, at_place}
use Rattle.life_islands.proofs.search.joined_with.Goals as goal

pub cells-init : goal.cells-init
cells-init c = search_begins _ _ _ c.requires (one_inserted _ _ _ c.new-found.ensures.empty c.in_ok-insert.ensures.keys)

pub cells-preserved : goal.cells-preserved
cells-preserved c = search_more _ _ _ _ _ _ c.cells.invariant (at_place _ _ _ _ c.as_slice.ensures.keys (omega (arith, c.len.ensures.len))) c.in_ok-add_linked.ensures

pub returns : goal.returns
returns c = search_ends _ _ _ _ c.cells.invariant (omega (arith, c.len.ensures.len))
