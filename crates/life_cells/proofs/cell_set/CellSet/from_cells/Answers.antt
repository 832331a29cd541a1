use Rattle.std.proofs.Common.{ap, ◌∙◌}
use Rattle.std.proofs.lemmas.List.Filters.{dedup_is}
use Rattle.std.proofs.lemmas.List.Kept.{IsStrictlySortedBy-dedup, Contains-dedup, Contains-from_dedup}
use Rattle.std.proofs.lemmas.List.Sorted.{Contains-permutation, IsPermutation-sym}
use Rattle.life_cells.specs.Cells.{from_list}
use Rattle.life_cells.specs.Laws.{same_lists}
use Rattle.life_cells.specs.OrderLaws.{cells_total}
use Rattle.life_cells.specs.SameLaws.{same_fields_tie, same_fields_equiv, same_fields_is}
use Rattle.life_cells.proofs.Places.{same_listed}
use Rattle.life_cells.proofs.cell_set.CellSet.from_cells.Goals as goal

pub invariant_of-result : goal.invariant_of-result
invariant_of-result c = rw (dedup_is _ _ _ c.dedup.ensures.filtered) (IsStrictlySortedBy-dedup cells_total same_fields_tie _ c.in_ok-sort.ensures.sorted)

pub returns : goal.returns
returns c =
    let is = dedup_is _ _ _ c.dedup.ensures.filtered in
    let copied = c.in_ok-sorted.ensures.items_if_clones_equal (λ x y e. e) in
    let moved = c.in_ok-sort.ensures.permutation in
    ap from_list is
    ∙ same_lists _ _ (same_listed _ _
    (λ d h. Contains-permutation _ _ d (IsPermutation-sym _ _ moved) (Contains-from_dedup _ _ d h))
    (λ d h. Contains-dedup same_fields_equiv same_fields_is _ d (Contains-permutation _ _ d moved h)))
    ∙ ap from_list copied
