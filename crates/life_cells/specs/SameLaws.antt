-- The laws of equal cells and equal sets of cells.
use Rattle.std.specs.Prelude.{◌≡◌, true}
use Rattle.std.specs.Ordering.{int_cmp}
use Rattle.std.specs.Bool.{Decides}
use Rattle.std.specs.Cmp.{IsEquivalence, on_equiv, and_equiv, int_eq_equiv, tied_then}
use Rattle.std.specs.Cmp.Lexicographic.{lists_equiv}
use Rattle.std.proofs.Common.{refl, sym, ap, ◌∙◌}
use Rattle.std.proofs.lemmas.Slice.Eq.{slice_eq-Decides}
use Rattle.life_cells.specs.declared.cell.Cell.{Cell}
use Rattle.life_cells.specs.Cells.{Cells, in_order, from_list}
use Rattle.life_cells.specs.Listed.{same_cell}
use Rattle.life_cells.specs.OrderLaws.{same_cell_is}
use Rattle.life_cells.specs.Laws.{from_list-in_order}
use Rattle.life_cells.specs.Same.{same_fields, same_set, set_hash}

pub same_fields_tie : (a b : Cell) → same_fields a b ≡ same_cell a b
same_fields_tie a b = tied_then (int_cmp a.y b.y) (int_cmp a.x b.x)

pub same_fields_equiv : IsEquivalence same_fields
same_fields_equiv = and_equiv (on_equiv (λ (c : Cell). c.y) int_eq_equiv) (on_equiv (λ (c : Cell). c.x) int_eq_equiv)

pub same_fields_is : (a b : Cell) → same_fields a b ≡ true → a ≡ b
same_fields_is a b h = same_cell_is a b (sym (same_fields_tie a b) ∙ h)

pub same_fields-Decides : (a b : Cell) → Decides (same_fields a b) (a ≡ b)
same_fields-Decides a b = (same_fields_is a b, λ e. ap (same_fields a) (sym e) ∙ same_fields_equiv.refl a)

pub same_set_equiv : IsEquivalence same_set
same_set_equiv = on_equiv in_order (lists_equiv same_fields_equiv)

-- sets that pass the test are equal
pub same_set_is : (s t : Cells) → same_set s t ≡ true → s ≡ t
same_set_is s t h =
    let same : in_order s ≡ in_order t = (slice_eq-Decides same_fields-Decides (in_order s) (in_order t) (same_set s t) refl).0 h in
    sym (from_list-in_order s) ∙ ap from_list same ∙ from_list-in_order t

-- and equal sets pass it
pub same_set-equal : (s t : Cells) → s ≡ t → same_set s t ≡ true
same_set-equal s t e = ap (same_set s) (sym e) ∙ same_set_equiv.refl s

-- equal sets feed a hasher alike
pub set_hash-same : (s t : Cells) → same_set s t ≡ true → set_hash s ≡ set_hash t
set_hash-same s t h = ap set_hash (same_set_is s t h)
