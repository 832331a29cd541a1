-- The cells of a set that are not in another.
use Rattle.std.proofs.Common.{◌≡◌, Bool, true, false, not, ◌&&◌, ℤ, List, refl, sym, ap, ◌∙◌}
use Rattle.std.specs.List.{filter}
use Rattle.std.proofs.lemmas.List.Kept.{IsStrictlySortedBy-filter}
use Rattle.std.proofs.lemmas.Map.Views.{any-filter_same}
use Rattle.life_plane.specs.Plane.{Plane, same_plane}
use Rattle.life_cells.specs.declared.cell.Cell.{Cell}
use Rattle.life_cells.specs.Cells.{Cells, cell, cell_cmp, alive, in_order, from_list, IsRising}
use Rattle.life_cells.specs.Listed.{listed, same_cell}
use Rattle.life_cells.specs.Laws.{alive-from_list, alive-in_order, rising-in_order}
use Rattle.life_cells.specs.OrderLaws.{same_cell_is}
use Rattle.life_islands.specs.Islands.{rest_of}

-- does a cell not live in a plane
abbrev pub is_outside : Plane → Cell → Bool
is_outside other c = not (other c.x c.y)

swapped : (a b : Bool) → (a && b) ≡ (b && a)
swapped true true = refl
swapped true false = refl
swapped false true = refl
swapped false false = refl

listed-outside : (other : Plane) (cs : List Cell) (x y : ℤ) → listed (filter (is_outside other) cs) x y ≡ (listed cs x y && not (other x y))
listed-outside other cs x y =
    any-filter_same (same_cell (cell x y)) (is_outside other) (not (other x y)) (λ c h. ap (is_outside other) (sym (same_cell_is (cell x y) c h))) cs ∙ swapped (not (other x y)) (listed cs x y)

-- they still rise
pub rising-outside : (other : Plane) (s : Cells) (items kept : List Cell) → items ≡ in_order s → kept ≡ filter (is_outside other) items → IsRising kept
rising-outside other s items kept order is = rw (is, order) (IsStrictlySortedBy-filter cell_cmp (is_outside other) (in_order s) (rising-in_order s))

-- and are the rest
pub alive-outside : (other : Plane) (s rest : Cells) (items kept : List Cell) → items ≡ in_order s → kept ≡ filter (is_outside other) items → rest ≡ from_list kept → alive rest ≡ rest_of (alive s) other
alive-outside other s rest items kept order is made =
    ap alive made ∙ alive-from_list kept ∙ ap listed (is ∙ ap (filter (is_outside other)) order)
    ∙ same_plane _ _ (λ x y. listed-outside other (in_order s) x y ∙ ap (λ (p : Plane). p x y && not (other x y)) (sym (alive-in_order s)))
