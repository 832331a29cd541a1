-- A moved set has as many cells.
use Rattle.std.proofs.Common.{◌≡◌, ℤ, ◌-ℤ◌, length, map, sym, ap, ◌∙◌}
use Rattle.std.proofs.lemmas.List.{length-map}
use Rattle.life_plane.specs.Plane.{shift, same_plane}
use Rattle.life_cells.specs.Cells.{Cells, alive, in_order}
use Rattle.life_cells.specs.Listed.{listed}
use Rattle.life_cells.specs.Laws.{alive-in_order, alive-in_order_at, rising-in_order, same_rising}
use Rattle.life_cells.specs.Moved.{moved}
use Rattle.life_cells.specs.MovedLaws.{listed-moved, rising-moved}

pub shifted_length : (s t : Cells) (dx dy : ℤ) → alive s ≡ shift dx dy (alive t) → length (in_order s) ≡ length (in_order t)
shifted_length s t dx dy e =
    let cs = map (moved dx dy) (in_order t) in
    let planes : shift dx dy (alive t) ≡ listed cs = same_plane _ _ (λ x y. alive-in_order_at t (x -ℤ dx) (y -ℤ dy) ∙ sym (listed-moved dx dy (in_order t) x y)) in
    ap length (same_rising (in_order s) cs (rising-in_order s) (rising-moved dx dy (in_order t) (rising-in_order t)) (sym (alive-in_order s) ∙ e ∙ planes))
    ∙ length-map (in_order t) (moved dx dy)
