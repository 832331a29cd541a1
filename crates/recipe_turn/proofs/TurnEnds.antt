-- The planes that a turn's end states.
use Rattle.std.proofs.Common.{◌≡◌, ℕ, ℤ, List, Result, Ok, Err, IfOk, sym, ap, ◌∙◌}
use Rattle.life_plane.specs.Plane.{Plane, shift, union}
use Rattle.life_plane.specs.Salvo.{salvo_glider}
use Rattle.life_cells.specs.declared.cell.Cell.{Cell}
use Rattle.life_cells.specs.Cells.{Cells, alive, from_list}
use Rattle.life_cells.specs.Listed.{listed}
use Rattle.life_cells.specs.Laws.{alive-from_list}
use Rattle.book_parts.specs.declared.turn.TurnEnd.{TurnEnd}
use Rattle.book_parts.specs.declared.turn.TurnEnd.TheVariants.{Emit}
use Rattle.recipe_turn.specs.Turn.{turn_end}

-- an elbow and what was thrown, joined
pub thrown_end : {E : Type 0} (r : Result Cells E) (stated : TurnEnd) (kind : ℕ) (advance lane j advance_read lane_read j_read : ℤ) (next elbow : Plane) (thrown : Cells) (five : List Cell) →
    stated ≡ Emit kind advance lane j → advance_read ≡ advance → lane_read ≡ lane → j_read ≡ j → elbow ≡ shift advance_read advance_read next → listed five ≡ salvo_glider lane_read j_read →
    thrown ≡ from_list five → IfOk r (λ s. alive s ≡ union elbow (alive thrown)) → IfOk r (λ s. alive s ≡ turn_end stated next)
thrown_end (Ok s) stated kind advance lane j advance_read lane_read j_read next elbow thrown five is same_advance same_lane same_j at_elbow glider all h =
    h ∙ (λ i. union (at_elbow i) ((ap alive all ∙ alive-from_list five ∙ glider) i)) ∙ (λ i. union (shift (same_advance i) (same_advance i) next) (salvo_glider (same_lane i) (same_j i)))
    ∙ ap (λ e. turn_end e next) (sym is)
thrown_end (Err e) stated kind advance lane j advance_read lane_read j_read next elbow thrown five is same_advance same_lane same_j at_elbow glider all h = h
