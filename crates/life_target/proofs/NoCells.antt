-- Sets with no cell.
use Rattle.std.proofs.Common.{◌≡◌, [], refl, sym, ap, ◌∙◌, inl, arith}
use Rattle.std.proofs.lemmas.Bool.{true≢false}
use Rattle.life_plane.specs.Plane.{nothing, step}
use Rattle.life_cells.specs.Cells.{Cells, alive, empty}
use Rattle.life_cells.specs.Laws.{alive-empty}
use Rattle.life_cells.specs.declared.cell.Cell.{Cell}
use Rattle.life_islands.specs.Joined.{Lives}
use Rattle.life_target.specs.Targets.{IsNarrow, IsTarget}

-- a set with no cell is narrow
pub empty_is_narrow : (s : Cells) → s ≡ empty → IsNarrow (alive s)
empty_is_narrow s e = inl (ap alive e ∙ alive-empty)

nothing_lives : {P : Type 0} (c : Cell) → Lives nothing c → P
nothing_lives c h = absurd (true≢false (sym h))

-- nothing is a target
pub nothing_is_target : IsTarget nothing
unfolding step
nothing_is_target = record {
  narrow = inl refl;
  still = refl;
  islands = (0, (([], (record { each = tt; all = λ c h. nothing_lives c h; in_order = tt }, refl)), omega arith));
  range = record { x_low = λ x y h. absurd (true≢false (sym h)); x_high = λ x y h. absurd (true≢false (sym h)); y_low = λ x y h. absurd (true≢false (sym h)); y_high = λ x y h. absurd (true≢false (sym h)) };
}
