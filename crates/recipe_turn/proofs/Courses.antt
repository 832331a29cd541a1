-- A turn's course, and what it says of the turn.
use Rattle.std.proofs.Common.{◌≡◌, ℕ, ◌+◌, ◌^◌, ◌≤◌, ℤ, pos, List, sym, ap, subst, ◌∙◌, arith}
use Rattle.life_plane.specs.Plane.{Plane, run, union}
use Rattle.life_cells.specs.Boxes.{IsInRange}
use Rattle.life_cells.specs.BoxLaws.{range_run, range_wider}
use Rattle.book_parts.specs.declared.settings.Settings.{Settings}
use Rattle.book_parts.specs.declared.turn.RawTurn.{RawTurn}
use Rattle.recipe_turn.specs.Turn.{gliders, turn_start}
use Rattle.book_parts.specs.declared.limits.TheConstants.{LONGEST_TURN}

-- how far the cells of a generation lie
pub course_range : (start s : Plane) (t n : ℕ) → IsInRange (2 ^ 40) start → t ≤ LONGEST_TURN → s ≡ run t start → 2 ^ 41 ≤ n → IsInRange n s
course_range start s t n h le same wide = subst (IsInRange n) (sym same) (range_wider (2 ^ 40 + t) n _ (range_run t (2 ^ 40) start h) (omega arith))

-- the start of a turn, from its parts
pub start_is : (settings : Settings) (kind own s : Plane) (turn : RawTurn) (delays : List ℤ) → delays ≡ turn.delays → own ≡ gliders settings delays (pos 0) → s ≡ union kind own →
    s ≡ turn_start settings kind turn
start_is settings kind own s turn delays same is all = all ∙ ap (union kind) (is ∙ ap (λ ds. gliders settings ds (pos 0)) same)
