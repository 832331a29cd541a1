-- What looking at one more generation adds to what is known of a bound.
use Rattle.std.proofs.Common.{◌≡◌, ℕ, ◌+◌, ◌<◌, ◌^◌, true, false, ℤ, pos, ◌+ℤ◌, ◌*ℤ◌, ◌≤ℤ◌, List, Option, Some, None, below_more, sym, ap, subst, ◌∙◌, arith}
use Rattle.std.specs.Option.{is_some}
use Rattle.std.proofs.lemmas.Int.{ints}
use Rattle.life_plane.specs.Plane.{Plane, run}
use Rattle.life_cells.specs.declared.bounds.Bounds.{Bounds}
use Rattle.life_cells.specs.declared.cell.Cell.{Cell}
use Rattle.life_cells.specs.Boxes.{IsInRange, InBox, IsLeastBox}
use Rattle.life_cells.specs.Cells.{Cells, alive, empty}
use Rattle.life_cells.specs.Laws.{alive-empty}
use Rattle.life_cells.specs.BoxRangeLaws.{box_in_range}
use Rattle.book_parts.specs.declared.settings.Settings.{Settings}
use Rattle.recipe_turn.specs.Range.{IsWithinReach}
use Rattle.recipe_turn.specs.Turn.{IsInReach, IsAheadOrOwn}
use Rattle.recipe_turn.specs.Bounds.{AllKeep, IsFirstBreaking, KeepsBoth}
use Rattle.recipe_turn.specs.Breaches.{KeepsReach, IsKnown, IsFirstBreach, AreKnown}
use Rattle.recipe_turn.specs.declared.breaches.Breach.{Breach}
use Rattle.recipe_turn.specs.declared.breaches.Breaches.{Breaches}
use Rattle.std.proofs.lemmas.Bool.{true≢false, false≢true}

-- a generation that keeps the bound
pub known_kept : (Keeps : ℕ → ℤ → ℤ → Type 0) (start s : Plane) (t : ℕ) (found : Option Breach) → s ≡ run t start → AllKeep (Keeps t) s → IsKnown Keeps start t found →
    IsKnown Keeps start (t + 1) found
known_kept Keeps start s t None same keeps known = below_more (λ k. AllKeep (Keeps k) (run k start)) t known (subst (AllKeep (Keeps t)) same keeps)
known_kept Keeps start s t (Some breach) same keeps known = (let lt = known.0 in omega arith, known.1)

-- a generation with a cell that breaks it, and nothing known of one before
pub first_known : (Keeps : ℕ → ℤ → ℤ → Type 0) (start s : Plane) (t : ℕ) (found : Option Breach) (cell : Cell) → false ≡ is_some found → s ≡ run t start → IsKnown Keeps start t found →
    IsFirstBreaking (Keeps t) s cell → (t < t + 1) × IsFirstBreach Keeps start t cell
first_known Keeps start s t (Some breach) cell none same known first = absurd (false≢true none)
first_known Keeps start s t None cell none same known first =
    (omega arith, record { before = known; first = subst (λ (p : Plane). IsFirstBreaking (Keeps t) p cell) same first })

-- both bounds are kept
pub both_kept : (settings : Settings) (delays : List ℤ) (start s : Plane) (t : ℕ) (breaches : Breaches) → s ≡ run t start → AllKeep (IsInReach settings) s →
    AllKeep (IsAheadOrOwn settings delays t) s → AreKnown settings delays start t breaches → AreKnown settings delays start (t + 1) breaches
both_kept settings delays start s t breaches same reach tail known = record {
  reach = known_kept (KeepsReach settings) start s t breaches.reach same reach known.reach;
  tail = known_kept (IsAheadOrOwn settings delays) start s t breaches.tail same tail known.tail;
}

-- with no cell
pub none_keeps : (settings : Settings) (delays : List ℤ) (start : Plane) (s : Cells) (t : ℕ) (breaches : Breaches) → s ≡ empty → alive s ≡ run t start →
    AreKnown settings delays start t breaches → AreKnown settings delays start (t + 1) breaches
none_keeps settings delays start s t breaches none same =
    let dead : (x y : ℤ) → alive s x y ≡ true → ⊥ = λ x y live. true≢false (sym live ∙ ap (λ (p : Plane). p x y) (ap alive none ∙ alive-empty)) in
    both_kept settings delays start (alive s) t breaches same (λ x y live. absurd (dead x y live)) (λ x y live. absurd (dead x y live))

-- with all cells in a box that is clear
pub clear_both : (settings : Settings) (delays : List ℤ) (s : Plane) (t : ℕ) (box : Bounds) → IsLeastBox box s → ((x y : ℤ) → InBox box x y → IsInReach settings x y) →
    ((x y : ℤ) → InBox box x y → pos 2 ≤ℤ (pos 2 *ℤ (x +ℤ y) +ℤ settings.approach)) → KeepsBoth settings delays t s
clear_both settings delays s t box least near ahead = record {
  reach = λ x y live. near x y (least.holds.each x y live);
  tail = λ x y live. record { own = λ behind. let far = ahead x y (least.holds.each x y live) in absurd (omega (arith, ints, behind, far)) };
}

pub clear_keeps : (settings : Settings) (delays : List ℤ) (start s : Plane) (t : ℕ) (breaches : Breaches) (box : Bounds) → IsLeastBox box s →
    ((x y : ℤ) → InBox box x y → IsInReach settings x y) → ((x y : ℤ) → InBox box x y → pos 2 ≤ℤ (pos 2 *ℤ (x +ℤ y) +ℤ settings.approach)) → s ≡ run t start →
    AreKnown settings delays start t breaches → AreKnown settings delays start (t + 1) breaches
clear_keeps settings delays start s t breaches box least near ahead same =
    let both = clear_both settings delays s t box least near ahead in both_kept settings delays start s t breaches same both.reach both.tail

-- ---- the corners of the least box of a set in range

pub left_within : (box : Bounds) (s : Plane) → IsInRange (2 ^ 41) s → IsLeastBox box s → IsWithinReach box.left box.top
left_within box s range least =
    let sides = box_in_range (2 ^ 41) box s least range in
    record { left = sides.left_low; right = sides.left_high; above = sides.top_low; below = sides.top_high }

pub right_within : (box : Bounds) (s : Plane) → IsInRange (2 ^ 41) s → IsLeastBox box s → IsWithinReach box.right box.top
right_within box s range least =
    let sides = box_in_range (2 ^ 41) box s least range in
    record { left = sides.right_low; right = sides.right_high; above = sides.top_low; below = sides.top_high }
