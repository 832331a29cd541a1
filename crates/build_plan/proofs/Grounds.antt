-- Where a target is built: its move, the room about it, and its cells there, within ranges.
use Rattle.std.specs.Prelude.{◌≡◌, ℕ, ◌^◌, ℤ, pos, neg_ℤ, ◌-ℤ◌, ◌≤ℤ◌, true, List}
use Rattle.std.specs.Int.{int_max}
use Rattle.std.proofs.Common.{sym, ap, subst, ◌∙◌, arith, inl, inr, w64, to_z, of_z}
use Rattle.std.proofs.lemmas.Int.{ints, clamps}
use Rattle.life_plane.specs.Plane.{Plane, nothing, shift}
use Rattle.life_cells.specs.Boxes.{IsInRange, IsCellInRange, IsLeastBox}
use Rattle.life_cells.specs.BoxLaws.{one_least_box}
use Rattle.life_cells.specs.Cells.{Cells, alive}
use Rattle.life_cells.specs.declared.bounds.Bounds.{Bounds}
use Rattle.life_cells.specs.declared.cell.Cell.{Cell}
use Rattle.life_islands.specs.Islands.{AreIslands}
use Rattle.life_islands.specs.declared.island.Island.{Island}
use Rattle.life_target.specs.Targets.{IsTarget, IsNarrow, width, height}
use Rattle.book_parts.specs.Limits.{AreProper}
use Rattle.book_parts.specs.declared.settings.Settings.{Settings}
use Rattle.hand_route.specs.Rooms.{IsRoom}
use Rattle.build_plan.specs.Placing.{IsEmptyPlacing, IsBoxPlacing, IsPlacing, moved_target}
use Rattle.build_plan.specs.Plan.{IsPlanFor, IsPlan}
use Rattle.build_plan.specs.Stops.{StopsFor, PlanStops}
use Rattle.build_plan.specs.declared.event.Plan.{Plan}
use Rattle.build_plan.specs.declared.error.PlanError.{PlanError}
use Rattle.build_plan.specs.declared.error.PlanError.TheVariants.{NoRecipe, NoClosing, StreamLong, Memory}
use Rattle.build_plan.specs.declared.placing.Placing.{Placing}
use Rattle.recipe_book.specs.Checked.{CheckedEntries}
use Rattle.build_plan.proofs.Places.{least_in_range, corner_in_range}

-- the move isn't too far, the room is one, and the target is near (0,0) there
pub record IsGround (target : Plane) (placing : Placing) : Type 0 where
  pub by : IsCellInRange (2 ^ 41) placing.by
  pub room : IsRoom placing.room
  pub near : IsInRange (2 ^ 40) (moved_target target placing.by)

not_true : (x y : ℤ) → nothing x y ≡ true → ⊥
not_true x y h = cc

-- nothing lives
none_lives : (n : ℕ) (s : Plane) → s ≡ nothing → IsInRange n s
none_lives n s none = subst (IsInRange n) (sym none) (record {
  x_low = λ x y h. absurd (not_true x y h);
  x_high = λ x y h. absurd (not_true x y h);
  y_low = λ x y h. absurd (not_true x y h);
  y_high = λ x y h. absurd (not_true x y h);
})

of_none : (target : Plane) (placing : Placing) → IsEmptyPlacing target placing → IsGround target placing
of_none target placing e = record {
  by = subst (IsCellInRange (2 ^ 41)) (sym e.by_none) (record { x_low = omega (arith, ints); x_high = omega (arith, ints); y_low = omega (arith, ints); y_high = omega (arith, ints) });
  room = subst IsRoom (sym e.no_room) (record {
    columns = record { from = omega (arith, ints); order = omega (arith, ints); to = omega (arith, ints); few = omega (arith, ints) };
    rows = record { from = omega (arith, ints); order = omega (arith, ints); to = omega (arith, ints); few = omega (arith, ints) };
  });
  near = none_lives (2 ^ 40) (moved_target target placing.by) (ap (shift placing.by.x placing.by.y) e.empty);
}

-- the sides of a target's box
record AreShort (box : Bounds) : Type 0 where
  across : (box.right -ℤ box.left) ≤ℤ pos 2047
  down : (box.bottom -ℤ box.top) ≤ℤ pos 2047

short : (target : Plane) (box : Bounds) → IsLeastBox box target → IsNarrow target → AreShort box
short target box least (inl none) = absurd (not_true least.lives.0 least.lives.1.0 (subst (λ (s : Plane). s least.lives.0 least.lives.1.0 ≡ true) none least.lives.1.1))
short target box least (inr (side, (has, few))) =
    let same : has.box ≡ box = one_least_box target has.box box has.box_is least in
    let side_is : pos side ≡ int_max (width box) (height box) = has.side_is ∙ ap (λ (b : Bounds). int_max (width b) (height b)) same in
    record { across = omega (arith, ints, clamps); down = omega (arith, ints, clamps) }

of_box : (settings : Settings) (target : Plane) (placing : Placing) → AreProper settings → IsTarget target → IsBoxPlacing settings target placing → IsGround target placing
of_box settings target placing proper is b =
    let t = least_in_range (2 ^ 40) target b.box is.range b.least in
    let range = t.range in
    let columns = t.columns in
    let rows = t.rows in
    let s = short target b.box b.least is.narrow in
    let across = s.across in
    let down = s.down in
    let corner_x = proper.corner_x in
    let corner_y = proper.corner_y in
    let room = proper.room in
    let by_x : placing.by.x ≡ settings.corner.x -ℤ b.box.left = ap (λ (c : Cell). c.x) b.by_is in
    let by_y : placing.by.y ≡ settings.corner.y -ℤ b.box.bottom = ap (λ (c : Cell). c.y) b.by_is in
    record {
      by = subst (IsCellInRange (2 ^ 41)) (sym b.by_is) (corner_in_range settings b.box proper range);
      room = subst IsRoom (sym b.room_is) (record {
        columns = record { from = omega (arith, ints); order = omega (arith, ints); to = omega (arith, ints); few = omega (arith, ints) };
        rows = record { from = omega (arith, ints); order = omega (arith, ints); to = omega (arith, ints); few = omega (arith, ints) };
      });
      near = record {
        x_low = λ x y lives. let i = b.least.holds.each (x -ℤ placing.by.x) (y -ℤ placing.by.y) lives in let l = i.right_of_left in omega (arith, ints);
        x_high = λ x y lives. let i = b.least.holds.each (x -ℤ placing.by.x) (y -ℤ placing.by.y) lives in let r = i.left_of_right in omega (arith, ints);
        y_low = λ x y lives. let i = b.least.holds.each (x -ℤ placing.by.x) (y -ℤ placing.by.y) lives in let l = i.below_top in omega (arith, ints);
        y_high = λ x y lives. let i = b.least.holds.each (x -ℤ placing.by.x) (y -ℤ placing.by.y) lives in let r = i.above_bottom in omega (arith, ints);
      };
    }

pub ground_of : (settings : Settings) (target : Plane) (placing : Placing) → AreProper settings → IsTarget target → IsPlacing settings target placing → IsGround target placing
ground_of settings target placing proper is (inl e) = of_none target placing e
ground_of settings target placing proper is (inr b) = of_box settings target placing proper is b

-- what is placed is the target, by the book's settings
pub placed : (settings told : Settings) (target shown : Cells) (placing : Placing) → told ≡ settings → shown ≡ target → IsPlacing told (alive shown) placing → IsPlacing settings (alive target) placing
placed settings told target shown placing same cells is = subst (λ (s : Settings). IsPlacing s (alive target) placing) same (subst (λ (x : Cells). IsPlacing told (alive x) placing) cells is)

-- the islands of what was moved are those of the target where it is built
pub moved_islands : (target shown moved : Plane) (by : Cell) (found islands : List Island) → shown ≡ target → moved ≡ shift by.x by.y shown → AreIslands moved found → islands ≡ found → AreIslands (moved_target target by) islands
moved_islands target shown moved by found islands cells is are same =
    subst (AreIslands (moved_target target by)) (sym same) (subst (λ (s : Plane). AreIslands s found) (is ∙ ap (shift by.x by.y) cells) are)

-- what stops planning for the islands of a target stops it for the target
pub stops_of : (book : CheckedEntries) (target : Plane) (placing : Placing) (islands : List Island) → IsPlacing book.settings target placing → AreIslands (moved_target target placing.by) islands →
    (stop : PlanError) → StopsFor book placing islands stop → PlanStops book target stop
stops_of book target placing islands is are (NoRecipe island at) stops = record { placing = placing; is_placing = is; islands = islands; islands_are = are; stops = stops }
stops_of book target placing islands is are (NoClosing kind last) stops = record { placing = placing; is_placing = is; islands = islands; islands_are = are; stops = stops }
stops_of book target placing islands is are (StreamLong count) stops = record { placing = placing; is_placing = is; islands = islands; islands_are = are; stops = stops }
stops_of book target placing islands is are Memory stops = tt

-- a number, as it is passed
pub passed : (z : ℤ) → neg_ℤ (pos (2 ^ 41)) ≤ℤ z → z ≤ℤ pos (2 ^ 41) → to_z w64 (of_z w64 z) ≡ z
passed z low high = omega (arith, ints)

-- what holds of a move and of cells holds of what is equal to them
pub moved_so : (P : ℤ → ℤ → Cells → Type 0) (x y a b : ℤ) (s t : Cells) → x ≡ a → y ≡ b → s ≡ t → P x y s → P a b t
moved_so P x y a b s t xs ys cells h = subst (P a b) cells (subst (λ (z : ℤ). P a z s) ys (subst (λ (z : ℤ). P z y s) xs h))

-- a plan for the islands of a target is a plan for the target
pub plan_of : (book : CheckedEntries) (target : Plane) (placing : Placing) (islands : List Island) → IsPlacing book.settings target placing → AreIslands (moved_target target placing.by) islands →
    (plan : Plan) → IsPlanFor book placing islands plan → IsPlan book target plan
plan_of book target placing islands is are plan plans = record { placing = placing; is_placing = is; islands = islands; islands_are = are; plans = plans }
