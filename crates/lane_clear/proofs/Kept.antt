-- What a built set keeps, and what its tests say.
use Rattle.std.proofs.Common.{◌≡◌, ◌↔◌, IsTrue, Bool, false, Result, Ok, Err, ℤ, pos, ◌+ℤ◌, ◌*ℤ◌, ◌≤ℤ◌, List, sym, ap, subst, ◌∙◌, arith}
use Rattle.std.specs.Prelude.{IfOk, int_le}
use Rattle.std.specs.declared.option.Option.{Option}
use Rattle.std.specs.declared.option.Option.TheVariants.{Some, None}
use Rattle.std.specs.HashMap.{get, IsEmpty}
use Rattle.std.specs.Ordering.{int_eq}
use Rattle.std.proofs.lemmas.Int.{ints}
use Rattle.life_plane.specs.Plane.{Plane, union}
use Rattle.life_plane.specs.Strips.{Each}
use Rattle.life_plane.specs.NumberLaws.{le_from_test, test_from_le}
use Rattle.life_cells.specs.declared.cell.Cell.{Cell}
use Rattle.life_cells.specs.declared.bounds.Bounds.{Bounds}
use Rattle.life_cells.specs.declared.memory.NoMemory.{NoMemory}
use Rattle.life_cells.specs.Boxes.{IsInRange}
use Rattle.life_cells.specs.Cells.{Cells, alive, in_order, empty}
use Rattle.life_cells.specs.Laws.{alive-empty, alive_of_order, same_cells}
use Rattle.life_cells.specs.Listed.{listed}
use Rattle.book_parts.specs.declared.settings.Settings.{Settings}
use Rattle.recipe_hit.specs.declared.frame.HitFrame.{HitFrame}
use Rattle.lane_clear.specs.Bare.{IsBare, HasCells, grown}
use Rattle.lane_clear.specs.Barriers.{ByLane, IsBarrier, AreBarriers, with_cells}
use Rattle.lane_clear.specs.Clear.{AreBeyond, IsOffBounds, IsAside, IsClear}
use Rattle.lane_clear.specs.Frames.{farthest}
use Rattle.lane_clear.proofs.Barred.{nothing_in_range, nothing_barred, barriers_more, free_lane, free_behind, ahead_where_free}
use Rattle.lane_clear.proofs.Near.{bare_is_off}
use Rattle.life_cells.specs.BoxLaws.{range_union}

-- the cells are in range, and each lane has its barrier
abbrev pub AreKept : Plane → ByLane → Type 0
AreKept s barriers = IsInRange farthest s × AreBarriers s barriers

pub none_kept : (s : Cells) (m : ByLane) → s ≡ empty → IsEmpty m → AreKept (alive s) m
none_kept s m e none = subst (λ (p : Plane). AreKept p m) (sym (ap alive e ∙ alive-empty)) (nothing_in_range farthest, nothing_barred m none)

pub listed_in_range : (cs : List Cell) (s : Cells) → cs ≡ in_order s → IsInRange farthest (alive s) → IsInRange farthest (listed cs)
listed_in_range cs s e h = subst (IsInRange farthest) (sym (alive_of_order cs s e)) h

pub more_kept : (s t island : Cells) (cs : List Cell) (before after : ByLane) → cs ≡ in_order island → alive t ≡ union (alive s) (alive island) → AreKept (alive s) before → IsInRange farthest (alive island) →
    ((lane : ℤ) → get int_eq after lane ≡ with_cells lane (get int_eq before lane) cs) → AreKept (alive t) after
more_kept s t island cs before after e is kept range lowered =
    subst (λ (p : Plane). AreKept p after) (sym is) (
      range_union farthest (alive s) (alive island) kept.0 range,
      subst (λ (p : Plane). AreBarriers (union (alive s) p) after) (alive_of_order cs island e) (barriers_more (alive s) cs before after kept.1 lowered),
    )

only_those : (e s b : Cells) → e ≡ empty → alive b ≡ union (alive e) (alive s) → b ≡ s
only_those e s b none is = same_cells b s (is ∙ ap (λ (p : Plane). union p (alive s)) (ap alive none ∙ alive-empty))

pub those_alone : (r : Result Cells NoMemory) (e s : Cells) → e ≡ empty → IfOk r (λ b. alive b ≡ union (alive e) (alive s)) → IfOk r (λ b. b ≡ s)
those_alone (Ok b) e s none is = only_those e s b none is
those_alone (Err f) e s none is = tt

pub off_test : (t : Bool) (b g : Bounds) (cs : List Cell) (s now : Cells) → g ≡ grown b → cs ≡ in_order s → s ≡ now → HasCells b → IsTrue t ↔ IsBare g (listed cs) → IsTrue t ↔ Each (IsOffBounds b) (alive now)
off_test t b g cs s now eg order view has is =
    let near = bare_is_off b (alive now) has in
    let bare = subst (λ (p : Plane). IsTrue t ↔ IsBare (grown b) p) (alive_of_order cs s order ∙ ap alive view) (subst (λ (g : Bounds). IsTrue t ↔ IsBare g (listed cs)) eg is) in
    (λ h. near.0 (bare.0 h), λ off. bare.1 (near.1 off))

-- ---- a lane's barrier

barrier_of : (s now : Cells) (m : ByLane) (lane : ℤ) (o : Option ℤ) → s ≡ now → AreBarriers (alive s) m → o ≡ get int_eq m lane → IsBarrier (alive now) lane o
barrier_of s now m lane o view barred is = subst (IsBarrier (alive now) lane) (sym is) (subst (λ (c : Cells). IsBarrier (alive c) lane (get int_eq m lane)) view (barred lane))

pub free_lane_test : (s now : Cells) (m : ByLane) (frame : HitFrame) → s ≡ now → AreBarriers (alive s) m → None ≡ get int_eq m frame.lane → Each (IsAside frame) (alive now)
free_lane_test s now m frame view barred is = free_lane (alive now) frame (barrier_of s now m frame.lane None view barred is)

pub barrier_test : (s now : Cells) (m : ByLane) (frame : HitFrame) (u ahead read : ℤ) → s ≡ now → AreBarriers (alive s) m → Some u ≡ get int_eq m frame.lane → ahead ≡ (frame.lane +ℤ pos 2 *ℤ frame.start) +ℤ pos 10 → read ≡ u →
    IsTrue (int_le ahead read) ↔ Each (IsAside frame) (alive now)
barrier_test s now m frame u ahead read view barred is e f =
    let barrier = barrier_of s now m frame.lane (Some u) view barred is in (
      λ h. let le : ahead ≤ℤ read = le_from_test h in free_behind (alive now) frame u barrier (omega (arith, ints)),
      λ all. let le = ahead_where_free (alive now) frame u barrier all in let tested : ahead ≤ℤ read = omega (arith, ints) in test_from_le tested,
    )

-- ---- clearance by its parts

pub clear_from_parts : (settings : Settings) (built : Plane) (there frame : HitFrame) (test : Bool) → there ≡ frame → AreBeyond settings there.bounds → Each (IsAside there) built →
    IsTrue test ↔ Each (IsOffBounds there.bounds) built → IsTrue test ↔ IsClear settings built frame
clear_from_parts settings built there frame test same works aside off =
    subst (λ (f : HitFrame). IsTrue test ↔ IsClear settings built f) same (λ h. record { works = works; near = off.0 h; lane_free = aside }, λ clear. off.1 clear.near)

pub not_clear : (settings : Settings) (built : Plane) (there frame : HitFrame) → there ≡ frame → (IsClear settings built there → ⊥) → IsTrue false ↔ IsClear settings built frame
not_clear settings built there frame same no_way = subst (λ (f : HitFrame). IsTrue false ↔ IsClear settings built f) same (λ h. cc, λ clear. absurd (no_way clear))
