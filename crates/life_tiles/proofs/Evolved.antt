-- What tiles show as a set, before and after a step.
use Rattle.std.proofs.Common.{◌≡◌, ◌≢◌, Bool, true, false, List, Option, Some, None, Ok, Err, refl, sym, ap, subst, ◌∙◌}
use Rattle.std.specs.Prelude.{IfSome, IfNone, Result, IsOk, OnErr}
use Rattle.std.specs.Bool.{MatchBool}
use Rattle.life_cells.specs.Boxes.{IsLeastBox, IsBoxOf}
use Rattle.life_cells.specs.declared.bounds.Bounds.{Bounds}
use Rattle.life_cells.specs.declared.cell.Cell.{Cell}
use Rattle.life_cells.specs.Cells.{Cells, alive, empty, in_order}
use Rattle.life_cells.specs.Laws.{alive-in_order, alive-empty, same_cells}
use Rattle.life_cells.specs.Listed.{listed}
use Rattle.life_kernel.specs.Words.{plane_of_words}
use Rattle.life_plane.specs.Plane.{Plane}
use Rattle.life_tiles.specs.declared.tile_map.TileMap.{TileMap}
use Rattle.life_tiles.specs.Tiling.{IsTiled, OnlyMakes, cells_of, set_of}
use Rattle.life_tiles.proofs.Lists.{alive-set_of, same_sets}

-- the plane of a set that tiles show
pub shown : (m : TileMap) (s : Cells) → IsTiled m → set_of m ≡ s → alive s ≡ cells_of m
shown m s tiled e = ap alive (sym e) ∙ alive-set_of m tiled

-- ---- boxes

pub box_some : (r : Option Bounds) (s t : Plane) → s ≡ t → IsBoxOf r s → IfSome r (λ box. IsLeastBox box t)
box_some None s t e h = tt
box_some (Some box) s t e h = subst (IsLeastBox box) e h

pub box_none : (r : Option Bounds) (s : Cells) → IsBoxOf r (alive s) → IfNone r (s ≡ empty)
box_none None s h = same_cells s empty (h ∙ sym alive-empty)
box_none (Some box) s h = tt

-- ---- the beginning

pub begins_with : (m : TileMap) (s : Cells) (cells : List Cell) → IsTiled m → cells_of m ≡ listed cells → cells ≡ in_order s → set_of m ≡ s
begins_with m s cells tiled e f = same_cells _ _ (alive-set_of m tiled ∙ e ∙ ap listed f ∙ sym (alive-in_order s))

-- ---- a step

pub on_err : {T E : Type 0} (r : Result T E) {P : Type 0} → P → OnErr r P
on_err (Ok x) p = tt
on_err (Err x) p = p

-- a call succeeds unless what holds of a failure holds
pub ok_unless : {T E : Type 0} (r : Result T E) (P : Type 0) → OnErr r P → (P → ⊥) → IsOk r
ok_unless (Ok x) P h none = refl
ok_unless (Err e) P h none = absurd (none h)

pub made_same : (before after : TileMap) → IsTiled before → OnlyMakes before after → set_of after ≡ set_of before
made_same before after tiled makes = same_sets after before makes.tiled tiled (ap plane_of_words makes.words)

-- whether the set changes, where the words of the next generation take the place of those that were
pub set_changes : (first filled last : TileMap) → cells_of filled ≡ cells_of first → (r : Bool) (s : Cells) → IsTiled first → IsTiled last → set_of first ≡ s → MatchBool r (cells_of last ≢ cells_of filled) (cells_of last ≡ cells_of filled)
    → MatchBool r (set_of last ≢ s) (set_of last ≡ s)
set_changes first filled last stay true s tiled last_tiled e h = λ same. h (sym (alive-set_of last last_tiled) ∙ ap alive (same ∙ sym e) ∙ alive-set_of first tiled ∙ sym stay)
set_changes first filled last stay false s tiled last_tiled e h = same_sets last first last_tiled tiled (h ∙ stay) ∙ e
