use Rattle.std.proofs.Common.{◌≡◌, ◌^◌, sym, refl, ap, subst, ◌∙◌}
use Rattle.life_cells.specs.Boxes.{IsInRange}
use Rattle.life_plane.specs.Plane.{step}
use Rattle.life_kernel.specs.Words.{plane_of_words}
use Rattle.life_tiles.specs.Tiled.{TiledCells}
use Rattle.life_tiles.specs.Tiling.{cells_of}
use Rattle.life_tiles.proofs.Lists.{alive-set_of, same_sets}
use Rattle.life_tiles.proofs.Evolved.{shown, on_err, set_changes}
use Rattle.life_tiles.proofs.Settled.{cells_next, settled_next}
use Rattle.life_tiles.proofs.tiles.Tiles.step.Goals as goal

pub make_all_neighbours-requires-clause-range : goal.make_all_neighbours-requires-clause-range
make_all_neighbours-requires-clause-range g c = subst (IsInRange (2 ^ 61)) (shown c.self.inside.tiles _ c.self.invariant.0 (ap (λ (v : TiledCells). v.cells) c.self.view_is)) c.requires

pub invariant_of-self-2 : goal.invariant_of-self-2
invariant_of-self-2 g c = (
  c.advance.ensures.tiled,
  settled_next c.make_all_neighbours.new.tiles c.fill_next.new.tiles c.advance.new.tiles c.make_all_neighbours.ensures.tiled c.make_all_neighbours.ensures.settled c.in_ok-make_all_neighbours.ensures.closed
      c.fill_next.ensures.tiled c.fill_next.ensures.places c.fill_next.ensures.rows c.fill_next.ensures.fills c.advance.ensures.places c.advance.ensures.rows c.advance.ensures.next
      (λ e. c.advance.ensures.awake (c.fill_next.ensures.recent ∙ e)) (λ e. c.advance.ensures.fresh (c.fill_next.ensures.recent ∙ e)) c.advance.ensures.waking,
)

pub returns-in_err-make_all_neighbours-clause-same : goal.returns-in_err-make_all_neighbours-clause-same
returns-in_err-make_all_neighbours-clause-same g c =
    on_err _ (same_sets c.make_all_neighbours.new.tiles c.self.inside.tiles c.make_all_neighbours.ensures.tiled c.self.invariant.0 (ap plane_of_words c.make_all_neighbours.ensures.words) ∙ ap (λ (v : TiledCells). v.cells) c.self.view_is)

pub returns-clause-next : goal.returns-clause-next
returns-clause-next g c =
    alive-set_of c.advance.new.tiles c.advance.ensures.tiled
    ∙ cells_next c.make_all_neighbours.new.tiles c.fill_next.new.tiles c.advance.new.tiles c.make_all_neighbours.ensures.tiled c.make_all_neighbours.ensures.settled c.in_ok-make_all_neighbours.ensures.closed
    c.fill_next.ensures.tiled c.fill_next.ensures.places c.fill_next.ensures.rows c.fill_next.ensures.fills c.advance.ensures.places c.advance.ensures.rows c.advance.ensures.next
    ∙ ap step (ap plane_of_words c.make_all_neighbours.ensures.words)
    ∙ ap step (sym (shown c.self.inside.tiles _ c.self.invariant.0 (ap (λ (v : TiledCells). v.cells) c.self.view_is)))

pub returns-clause-changed : goal.returns-clause-changed
returns-clause-changed g c =
    let filled : cells_of c.fill_next.new.tiles ≡ cells_of c.make_all_neighbours.new.tiles = rw (c.fill_next.ensures.places, c.fill_next.ensures.rows) refl in
    set_changes c.self.inside.tiles c.fill_next.new.tiles c.advance.new.tiles (filled ∙ ap plane_of_words c.make_all_neighbours.ensures.words)
    c.advance.result _ c.self.invariant.0 c.advance.ensures.tiled (ap (λ (v : TiledCells). v.cells) c.self.view_is) c.advance.ensures.changed
