use Rattle.std.proofs.Common.{refl}
use Rattle.life_cells.specs.Cells.{alive}
use Rattle.recipe_turn.proofs.KnownBounds.{clear_both, left_within, right_within}
use Rattle.recipe_turn.proofs.keeping.keeps_bounds.Goals as goal

pub is_clear-requires-clause-left : goal.is_clear-requires-clause-left
is_clear-requires-clause-left c = left_within c.args.bounds (alive c.args.tiles.now.cells) c.requires.range c.requires.bounds

pub is_clear-requires-clause-right : goal.is_clear-requires-clause-right
is_clear-requires-clause-right c = right_within c.args.bounds (alive c.args.tiles.now.cells) c.requires.range c.requires.bounds

pub returns-then-is_clear : goal.returns-then-is_clear
returns-then-is_clear c =
    let both = clear_both c.args.settings.now c.args.delays.now (alive c.args.tiles.now.cells) c.args.generation c.args.bounds c.requires.bounds (c.if-is_clear.ensures.reach refl) (c.if-is_clear.ensures.tail refl) in
    (λ _. both, λ _. refl)
