use Rattle.std.proofs.Common.{refl}
use Rattle.life_cells.specs.Cells.{alive}
use Rattle.recipe_turn.proofs.KnownBounds.{none_keeps, clear_keeps, left_within, right_within}
use Rattle.recipe_turn.proofs.breaches.Breaches.after.Goals as goal

pub returns-in_default : goal.returns-in_default
returns-in_default c = λ start same known. none_keeps c.args.settings.now c.args.delays.now start c.args.tiles.now.cells c.args.generation c.args.self c.in_default.ensures.none same known

pub is_clear-requires-clause-left : goal.is_clear-requires-clause-left
is_clear-requires-clause-left c = left_within c.in-Some.bounds (alive c.args.tiles.now.cells) c.requires.range c.in-Some.ensures.some

pub is_clear-requires-clause-right : goal.is_clear-requires-clause-right
is_clear-requires-clause-right c = right_within c.in-Some.bounds (alive c.args.tiles.now.cells) c.requires.range c.in-Some.ensures.some

pub returns-then-is_clear : goal.returns-then-is_clear
returns-then-is_clear c = λ start same known.
    clear_keeps c.args.settings.now c.args.delays.now start (alive c.args.tiles.now.cells) c.args.generation c.args.self c.in-Some.bounds c.in-Some.ensures.some (c.if-is_clear.ensures.reach refl)
    (c.if-is_clear.ensures.tail refl) same known
