use Rattle.std.proofs.Common.{sym, ap, ◌∙◌, ◌++◌}
use Rattle.life_tiles.proofs.Lists.{appended, nothing_appended, no_columns, tile_none, tile_more}
use Rattle.life_tiles.proofs.reading.push_tile.Goals as goal

pub returns-then-any_of-eq0 : goal.returns-then-any_of-eq0
returns-then-any_of-eq0 c = nothing_appended _ ∙ ap (λ xs. c.args.cells.now.items ++ xs) (sym (no_columns _ _ _ _ c.any_of.ensures.all c.if-any_of-eq0.true))

pub rows-init : goal.rows-init
rows-init c = nothing_appended _ ∙ ap (λ xs. c.args.cells.now.items ++ xs) (sym (tile_none _ _ _))

pub rows-preserved : goal.rows-preserved
rows-preserved c = appended _ _ _ _ _ c.in_ok-push_word.ensures c.rows.invariant ∙ ap (λ xs. c.args.cells.now.items ++ xs) (sym (tile_more _ _ _ _))
