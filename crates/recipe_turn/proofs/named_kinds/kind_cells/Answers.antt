use Rattle.book_parts.specs.KindLaws.{kind_at}
use Rattle.recipe_turn.proofs.named_kinds.kind_cells.Goals as goal

pub returns : goal.returns
returns c = kind_at c.args.kinds.now c.args.number _ c.requires
