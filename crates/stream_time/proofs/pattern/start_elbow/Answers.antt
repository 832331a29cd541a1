use Rattle.std.proofs.Common.{List, ◌∙◌, ap, get_or, ◌-◌}
use Rattle.life_cells.specs.Cells.{alive}
use Rattle.book_parts.specs.declared.kind.RawKind.{RawKind}
use Rattle.book_parts.specs.KindLaws.{kind_at}
use Rattle.stream_time.proofs.pattern.start_elbow.Goals as goal

pub returns : goal.returns
returns c =
    ap (λ (kind : RawKind). alive kind.cells) (c.index-kinds-start.is ∙ ap (λ (kinds : List RawKind). get_or kinds (c.start.result - 1) c.index-kinds-start.result) c.kinds-kinds.ensures ∙ ap (λ k. get_or c.args.book.now.kinds (k - 1) c.index-kinds-start.result) c.start.ensures)
    ∙ kind_at c.args.book.now.kinds c.args.book.now.start c.index-kinds-start.result c.settings.ensures.checked.proper.start
