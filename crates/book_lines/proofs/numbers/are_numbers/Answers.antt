use Rattle.book_lines.specs.Lines.{texts}
use Rattle.book_lines.proofs.numbers.are_numbers.Goals as goal
use Rattle.std.proofs.Common.{map, pos}
use Rattle.book_lines.proofs.Pieces.{any_numbers, no_colons, some_texts, some_items}

pub returns-then-not-is_empty : goal.returns-then-not-is_empty
returns-then-not-is_empty c = (
  (λ h. (map (λ t. pos 0) (texts c.args.items.now), record { each = any_numbers _ (c.have_no_colon.ensures.0 h); some = some_texts c.args.items.now c.if-not-is_empty.ensures })),
  (λ h. c.have_no_colon.ensures.1 (no_colons _ h.0 h.1.each)),
)

pub returns-else-not-is_empty : goal.returns-else-not-is_empty
returns-else-not-is_empty c = ((λ h. absurd (cc (h, c.if-not-is_empty.false))), (λ h. absurd (some_items c.args.items.now c.if-not-is_empty.ensures h.1.some)))
