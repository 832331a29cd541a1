use Rattle.std.proofs.Common.{refl}
use Rattle.book_lines.proofs.placed.hand.Goals as goal
use Rattle.book_lines.proofs.Lifting.{carry}
use Rattle.book_lines.proofs.Cutting.{body_up, body_down}

pub returns-clause-body : goal.returns-clause-body
returns-clause-body c =
    carry _ _ (body_up _ c.in-Some.word.now _ refl c.in-Some.ensures) (body_down _ c.in-Some.word.now _ refl c.in-Some.ensures) c.body_at.result c.body_at.ensures.body
