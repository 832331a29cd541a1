use Rattle.std.proofs.lemmas.Bool.{false≢true}
use Rattle.life_plane.specs.LookUpLaws.{not_if_false}
use Rattle.find_turn.proofs.Numbers.{box_moves, left_moves, right_moves, bottom_moves}
use Rattle.find_turn.proofs.boxes.is_moved.Goals as goal

pub returns-then-not-is_off_by : goal.returns-then-not-is_off_by
returns-then-not-is_off_by c =
    (λ no. absurd (false≢true no), λ m. absurd (not_if_false _ _ c.if-not-is_off_by.true c.is_off_by.ensures (left_moves c.args.from c.args.to c.requires.from c.requires.to m)))

pub returns-then-not-is_off_by-2 : goal.returns-then-not-is_off_by-2
returns-then-not-is_off_by-2 c =
    (λ no. absurd (false≢true no), λ m. absurd (not_if_false _ _ c.if-not-is_off_by-2.true c.is_off_by-2.ensures (right_moves c.args.from c.args.to c.requires.from c.requires.to m)))

pub returns : goal.returns
returns c = (
  λ same. box_moves c.args.from c.args.to c.requires.from c.requires.to (c.is_off_by.ensures.0 c.if-not-is_off_by.false) (c.is_off_by-2.ensures.0 c.if-not-is_off_by-2.false) (c.is_off_by-3.ensures.0 same),
  λ m. c.is_off_by-3.ensures.1 (bottom_moves c.args.from c.args.to c.requires.from c.requires.to m),
)
