-- The parts that are written, in other brackets.
use Rattle.std.proofs.lemmas.List.{append_assoc}
use Rattle.life_rle.proofs.head.push_header.Goals as goal

pub returns : goal.returns
returns c = simp append_assoc c.in_ok-write.ensures.bytes
