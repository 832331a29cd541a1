-- The words, one after the other.
use Rattle.std.proofs.Common.{◌∷◌, [], map, refl, codes}
use Rattle.std.specs.Fmt.{signed_decimal}
use Rattle.book_write.specs.Parts.{kind_name, ending_words}
use Rattle.book_write.proofs.Laying.{line_laid}
use Rattle.book_write.proofs.turns.push_turn.Goals as goal

pub returns : goal.returns
returns c =
    line_laid _ _ _ _ (codes "turn") ((c.args.turn.now.name ∷ []) ∷ ((kind_name c.args.kinds.now c.args.turn.now.kind ∷ []) ∷ (ending_words c.args.kinds.now c.args.turn.now.end c.args.turn.now.n ∷ ((codes ":" ∷ []) ∷ (map signed_decimal c.args.turn.now.delays ∷ []))))) c.in_ok-begin_line.ensures (_, (rw c.text.ensures at c.in_ok-push_word.ensures, (_, (rw c.name_of.ensures at c.in_ok-push_word-2.ensures, (_, (c.in_ok-push_ending.ensures, (_, (c.in_ok-push_word-3.ensures, (_, (rw c.items.ensures at c.in_ok-push_numbers.ensures, refl)))))))))) c.in_ok-end_line.ensures
