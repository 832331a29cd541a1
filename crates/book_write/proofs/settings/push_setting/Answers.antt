use Rattle.std.proofs.Common.{◌∷◌, [], map, refl}
use Rattle.std.specs.Fmt.{signed_decimal}
use Rattle.book_write.proofs.Laying.{line_laid}
use Rattle.book_lines.specs.Words.{word_text}
use Rattle.book_write.proofs.settings.push_setting.Goals as goal

pub returns : goal.returns
returns c = line_laid _ _ _ _ (word_text c.args.word) (map signed_decimal c.args.numbers.now ∷ []) (rw (c.text.ensures) at c.in_ok-begin_line.ensures) (_, (c.in_ok-push_numbers.ensures, refl)) c.in_ok-end_line.ensures
