use Rattle.std.proofs.lemmas.Str.{IsUtf8-from_ascii}
use Rattle.book_lines.proofs.Names.{name_is_ascii}
use Rattle.book_lines.proofs.name.name.Goals as goal

-- a name is text
pub returns-in-Err-clause-none : goal.returns-in-Err-clause-none
returns-in-Err-clause-none c = λ h. c.in-Err.ensures.cases.0 (IsUtf8-from_ascii c.args.field.now (name_is_ascii c.args.field.now h.bytes))
