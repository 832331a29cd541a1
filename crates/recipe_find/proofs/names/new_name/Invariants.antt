use Rattle.std.proofs.Common.{suc, ◌-◌}
use Rattle.std.specs.String.{string_bytes, string_len}
use Rattle.book_parts.specs.Proper.{entry_names}
use Rattle.book_parts.specs.declared.limits.TheConstants.{LONGEST_NAME}
use Rattle.recipe_book.specs.Checked.{said_of}
use Rattle.recipe_find.proofs.Naming.{IsTried}
use Rattle.recipe_find.proofs.names.new_name.Given as goal

-- no shorter name is new
abbrev pub invariant-longer : goal.invariant-longer
invariant-longer l = IsTried (entry_names (said_of l.book)) l.fn.number (string_bytes l.text)

abbrev pub decreases-longer : goal.decreases-longer
decreases-longer l = suc LONGEST_NAME - string_len l.text
