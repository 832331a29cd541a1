-- The lines on standard error.
use Rattle.std.specs.Prelude.{◌≡◌, ◌≢◌, ◌⊎◌, ℕ, List, [], ◌∷◌, ◌++◌, codes}
use Rattle.std.specs.Fmt.{decimal, signed_decimal}
use Rattle.std.specs.Io.KnownBytes.{append_known}
use Rattle.std.specs.declared.option.Option.{Option}
use Rattle.life_cells.specs.declared.cell.Cell.{Cell}
use Rattle.life_io.specs.Counts.{Rose}
use Rattle.life_io.specs.Sinks.{AppendsPrefix}
use Rattle.life_rle.specs.declared.error.RleError as rle
use Rattle.book_read.specs.declared.error.BookError as book
use Rattle.book_lines.specs.declared.fault.LineFault as fault
use Rattle.book_lines.specs.Words.{word_text}
use Rattle.life_words.specs.declared.refusal.WordsError as words
use Rattle.life_cli.specs.declared.status.Which.{Which}
use Rattle.life_cli.specs.declared.status.Which.TheVariants.{Book, Target, Pattern}
use Rattle.life_target.specs.declared.refusal.TargetError as target
use Rattle.recipe_book.specs.declared.refusal.BookRefusal as check
use Rattle.build_plan.specs.declared.error.PlanError as plan
use Rattle.recipe_find.specs.declared.error.Full as full
use Rattle.life_cli.specs.declared.status.Status.{Status}
use Rattle.life_cli.specs.declared.status.Status.TheVariants.{Done, Words, ReadFault, TooLong, BadRle, BadBookText, BadTarget, BadBook, NoPlan, StreamLong, BookFull, WriteFault, Memory}

abbrev pub which_text : Which → List ℕ
which_text Book = codes "book"
which_text Target = codes "target"
which_text Pattern = codes "pattern"

-- x, a space, y
abbrev pub cell_text : Cell → List ℕ
cell_text cell = signed_decimal cell.x ++ (codes " " ++ signed_decimal cell.y)

-- why words are no command; the last is no text of a status
abbrev pub words_text : words.WordsError → List ℕ
words_text words.TheVariants.NoCommand = codes "words none"
words_text (words.TheVariants.Dash place) = codes "words dash " ++ decimal place
words_text words.TheVariants.UnknownCommand = codes "words unknown"
words_text words.TheVariants.WrongCount = codes "words count"
words_text (words.TheVariants.BadNumber place) = codes "words number " ++ decimal place
words_text words.TheVariants.Memory = codes "memory"

-- what is wrong with a pattern's text; the last is no text of a status
abbrev pub rle_text : rle.RleError → List ℕ
rle_text rle.TheVariants.NoHeader = codes "no header"
rle_text (rle.TheVariants.BadHeader line) = codes "header " ++ decimal line
rle_text (rle.TheVariants.BadRule line) = codes "rule " ++ decimal line
rle_text (rle.TheVariants.BadItem at) = codes "item " ++ decimal at
rle_text (rle.TheVariants.BadCount at) = codes "count " ++ decimal at
rle_text rle.TheVariants.NoEnd = codes "no end"
rle_text (rle.TheVariants.TooFar at) = codes "far " ++ decimal at
rle_text (rle.TheVariants.TooMany count) = codes "many " ++ decimal count
rle_text rle.TheVariants.Memory = codes "memory"

abbrev pub fault_text : fault.LineFault → List ℕ
fault_text fault.TheVariants.Version = codes "version"
fault_text fault.TheVariants.Word = codes "word"
fault_text fault.TheVariants.Form = codes "form"
fault_text fault.TheVariants.Number = codes "number"
fault_text fault.TheVariants.Body = codes "body"
fault_text fault.TheVariants.Empty = codes "empty"

-- what is wrong with a book's text; the last is no text of a status
abbrev pub book_text : book.BookError → List ℕ
book_text (book.TheVariants.BadLine line why) = codes "line " ++ (decimal line ++ (codes " " ++ fault_text why))
book_text (book.TheVariants.Doubled line) = codes "doubled " ++ decimal line
book_text (book.TheVariants.UnknownKind line) = codes "kind " ++ decimal line
book_text (book.TheVariants.LimitOver line number) = codes "limit " ++ (decimal line ++ (codes " " ++ signed_decimal number))
book_text (book.TheVariants.Missing word) = codes "missing " ++ word_text word
book_text (book.TheVariants.WallReach wall reach) = codes "reach " ++ (signed_decimal wall ++ (codes " " ++ signed_decimal reach))
book_text book.TheVariants.Memory = codes "memory"

-- why a target is refused; the last is no text of a status
abbrev pub target_text : target.TargetError → List ℕ
target_text (target.TheVariants.TooWide side) = codes "wide " ++ decimal side
target_text (target.TheVariants.NotStill cell) = codes "moves " ++ cell_text cell
target_text (target.TheVariants.TooManyIslands count) = codes "islands " ++ decimal count
target_text target.TheVariants.Memory = codes "memory"

-- why a book is refused; the last is no text of a status
abbrev pub refusal_text : check.BookRefusal → List ℕ
refusal_text (check.TheVariants.KindPlace kind cell) = codes "kind " ++ (decimal kind ++ (codes " place " ++ cell_text cell))
refusal_text (check.TheVariants.KindNotStill kind cell) = codes "kind " ++ (decimal kind ++ (codes " moves " ++ cell_text cell))
refusal_text (check.TheVariants.HandNotStill cell) = codes "hand moves " ++ cell_text cell
refusal_text (check.TheVariants.ElbowMany count) = codes "elbows " ++ decimal count
refusal_text check.TheVariants.Memory = codes "memory"

-- where the planner stops; the last is no text of a status
abbrev pub plan_text : plan.PlanError → List ℕ
plan_text (plan.TheVariants.NoRecipe island at) = codes "no recipe " ++ (decimal island ++ (codes " " ++ cell_text at))
plan_text (plan.TheVariants.NoClosing kind shift) = codes "no closing " ++ (decimal kind ++ (codes " " ++ signed_decimal shift))
plan_text (plan.TheVariants.StreamLong count) = codes "stream long " ++ decimal count
plan_text plan.TheVariants.Memory = codes "memory"

-- of what there are too many
abbrev pub full_text : full.Full → List ℕ
full_text full.TheVariants.Salvos = codes "salvos"
full_text full.TheVariants.Turns = codes "turns"
full_text full.TheVariants.Cells = codes "cells"

-- the text of a status; Done and Memory have none
abbrev pub status_text : Status → List ℕ
status_text Done = []
status_text (Words e) = words_text e
status_text ReadFault = codes "read fault"
status_text (TooLong which) = which_text which ++ codes " too long"
status_text (BadRle which e) = which_text which ++ (codes " " ++ rle_text e)
status_text (BadBookText e) = codes "book " ++ book_text e
status_text (BadTarget e) = codes "target " ++ target_text e
status_text (BadBook e) = refusal_text e
status_text (NoPlan e) = plan_text e
status_text (StreamLong count) = codes "stream long " ++ decimal count
status_text (BookFull what count) = codes "book full " ++ (full_text what ++ (codes " " ++ decimal count))
status_text WriteFault = codes "write fault"
status_text Memory = []

-- the line of a status
abbrev pub error_line : Status → List ℕ
error_line status = codes "life: " ++ (status_text status ++ (10 ∷ []))

-- Done and Memory have no line
abbrev pub HasLine : Status → Type 0
HasLine status = (status ≢ Done) × (status ≢ Memory)

-- what a status becomes where there is no memory for its line: a write fault stays
abbrev pub without_line : Status → Status
without_line WriteFault = WriteFault
without_line other = Memory

-- What standard error gains: nothing at Done and at want of memory; a first part of the line where the status is WriteFault or the sink's
-- count of faults rose; else the whole line.
abbrev pub Gains : Option (List ℕ) → Option (List ℕ) → ℕ → ℕ → Status → Type 0
Gains old new before now Done = new ≡ old
Gains old new before now Memory = new ≡ old
Gains old new before now WriteFault = AppendsPrefix old new (error_line WriteFault)
Gains old new before now other = (new ≡ append_known old (error_line other)) ⊎ (Rose before now × AppendsPrefix old new (error_line other))
