-- Why the finder gives no book.
use Rattle.std.specs.Prelude.{◌≡◌, ℕ, ◌<◌, ◌≤◌, length}
use Rattle.book_parts.specs.Said.{Said}
use Rattle.book_parts.specs.Proper.{live_cells}
use Rattle.book_parts.specs.declared.limits.TheConstants.{MOST_TURNS, MOST_SALVOS, MOST_CELLS}
use Rattle.recipe_find.specs.Extended.{IsExtended}
use Rattle.recipe_find.specs.declared.error.Full.{Full}
use Rattle.recipe_find.specs.declared.error.Full.TheVariants.{Salvos, Turns, Cells}
use Rattle.recipe_find.specs.declared.error.FindError.{FindError}
use Rattle.recipe_find.specs.declared.error.FindError.TheVariants.{BookFull, Memory}

-- a book has no more salvos, turns and live cells than it may have
pub record HasRoom (book : Said) : Type 0 where
  pub salvos : length book.salvos ≤ MOST_SALVOS
  pub turns : length book.turns ≤ MOST_TURNS
  pub cells : live_cells book ≤ MOST_CELLS

-- a number passes its limit
pub record Passes (most number count : ℕ) : Type 0 where
  pub count_is : count ≡ number
  pub over : most < number

-- this is the first of which a book has more than it may have, in the order salvos, turns, cells, and how many it has
abbrev pub IsFull : Said → Full → ℕ → Type 0
IsFull book Salvos count = Passes MOST_SALVOS (length book.salvos) count
IsFull book Turns count = (length book.salvos ≤ MOST_SALVOS) × Passes MOST_TURNS (length book.turns) count
IsFull book Cells count = (length book.salvos ≤ MOST_SALVOS) × ((length book.turns ≤ MOST_TURNS) × Passes MOST_CELLS (live_cells book) count)

-- the book with what its first candidates add is too full
pub record IsTooFull (book : Said) (budget : ℕ) (what : Full) (count : ℕ) : Type 0 where
  pub whole : Said
  pub extended : IsExtended book budget whole
  pub full : IsFull whole what count

-- the finder refuses so
abbrev pub FindingIsRefused : Said → ℕ → FindError → Type 0
FindingIsRefused book budget (BookFull what count) = IsTooFull book budget what count
FindingIsRefused book budget Memory = Unit {0}

-- a book is too full, so the finder refuses
abbrev pub Overfills : Said → FindError → Type 0
Overfills book (BookFull what count) = IsFull book what count
Overfills book Memory = Unit {0}
