-- The numbers of what is found, against the limits of a book.
use Rattle.life_cells.specs.declared.bounds.Bounds.{Bounds}
use Rattle.book_parts.specs.Limits.{IsCoordinate}
use Rattle.book_parts.specs.Proper.{IsIndex}
use Rattle.book_parts.specs.declared.turn.TurnEnd.{TurnEnd}
use Rattle.book_parts.specs.declared.turn.TurnEnd.TheVariants.{Close, Move, Emit}

-- the shift, lane and index of a turn's end are ones that a book may have
abbrev pub IsEndLimited : TurnEnd → Type 0
IsEndLimited Close = Unit {0}
IsEndLimited (Move kind shift) = IsCoordinate shift
IsEndLimited (Emit kind shift lane j) = IsCoordinate shift × (IsCoordinate lane × IsIndex j)

-- the sides of a box are coordinates that a book may have
abbrev pub IsBoxPlaced : Bounds → Type 0
IsBoxPlaced box = (IsCoordinate box.left × IsCoordinate box.top) × (IsCoordinate box.right × IsCoordinate box.bottom)
