use Rattle.std.proofs.Common.{refl}
use Rattle.rle_items.proofs.Behind.{behind_dead, behind_alive, behind_row_end}
use Rattle.rle_items.proofs.cursor.Cursor.behind.Goals as goal

pub returns-in-Dead : goal.returns-in-Dead
returns-in-Dead c = λ items h. behind_dead items c.args.item c.args.self _ c.in-Dead.is refl refl refl h

pub returns-in-Alive : goal.returns-in-Alive
returns-in-Alive c = λ items h. behind_alive items c.args.item c.args.self _ c.in-Alive.is refl refl refl h

pub returns-in-RowEnd : goal.returns-in-RowEnd
returns-in-RowEnd c = λ items h. behind_row_end items c.args.item c.args.self _ c.in-RowEnd.is refl refl refl h
