-- Equal sets of cells, as a test.
use Rattle.std.specs.Prelude.{Bool, ◌&&◌, ◌++◌}
use Rattle.std.specs.Ordering.{int_eq}
use Rattle.std.specs.Cmp.Lexicographic.{pointwise}
use Rattle.std.specs.Hash as fed
use Rattle.life_cells.specs.declared.cell.Cell.{Cell}
use Rattle.life_cells.specs.Cells.{Cells, in_order}

-- both fields are equal
abbrev pub same_fields : Cell → Cell → Bool
same_fields a b = int_eq a.y b.y && int_eq a.x b.x

-- the cells in order are equal one by one
abbrev pub same_set : Cells → Cells → Bool
same_set s t = pointwise same_fields (in_order s) (in_order t)

-- what a hasher is fed of a cell
abbrev pub cell_hash : Cell → fed.HashWrites
cell_hash c = fed.i64 c.y ++ fed.i64 c.x

-- what a hasher is fed of a set: its cells in order
abbrev pub set_hash : Cells → fed.HashWrites
set_hash s = fed.slice cell_hash (in_order s)
