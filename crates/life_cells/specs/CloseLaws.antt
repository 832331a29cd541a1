-- What the cells of a row that are close to a place say.
use Rattle.std.specs.Prelude.{◌≡◌, true, ◌&&◌, ℤ, pos, ◌+ℤ◌, ◌-ℤ◌, int_le, List, [], ◌∷◌}
use Rattle.std.specs.Ordering.{int_eq}
use Rattle.std.specs.Cmp.{signed_Decides}
use Rattle.std.specs.List.{filter}
use Rattle.std.proofs.Common.{refl, sym, ap, ◌∙◌, arith}
use Rattle.std.proofs.lemmas.Bool.{and_parts, and_from, or_left}
use Rattle.std.proofs.lemmas.Int.{ints}
use Rattle.std.proofs.lemmas.Map.Views.{any-filter_same}
use Rattle.life_cells.specs.declared.cell.Cell.{Cell}
use Rattle.life_cells.specs.Cells.{cell}
use Rattle.life_cells.specs.Close.{CloseInRow, is_close_in_row, IsCloseInRow}
use Rattle.life_cells.specs.Listed.{same_cell, listed}
use Rattle.life_cells.specs.OrderLaws.{same_cell_is, same_cell-itself}
use Rattle.life_plane.specs.NumberLaws.{le_from_test, test_from_le}

-- the test, read
pub close_in_row_is : (x y : ℤ) (c : Cell) → is_close_in_row x y c ≡ true → IsCloseInRow x y c
close_in_row_is x y c h =
    let parts = and_parts (int_eq c.y y) (int_le (x -ℤ pos 2) c.x && int_le c.x (x +ℤ pos 2)) h in
    let columns = and_parts (int_le (x -ℤ pos 2) c.x) (int_le c.x (x +ℤ pos 2)) parts.1 in
    record { left = le_from_test columns.0; right = le_from_test columns.1; row = (signed_Decides c.y y).0 parts.0 }

pub close_in_row_holds : (x y : ℤ) (c : Cell) → IsCloseInRow x y c → is_close_in_row x y c ≡ true
close_in_row_holds x y c h =
    and_from (int_eq c.y y) (int_le (x -ℤ pos 2) c.x && int_le c.x (x +ℤ pos 2)) ((signed_Decides c.y y).1 h.row) (and_from _ _ (test_from_le h.left) (test_from_le h.right))

-- what lives among the cells that are close is what lives and is close
pub listed-close : (cs : List Cell) (x y a b : ℤ) → listed (filter (is_close_in_row x y) cs) a b ≡ (is_close_in_row x y (cell a b) && listed cs a b)
listed-close cs x y a b = any-filter_same (same_cell (cell a b)) (is_close_in_row x y) (is_close_in_row x y (cell a b)) (λ c h. ap (is_close_in_row x y) (sym (same_cell_is (cell a b) c h))) cs

-- where a row has a live cell that is close, one is among them
pub some_close : (cs : List Cell) (x y : ℤ) → CloseInRow (listed cs) x y → filter (is_close_in_row x y) cs ≡ [] → ⊥
some_close cs x y close none =
    let left = close.left in
    let right = close.right in
    let lives : listed (filter (is_close_in_row x y) cs) close.a y ≡ true =
    listed-close cs x y close.a y ∙ and_from _ _ (close_in_row_holds x y (cell close.a y) (record { left = omega (arith, ints); right = omega (arith, ints); row = refl })) close.lives in
    let dead = ap (λ ds. listed ds close.a y) none in
    cc

-- and where one is among them, the row has one
pub close_of_some : (cs : List Cell) (x y : ℤ) (c : Cell) (rest : List Cell) → filter (is_close_in_row x y) cs ≡ c ∷ rest → CloseInRow (listed cs) x y
close_of_some cs x y c rest is =
    let lives : listed (filter (is_close_in_row x y) cs) c.x c.y ≡ true = ap (λ ds. listed ds c.x c.y) is ∙ first_listed in
    let both = and_parts (is_close_in_row x y (cell c.x c.y)) (listed cs c.x c.y) (sym (listed-close cs x y c.x c.y) ∙ lives) in
    let close = close_in_row_is x y (cell c.x c.y) both.0 in
    let left = close.left in
    let right = close.right in
    record { a = c.x; lives = ap (listed cs c.x) (sym close.row) ∙ both.1; left = omega (arith, ints); right = right }
  where
    first_listed : listed (c ∷ rest) c.x c.y ≡ true
    first_listed = or_left (same_cell c c) (listed rest c.x c.y) (same_cell-itself c)
