-- The cells of blocks along the diagonal: where they lie, that they come in order, and how many there are.
use Rattle.std.proofs.Common.{◌≡◌, ℕ, zero, suc, ◌+◌, ◌*◌, ◌≤◌, true, ℤ, pos, List, [], ◌∷◌, ◌++◌, length, refl, sym, ap, subst, ◌∙◌, append_assoc, length-append, arith}
use Rattle.std.specs.Prelude.{◌≤ℤ◌, ◌<ℤ◌, ◌+ℤ◌}
use Rattle.std.specs.List.{AllByRecursion}
use Rattle.std.specs.declared.cmp.Ordering.TheVariants.{Less}
use Rattle.std.proofs.lemmas.Int.{ints}
use Rattle.life_plane.specs.ListLaws.{all_append, all_push, all_weaker, all_at}
use Rattle.life_cells.specs.declared.cell.Cell.{Cell}
use Rattle.life_cells.specs.Cells.{cell, cell_cmp, IsRising, alive, in_order, from_list}
use Rattle.life_cells.specs.Laws.{alive-from_list_at, in_order-from_list, place_of_listed}
use Rattle.life_cells.specs.OrderLaws.{rising-none, rising_push, before_by_row, before_in_row}
use Rattle.life_sample.specs.Sample.{block, blocks}

-- a cell within the square from (0,0) on, of this side
pub record IsInSquare (side : ℕ) (c : Cell) : Type 0 where
  pub left : pos 0 ≤ℤ c.x
  pub right : c.x <ℤ pos side
  pub top : pos 0 ≤ℤ c.y
  pub bottom : c.y <ℤ pos side

wider : (m n : ℕ) → m ≤ n → (c : Cell) → IsInSquare m c → IsInSquare n c
wider m n le c h = record { left = h.left; right = omega (arith, ints); top = h.top; bottom = omega (arith, ints) }

pub block_in_square : (corner : ℕ) → AllByRecursion (IsInSquare (corner + 2)) (block (pos corner))
block_in_square corner =
    let near_near : IsInSquare (corner + 2) (cell (pos corner) (pos corner)) = record { left = omega (arith, ints); right = omega (arith, ints); top = omega (arith, ints); bottom = omega (arith, ints) } in
    let far_near : IsInSquare (corner + 2) (cell (pos corner +ℤ pos 1) (pos corner)) = record { left = omega (arith, ints); right = omega (arith, ints); top = omega (arith, ints); bottom = omega (arith, ints) } in
    let near_far : IsInSquare (corner + 2) (cell (pos corner) (pos corner +ℤ pos 1)) = record { left = omega (arith, ints); right = omega (arith, ints); top = omega (arith, ints); bottom = omega (arith, ints) } in
    let far_far : IsInSquare (corner + 2) (cell (pos corner +ℤ pos 1) (pos corner +ℤ pos 1)) = record { left = omega (arith, ints); right = omega (arith, ints); top = omega (arith, ints); bottom = omega (arith, ints) } in
    (near_near, (far_near, (near_far, (far_far, tt))))

-- the blocks lie before the next one
pub blocks_in_square : (gap m : ℕ) → 2 ≤ gap → AllByRecursion (IsInSquare (m * gap)) (blocks gap m)
blocks_in_square gap zero wide = tt
blocks_in_square gap (suc m) wide =
    all_append (IsInSquare (suc m * gap)) (blocks gap m) (block (pos (m * gap)))
    (all_weaker (IsInSquare (m * gap)) (IsInSquare (suc m * gap)) (wider (m * gap) (suc m * gap) (omega arith)) (blocks gap m) (blocks_in_square gap m wide))
    (all_weaker (IsInSquare (m * gap + 2)) (IsInSquare (suc m * gap)) (wider (m * gap + 2) (suc m * gap) (omega arith)) (block (pos (m * gap))) (block_in_square (m * gap)))

above : (side : ℕ) (x : ℤ) (c : Cell) → IsInSquare side c → cell_cmp c (cell x (pos side)) ≡ Less
above side x c h = before_by_row c (cell x (pos side)) h.bottom

-- one more block below others
rising_block : (cs : List Cell) (corner : ℕ) → IsRising cs → AllByRecursion (IsInSquare corner) cs → IsRising (cs ++ block (pos corner))
rising_block cs corner rising before =
    let near = pos corner in
    let far = pos corner +ℤ pos 1 in
    let a = cell near near in let b = cell far near in let c = cell near far in let d = cell far far in
    let ab : cell_cmp a b ≡ Less = before_in_row a b refl (omega (arith, ints)) in
    let ac : cell_cmp a c ≡ Less = before_by_row a c (omega (arith, ints)) in
    let ad : cell_cmp a d ≡ Less = before_by_row a d (omega (arith, ints)) in
    let bc : cell_cmp b c ≡ Less = before_by_row b c (omega (arith, ints)) in
    let bd : cell_cmp b d ≡ Less = before_by_row b d (omega (arith, ints)) in
    let cd : cell_cmp c d ≡ Less = before_in_row c d refl (omega (arith, ints)) in
    let upon : (x y : ℤ) → pos corner ≤ℤ y → AllByRecursion (λ e. cell_cmp e (cell x y) ≡ Less) cs = λ x y low. all_weaker (IsInSquare corner) (λ e. cell_cmp e (cell x y) ≡ Less) (λ e h. before_by_row e (cell x y) (let bottom = h.bottom in omega (arith, ints))) cs before in
    let one = rising_push cs a rising (upon near near (omega (arith, ints))) in
    let two = rising_push (cs ++ a ∷ []) b one (all_push (λ e. cell_cmp e b ≡ Less) cs a (upon far near (omega (arith, ints))) ab) in
    let three = rising_push ((cs ++ a ∷ []) ++ b ∷ []) c two (all_push (λ e. cell_cmp e c ≡ Less) (cs ++ a ∷ []) b (all_push (λ e. cell_cmp e c ≡ Less) cs a (upon near far (omega (arith, ints))) ac) bc) in
    let four = rising_push (((cs ++ a ∷ []) ++ b ∷ []) ++ c ∷ []) d three
    (all_push (λ e. cell_cmp e d ≡ Less) ((cs ++ a ∷ []) ++ b ∷ []) c (all_push (λ e. cell_cmp e d ≡ Less) (cs ++ a ∷ []) b (all_push (λ e. cell_cmp e d ≡ Less) cs a (upon far far (omega (arith, ints))) ad) bd) cd) in
    let same : (((cs ++ a ∷ []) ++ b ∷ []) ++ c ∷ []) ++ d ∷ [] ≡ cs ++ block (pos corner) = simp append_assoc in
    subst IsRising same four

-- blocks come in order
pub blocks_rise : (gap m : ℕ) → 2 ≤ gap → IsRising (blocks gap m)
blocks_rise gap zero wide = rising-none
blocks_rise gap (suc m) wide = rising_block (blocks gap m) (m * gap) (blocks_rise gap m wide) (blocks_in_square gap m wide)

four_each : (gap m : ℕ) → length (blocks gap m) ≡ 4 * m
four_each gap zero = refl
four_each gap (suc m) = length-append (blocks gap m) (block (pos (m * gap))) ∙ (let e = four_each gap m in omega arith)

-- a block has four cells
pub block_count : (gap m : ℕ) → 2 ≤ gap → length (in_order (from_list (blocks gap m))) ≡ 4 * m
block_count gap m wide = ap length (in_order-from_list (blocks gap m) (blocks_rise gap m wide)) ∙ four_each gap m

-- what holds of each cell of a list holds of what lives in its set
pub each_alive : (P : Cell → Type 0) (cs : List Cell) → AllByRecursion P cs → (x y : ℤ) → alive (from_list cs) x y ≡ true → P (cell x y)
each_alive P cs h x y live = let place = place_of_listed cs x y (sym (alive-from_list_at cs x y) ∙ live) in all_at P cs place.0 (cell x y) h place.1
