-- The places near the cells of a list that rises, and how often each comes.
use Rattle.std.proofs.Common.{◌≡◌, ℕ, ◌+◌, ◌^◌, true, w64, [], List, ◌++◌, map, get_or, refl, sym, ap, subst, ◌∙◌, arith}
use Rattle.std.specs.Prelude.{ℤ, pos, negsuc, ◌+ℤ◌, ◌-ℤ◌, ◌≤ℤ◌, FitsSigned}
use Rattle.std.specs.List.{All}
use Rattle.std.proofs.lemmas.Int.{ints}
use Rattle.life_cells.specs.declared.cell.Cell.{Cell}
use Rattle.life_cells.specs.Cells.{IsRising, Cells, in_order, alive, from_list}
use Rattle.life_cells.specs.Laws.{alive-from_list, place_listed, alive_of_order}
use Rattle.life_cells.specs.Listed.{listed, times}
use Rattle.life_cells.specs.Moved.{moved, FitsMoved}
use Rattle.life_cells.specs.Near.{near_row, near_list, block}
use Rattle.life_cells.specs.Boxes.{IsInRange, CanMove}
use Rattle.life_cells.specs.MovedLaws.{rising-moved, listed-moved}
use Rattle.life_cells.proofs.Times.{times-append, times-moved, times-rising}
use Rattle.life_plane.specs.Plane.{Plane, one_if, shift, same_plane}

marked : (cs : List Cell) (dx dy x y a b : ℤ) → IsRising cs → x -ℤ dx ≡ a → y -ℤ dy ≡ b → times (map (moved dx dy) cs) x y ≡ one_if (listed cs a b)
marked cs dx dy x y a b h e f = times-moved dx dy cs x y ∙ times-rising cs (x -ℤ dx) (y -ℤ dy) h ∙ (λ i. one_if (listed cs (e i) (f i)))

marked_row : (cs : List Cell) (dy x y b : ℤ) → IsRising cs → y -ℤ dy ≡ b
    → times (near_row dy cs) x y ≡ (one_if (listed cs (x +ℤ pos 1) b) + one_if (listed cs x b)) + one_if (listed cs (x -ℤ pos 1) b)
marked_row cs dy x y b h f =
    times-append (map (moved (negsuc 0) dy) cs ++ map (moved (pos 0) dy) cs) (map (moved (pos 1) dy) cs) x y
    ∙ ap (λ n. n + times (map (moved (pos 1) dy) cs) x y) (times-append (map (moved (negsuc 0) dy) cs) (map (moved (pos 0) dy) cs) x y)
    ∙ (λ i. (marked cs (negsuc 0) dy x y (x +ℤ pos 1) b h (omega (arith, ints)) f i + marked cs (pos 0) dy x y x b h (omega (arith, ints)) f i) + marked cs (pos 1) dy x y (x -ℤ pos 1) b h refl f i)

-- the nine places, counted row by row, and the place itself with its eight neighbours
regrouped : (se s' sw e here w ne n nw : ℕ) → (((se + s') + sw) + ((e + here) + w)) + ((ne + n) + nw) ≡ here + (nw + n + ne + w + e + sw + s' + se)
regrouped se s' sw e here w ne n nw = omega arith

-- a place is marked by each live cell within distance 1
pub times-near : (cs : List Cell) (x y : ℤ) → IsRising cs → times (near_list cs) x y ≡ block (listed cs) x y
times-near cs x y h =
    let at : ℤ → ℤ → ℕ = λ a b. one_if (listed cs a b) in
    let west = x -ℤ pos 1 in
    let east = x +ℤ pos 1 in
    let north = y -ℤ pos 1 in
    let south = y +ℤ pos 1 in
    times-append (near_row (negsuc 0) cs ++ near_row (pos 0) cs) (near_row (pos 1) cs) x y
    ∙ ap (λ n. n + times (near_row (pos 1) cs) x y) (times-append (near_row (negsuc 0) cs) (near_row (pos 0) cs) x y)
    ∙ (λ i. (marked_row cs (negsuc 0) x y south h (omega (arith, ints)) i + marked_row cs (pos 0) x y y h (omega (arith, ints)) i) + marked_row cs (pos 1) x y north h refl i)
    ∙ regrouped (at east south) (at x south) (at west south) (at east y) (at x y) (at west y) (at east north) (at x north) (at west north)

pub fits_near : (cs : List Cell) (dx dy : ℤ) → IsInRange (2 ^ 62) (listed cs) → negsuc 0 ≤ℤ dx → dx ≤ℤ pos 1 → negsuc 0 ≤ℤ dy → dy ≤ℤ pos 1 → All (FitsMoved dx dy) cs
fits_near cs dx dy r a b c d k e lt =
    let it = get_or cs k e in
    let lives = place_listed cs k e lt in
    let x_low = r.x_low it.x it.y lives in
    let x_high = r.x_high it.x it.y lives in
    let y_low = r.y_low it.x it.y lives in
    let y_high = r.y_high it.x it.y lives in
    record { x = omega (arith, ints); y = omega (arith, ints) }

-- which moves keep 64 bits
pub fits_moved : (dx dy a b : ℤ) (cs : List Cell) (s : Cells) → a ≡ dx → b ≡ dy → cs ≡ in_order s → CanMove dx dy (alive s) → All (FitsMoved a b) cs
fits_moved dx dy a b cs s e f g h k d lt =
    let it = get_or cs k d in
    let lives : alive s it.x it.y ≡ true = ap (λ (p : Plane). p it.x it.y) (sym (alive_of_order cs s g)) ∙ place_listed cs k d lt in
    record { x = subst (λ z. FitsSigned w64 (it.x +ℤ z)) (sym e) (h.x it.x it.y lives); y = subst (λ z. FitsSigned w64 (it.y +ℤ z)) (sym f) (h.y it.x it.y lives) }

pub rising_shift : (a b : ℤ) (start all cs : List Cell) → start ≡ [] → all ≡ start ++ map (moved a b) cs → IsRising cs → IsRising all
rising_shift a b start all cs e f h = subst IsRising (sym (f ∙ ap (λ xs. xs ++ map (moved a b) cs) e)) (rising-moved a b cs h)

pub alive_shift : (dx dy a b : ℤ) (start all cs : List Cell) (s : Cells) → a ≡ dx → b ≡ dy → start ≡ [] → all ≡ start ++ map (moved a b) cs → cs ≡ in_order s → alive (from_list all) ≡ shift dx dy (alive s)
alive_shift dx dy a b start all cs s e f g h k =
    alive-from_list all ∙ ap listed (h ∙ ap (λ xs. xs ++ map (moved a b) cs) g)
    ∙ same_plane _ _ (λ x y. listed-moved a b cs x y ∙ ap (λ (p : Plane). p (x -ℤ a) (y -ℤ b)) (alive_of_order cs s k) ∙ (λ i. alive s (x -ℤ e i) (y -ℤ f i)))
