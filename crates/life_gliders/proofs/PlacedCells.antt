-- What lives where a list of cells is moved, or turned over and moved.
use Rattle.std.specs.Prelude.{◌≡◌, ◌||◌, ℕ, zero, suc, length, slice_index_or, ℤ, pos, neg_ℤ, ◌+ℤ◌, ◌-ℤ◌, List, [], ◌∷◌, map}
use Rattle.std.specs.Cmp.{signed_Decides, both_ways}
use Rattle.std.proofs.lemmas.List.{length-map}
use Rattle.std.proofs.Common.{refl, ap, sym, ◌∙◌, arith}
use Rattle.std.proofs.lemmas.Int.{ints}
use Rattle.std.proofs.lemmas.Bool.{and_parts, and_from}
use Rattle.life_cells.specs.declared.cell.Cell.{Cell}
use Rattle.life_cells.specs.Cells.{cell}
use Rattle.life_cells.specs.Listed.{listed, same_cell}
use Rattle.life_cells.specs.OrderLaws.{same_cell_is, same_cell-itself}
use Rattle.life_plane.specs.Plane.{same_plane}
use Rattle.life_plane.specs.Finite.{is_at, plane_of}
use Rattle.life_plane.specs.Tracks.{stream_glider, phase}
use Rattle.life_plane.specs.Salvo.{salvo_glider}
use Rattle.life_gliders.specs.Glider.{glider}
use Rattle.life_gliders.specs.Listing.{quarters, at_rest, placed, glider_list, cell_at_rest}
use Rattle.life_gliders.specs.declared.track.Track.{Track}
use Rattle.life_gliders.specs.declared.track.Track.TheVariants.{Stream, Salvo}

-- the test of a place against a cell, from what the two mean
same_place : (d c : Cell) (a b : ℤ) (p : ℤ × ℤ) → (d ≡ c → (a ≡ p.0) × (b ≡ p.1)) → (a ≡ p.0 → b ≡ p.1 → d ≡ c) → same_cell d c ≡ is_at a b p
same_place d c a b p there back = both_ways _ _
    (λ h. let both = there (same_cell_is d c h) in and_from _ _ ((signed_Decides a p.0).1 both.0) ((signed_Decides b p.1).1 both.1))
    (λ h. let both = and_parts _ _ h in ap (same_cell d) (sym (back ((signed_Decides a p.0).0 both.0) ((signed_Decides b p.1).0 both.1))) ∙ same_cell-itself d)

-- a list of cells, each placed
placed_cells : (f : ℤ × ℤ → Cell) (x y a b : ℤ) → ((p : ℤ × ℤ) → same_cell (cell x y) (f p) ≡ is_at a b p) → (ps : List (ℤ × ℤ)) → listed (map f ps) x y ≡ plane_of ps a b
placed_cells f x y a b same [] = refl
placed_cells f x y a b same (p ∷ ps) = ap (λ t. t || listed (map f ps) x y) (same p) ∙ ap (λ t. is_at a b p || t) (placed_cells f x y a b same ps)

cells_at : (x y a b : ℤ) → x ≡ a → y ≡ b → cell x y ≡ cell a b
cells_at x y a b ex ey = λ i. record { y = ey i; x = ex i }

stream_place : (q x y : ℤ) (p : ℤ × ℤ) → same_cell (cell x y) (placed Stream q p) ≡ is_at (x -ℤ q) (y -ℤ q) p
stream_place q x y p = same_place _ _ _ _ p
    (λ e. let ex : x ≡ q +ℤ p.0 = ap (λ (c : Cell). c.x) e in let ey : y ≡ q +ℤ p.1 = ap (λ (c : Cell). c.y) e in (omega (arith, ints), omega (arith, ints)))
    (λ ex ey. cells_at _ _ _ _ (omega (arith, ints)) (omega (arith, ints)))

salvo_place : (lane q x y : ℤ) (p : ℤ × ℤ) → same_cell (cell x y) (placed (Salvo lane) q p) ≡ is_at ((x -ℤ lane) -ℤ q) (neg_ℤ (y -ℤ pos 0) -ℤ q) p
salvo_place lane q x y p = same_place _ _ _ _ p
    (λ e. let ex : x ≡ lane +ℤ (q +ℤ p.0) = ap (λ (c : Cell). c.x) e in let ey : y ≡ neg_ℤ (q +ℤ p.1) = ap (λ (c : Cell). c.y) e in (omega (arith, ints), omega (arith, ints)))
    (λ ex ey. cells_at _ _ _ _ (omega (arith, ints)) (omega (arith, ints)))

-- the listed cells of a glider are the glider
pub listed-glider_list : (track : Track) (j : ℤ) → listed (glider_list track j) ≡ glider track j
unfolding stream_glider salvo_glider
listed-glider_list Stream j = same_plane _ _ (λ x y. placed_cells _ x y _ _ (stream_place (quarters j) x y) (at_rest j))
listed-glider_list (Salvo lane) j = same_plane _ _ (λ x y. placed_cells _ x y _ _ (salvo_place lane (quarters j) x y) (at_rest j))

-- a cell of a salvo's glider, placed
pub placed_on_lane : (lane q x y : ℤ) (p : ℤ × ℤ) → x ≡ lane +ℤ (q +ℤ p.0) → y ≡ neg_ℤ (q +ℤ p.1) → cell x y ≡ placed (Salvo lane) q p
placed_on_lane lane q x y p ex ey = cells_at _ _ _ _ ex ey

-- a list of five items, item by item
five : {A : Type 0} (d : A) (xs : List A) → length xs ≡ 5 →
    xs ≡ slice_index_or xs 0 d ∷ slice_index_or xs 1 d ∷ slice_index_or xs 2 d ∷ slice_index_or xs 3 d ∷ slice_index_or xs 4 d ∷ []
five d [] h = absurd (omega arith)
five d (a ∷ []) h = absurd (omega arith)
five d (a ∷ b ∷ []) h = absurd (omega arith)
five d (a ∷ b ∷ c ∷ []) h = absurd (omega arith)
five d (a ∷ b ∷ c ∷ e ∷ []) h = absurd (omega arith)
five d (a ∷ b ∷ c ∷ e ∷ f ∷ []) h = refl
five d (a ∷ b ∷ c ∷ e ∷ f ∷ g ∷ xs) h = absurd (omega arith)

five_at_rest : (n : ℕ) → length (phase n) ≡ 5
five_at_rest zero = refl
five_at_rest (suc zero) = refl
five_at_rest (suc (suc zero)) = refl
five_at_rest (suc (suc (suc n))) = refl

-- what a table's row is at rest, moved to its place
pub five_placed : (track : Track) (q : ℤ) (n : ℕ) (row : List (ℕ × ℕ)) (a b c d e : Cell) → map cell_at_rest row ≡ phase n →
    a ≡ placed track q (cell_at_rest (slice_index_or row 0 (0, 0))) → b ≡ placed track q (cell_at_rest (slice_index_or row 1 (0, 0))) →
    c ≡ placed track q (cell_at_rest (slice_index_or row 2 (0, 0))) → d ≡ placed track q (cell_at_rest (slice_index_or row 3 (0, 0))) →
    e ≡ placed track q (cell_at_rest (slice_index_or row 4 (0, 0))) → (a ∷ b ∷ c ∷ d ∷ e ∷ []) ≡ map (placed track q) (phase n)
five_placed track q n row a b c d e is ea eb ec ed ee =
    let long : length row ≡ 5 = sym (length-map row cell_at_rest) ∙ ap length is ∙ five_at_rest n in
    (λ i. ea i ∷ eb i ∷ ec i ∷ ed i ∷ ee i ∷ []) ∙ ap (λ r. map (placed track q) (map cell_at_rest r)) (sym (five (0, 0) row long)) ∙ ap (map (placed track q)) is
