-- The gliders of a turn, appended one after the other.
use Rattle.std.proofs.Common.{◌≡◌, ℕ, ◌+◌, ◌<◌, ◌≤◌, ℤ, List, ◌++◌, length, get_or, take, sym, ap, ◌∙◌, arith, w64, to_z, of_z}
use Rattle.std.proofs.lemmas.Int.{ints}
use Rattle.std.proofs.lemmas.List.{take_more, take_all}
use Rattle.life_plane.specs.PlaneLaws.{union_assoc}
use Rattle.life_plane.specs.Plane.{Plane, union, same_plane}
use Rattle.life_cells.specs.declared.cell.Cell.{Cell}
use Rattle.life_cells.specs.Listed.{listed}
use Rattle.life_cells.specs.Laws.{listed-append}
use Rattle.book_parts.specs.declared.settings.Settings.{Settings}
use Rattle.recipe_turn.specs.Turn.{gliders}
use Rattle.recipe_turn.specs.Gliders.{own}
use Rattle.recipe_turn.specs.GliderLaws.{gliders_push}
use Rattle.stream_time.specs.Laying.{IsTime}

-- a time that is read is what it was
pub time_read : (z : ℤ) → IsTime z → to_z w64 (of_z w64 z) ≡ z
time_read z h = let low = h.low in let high = h.high in omega (arith, ints)

-- the cells of one more glider, joined to those so far
pub one_more : (old : Plane) (settings : Settings) (ds : List ℤ) (t : ℤ) (i : ℕ) (d : ℤ) (sofar five all : List Cell) → i < length ds → listed sofar ≡ union old (gliders settings (take i ds) t) →
    listed five ≡ own settings t (get_or ds i d) → all ≡ sofar ++ five → listed all ≡ union old (gliders settings (take (i + 1) ds) t)
one_more old settings ds t i d sofar five all lt before here is =
    ap listed is ∙ listed-append sofar five ∙ ap (λ p. union p (listed five)) before ∙ ap (union (union old (gliders settings (take i ds) t))) here
    ∙ union_assoc old (gliders settings (take i ds) t) (own settings t (get_or ds i d))
    ∙ ap (union old) (same_plane _ _ (λ x y. sym (gliders_push settings (take i ds) (get_or ds i d) t x y)) ∙ ap (λ xs. gliders settings xs t) (sym (take_more ds i d lt)))

-- all of them
pub all_there : (old : Plane) (settings : Settings) (ds : List ℤ) (t : ℤ) (i : ℕ) (cs : List Cell) → length ds ≤ i → listed cs ≡ union old (gliders settings (take i ds) t) → listed cs ≡ union old (gliders settings ds t)
all_there old settings ds t i cs long h = h ∙ ap (λ xs. union old (gliders settings xs t)) (take_all i ds long)
