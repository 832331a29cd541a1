-- A turn's gliders, delay by delay.
use Rattle.std.proofs.Common.{◌≡◌, ℕ, ◌+◌, ◌<◌, ◌≤◌, Bool, true, false, ◌||◌, ℤ, List, ◌++◌, length, get_or, take, drop, refl, sym, ap, ◌∙◌}
use Rattle.std.proofs.lemmas.List.{at_drop_more, at_drop_all, take_more, take_all}
use Rattle.life_plane.specs.Plane.{union, same_plane}
use Rattle.life_plane.specs.Tracks.{stream_glider, OnStream}
use Rattle.life_plane.specs.TrackLaws.{stream_range}
use Rattle.life_cells.specs.declared.cell.Cell.{Cell}
use Rattle.life_cells.specs.Listed.{listed}
use Rattle.life_cells.specs.Laws.{listed-append}
use Rattle.book_parts.specs.declared.settings.Settings.{Settings}
use Rattle.recipe_turn.specs.Turn.{gliders}
use Rattle.recipe_turn.specs.Gliders.{own}
use Rattle.recipe_turn.specs.GliderLaws.{gliders_push}

-- a glider that has the cell is one of those that are left
pub own_here : (settings : Settings) (ds : List ℤ) (t x y : ℤ) (i : ℕ) (d : ℤ) (b : Bool) → i < length ds → b ≡ own settings t (get_or ds i d) x y → b ≡ true →
    gliders settings (drop i ds) t x y ≡ true
own_here settings ds t x y i d b lt e h = at_drop_more (λ xs. gliders settings xs t x y) ds i d lt ∙ ap (λ a. a || gliders settings (drop (i + 1) ds) t x y) (sym e ∙ h)

-- a glider that has not leaves those after it
pub own_later : (settings : Settings) (ds : List ℤ) (t x y : ℤ) (i : ℕ) (d : ℤ) (b : Bool) → i < length ds → b ≡ own settings t (get_or ds i d) x y → b ≡ false →
    gliders settings (drop i ds) t x y ≡ gliders settings (drop (i + 1) ds) t x y
own_later settings ds t x y i d b lt e h = at_drop_more (λ xs. gliders settings xs t x y) ds i d lt ∙ ap (λ a. a || gliders settings (drop (i + 1) ds) t x y) (sym e ∙ h)

pub own_none : (settings : Settings) (ds : List ℤ) (t x y : ℤ) (i : ℕ) → length ds ≤ i → gliders settings (drop i ds) t x y ≡ false
own_none settings ds t x y i long = at_drop_all (λ xs. gliders settings xs t x y) ds i long

-- the cells of one more glider, joined to those so far
pub gliders_more : (settings : Settings) (ds : List ℤ) (t : ℤ) (i : ℕ) (d : ℤ) (sofar five all : List Cell) → i < length ds → listed sofar ≡ gliders settings (take i ds) t →
    listed five ≡ own settings t (get_or ds i d) → all ≡ sofar ++ five → listed all ≡ gliders settings (take (i + 1) ds) t
gliders_more settings ds t i d sofar five all lt before here is =
    ap listed is ∙ listed-append sofar five ∙ (λ k. union (before k) (here k))
    ∙ same_plane _ _ (λ x y. sym (gliders_push settings (take i ds) (get_or ds i d) t x y))
    ∙ ap (λ xs. gliders settings xs t) (sym (take_more ds i d lt))

pub gliders_all : (settings : Settings) (ds : List ℤ) (t : ℤ) (i : ℕ) (cells : List Cell) → length ds ≤ i → listed cells ≡ gliders settings (take i ds) t → listed cells ≡ gliders settings ds t
gliders_all settings ds t i cells long is = is ∙ ap (λ xs. gliders settings xs t) (take_all i ds long)

-- a place that no glider of this index reaches
pub off_glider : (j x y : ℤ) → (OnStream j x y → ⊥) → false ≡ stream_glider j x y
off_glider j x y off = no (stream_glider j x y) (λ live. off (stream_range j x y live))
  where
    no : (b : Bool) → (b ≡ true → ⊥) → false ≡ b
    no true h = absurd (h refl)
    no false h = refl
