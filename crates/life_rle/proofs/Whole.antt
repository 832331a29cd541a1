-- A text and a body word, put together.
use Rattle.std.specs.Prelude.{◌≡◌, ℕ, ℤ, pos, List, [], ◌∷◌, ◌++◌, Option, flat_map}
use Rattle.std.proofs.Common.{sym, ap, ◌∙◌, subst, inl, inr}
use Rattle.std.proofs.lemmas.List.{append_assoc}
use Rattle.life_plane.specs.Plane.{Plane}
use Rattle.rle_items.specs.Words.{IsNotNegative, WordMeans}
use Rattle.life_cells.specs.declared.cell.Cell.{Cell}
use Rattle.life_cells.specs.Cells.{Cells, cell, alive, in_order, IsRising}
use Rattle.life_cells.specs.Listed.{listed}
use Rattle.life_cells.specs.Laws.{alive-in_order}
use Rattle.rle_items.specs.declared.item.Item.{Item}
use Rattle.rle_items.specs.declared.item.Tag.{Tag}
use Rattle.rle_items.specs.declared.item.Tag.TheVariants.{Dead, Alive, RowEnd}
use Rattle.rle_items.specs.Items.{AreCells}
use Rattle.life_rle.specs.Text.{Means}
use Rattle.life_rle.specs.Written.{IsFrame, IsTidyAfter, IsTidyBody, IsRleText, IsBodyText, HasNoLineBreak, place_line, note_line, header_line, folded, pieces}
use Rattle.life_rle.specs.Drawn.{IsBehind, StartsAfter, IsTidyFrom, AreSmall, IsSmallFrame}
use Rattle.life_rle.proofs.Framing.{tidy_framed}
use Rattle.life_rle.specs.SpellingLaws.{word_means}
use Rattle.life_rle.proofs.ReadBack.{written_means}

-- what lives is what is listed in order
pub alive_listed : (s : Cells) (cs : List Cell) → cs ≡ in_order s → alive s ≡ listed cs
alive_listed s cs e = alive-in_order s ∙ ap listed (sym e)

-- ---- a text

pub record IsWritten (s : Plane) (note : Option (List ℕ)) (text : List ℕ) : Type 0 where
  pub canonical : IsRleText s note text
  pub means : Means text s

-- the lines before the items, the items' lines and a line feed, one after the other
text_parts : (head body none first second text : List ℕ) → none ≡ [] → first ≡ none ++ head → second ≡ first ++ body → text ≡ second ++ (10 ∷ []) → text ≡ head ++ (body ++ (10 ∷ []))
text_parts head body none first second text a b d e =
    e ∙ ap (λ t. t ++ (10 ∷ [])) (d ∙ ap (λ t. t ++ body) (b ∙ ap (λ t. t ++ head) a)) ∙ append_assoc head body (10 ∷ [])

pub written : (s : Plane) (note : Option (List ℕ)) (cs : List Cell) (place : Cell) (width height : ℕ) (items : List Item) (none first second text : List ℕ)
    → s ≡ listed cs → IsRising cs → HasNoLineBreak note → IsFrame s place width height → IsSmallFrame place width height
    → AreCells place items (listed cs) → IsTidyFrom place.y cs items → AreSmall items
    → none ≡ [] → first ≡ none ++ ((place_line place ++ note_line note) ++ header_line width height) → second ≡ first ++ folded 0 (pieces items) → text ≡ second ++ (10 ∷ [])
    → IsWritten s note text
written s note cs place width height items none first second text same rising n frame small_frame cells tidy small a b d e =
    let P : Plane → Type 0 = λ t. AreCells place items t in
    let made : AreCells place items s = subst P (sym same) cells in
    let F : Plane → Type 0 = λ t. IsFrame t place width height in
    let whole = text_parts ((place_line place ++ note_line note) ++ header_line width height) (folded 0 (pieces items)) none first second text a b d e in
    let M : List ℕ → Type 0 = λ t. Means t s in
    record {
      canonical = record { place = place; width = width; height = height; items = items; frame = frame; tidy = tidy_framed cs place width height items rising (subst F same frame) tidy; cells = made; whole = whole };
      means = subst M (sym whole) (written_means place note width height items s small_frame n small made);
    }

-- ---- a body word

pub record IsWordWritten (s : Plane) (word : List ℕ) : Type 0 where
  pub canonical : IsBodyText s word
  pub means : WordMeans word s

tidy_after : (start : Tag) (top : ℤ) (c : Cell) (items : List Item) → StartsAfter top c start → IsTidyAfter start items → IsTidyBody items
tidy_after Dead top c items s t = absurd s
tidy_after Alive top c items s t = inr t
tidy_after RowEnd top c items s t = inl (inr t)

tidy_body : (cs : List Cell) (top : ℤ) (items : List Item) → IsTidyFrom top cs items → IsTidyBody items
tidy_body [] top items t = inl (inl t)
tidy_body (c ∷ cs) top items t = tidy_after t.0 top c items t.1.0 t.1.1

pub behind_origin : (s : Plane) → IsNotNegative s → IsBehind (pos 0) (pos 0) s
behind_origin s n = record { x = n.x; y = n.y }

pub word_written : (s : Plane) (cs : List Cell) (items : List Item) (word : List ℕ) → s ≡ listed cs → AreCells (cell (pos 0) (pos 0)) items (listed cs) → IsTidyFrom (pos 0) cs items → AreSmall items
    → word ≡ flat_map (λ piece. piece) (pieces items) → IsWordWritten s word
word_written s cs items word same cells tidy small whole =
    let P : Plane → Type 0 = λ t. AreCells (cell (pos 0) (pos 0)) items t in
    let made : AreCells (cell (pos 0) (pos 0)) items s = subst P (sym same) cells in
    let M : List ℕ → Type 0 = λ t. WordMeans t s in
    record {
      canonical = record { items = items; tidy = tidy_body cs (pos 0) items tidy; cells = made; whole = whole };
      means = subst M (sym whole) (word_means items s small made);
    }
