-- What is read from a text that is written is what was written.
use Rattle.std.proofs.Common.{◌≡◌, ℕ, ◌+◌, ◌<◌, ◌≤◌, ◌^◌, true, not, ◌==◌, List, [], ◌∷◌, ◌++◌, length, refl, sym, ap, ◌∙◌, subst, inl, arith, Option, pos, neg_ℤ, ℤ, ◌≤ℤ◌, eqb}
use Rattle.std.specs.List.{list_all}
use Rattle.std.proofs.lemmas.Int.{ints}
use Rattle.std.proofs.lemmas.List.{append_assoc}
use Rattle.std.proofs.lemmas.Bool.{eq-eqb, and_parts}
use Rattle.life_plane.specs.Plane.{Plane}
use Rattle.life_cells.specs.Cells.{Cells, alive, in_order}
use Rattle.life_cells.specs.Boxes.{IsInRange}
use Rattle.life_cells.specs.Laws.{alive-in_order, rising-in_order}
use Rattle.life_cells.specs.declared.cell.Cell.{Cell}
use Rattle.rle_items.specs.declared.item.Item.{Item}
use Rattle.rle_items.specs.Items.{AreCells}
use Rattle.life_rle.specs.Text.{Says, Means}
use Rattle.life_rle.specs.TextFaults.{IsFineText}
use Rattle.life_rle.specs.Written.{IsRleText, place_line, note_line, header_line, folded, pieces, HasNoLineBreak}
use Rattle.life_rle.specs.Drawn.{AreSmall, IsSmallFrame}
use Rattle.life_rle.specs.ByteLaws.{all_append, is_item_byte}
use Rattle.life_rle.proofs.Heading.{IsNear}
use Rattle.life_rle.proofs.Blanking.{HasNoHash, blanked_same}
use Rattle.life_rle.specs.SpellingLaws.{folded_spelled, folded_passes}
use Rattle.life_rle.specs.WrittenFineLaws.{place_half, size_small, written_fine, written_small}
use Rattle.life_rle.proofs.WrittenLines.{written_body}

-- ---- a text

no_hash : (bs : List ℕ) → list_all is_item_byte bs ≡ true → HasNoHash bs
no_hash [] h = tt
no_hash (b ∷ bs) h = ((λ e. let hash : eqb b 35 ≡ true = eq-eqb b 35 e in let other = (and_parts (not (b == 35)) (list_all is_item_byte bs) h).0 in cc), no_hash bs ((and_parts (not (b == 35)) (list_all is_item_byte bs) h).1))

module _ (place : Cell) (note : Option (List ℕ)) (width height : ℕ) (items : List Item) (x : IsNear place.x) (y : IsNear place.y) (n : HasNoLineBreak note) (w : width < 10 ^ 18) (h : height < 10 ^ 18) (small : AreSmall items) where
  text_says : Says (((place_line place ++ note_line note) ++ header_line width height) ++ (folded 0 (pieces items) ++ (10 ∷ []))) place items
  text_says =
      let body : List ℕ = folded 0 (pieces items) ++ (10 ∷ []) in
      let spelled = folded_spelled 0 items small in
      let passes = all_append is_item_byte (folded 0 (pieces items)) (10 ∷ []) (folded_passes 0 items small) refl in
      record {
        body = body;
        has_body = written_body place note width height body x y n w h;
        written = spelled.written;
        gap = spelled.gap;
        ignored = 10 ∷ [];
        body_is = blanked_same body (no_hash body passes) ∙ ap (λ (t : List ℕ). t ++ (10 ∷ [])) spelled.whole ∙ append_assoc (spelled.written ++ spelled.gap) (33 ∷ []) (10 ∷ []);
        gap_is = spelled.gap_is;
        items_are = spelled.spelled;
      }

pub written_means : (place : Cell) (note : Option (List ℕ)) (width height : ℕ) (items : List Item) (s : Plane) → IsSmallFrame place width height → HasNoLineBreak note → AreSmall items → AreCells place items s
    → Means (((place_line place ++ note_line note) ++ header_line width height) ++ (folded 0 (pieces items) ++ (10 ∷ []))) s
written_means place note width height items s f n small c =
    let x : IsNear place.x = record { low = f.left; high = f.x_high } in
    let y : IsNear place.y = record { low = f.top; high = f.y_high } in
    record { place = place; items = items; says = text_says place note width height items x y n f.width_small f.height_small small; cells = c }

-- ---- within the limits

near_half : (z : ℤ) → neg_ℤ (pos (2 ^ 39)) ≤ℤ z → z ≤ℤ pos (2 ^ 39 + 1) → IsNear z
near_half z low high = record { low = omega (arith, ints); high = omega (arith, ints) }

pub written_text_is_fine : (s : Cells) (note : Option (List ℕ)) (text : List ℕ) → IsRleText (alive s) note text → HasNoLineBreak note → IsInRange (2 ^ 39) (alive s) → length (in_order s) ≤ 2 ^ 18 → IsFineText text
written_text_is_fine s note text t n range few =
    let at = place_half (alive s) t.place t.width t.height t.frame range in
    let size = size_small (alive s) t.place t.width t.height t.frame range in
    let top = at.top in
    let bottom = at.bottom in
    let y : IsNear t.place.y = record { low = omega (arith, ints); high = omega (arith, ints) } in
    let listed_range = subst (λ (p : Plane). IsInRange (2 ^ 39) p) (alive-in_order s) range in
    let cells = subst (λ (p : Plane). AreCells t.place t.items p) (alive-in_order s) t.cells in
    let small = written_small (in_order s) (rising-in_order s) t.place t.items at (inl t.tidy) cells listed_range few in
    record {
      place = t.place;
      items = t.items;
      says = subst (λ (bs : List ℕ). Says bs t.place t.items) (sym t.whole) (text_says t.place note t.width t.height t.items (near_half t.place.x at.left at.right) y n size.0 size.1 small);
      fine = written_fine (in_order s) (rising-in_order s) t.place t.items at (inl t.tidy) cells listed_range few;
    }
