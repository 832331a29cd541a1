-- A body word of near and few cells is fine to read.
use Rattle.std.proofs.Common.{◌≡◌, ℕ, ◌<◌, ◌≤◌, ◌^◌, true, false, ◌==◌, List, [], ◌∷◌, ◌++◌, length, map, refl, sym, ap, ◌∙◌, subst, arith, ℤ, ◌-ℤ◌, if◌then◌else◌}
use Rattle.std.specs.List.{list_all, flat_map}
use Rattle.std.specs.Fmt.{decimal}
use Rattle.std.proofs.lemmas.Int.{ints}
use Rattle.std.proofs.lemmas.Bool.{and_from}
use Rattle.std.proofs.lemmas.List.{length-map}
use Rattle.life_plane.specs.Plane.{Plane, shift, same_plane}
use Rattle.life_cells.specs.Cells.{Cells, alive, in_order, IsRising}
use Rattle.life_cells.specs.Boxes.{IsInRange}
use Rattle.life_cells.specs.Listed.{listed}
use Rattle.life_cells.specs.Moved.{moved}
use Rattle.life_cells.specs.Laws.{alive-in_order, rising-in_order}
use Rattle.life_cells.specs.MovedLaws.{listed-moved, rising-moved}
use Rattle.rle_items.specs.declared.item.Item.{Item}
use Rattle.rle_items.specs.declared.item.Tag.{Tag}
use Rattle.rle_items.specs.declared.item.Tag.TheVariants.{Dead, Alive, RowEnd}
use Rattle.rle_items.specs.Items.{AreCells}
use Rattle.rle_items.specs.Words.{tag_byte, item_text, WordMeans}
use Rattle.rle_items.specs.Reach.{AreFineFrom}
use Rattle.rle_items.specs.Faults.{origin, IsFineWord}
use Rattle.life_rle.specs.Written.{IsBodyText, pieces}
use Rattle.life_rle.specs.Drawn.{AreSmall}
use Rattle.life_rle.specs.ByteLaws.{all_append, decimal_passes, small_fits}
use Rattle.life_rle.specs.SpellingLaws.{word_means, word_spelled, word_whole}
use Rattle.life_rle.specs.WrittenFineLaws.{IsNearHalf, written_fine, written_small}
use Rattle.book_write.proofs.Visible.{is_visible, digit_visible, IsWord}
use Rattle.book_parts.specs.declared.limits.TheConstants.{MOST_CELLS}

-- ---- the bytes of a word

tag_visible : (t : Tag) → is_visible (tag_byte t) ≡ true
tag_visible Dead = refl
tag_visible Alive = refl
tag_visible RowEnd = refl

count_visible : (n : ℕ) → n < 10 ^ 18 → list_all is_visible (if n == 1 then [] else decimal n) ≡ true
count_visible n h = elim (n == 1) as (λ v. list_all is_visible (if v then [] else decimal n) ≡ true) [ true ↦ refl | false ↦ decimal_passes is_visible digit_visible n (small_fits n h) ]

item_visible : (i : Item) → i.count < 10 ^ 18 → list_all is_visible (item_text i) ≡ true
item_visible i h = all_append is_visible (if i.count == 1 then [] else decimal i.count) (tag_byte i.tag ∷ []) (count_visible i.count h) (and_from _ _ (tag_visible i.tag) refl)

pieces_visible : (items : List Item) → AreSmall items → list_all is_visible (flat_map (λ piece. piece) (pieces items)) ≡ true
pieces_visible [] h = refl
pieces_visible (i ∷ is) h = all_append is_visible (item_text i) _ (item_visible i h.0.1) (pieces_visible is h.1)

written_some : (written : List ℕ) → 0 < length (written ++ (33 ∷ []))
written_some [] = omega arith
written_some (b ∷ bs) = omega arith

-- ---- the word

-- a body word that reads back as these cells
pub record IsReadBody (s : Plane) (word : List ℕ) : Type 0 where
  pub fine : IsFineWord word
  pub means : WordMeans word s
  pub is_word : IsWord word

half_range : (p : Plane) → IsInRange (2 ^ 31) p → IsInRange (2 ^ 39) p
half_range p r = record {
  x_low = λ x y h. (let l = r.x_low x y h in omega (arith, ints));
  x_high = λ x y h. (let l = r.x_high x y h in omega (arith, ints));
  y_low = λ x y h. (let l = r.y_low x y h in omega (arith, ints));
  y_high = λ x y h. (let l = r.y_high x y h in omega (arith, ints));
}

origin_near : IsNearHalf origin
origin_near = record { left = omega (arith, ints); right = omega (arith, ints); top = omega (arith, ints); bottom = omega (arith, ints) }

-- the body word of at most 2^18 cells, moved to where their coordinates are at most 2^31, reads back
module _ (s : Cells) (dx dy : ℤ) (word : List ℕ) (t : IsBodyText (shift dx dy (alive s)) word) (range : IsInRange (2 ^ 31) (shift dx dy (alive s))) (few : length (in_order s) ≤ MOST_CELLS) where
  moves : listed (map (moved dx dy) (in_order s)) ≡ shift dx dy (alive s)
  moves = same_plane _ _ (λ x y. listed-moved dx dy (in_order s) x y ∙ ap (λ (p : Plane). p (x -ℤ dx) (y -ℤ dy)) (sym (alive-in_order s)))

  rising : IsRising (map (moved dx dy) (in_order s))
  rising = rising-moved dx dy (in_order s) (rising-in_order s)

  cells : AreCells origin t.items (listed (map (moved dx dy) (in_order s)))
  cells = subst (λ (p : Plane). AreCells origin t.items p) (sym moves) t.cells

  near : IsInRange (2 ^ 39) (listed (map (moved dx dy) (in_order s)))
  near = subst (λ (p : Plane). IsInRange (2 ^ 39) p) (sym moves) (half_range _ range)

  many : length (map (moved dx dy) (in_order s)) ≤ MOST_CELLS
  many = omega (arith, length-map (in_order s) (moved dx dy))

  fine : AreFineFrom origin t.items
  fine = written_fine _ rising origin t.items origin_near t.tidy cells near many

  small : AreSmall t.items
  small = written_small _ rising origin t.items origin_near t.tidy cells near many

  pub word_reads_back : IsReadBody (shift dx dy (alive s)) word
  word_reads_back =
      let written : List ℕ = flat_map (λ piece. piece) (map item_text t.items) in
      let whole : word ≡ written ++ (33 ∷ []) = t.whole ∙ word_whole t.items in
      record {
        fine = (t.items, record { front = written; split = whole; spelled = word_spelled t.items small; fine = fine });
        means = subst (λ (w : List ℕ). WordMeans w (shift dx dy (alive s))) (sym t.whole) (word_means t.items (shift dx dy (alive s)) small t.cells);
        is_word = record { some = subst (λ (w : List ℕ). 0 < length w) (sym whole) (written_some written); bytes = ap (list_all is_visible) t.whole ∙ pieces_visible t.items small };
      }
