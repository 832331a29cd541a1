-- What is written for items spells them.
use Rattle.std.specs.Prelude.{◌≡◌, ℕ, ◌+◌, ◌<◌, ◌^◌, pos, Bool, true, false, ◌==◌, List, [], ◌∷◌, ◌++◌, length, nat_le, if◌then◌else◌, map, flat_map}
use Rattle.std.specs.declared.option.Option.TheVariants.{Some}
use Rattle.std.specs.List.{list_all}
use Rattle.std.specs.Fmt.{decimal}
use Rattle.std.proofs.Common.{refl, sym, ap, ◌∙◌, arith, subst, inl, inr}
use Rattle.std.proofs.lemmas.List.{append-nil, append_assoc}
use Rattle.std.proofs.lemmas.List.Concat.{flat_map-append}
use Rattle.std.proofs.lemmas.Bool.Decides.{eqb_tells}
use Rattle.rle_items.specs.declared.item.Item.{Item}
use Rattle.rle_items.specs.declared.item.Tag.{Tag}
use Rattle.rle_items.specs.declared.item.Tag.TheVariants.{Dead, Alive, RowEnd}
use Rattle.life_plane.specs.Plane.{Plane}
use Rattle.life_cells.specs.Cells.{cell}
use Rattle.rle_items.specs.Items.{AreCells}
use Rattle.rle_items.specs.Words.{item_text, tag_byte, WordMeans}
use Rattle.rle_items.specs.Numbers.{IsNatural}
use Rattle.rle_items.specs.Spelling.{SpellsItem, Spells, IsNone, IsWhite, IsCount, tag_of}
use Rattle.life_rle.specs.Written.{folded, pieces}
use Rattle.life_rle.specs.Drawn.{AreSmall}
use Rattle.life_rle.specs.ByteLaws.{all_append, decimal_natural, decimal_passes, small_fits, is_item_byte, item_digit}
use Rattle.std.proofs.lemmas.Bool.{and_from}

-- ---- one item

tag_is_read : (t : Tag) → tag_of (tag_byte t) ≡ Some t
tag_is_read Dead = refl
tag_is_read Alive = refl
tag_is_read RowEnd = refl

count_is_read : (ds : List ℕ) (n : ℕ) → IsNatural ds n → 0 < n → IsCount ds n
count_is_read [] n h p = let e = h.digits.some in absurd (omega arith)
count_is_read (d ∷ ds) n h p = (h, p)

abbrev count_text : ℕ → List ℕ
count_text n = if n == 1 then [] else decimal n

count_spelled : (n : ℕ) → 0 < n → n < 10 ^ 18 → IsCount (count_text n) n
count_spelled n p h =
    elim (eqb_tells n 1) [
      | inl one ↦ let P : Bool → Type 0 = λ v. IsCount (if v then [] else decimal n) n in subst P (sym one.0) one.1
      | inr more ↦ let P : Bool → Type 0 = λ v. IsCount (if v then [] else decimal n) n in subst P (sym more.0) (count_is_read (decimal n) n (decimal_natural n h) p)
    ]

-- an item's text behind a gap
pub item_spelled : (Gap : List ℕ → Type 0) → Gap [] → (gap : List ℕ) (i : Item) → Gap gap → 0 < i.count → i.count < 10 ^ 18 → SpellsItem Gap (gap ++ item_text i) i
item_spelled Gap none gap i g p h = record {
  before = gap;
  digits = count_text i.count;
  between = [];
  tag = tag_byte i.tag;
  whole = sym (append_assoc gap (count_text i.count) (tag_byte i.tag ∷ [])) ∙ ap (λ t. t ++ (tag_byte i.tag ∷ [])) (sym (append-nil (gap ++ count_text i.count)));
  gap_before = g;
  gap_between = none;
  count = count_spelled i.count p h;
  tag_is = tag_is_read i.tag;
}

-- ---- a body word

pub word_spelled : (items : List Item) → AreSmall items → Spells IsNone (flat_map (λ piece. piece) (map item_text items)) items
word_spelled [] h = refl
word_spelled (i ∷ is) h = (item_text i, (flat_map (λ piece. piece) (map item_text is), (refl, (item_spelled IsNone refl [] i refl h.0.0 h.0.1, word_spelled is h.1))))

pub word_whole : (items : List Item) → flat_map (λ piece. piece) (pieces items) ≡ flat_map (λ piece. piece) (map item_text items) ++ (33 ∷ [])
word_whole items = flat_map-append (λ piece. piece) (map item_text items) ((33 ∷ []) ∷ [])

-- ---- items in lines

-- a text of items: what spells them, a gap and `!`
pub record IsItemsText (text : List ℕ) (items : List Item) : Type 0 where
  pub written : List ℕ
  pub gap : List ℕ
  pub whole : text ≡ (written ++ gap) ++ (33 ∷ [])
  pub gap_is : IsWhite gap
  pub spelled : Spells IsWhite written items

no_item : (gap : List ℕ) → IsWhite gap → IsItemsText (gap ++ (33 ∷ [])) []
no_item gap g = record { written = []; gap = gap; whole = refl; gap_is = g; spelled = refl }

one_more : (gap rest : List ℕ) (i : Item) (is : List Item) → IsWhite gap → 0 < i.count → i.count < 10 ^ 18 → IsItemsText rest is → IsItemsText ((gap ++ item_text i) ++ rest) (i ∷ is)
one_more gap rest i is g p h t = record {
  written = (gap ++ item_text i) ++ t.written;
  gap = t.gap;
  whole = ap (λ r. (gap ++ item_text i) ++ r) t.whole ∙ sym (append_assoc (gap ++ item_text i) (t.written ++ t.gap) (33 ∷ [])) ∙ ap (λ r. r ++ (33 ∷ [])) (sym (append_assoc (gap ++ item_text i) t.written t.gap));
  gap_is = t.gap_is;
  spelled = (gap ++ item_text i, (t.written, (refl, (item_spelled IsWhite tt gap i g p h, t.spelled))));
}

pub folded_spelled : (column : ℕ) (items : List Item) → AreSmall items → IsItemsText (folded column (pieces items)) items
folded_spelled column [] h =
    elim (nat_le (column + 1) 70) as (λ v. IsItemsText (if v then (33 ∷ []) ++ [] else 10 ∷ ((33 ∷ []) ++ [])) []) [
      | true ↦ no_item [] tt
      | false ↦ no_item (10 ∷ []) (refl, tt)
    ]
folded_spelled column (i ∷ is) h =
    elim (nat_le (column + length (item_text i)) 70) as (λ v. IsItemsText (if v then item_text i ++ folded (column + length (item_text i)) (pieces is) else 10 ∷ (item_text i ++ folded (length (item_text i)) (pieces is))) (i ∷ is)) [
      | true ↦ one_more [] (folded (column + length (item_text i)) (pieces is)) i is tt h.0.0 h.0.1 (folded_spelled (column + length (item_text i)) is h.1)
      | false ↦ one_more (10 ∷ []) (folded (length (item_text i)) (pieces is)) i is (refl, tt) h.0.0 h.0.1 (folded_spelled (length (item_text i)) is h.1)
    ]

-- ---- its bytes

tag_byte_passes : (t : Tag) → is_item_byte (tag_byte t) ≡ true
tag_byte_passes Dead = refl
tag_byte_passes Alive = refl
tag_byte_passes RowEnd = refl

count_passes : (n : ℕ) → n < 10 ^ 18 → list_all is_item_byte (count_text n) ≡ true
count_passes n h = elim (n == 1) as (λ v. list_all is_item_byte (if v then [] else decimal n) ≡ true) [ true ↦ refl | false ↦ decimal_passes is_item_byte item_digit n (small_fits n h) ]

item_passes : (i : Item) → i.count < 10 ^ 18 → list_all is_item_byte (item_text i) ≡ true
item_passes i h = all_append is_item_byte (count_text i.count) (tag_byte i.tag ∷ []) (count_passes i.count h) (and_from _ _ (tag_byte_passes i.tag) refl)

pub folded_passes : (column : ℕ) (items : List Item) → AreSmall items → list_all is_item_byte (folded column (pieces items)) ≡ true
folded_passes column [] h = elim (nat_le (column + 1) 70) as (λ v. list_all is_item_byte (if v then (33 ∷ []) ++ [] else 10 ∷ ((33 ∷ []) ++ [])) ≡ true) [ true ↦ refl | false ↦ refl ]
folded_passes column (i ∷ is) h =
    elim (nat_le (column + length (item_text i)) 70) as (λ v. list_all is_item_byte (if v then item_text i ++ folded (column + length (item_text i)) (pieces is) else 10 ∷ (item_text i ++ folded (length (item_text i)) (pieces is))) ≡ true) [
      | true ↦ all_append is_item_byte (item_text i) _ (item_passes i h.0.1) (folded_passes (column + length (item_text i)) is h.1)
      | false ↦ all_append is_item_byte (item_text i) _ (item_passes i h.0.1) (folded_passes (length (item_text i)) is h.1)
    ]

-- ---- what a word means

pub word_means : (items : List Item) (s : Plane) → AreSmall items → AreCells (cell (pos 0) (pos 0)) items s → WordMeans (flat_map (λ piece. piece) (pieces items)) s
word_means items s small c = record { items = items; written = _; whole = word_whole items; items_are = word_spelled items small; cells = c }
