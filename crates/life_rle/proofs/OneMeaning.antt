-- A text says one place and one list of items.
use Rattle.std.proofs.Common.{◌≡◌, ◌≢◌, ℕ, true, List, [], ◌∷◌, ◌++◌, refl, sym, ap, ◌∙◌, subst, inl, inr, arith, Option, Some, None, MatchOption, codes, ℤ, pos, neg_ℤ}
use Rattle.std.specs.List.{AllByRecursion, find}
use Rattle.std.specs.Str.{all_ascii_digits}
use Rattle.std.proofs.lemmas.List.{append_assoc, append_cancel_left}
use Rattle.std.proofs.lemmas.Bool.{and_parts}
use Rattle.life_plane.specs.Plane.{Plane}
use Rattle.life_cells.specs.Cells.{cell}
use Rattle.life_cells.specs.declared.cell.Cell.{Cell}
use Rattle.rle_items.specs.declared.item.Item.{Item}
use Rattle.rle_items.specs.Numbers.{value, IsWhole}
use Rattle.rle_items.specs.Items.{AreCells}
use Rattle.rle_items.specs.Spelling.{IsWhite}
use Rattle.rle_items.specs.SpellingLaws.{digit_range, white_kind, one_list}
use Rattle.rle_items.specs.DrawnLaws.{same_cells}
use Rattle.text_lines.specs.Lines.{behind}
use Rattle.text_lines.specs.Blanks.{IsPassedOver, words}
use Rattle.life_rle.specs.Comments.{blanked}
use Rattle.life_rle.specs.Text.{IsPlaceWord, IsPlaceIn, IsPlace, gives_place, IsAtHeader, HasBody, Says, Means}
use Rattle.life_rle.proofs.Lined.{one_rest, IsSameRest}

-- ---- one place

no_comma : (ds : List ℕ) → all_ascii_digits ds ≡ true → AllByRecursion (λ b. b ≢ 44) ds
no_comma [] h = tt
no_comma (d ∷ ds) h = let both = and_parts _ _ h in (λ e. let range = digit_range d both.0 in omega arith, no_comma ds both.1)

pub no_comma_within : (text : List ℕ) (z : ℤ) → IsWhole text z → AllByRecursion (λ b. b ≢ 44) text
no_comma_within text z (inl h) = no_comma text h.0.digits
no_comma_within text z (inr h) = subst (λ (bs : List ℕ). AllByRecursion (λ b. b ≢ 44) bs) (sym h.1.0) ((λ e. omega arith), no_comma h.0 h.1.1.0.digits)

pub one_comma : (x y u v : List ℕ) → AllByRecursion (λ b. b ≢ 44) x → AllByRecursion (λ b. b ≢ 44) u → x ++ (44 ∷ y) ≡ u ++ (44 ∷ v) → (x ≡ u) × (y ≡ v)
one_comma [] y [] v p q e = (refl, cc)
one_comma [] y (b ∷ u) v p q e = absurd (q.0 cc)
one_comma (b ∷ x) y [] v p q e = absurd (p.0 cc)
one_comma (b ∷ x) y (c ∷ u) v p q e =
    let first : b ≡ c = cc in
    let more : x ++ (44 ∷ y) ≡ u ++ (44 ∷ v) = cc in
    let rest = one_comma x y u v p.1 q.1 more in
    (λ i. first i ∷ rest.0 i, rest.1)

pub no_minus : (digits : List ℕ) → all_ascii_digits (45 ∷ digits) ≡ true → ⊥
no_minus digits h = cc

one_whole : (text : List ℕ) (z w : ℤ) → IsWhole text z → IsWhole text w → z ≡ w
one_whole text z w (inl g) (inl h) = g.1 ∙ sym h.1
one_whole text z w (inl g) (inr h) = absurd (no_minus h.0 (subst (λ (bs : List ℕ). all_ascii_digits bs ≡ true) h.1.0 g.0.digits))
one_whole text z w (inr g) (inl h) = absurd (no_minus g.0 (subst (λ (bs : List ℕ). all_ascii_digits bs ≡ true) g.1.0 h.0.digits))
one_whole text z w (inr g) (inr h) =
    let left = g.1.0 in
    let right = h.1.0 in
    let same : g.0 ≡ h.0 = cc in
    g.1.1.1 ∙ ap (λ (ds : List ℕ). neg_ℤ (pos (value ds))) same ∙ sym h.1.1.1

one_place_word : (word : List ℕ) (p q : Cell) → IsPlaceWord word p → IsPlaceWord word q → p ≡ q
one_place_word word p q g h =
    let whole : codes "Pos=" ++ (g.x ++ (44 ∷ g.y)) ≡ codes "Pos=" ++ (h.x ++ (44 ∷ h.y)) =
    sym (append_assoc (codes "Pos=") g.x (44 ∷ g.y)) ∙ sym g.whole ∙ h.whole ∙ append_assoc (codes "Pos=") h.x (44 ∷ h.y) in
    let same = one_comma g.x g.y h.x h.y (no_comma_within g.x p.x g.x_is) (no_comma_within h.x q.x h.x_is) (append_cancel_left (codes "Pos=") _ _ whole) in
    let x = one_whole h.x p.x q.x (subst (λ (bs : List ℕ). IsWhole bs p.x) same.0 g.x_is) h.x_is in
    let y = one_whole h.y p.y q.y (subst (λ (bs : List ℕ). IsWhole bs p.y) same.1 g.y_is) h.y_is in
    (λ i. record { y = y i; x = x i })

one_place_in : (ws : List (List ℕ)) (p q : Cell) → IsPlaceIn ws p → IsPlaceIn ws q → p ≡ q
one_place_in [] p q g h = g ∙ sym h
one_place_in (w ∷ ws) p q (inl g) (inl h) = one_place_word w p q g h
one_place_in (w ∷ ws) p q (inl g) (inr h) = absurd (h.0 p g)
one_place_in (w ∷ ws) p q (inr g) (inl h) = absurd (g.0 q h)
one_place_in (w ∷ ws) p q (inr g) (inr h) = one_place_in ws p q g.1 h.1

one_place_found : (o : Option (List ℕ)) (p q : Cell) → MatchOption o (p ≡ cell (pos 0) (pos 0)) (λ line. IsPlaceIn (words line) p) → MatchOption o (q ≡ cell (pos 0) (pos 0)) (λ line. IsPlaceIn (words line) q) → p ≡ q
one_place_found None p q g h = g ∙ sym h
one_place_found (Some line) p q g h = one_place_in (words line) p q g h

-- lines give one place
pub one_place : (head : List (List ℕ)) (p q : Cell) → IsPlace head p → IsPlace head q → p ≡ q
one_place head p q g h = one_place_found (find gives_place head) p q g h

-- ---- one body

pub one_head : (text : List ℕ) (head other : List (List ℕ)) (rest last : List ℕ) → IsAtHeader text head rest → IsAtHeader text other last → IsSameRest head other rest last
one_head text head other rest last p q = one_rest IsPassedOver text head other rest last p.lines_are q.lines_are p.passed q.passed p.other q.other

pub one_body : (text : List ℕ) (place other : Cell) (body last : List ℕ) → HasBody text place body → HasBody text other last → (place ≡ other) × (body ≡ last)
one_body text place other body last p q =
    let same = one_head text p.head q.head p.rest q.rest p.at_header q.at_header in
    (one_place q.head place other (subst (λ (head : List (List ℕ)). IsPlace head place) same.heads p.place_is) q.place_is, sym p.body_is ∙ ap behind same.rests ∙ q.body_is)

-- ---- the laws

pub one_saying : (text : List ℕ) (place other : Cell) (items others : List Item) → Says text place items → Says text other others → (place ≡ other) × (items ≡ others)
one_saying text place other items others p q =
    let same = one_body text place other p.body q.body p.has_body q.has_body in
    let whole : p.written ++ (p.gap ++ (33 ∷ p.ignored)) ≡ q.written ++ (q.gap ++ (33 ∷ q.ignored)) =
    sym (append_assoc p.written p.gap (33 ∷ p.ignored)) ∙ sym p.body_is ∙ ap blanked same.1 ∙ q.body_is ∙ append_assoc q.written q.gap (33 ∷ q.ignored) in
    (same.0, one_list IsWhite white_kind items others p.written q.written p.gap q.gap p.ignored q.ignored p.items_are q.items_are p.gap_is q.gap_is whole)

pub one_plane : (text : List ℕ) (s t : Plane) → Means text s → Means text t → s ≡ t
one_plane text s t p q =
    let same = one_saying text p.place q.place p.items q.items p.says q.says in
    same_cells q.place q.items s t (subst (λ (place : Cell). AreCells place q.items s) same.0 (subst (λ (is : List Item). AreCells p.place is s) same.1 p.cells)) q.cells
