-- Words are read from their line, and lines from their text.
use Rattle.std.proofs.Common.{◌≡◌, ℕ, ◌<◌, Bool, true, false, not, ◌==◌, ◌&&◌, List, [], ◌∷◌, ◌++◌, length, map, filter, refl, ap, ◌∙◌, arith, inl, inr, nat_lt, nat_le}
use Rattle.std.specs.List.{list_all, All, AllByRecursion, slice_split}
use Rattle.std.specs.Str.Lines.{lines}
use Rattle.std.proofs.lemmas.List.{append_assoc, append-nil}
use Rattle.std.proofs.lemmas.List.Splits.{slice_split_at, slice_split_none}
use Rattle.std.proofs.lemmas.List.Sums.{AllPass-from_list_all}
use Rattle.std.proofs.lemmas.Bool.{ne_eqb}
use Rattle.std.proofs.lemmas.Bool.Decides.{nat_tests}
use Rattle.text_lines.specs.Blanks.{words, is_blank_byte, IsPassedOver}
use Rattle.life_rle.specs.ByteLaws.{all_append, weaker}
use Rattle.text_lines.specs.LineLaws.{strip_same, lines_first}
use Rattle.book_write.specs.Laid.{spaced, line_of, text_of}
use Rattle.book_write.proofs.Visible.{is_visible, no_blank, IsWord}

-- ---- words

none_blank : (word : List ℕ) → list_all is_visible word ≡ true → All (λ b. is_blank_byte b ≡ false) word
none_blank word h = λ k d l. no_blank _ (AllPass-from_list_all is_visible word h k d l)

parts_are : (word : List ℕ) (more : List (List ℕ)) → IsWord word → AllByRecursion IsWord more → slice_split is_blank_byte (line_of (word ∷ more)) ≡ word ∷ more
parts_are word [] h each = ap (slice_split is_blank_byte) (append-nil word) ∙ slice_split_none is_blank_byte word (none_blank word h.bytes)
parts_are word (next ∷ more) h each =
    slice_split_at is_blank_byte word 32 (line_of (next ∷ more)) (none_blank word h.bytes) refl ∙ ap (λ (parts : List (List ℕ)). word ∷ parts) (parts_are next more each.0 each.1)

all_kept : (ws : List (List ℕ)) → AllByRecursion IsWord ws → filter (λ w. not (length w == 0)) ws ≡ ws
all_kept [] each = refl
all_kept (w ∷ ws) each =
    let some = each.0.some in
    rw (ne_eqb (length w) 0 (λ e. omega arith)) (ap (λ (parts : List (List ℕ)). w ∷ parts) (all_kept ws each.1))

-- the words of a line are those that it is made of
pub words_are : (word : List ℕ) (more : List (List ℕ)) → IsWord word → AllByRecursion IsWord more → words (line_of (word ∷ more)) ≡ word ∷ more
words_are word more h each = ap (filter (λ (w : List ℕ). not (length w == 0))) (parts_are word more h each) ∙ all_kept (word ∷ more) (h, each)

-- ---- lines

-- a space, or past it
abbrev pub is_inner : ℕ → Bool
is_inner b = nat_le 32 b

visible_inner : (b : ℕ) → is_visible b ≡ true → is_inner b ≡ true
visible_inner b h = grind (arith, nat_tests)

no_feed : (b : ℕ) → is_inner b ≡ true → not (b == 10) ≡ true
no_feed b h = grind (arith, nat_tests)

no_return : (b : ℕ) → is_inner b ≡ true → not (b == 13) ≡ true
no_return b h = grind (arith, nat_tests)

spaced_inner : (ws : List (List ℕ)) → AllByRecursion IsWord ws → list_all is_inner (spaced ws) ≡ true
spaced_inner [] each = refl
spaced_inner (w ∷ ws) each = all_append is_inner w (spaced ws) (weaker is_visible is_inner visible_inner w each.0.bytes) (spaced_inner ws each.1)

line_inner : (ws : List (List ℕ)) → AllByRecursion IsWord ws → list_all is_inner (line_of ws) ≡ true
line_inner [] each = refl
line_inner (w ∷ ws) each = all_append is_inner w (spaced ws) (weaker is_visible is_inner visible_inner w each.0.bytes) (spaced_inner ws each.1)

-- the lines of a text are those that it is made of
pub lines_are : (ls : List (List (List ℕ))) → AllByRecursion (AllByRecursion IsWord) ls → lines (text_of ls) ≡ map line_of ls
lines_are [] each = refl
lines_are (ws ∷ ls) each =
    let inner = line_inner ws each.0 in
    ap lines (append_assoc (line_of ws) (10 ∷ []) (text_of ls))
    ∙ lines_first (line_of ws) (text_of ls) (weaker is_inner (λ b. not (b == 10)) no_feed (line_of ws) inner)
    ∙ (λ i. strip_same (line_of ws) (weaker is_inner (λ b. not (b == 13)) no_return (line_of ws) inner) i ∷ lines_are ls each.1 i)

-- ---- no line is passed over

not_passed : (b : ℕ) (rest : List ℕ) → 35 < b → IsPassedOver (b ∷ rest) → ⊥
not_passed b rest h (inl comment) = let no = ap (λ v. v && true) (ne_eqb 35 b (λ e. omega arith)) in cc
not_passed b rest h (inr blank) = let no = no_blank b (grind (arith, nat_tests)) in let yes = blank.0 in cc

-- the first byte is past `#`
abbrev pub begins_late : List ℕ → Bool
begins_late [] = false
begins_late (b ∷ bs) = nat_lt 35 b

late : (b : ℕ) → nat_lt 35 b ≡ true → 35 < b
late b h = grind (arith, nat_tests)

pub not_passed_over : (word rest : List ℕ) → begins_late word ≡ true → IsPassedOver (word ++ rest) → ⊥
not_passed_over [] rest h p = cc
not_passed_over (b ∷ bs) rest h p = not_passed b (bs ++ rest) (late b h) p
