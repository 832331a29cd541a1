-- Lines, one after the other.
use Rattle.std.proofs.Common.{◌≡◌, ℕ, ◌+◌, ◌<◌, List, [], ◌∷◌, ◌++◌, length, get_or, take, refl, sym, ap, ◌∙◌, subst}
use Rattle.std.specs.List.{AllZip, flat_map}
use Rattle.std.proofs.lemmas.List.{append_assoc, append-nil, take_more, flat_map_more}
use Rattle.std.proofs.lemmas.List.Concat.{flat_map-append}
use Rattle.book_write.specs.Laid.{spaced, ended_line, text_of, AppendsLine, AppendsLines}
use Rattle.std.proofs.lemmas.Slice.Zip.{all_zipped_more}

-- the texts of these were appended, one after the other
abbrev pub AreLaid : {X : Type 0} → (X → List ℕ) → List ℕ → List X → List ℕ → Type 0
AreLaid text old [] new = new ≡ old
AreLaid text old (x ∷ xs) new = (mid : List ℕ) × ((mid ≡ old ++ text x) × AreLaid text mid xs new)

pub laid : {X : Type 0} (text : X → List ℕ) (old new : List ℕ) (xs : List X) → AreLaid text old xs new → new ≡ old ++ flat_map text xs
laid text old new [] h = h ∙ sym (append-nil old)
laid text old new (x ∷ xs) (mid, (e, h)) = laid text mid new xs h ∙ ap (λ (t : List ℕ). t ++ flat_map text xs) e ∙ append_assoc old (text x) (flat_map text xs)

-- groups in one list
abbrev pub grouped : {X : Type 0} → List (List X) → List X
grouped [] = []
grouped (group ∷ []) = group
grouped (group ∷ (next ∷ groups)) = group ++ grouped (next ∷ groups)

text_grouped : {X : Type 0} (text : X → List ℕ) (groups : List (List X)) → flat_map (flat_map text) groups ≡ flat_map text (grouped groups)
text_grouped text [] = refl
text_grouped text (group ∷ []) = append-nil (flat_map text group)
text_grouped text (group ∷ (next ∷ groups)) = ap (λ (t : List ℕ). flat_map text group ++ t) (text_grouped text (next ∷ groups)) ∙ sym (flat_map-append text group (grouped (next ∷ groups)))

groups_laid : {X : Type 0} (text : X → List ℕ) (old new : List ℕ) (groups : List (List X)) → AreLaid (flat_map text) old groups new → new ≡ old ++ flat_map text (grouped groups)
groups_laid text old new groups h = laid (flat_map text) old new groups h ∙ ap (λ (t : List ℕ). old ++ t) (text_grouped text groups)

pub words_laid : (old new : List ℕ) (groups : List (List (List ℕ))) → AreLaid spaced old groups new → new ≡ old ++ spaced (grouped groups)
words_laid old new groups h = groups_laid (λ word. (32 ∷ []) ++ word) old new groups h

pub lines_laid : (old new : List ℕ) (groups : List (List (List (List ℕ)))) → AreLaid text_of old groups new → new ≡ old ++ text_of (grouped groups)
lines_laid old new groups h = groups_laid ended_line old new groups h

-- one line alone
pub one_line : (old new : List ℕ) (words : List (List ℕ)) → new ≡ old ++ ended_line words → new ≡ old ++ text_of (words ∷ [])
one_line old new words h = h ∙ ap (λ (t : List ℕ). old ++ t) (sym (append-nil (ended_line words)))

-- a line: its first word, the others in groups, and its end
pub line_laid : (old begun last new first : List ℕ) (groups : List (List (List ℕ))) → begun ≡ old ++ first → AreLaid spaced begun groups last → new ≡ last ++ (10 ∷ []) → new ≡ old ++ ended_line (first ∷ grouped groups)
line_laid old begun last new first groups b h e =
    let more = words_laid begun last groups h in
    e ∙ ap (λ (t : List ℕ). t ++ (10 ∷ [])) (more ∙ ap (λ (t : List ℕ). t ++ spaced (grouped groups)) b ∙ append_assoc old first (spaced (grouped groups))) ∙ append_assoc old (first ++ spaced (grouped groups)) (10 ∷ [])

-- one more line, that of the element at the place
pub lines_push : {X : Type 0} (R : X → List (List ℕ) → Type 0) (xs : List X) (i : ℕ) (d : X) (old mid new : List ℕ) → i < length xs
    → AppendsLines old mid (AllZip R (take i xs)) → AppendsLine mid new (R (get_or xs i d)) → AppendsLines old new (AllZip R (take (i + 1) xs))
lines_push R xs i d old mid new l (lines, (before, each)) (words, (more, last)) = (
  lines ++ (words ∷ []),
  (
    more ∙ ap (λ (t : List ℕ). t ++ ended_line words) before ∙ flat_map_more ended_line old lines words,
    subst (λ (ys : List _). AllZip R ys (lines ++ (words ∷ []))) (sym (take_more xs i d l)) (all_zipped_more R (take i xs) lines (get_or xs i d) words each last),
  ),
)
