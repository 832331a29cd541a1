-- The gaps of a list of delays, place by place.
use Rattle.std.proofs.Common.{◌≡◌, ℕ, zero, suc, ◌+◌, ◌-◌, ◌<◌, ◌≤◌, ℤ, pos, ◌+ℤ◌, ◌≤ℤ◌, ◌<ℤ◌, List, [], ◌∷◌, ◌++◌, length, get_or, take, drop, sym, ap, subst, ◌∙◌, arith}
use Rattle.std.proofs.lemmas.Int.{ints}
use Rattle.std.proofs.lemmas.List.{at_drop_more, take-append-drop, take_more, take_all, length-take-le}
use Rattle.recipe_turn.specs.Turn.{AreSpaced, AreSpacedFrom}
use Rattle.recipe_turn.specs.Gaps.{AreApart, AreApartFrom, IsFirstNarrow}
use Rattle.life_plane.specs.Tracks.{gap}

-- ---- one more delay

push_from : (before : ℤ) (ds : List ℤ) (k : ℕ) → k < length ds → AreApartFrom before (take k ds) → (get_or (before ∷ ds) k (pos 0) +ℤ pos gap) ≤ℤ get_or ds k (pos 0) →
    AreApartFrom before (take k ds ++ (get_or ds k (pos 0) ∷ []))
push_from before [] k lt h space = absurd (omega arith)
push_from before (d ∷ ds) zero lt h space = (space, tt)
push_from before (d ∷ ds) (suc k) lt h space = (h.0, push_from d ds k (omega arith) h.1 space)

narrow_from : (before : ℤ) (ds : List ℤ) (k : ℕ) → k < length ds → get_or ds k (pos 0) <ℤ (get_or (before ∷ ds) k (pos 0) +ℤ pos gap) →
    AreApartFrom before (take k ds ++ (get_or ds k (pos 0) ∷ [])) → ⊥
narrow_from before [] k lt space h = absurd (omega arith)
narrow_from before (d ∷ ds) zero lt space h = let wide = h.0 in omega (arith, ints, wide, space)
narrow_from before (d ∷ ds) (suc k) lt space h = narrow_from d ds k (omega arith) space h.1

pub apart_first : (ds : List ℤ) → 0 < length ds → get_or ds 0 (pos 0) ≡ pos 0 → AreApart (take 1 ds)
apart_first [] some first = absurd (omega arith)
apart_first (d ∷ ds) some first = (first, tt)

push_at : (ds : List ℤ) (k : ℕ) → suc k < length ds → AreApart (take (suc k) ds) → (get_or ds k (pos 0) +ℤ pos gap) ≤ℤ get_or ds (suc k) (pos 0) →
    AreApart (take (suc k) ds ++ (get_or ds (suc k) (pos 0) ∷ []))
push_at [] k lt h space = absurd (omega arith)
push_at (d ∷ ds) k lt h space = (h.0, push_from d ds k (omega arith) h.1 space)

narrow_at : (ds : List ℤ) (k : ℕ) → suc k < length ds → get_or ds (suc k) (pos 0) <ℤ (get_or ds k (pos 0) +ℤ pos gap) → AreApart (take (suc k) ds ++ (get_or ds (suc k) (pos 0) ∷ [])) → ⊥
narrow_at [] k lt space h = absurd (omega arith)
narrow_at (d ∷ ds) k lt space h = narrow_from d ds k (omega arith) space h.1

one_up : (place : ℕ) → 1 ≤ place → suc (place - 1) ≡ place
one_up place some = omega arith

-- a gap that is wide enough
pub apart_more : (ds : List ℤ) (place : ℕ) → 1 ≤ place → place < length ds → AreApart (take place ds) → (get_or ds (place - 1) (pos 0) +ℤ pos gap) ≤ℤ get_or ds place (pos 0) →
    AreApart (take (place + 1) ds)
apart_more ds place some lt h space =
    let P : ℕ → Type 0 = λ p. p < length ds → AreApart (take p ds) → (get_or ds (place - 1) (pos 0) +ℤ pos gap) ≤ℤ get_or ds p (pos 0) → AreApart (take p ds ++ (get_or ds p (pos 0) ∷ [])) in
    subst AreApart (sym (take_more ds place (pos 0) lt)) (subst P (one_up place some) (push_at ds (place - 1)) lt h space)

-- ---- one that is not

narrow_here : (ds : List ℤ) (place : ℕ) → place < length ds → AreApart (take place ds) → (AreApart (take place ds ++ (get_or ds place (pos 0) ∷ [])) → ⊥) → IsFirstNarrow ds (place + 1)
narrow_here ds place lt h narrow = record {
  front = take place ds;
  here = get_or ds place (pos 0);
  back = drop (place + 1) ds;
  split = sym (take-append-drop place ds) ∙ ap (λ rest. take place ds ++ rest) (at_drop_more (λ xs. xs) ds place (pos 0) lt);
  place_is = ap (λ k. k + 1) (sym (length-take-le place ds (omega arith)));
  before = h;
  narrow = narrow;
}

pub first_is_narrow : (ds : List ℤ) → 0 < length ds → (get_or ds 0 (pos 0) ≡ pos 0 → ⊥) → IsFirstNarrow ds 1
first_is_narrow ds some other = narrow_here ds 0 some tt (λ h. other h.0)

pub is_narrow : (ds : List ℤ) (place : ℕ) → 1 ≤ place → place < length ds → AreApart (take place ds) → get_or ds place (pos 0) <ℤ (get_or ds (place - 1) (pos 0) +ℤ pos gap) →
    IsFirstNarrow ds (place + 1)
is_narrow ds place some lt h space =
    let P : ℕ → Type 0 = λ p. p < length ds → get_or ds p (pos 0) <ℤ (get_or ds (place - 1) (pos 0) +ℤ pos gap) → AreApart (take p ds ++ (get_or ds p (pos 0) ∷ [])) → ⊥ in
    narrow_here ds place lt h (subst P (one_up place some) (narrow_at ds (place - 1)) lt space)

pub apart_all : (ds : List ℤ) (place : ℕ) → length ds ≤ place → AreApart (take place ds) → AreApart ds
apart_all ds place long h = subst AreApart (take_all place ds long) h

-- ---- the end

end_from : (before : ℤ) (ds : List ℤ) (n : ℤ) → AreApartFrom before ds → (get_or (before ∷ ds) (length ds) (pos 0) +ℤ pos gap) ≤ℤ n → AreSpacedFrom before ds n
end_from before [] n h last = last
end_from before (d ∷ ds) n h last = (h.0, end_from d ds n h.1 last)

short_from : (before : ℤ) (ds : List ℤ) (n : ℤ) → n <ℤ (get_or (before ∷ ds) (length ds) (pos 0) +ℤ pos gap) → AreSpacedFrom before ds n → ⊥
short_from before [] n short h = omega (arith, ints, h, short)
short_from before (d ∷ ds) n short h = short_from d ds n short h.1

-- delays that are apart, with the end 20 after the last
pub spaced : (ds : List ℤ) (n : ℤ) (last : ℕ) → last + 1 ≡ length ds → AreApart ds → (get_or ds last (pos 0) +ℤ pos gap) ≤ℤ n → AreSpaced ds n
spaced [] n last is h end_after = absurd (omega arith)
spaced (d ∷ ds) n last is h end_after =
    let at_end : last ≡ length ds = omega arith in
    (h.0, end_from d ds n h.1 (subst (λ k. (get_or (d ∷ ds) k (pos 0) +ℤ pos gap) ≤ℤ n) at_end end_after))

-- and with an earlier end
pub not_spaced : (ds : List ℤ) (n : ℤ) (last : ℕ) → last + 1 ≡ length ds → n <ℤ (get_or ds last (pos 0) +ℤ pos gap) → AreSpaced ds n → ⊥
not_spaced [] n last is short h = absurd (omega arith)
not_spaced (d ∷ ds) n last is short h =
    let at_end : last ≡ length ds = omega arith in
    short_from d ds n (subst (λ k. n <ℤ (get_or (d ∷ ds) k (pos 0) +ℤ pos gap)) at_end short) h.1
