-- A lane has one hit, and a list of lanes one list of hits.
use Rattle.std.proofs.Common.{◌≡◌, ◌≢◌, ℕ, ℤ, true, false, List, [], ◌∷◌, inl, inr, refl, sym, ap, subst, ◌∙◌, arith}
use Rattle.std.proofs.lemmas.Bool.{cases_lt}
use Rattle.life_plane.specs.Plane.{Plane, run, nothing}
use Rattle.life_cells.specs.Cells.{alive}
use Rattle.life_cells.specs.Boxes.{IsLeastBox}
use Rattle.life_cells.specs.BoxLaws.{one_least_box}
use Rattle.life_cells.specs.Laws.{same_cells}
use Rattle.book_parts.specs.Proper.{HasLife}
use Rattle.recipe_hit.specs.declared.frame.Hit.{Hit}
use Rattle.recipe_hit.specs.Strike.{first_quarter, hit_start, ever, ComesToRest, IsHit}
use Rattle.recipe_hit.specs.Sound.{AreHits}

-- the first still generation is one
pub one_rest : (s : Plane) (n m : ℕ) → ComesToRest s n → ComesToRest s m → n ≡ m
one_rest s n m h k = elim (cases_lt n m) [
  | inl lt ↦ absurd (k.first n lt h.still)
  | inr ge ↦ elim (cases_lt m n) [ inl lt ↦ absurd (h.first m lt k.still) | inr le ↦ let same : n ≡ m = omega arith in same ]
]

-- a lane has one hit
pub one_hit : (struck : Plane) (lane : ℤ) (a b : Hit) → IsHit struck lane a → IsHit struck lane b → a ≡ b
one_hit struck lane a b h k =
    let box : h.box ≡ k.box = one_least_box struck h.box k.box h.box_is k.box_is in
    let begins : hit_start struck h.box lane ≡ hit_start struck k.box lane = ap (λ x. hit_start struck x lane) box in
    let start : a.frame.start ≡ b.frame.start = h.start_is ∙ ap (λ x. first_quarter x lane) box ∙ sym k.start_is in
    let lanes : a.frame.lane ≡ b.frame.lane = h.lane_is ∙ sym k.lane_is in
    let when : a.generations ≡ b.generations = one_rest (hit_start struck k.box lane) a.generations b.generations (subst (λ p. ComesToRest p a.generations) begins h.rests) k.rests in
    let after : a.after ≡ b.after = same_cells a.after b.after (h.leaves ∙ ap (run a.generations) begins ∙ ap (λ n. run n (hit_start struck k.box lane)) when ∙ sym k.leaves) in
    let kept : IsLeastBox a.frame.bounds (ever b.generations (hit_start struck k.box lane)) =
    subst (λ n. IsLeastBox a.frame.bounds (ever n (hit_start struck k.box lane))) when (subst (λ p. IsLeastBox a.frame.bounds (ever a.generations p)) begins h.bounds) in
    let bounds : a.frame.bounds ≡ b.frame.bounds = one_least_box _ a.frame.bounds b.frame.bounds kept k.bounds in
    λ i. record { after = after i; generations = when i; frame = record { lane = lanes i; start = start i; bounds = bounds i } }

true≢false : true ≢ false
true≢false h = cc

-- what lives is not nothing
pub lives_not_nothing : (s : Plane) → HasLife s → s ≡ nothing → ⊥
lives_not_nothing s l e = true≢false (sym l.1.1 ∙ ap (λ (p : Plane). p l.0 l.1.0) e)

-- and a list of lanes one list of hits
pub one_list : (start : Plane) (lanes : List ℤ) (hits others : List Hit) → AreHits start lanes hits → AreHits start lanes others → hits ≡ others
one_list start [] [] [] h k = refl
one_list start [] [] (b ∷ others) h k = absurd k
one_list start [] (a ∷ hits) others h k = absurd h
one_list start (lane ∷ lanes) [] others h k = absurd h
one_list start (lane ∷ lanes) (a ∷ hits) [] h k = absurd k
one_list start (lane ∷ lanes) (a ∷ hits) (b ∷ others) h k =
    let first : a ≡ b = one_hit start lane a b h.0 k.0 in
    let rest : hits ≡ others = one_list (alive b.after) lanes hits others (subst (λ (x : Hit). AreHits (alive x.after) lanes hits) first h.1) k.1 in
    λ i. first i ∷ rest i
