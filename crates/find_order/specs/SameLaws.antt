-- The laws of equal candidates.
use Rattle.std.specs.Prelude.{◌≡◌, ◌&&◌, true, ℤ, List, nat_eq}
use Rattle.std.specs.Cmp.{IsEquivalence, int_eq_equiv}
use Rattle.std.specs.Cmp.Rules.{signed_items}
use Rattle.std.specs.Cmp.Lexicographic.{lists_equiv}
use Rattle.std.proofs.Common.{refl, sym, ap, ◌∙◌}
use Rattle.std.proofs.lemmas.Bool.{and_parts, and_from, eqb-true}
use Rattle.std.proofs.lemmas.Cmp.{nat_eq_equiv}
use Rattle.find_order.specs.declared.candidate.Candidate.{Candidate}
use Rattle.find_order.specs.declared.candidate.Candidate.TheVariants.{Lanes, Delays}
use Rattle.find_order.specs.Same.{same_numbers, same_candidate, candidate_hash}

same_numbers_are : (xs ys : List ℤ) → same_numbers xs ys ≡ true → xs ≡ ys
same_numbers_are xs ys h = (signed_items xs ys).0 h

numbers_themselves : (xs : List ℤ) → same_numbers xs xs ≡ true
numbers_themselves xs = (lists_equiv int_eq_equiv).refl xs

-- candidates that pass the test are equal
pub same_candidate_is : (a b : Candidate) → same_candidate a b ≡ true → a ≡ b
same_candidate_is (Lanes xs) (Lanes ys) h = ap Lanes (same_numbers_are xs ys h)
same_candidate_is (Lanes xs) (Delays kind ys) h = cc
same_candidate_is (Delays kind xs) (Lanes ys) h = cc
same_candidate_is (Delays kind xs) (Delays other ys) h =
    let parts = and_parts (nat_eq kind other) (same_numbers xs ys) h in
    let kinds = eqb-true kind other parts.0 in
    let numbers = same_numbers_are xs ys parts.1 in
    λ i. Delays (kinds i) (numbers i)

candidate_itself : (a : Candidate) → same_candidate a a ≡ true
candidate_itself (Lanes xs) = numbers_themselves xs
candidate_itself (Delays kind xs) = and_from (nat_eq kind kind) (same_numbers xs xs) (nat_eq_equiv.refl kind) (numbers_themselves xs)

-- and equal candidates pass it
pub same_candidate-equal : (a b : Candidate) → a ≡ b → same_candidate a b ≡ true
same_candidate-equal a b e = ap (same_candidate a) (sym e) ∙ candidate_itself a

same_either_way : (a b : Candidate) → same_candidate a b ≡ same_candidate b a
same_either_way (Lanes xs) (Lanes ys) = (lists_equiv int_eq_equiv).symm xs ys
same_either_way (Lanes xs) (Delays kind ys) = refl
same_either_way (Delays kind xs) (Lanes ys) = refl
same_either_way (Delays kind xs) (Delays other ys) =
    let kinds = nat_eq_equiv.symm kind other in
    let numbers = (lists_equiv int_eq_equiv).symm xs ys in
    λ i. kinds i && numbers i

pub same_candidate_equiv : IsEquivalence same_candidate
same_candidate_equiv = record {
  refl = candidate_itself;
  symm = same_either_way;
  congr = λ a b c h. ap (λ d. same_candidate d c) (same_candidate_is a b h);
}

-- equal candidates feed a hasher alike
pub candidate_hash-same : (a b : Candidate) → same_candidate a b ≡ true → candidate_hash a ≡ candidate_hash b
candidate_hash-same a b h = ap candidate_hash (same_candidate_is a b h)
