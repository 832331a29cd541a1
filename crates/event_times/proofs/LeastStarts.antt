-- What holds exactly from a number on, and the least start that follows.
use Rattle.std.proofs.Common.{◌≡◌, ◌⊎◌, ◌↔◌, ℕ, ◌+◌, ◌-◌, ◌<◌, ◌≤◌, max, ℤ, pos, neg_ℤ, ◌+ℤ◌, ◌-ℤ◌, ◌≤ℤ◌, List, [], ◌∷◌, ◌++◌, length, length-drop, get_or, take, drop, Option, sym, subst, arith, inl, inr}
use Rattle.std.specs.Int.{int_max, int_min}
use Rattle.std.specs.List.{AllByRecursion}
use Rattle.std.specs.declared.option.Option.TheVariants.{Some, None}
use Rattle.std.proofs.lemmas.Int.{ints, clamps}
use Rattle.std.proofs.lemmas.Bool.{cases_lt}
use Rattle.std.proofs.lemmas.List.{take_more, take_all}
use Rattle.life_plane.specs.ListLaws.{all_push}
use Rattle.book_parts.specs.Limits.{IsFrom}
use Rattle.event_times.specs.declared.least.TurnTime.{TurnTime}
use Rattle.event_times.specs.declared.least.Emission.{Emission}
use Rattle.event_times.specs.declared.least.Sent.{Sent}
use Rattle.event_times.specs.declared.least.HitTime.{HitTime}
use Rattle.event_times.specs.Least.{IsBehindTime, IsBehindSent, SparesThese, IsLeastOf}

-- it holds exactly from this number on
abbrev pub From : ℕ → (ℕ → Type 0) → Type 0
From least P = (n : ℕ) → P n ↔ least ≤ n

pub from_both : (P Q : ℕ → Type 0) (a b : ℕ) → From a P → From b Q → (n : ℕ) → (P n × Q n) ↔ max a b ≤ n
from_both P Q a b p q n = (
  λ h. (let l = (p n).0 h.0 in let m = (q n).0 h.1 in omega arith),
  λ l. ((p n).1 (omega arith), (q n).1 (omega arith)),
)

-- the least time of throwing
pub spared_from : (ended : ℕ) (j was last : ℤ) (first : ℕ) → was ≡ last → pos first ≡ int_max (pos ended +ℤ int_min (j -ℤ was) (pos 0)) (pos 0) →
    (thrown : ℕ) → (pos ended ≤ℤ pos thrown) ⊎ (((j +ℤ pos ended) -ℤ pos thrown) ≤ℤ last) ↔ first ≤ thrown
spared_from ended j was last first same is thrown = (to, λ l. from l (cases_lt thrown ended))
  where
    to : (pos ended ≤ℤ pos thrown) ⊎ (((j +ℤ pos ended) -ℤ pos thrown) ≤ℤ last) → first ≤ thrown
    to (inl over) = omega (arith, ints, clamps)
    to (inr early) = omega (arith, ints, clamps)

    from : first ≤ thrown → (thrown < ended) ⊎ (ended ≤ thrown) → (pos ended ≤ℤ pos thrown) ⊎ (((j +ℤ pos ended) -ℤ pos thrown) ≤ℤ last)
    from l (inl before) = inr (omega (arith, ints, clamps))
    from l (inr over) = inl (omega (arith, ints))

-- the greater of two lies where they do
pub greater_near : (n : ℕ) (a b z : ℤ) → z ≡ int_max a b → IsFrom (neg_ℤ (pos n)) (pos n) a → IsFrom (neg_ℤ (pos n)) (pos n) b → IsFrom (neg_ℤ (pos n)) (pos n) z
greater_near n a b z is f g =
    let al = f.low in let ah = f.high in let bl = g.low in let bh = g.high in
    record { low = omega (arith, ints, clamps); high = omega (arith, ints, clamps) }

-- the hits behind so many, as a part of their list
pub live_is : (hits : List HitTime) (k : ℕ) → take (length hits - k) (drop k hits) ≡ drop k hits
live_is hits k = take_all (length hits - k) (drop k hits) (omega (arith, length-drop {A = HitTime}))

-- one more hit
pub spares_more : (P : ℕ → HitTime → Type 0) (hits : List HitTime) (i : ℕ) (d : HitTime) (from first next : ℕ) → i < length hits → ((n : ℕ) → P n (get_or hits i d) ↔ next ≤ n) →
    ((n : ℕ) → ((from ≤ n) × AllByRecursion (P n) (take i hits)) ↔ first ≤ n) → (n : ℕ) → ((from ≤ n) × AllByRecursion (P n) (take (i + 1) hits)) ↔ max first next ≤ n
spares_more P hits i d from first next lt here before n =
    let more : take (i + 1) hits ≡ take i hits ++ get_or hits i d ∷ [] = take_more hits i d lt in (
      λ h.
          let parts = all_parts (take i hits) (subst (AllByRecursion (P n)) more h.1) in
          let a = (before n).0 (h.0, parts.0) in let b = (here n).0 parts.1 in omega arith,
      λ l.
          let a = (before n).1 (omega arith) in
          (a.0, subst (AllByRecursion (P n)) (sym more) (all_push (P n) (take i hits) (get_or hits i d) a.1 ((here n).1 (omega arith)))),
    )
  where
    all_parts : (xs : List HitTime) → AllByRecursion (P n) (xs ++ get_or hits i d ∷ []) → AllByRecursion (P n) xs × P n (get_or hits i d)
    all_parts [] h = (tt, h.0)
    all_parts (x ∷ xs) h = let rest = all_parts xs h.1 in ((h.0, rest.0), rest.1)

-- all hits
pub spares_all : (P : ℕ → HitTime → Type 0) (hits : List HitTime) (i from first : ℕ) → length hits ≤ i → ((n : ℕ) → ((from ≤ n) × AllByRecursion (P n) (take i hits)) ↔ first ≤ n) →
    (n : ℕ) → ((from ≤ n) × AllByRecursion (P n) hits) ↔ first ≤ n
spares_all P hits i from first long before n = subst (λ (xs : List HitTime). ((from ≤ n) × AllByRecursion (P n) xs) ↔ first ≤ n) (take_all i hits long) (before n)

module _ (reach : ℤ) (before : Option TurnTime) (sent : Option Sent) (n : ℕ) (hits : List HitTime) (start a b : ℕ) (is : start ≡ max a b) (behind : From a (IsBehindTime before)) (passed : From b (IsBehindSent reach sent)) where
  pub least_alone : IsLeastOf reach before sent n None hits start
  least_alone = record {
    may = record { behind_turn = (behind start).1 (omega arith); behind_glider = (passed start).1 (omega arith); spares = tt };
    least = λ other may. (let l = (behind other).0 may.behind_turn in let m = (passed other).0 may.behind_glider in omega arith);
  }

  pub least_throwing : (glider : Emission) (first : ℕ) → ((thrown : ℕ) → ((start + n ≤ thrown) × SparesThese thrown (Some glider) hits) ↔ first ≤ thrown) →
      IsLeastOf reach before sent n (Some glider) hits (first - n)
  least_throwing glider first from =
      let here = (from first).1 (omega arith) in
      let late = here.0 in
      let back : first ≡ (first - n) + n = omega arith in
      record {
        may = record {
          behind_turn = (behind (first - n)).1 (omega arith);
          behind_glider = (passed (first - n)).1 (omega arith);
          spares = subst (λ k. SparesThese k (Some glider) hits) back here.1;
        };
        least = λ other may.
            let l = (behind other).0 may.behind_turn in
            let m = (passed other).0 may.behind_glider in
            let f = (from (other + n)).0 (omega arith, may.spares) in
            omega arith;
      }
