-- Greatest numbers at the end of a list are passed, one by one, and made the least.
use Rattle.std.proofs.Common.{◌≡◌, true, false, ℕ, zero, suc, ◌-◌, ◌<◌, ◌≤◌, ℤ, pos, ◌+ℤ◌, ◌≤ℤ◌, ◌<ℤ◌, List, [], ◌∷◌, ◌++◌, length, replicate, set, get_or, refl, sym, ap, subst, ◌∙◌, arith, append_assoc, to_z, of_z, w64, FitsSigned}
use Rattle.std.proofs.Math.Seq.{set-append_seam, get_or-append_seam}
use Rattle.std.proofs.lemmas.Int.{ints}
use Rattle.std.proofs.lemmas.List.{length-replicate}
use Rattle.std.specs.List.{AllByRecursion}
use Rattle.life_plane.specs.NumberLaws.{lt_from_test}
use lib.Signed.{lt_z}
use Rattle.book_parts.specs.Limits.{IsFrom}
use Rattle.find_order.specs.Ahead.{behind}
use Rattle.find_order.proofs.Behind.{next_list, last_list}

-- the front of the list stands, and behind it are greatest numbers that are the least now
pub record IsPassed (low high : ℤ) (before now : List ℤ) (place : ℕ) : Type 0 where
  pub front : List ℤ
  pub passed : ℕ
  pub place_is : place ≡ length front
  pub before_is : before ≡ front ++ replicate passed high
  pub now_is : now ≡ front ++ replicate passed low

-- the same of a range whose ends are written otherwise
pub in_range : (low high other_low other_high : ℤ) (before now : List ℤ) (place : ℕ) → other_low ≡ low → other_high ≡ high → IsPassed other_low other_high before now place → IsPassed low high before now place
in_range low high other_low other_high before now place lows highs h = subst (λ l. IsPassed l high before now place) lows (subst (λ g. IsPassed other_low g before now place) highs h)

-- a list with an item in front of its place
record IsSplit (front : List ℤ) (place : ℕ) : Type 0 where
  pub start : List ℤ
  pub last : ℤ
  pub is : front ≡ start ++ (last ∷ [])
  pub place_is : length start ≡ place

split : (front : List ℤ) (place : ℕ) → length front ≡ suc place → IsSplit front place
split [] place e = absurd (omega arith)
split (x ∷ []) zero e = record { start = []; last = x; is = refl; place_is = refl }
split (x ∷ []) (suc place) e = absurd (omega arith)
split (x ∷ (y ∷ front)) zero e = absurd (omega arith)
split (x ∷ (y ∷ front)) (suc place) e =
    let rest = split (y ∷ front) place (omega arith) in
    record { start = x ∷ rest.start; last = rest.last; is = ap (λ l. x ∷ l) rest.is; place_is = ap suc rest.place_is }

within_split : (low high : ℤ) (start rest : List ℤ) (x : ℤ) → AllByRecursion (IsFrom low high) (start ++ (x ∷ rest)) → IsFrom low high x
within_split low high [] rest x h = h.0
within_split low high (y ∷ start) rest x h = within_split low high start rest x h.1

within_replaced : (low high : ℤ) (start rest others : List ℤ) → AllByRecursion (IsFrom low high) (start ++ rest) → AllByRecursion (IsFrom low high) others → AllByRecursion (IsFrom low high) (start ++ others)
within_replaced low high [] rest others h k = k
within_replaced low high (y ∷ start) rest others h k = (h.0, within_replaced low high start rest others h.1 k)

pub within_least : (low high : ℤ) (n : ℕ) → low ≤ℤ high → AllByRecursion (IsFrom low high) (replicate n low)
within_least low high zero order = tt
within_least low high (suc n) order = (record { low = omega (arith, ints); high = order }, within_least low high n order)

-- the list as it was and is, with the number in front of the place
pub record IsAt (low high : ℤ) (before now : List ℤ) (place : ℕ) : Type 0 where
  pub start : List ℤ
  pub number : ℤ
  pub passed : ℕ
  pub place_is : place ≡ length start
  pub before_is : before ≡ start ++ (number ∷ replicate passed high)
  pub now_is : now ≡ start ++ (number ∷ replicate passed low)

pub at_place : (low high : ℤ) (before now : List ℤ) (place : ℕ) → 0 < place → IsPassed low high before now place → IsAt low high before now (place - 1)
at_place low high before now place some h =
    let place_is = h.place_is in
    let s = split h.front (place - 1) (omega arith) in
    record {
      start = s.start;
      number = s.last;
      passed = h.passed;
      place_is = sym s.place_is;
      before_is = h.before_is ∙ ap (λ l. l ++ replicate h.passed high) s.is ∙ append_assoc s.start (s.last ∷ []) (replicate h.passed high);
      now_is = h.now_is ∙ ap (λ l. l ++ replicate h.passed low) s.is ∙ append_assoc s.start (s.last ∷ []) (replicate h.passed low);
    }

-- the number that stands there
pub number_read : (low high : ℤ) (before now : List ℤ) (place : ℕ) (d : ℤ) (at : IsAt low high before now place) → get_or now place d ≡ at.number
number_read low high before now place d at =
    ap (λ l. get_or l place d) at.now_is ∙ ap (λ i. get_or (at.start ++ (at.number ∷ replicate at.passed low)) i d) at.place_is ∙ get_or-append_seam at.start at.number (replicate at.passed low) d

-- and another in its place
number_set : (low high : ℤ) (before now : List ℤ) (place : ℕ) (x : ℤ) (at : IsAt low high before now place) → set now place x ≡ at.start ++ (x ∷ replicate at.passed low)
number_set low high before now place x at =
    ap (λ l. set l place x) at.now_is ∙ ap (λ i. set (at.start ++ (at.number ∷ replicate at.passed low)) i x) at.place_is ∙ set-append_seam at.start at.number (replicate at.passed low) x

pub number_within : (low high : ℤ) (before now : List ℤ) (place : ℕ) → AllByRecursion (IsFrom low high) before → (at : IsAt low high before now place) → IsFrom low high at.number
number_within low high before now place h at = within_split low high at.start (replicate at.passed high) at.number (subst (AllByRecursion (IsFrom low high)) at.before_is h)

-- a number that is the greatest is passed
pub passes_one : (low high : ℤ) (before now : List ℤ) (place : ℕ) (least : ℤ) → (at : IsAt low high before now place) → at.number ≡ high → least ≡ low →
    IsPassed low high before (set now place least) place
passes_one low high before now place least at greatest is =
    record {
      front = at.start;
      passed = suc at.passed;
      place_is = at.place_is;
      before_is = at.before_is ∙ ap (λ y. at.start ++ (y ∷ replicate at.passed high)) greatest;
      now_is = number_set low high before now place least at ∙ ap (λ y. at.start ++ (y ∷ replicate at.passed low)) is;
    }

-- one that isn't is made one greater, and that is the next list
pub moves_on : (low high : ℤ) (before now : List ℤ) (place : ℕ) (x : ℤ) → low ≤ℤ high → (at : IsAt low high before now place) → at.number <ℤ high → x ≡ at.number +ℤ pos 1 →
    behind low high before ≡ set now place x ∷ behind low high (set now place x)
moves_on low high before now place x order at less is =
    let after : set now place x ≡ at.start ++ ((at.number +ℤ pos 1) ∷ replicate at.passed low) = number_set low high before now place x at ∙ ap (λ y. at.start ++ (y ∷ replicate at.passed low)) is in
    ap (behind low high) at.before_is ∙ next_list low high at.start at.number at.passed order less ∙ ap (λ l. l ∷ behind low high l) (sym after)

pub moved_within : (low high : ℤ) (before now : List ℤ) (place : ℕ) (x : ℤ) → low ≤ℤ high → AllByRecursion (IsFrom low high) before → (at : IsAt low high before now place) →
    at.number <ℤ high → x ≡ at.number +ℤ pos 1 → AllByRecursion (IsFrom low high) (set now place x)
moved_within low high before now place x order h at less is =
    let within = number_within low high before now place h at in
    let above = within.low in
    let fits : IsFrom low high x = record { low = omega (arith, ints); high = omega (arith, ints) } in
    subst (AllByRecursion (IsFrom low high)) (sym (number_set low high before now place x at))
    (within_replaced low high at.start (at.number ∷ replicate at.passed high) (x ∷ replicate at.passed low)
    (subst (AllByRecursion (IsFrom low high)) at.before_is h) (fits, within_least low high at.passed order))

-- once all are passed the list was the last
pub record IsOver (low high : ℤ) (before now : List ℤ) : Type 0 where
  pub none : behind low high before ≡ []
  pub least : now ≡ replicate (length before) low

pub all_passed : (low high : ℤ) (before now : List ℤ) (place : ℕ) → place ≤ 0 → IsPassed low high before now place → IsOver low high before now
all_passed low high before now place none h = by h.front h.place_is h.before_is h.now_is
  where
    by : (front : List ℤ) → place ≡ length front → before ≡ front ++ replicate h.passed high → now ≡ front ++ replicate h.passed low → IsOver low high before now
    by [] e b n = record {
      none = ap (behind low high) b ∙ last_list low high h.passed;
      least = n ∙ ap (λ k. replicate k low) (sym (ap length b ∙ length-replicate h.passed high));
    }
    by (x ∷ front) e b n = absurd (omega arith)

pub over_within : (low high : ℤ) (before now : List ℤ) → low ≤ℤ high → IsOver low high before now → AllByRecursion (IsFrom low high) now
over_within low high before now order h = subst (AllByRecursion (IsFrom low high)) (sym h.least) (within_least low high (length before) order)

-- ---- what the code reads and writes, as bits

-- a number that is less than the greatest, as it is read
pub less_read : (low high number x : ℤ) → FitsSigned w64 low → FitsSigned w64 high → IsFrom low high number → x ≡ number → lt_z (to_z w64 (of_z w64 x)) (to_z w64 (of_z w64 high)) ≡ true → number <ℤ high
less_read low high number x fits_low fits_high within is h =
    let above = within.low in let below = within.high in let less = lt_from_test {a = to_z w64 (of_z w64 x)} {b = to_z w64 (of_z w64 high)} h in
    omega (arith, ints)

-- and one that isn't
pub greatest_read : (low high number x : ℤ) → FitsSigned w64 low → FitsSigned w64 high → IsFrom low high number → x ≡ number → lt_z (to_z w64 (of_z w64 x)) (to_z w64 (of_z w64 high)) ≡ false → number ≡ high
greatest_read low high number x fits_low fits_high within is h = let above = within.low in let below = within.high in grind (arith, ints)

-- one more, as it is written
pub more_written : (low high number x : ℤ) → FitsSigned w64 low → FitsSigned w64 high → IsFrom low high number → number <ℤ high → x ≡ number →
    to_z w64 (of_z w64 (to_z w64 (of_z w64 x) +ℤ pos 1)) ≡ number +ℤ pos 1
more_written low high number x fits_low fits_high within less is = let above = within.low in omega (arith, ints)
