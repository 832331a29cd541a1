-- Each candidate of a proper book fits it.
use Rattle.std.proofs.Common.{◌≡◌, ℕ, zero, suc, ◌+◌, ◌≤◌, ℤ, pos, negsuc, ◌+ℤ◌, ◌≤ℤ◌, List, [], ◌∷◌, length, map, refl, ap, arith}
use Rattle.std.proofs.lemmas.Int.{ints}
use Rattle.std.specs.Int.{int_gap}
use Rattle.std.specs.List.{flat_map, AllByRecursion}
use Rattle.life_plane.specs.ListLaws.{all_append, all_weaker}
use Rattle.book_parts.specs.Limits.{IsFrom, IsCoordinate, AreLanes, AreGaps, AreProper}
use Rattle.book_parts.specs.declared.settings.Range.{Range}
use Rattle.book_parts.specs.declared.settings.Settings.{Settings}
use Rattle.find_order.specs.Lists.{numbers_from, numbers, with_first, lists_of, lists_up}
use Rattle.find_order.specs.Candidates.{times_after, lane_lists, delay_lists, delay_lists_of, candidates}
use Rattle.find_order.specs.Fit.{IsFitting}

-- ---- what holds of each item of a map, and of lists joined

all_mapped : {A B : Type 0} (P : A → Type 0) (Q : B → Type 0) (f : A → B) → ((x : A) → P x → Q (f x)) → (xs : List A) → AllByRecursion P xs → AllByRecursion Q (map f xs)
all_mapped P Q f g [] h = tt
all_mapped P Q f g (x ∷ xs) h = (g x h.0, all_mapped P Q f g xs h.1)

all_joined : {A B : Type 0} (P : A → Type 0) (Q : B → Type 0) (f : A → List B) → ((x : A) → P x → AllByRecursion Q (f x)) → (xs : List A) → AllByRecursion P xs → AllByRecursion Q (flat_map f xs)
all_joined P Q f g [] h = tt
all_joined P Q f g (x ∷ xs) h = all_append Q (f x) (flat_map f xs) (g x h.0) (all_joined P Q f g xs h.1)

-- ---- lists of a range

gap_to : (low top : ℤ) → low ≤ℤ top → low +ℤ pos (int_gap low top) ≡ top
gap_to (pos a) (pos b) h = omega (arith, ints)
gap_to (pos a) (negsuc b) h = absurd (omega (arith, ints))
gap_to (negsuc a) (pos b) h = omega (arith, ints)
gap_to (negsuc a) (negsuc b) h = omega (arith, ints)

numbers_within : (least greatest low : ℤ) (more : ℕ) → least ≤ℤ low → (low +ℤ pos more) ≤ℤ (greatest +ℤ pos 1) → AllByRecursion (IsFrom least greatest) (numbers_from low more)
numbers_within least greatest low zero h k = tt
numbers_within least greatest low (suc more) h k =
    (record { low = h; high = omega (arith, ints) }, numbers_within least greatest (low +ℤ pos 1) more (omega (arith, ints)) (omega (arith, ints)))

pub range_within : (low high : ℤ) → low ≤ℤ high → AllByRecursion (IsFrom low high) (numbers low high)
range_within low high order =
    let top = gap_to low (high +ℤ pos 1) (omega (arith, ints)) in
    numbers_within low high low (int_gap low (high +ℤ pos 1)) (omega (arith, ints)) (omega (arith, ints))

-- a list of this length of items of which this holds
pub record IsListOf (P : ℤ → Type 0) (least most : ℕ) (list : List ℤ) : Type 0 where
  pub least_is : least ≤ length list
  pub most_is : length list ≤ most
  pub each : AllByRecursion P list

lists_are : (P : ℤ → Type 0) (items : List ℤ) (n : ℕ) → AllByRecursion P items → AllByRecursion (IsListOf P n n) (lists_of items n)
lists_are P items zero h = (record { least_is = omega arith; most_is = omega arith; each = tt }, tt)
lists_are P items (suc n) h =
    all_joined P (IsListOf P (suc n) (suc n)) (λ (first : ℤ). with_first first (lists_of items n))
    (λ first holds. all_mapped (IsListOf P n n) (IsListOf P (suc n) (suc n)) (λ (list : List ℤ). first ∷ list)
    (λ list is. let l = is.least_is in let m = is.most_is in record { least_is = omega arith; most_is = omega arith; each = (holds, is.each) })
    (lists_of items n) (lists_are P items n h))
    items h

pub lists_up_are : (P : ℤ → Type 0) (items : List ℤ) (least n more most : ℕ) → AllByRecursion P items → least ≤ n → n + more ≤ suc most → AllByRecursion (IsListOf P least most) (lists_up items n more)
lists_up_are P items least n zero most h low high = tt
lists_up_are P items least n (suc more) most h low high =
    all_append (IsListOf P least most) (lists_of items n) (lists_up items (suc n) more)
    (all_weaker (IsListOf P n n) (IsListOf P least most)
    (λ list is. let l = is.least_is in let m = is.most_is in record { least_is = omega arith; most_is = omega arith; each = is.each })
    (lists_of items n) (lists_are P items n h))
    (lists_up_are P items least (suc n) more most h (omega arith) (omega arith))

-- ---- lanes

lanes_fit : (kinds : ℕ) (lanes : Range) → AreLanes lanes → AllByRecursion (IsFitting kinds) (lane_lists lanes)
lanes_fit kinds lanes proper =
    let some = proper.some in let low = proper.low in let high = proper.high in let lowest = low.low in let highest = high.high in let few = proper.few in
    all_mapped (IsListOf (IsFrom lanes.low lanes.high) 1 lanes.len) (IsFitting kinds) _
    (λ list is. let l = is.least_is in let m = is.most_is in
    record { some = omega arith; few = omega arith; each = all_weaker (IsFrom lanes.low lanes.high) IsCoordinate (λ lane from. let a = from.low in let b = from.high in record { low = omega (arith, ints); high = omega (arith, ints) }) list is.each })
    (lists_up (numbers lanes.low lanes.high) 1 lanes.len)
    (lists_up_are (IsFrom lanes.low lanes.high) (numbers lanes.low lanes.high) 1 1 lanes.len lanes.len (range_within lanes.low lanes.high proper.order) (omega arith) (omega arith))

-- ---- delays

times_follow : (time : ℤ) (gaps : List ℤ) → pos 0 ≤ℤ time → AllByRecursion (λ (gap : ℤ). pos 0 ≤ℤ gap) gaps → AllByRecursion (λ (delay : ℤ). pos 0 ≤ℤ delay) (times_after time gaps)
times_follow time [] h all = tt
times_follow time (gap ∷ gaps) h all =
    let some : pos 0 ≤ℤ gap = all.0 in let sum : pos 0 ≤ℤ (time +ℤ gap) = omega (arith, ints) in
    (sum, times_follow (time +ℤ gap) gaps sum all.1)

as_many_times : (time : ℤ) (gaps : List ℤ) → length (times_after time gaps) ≡ length gaps
as_many_times time [] = refl
as_many_times time (gap ∷ gaps) = ap suc (as_many_times (time +ℤ gap) gaps)

delays_fit : (kinds kind : ℕ) (gaps : Range) → AreGaps gaps → 1 ≤ kind → kind ≤ kinds → AllByRecursion (IsFitting kinds) (delay_lists gaps kind)
delays_fit kinds kind gaps proper some most =
    let low = proper.low in let few = proper.few in
    all_mapped (IsListOf (IsFrom gaps.low gaps.high) 0 gaps.len) (IsFitting kinds) _
    (λ list is. let m = is.most_is in let many = as_many_times (pos 0) list in
    record {
      number = record { some = some; most = most };
      some = omega arith;
      few = omega arith;
      each = (omega (arith, ints), times_follow (pos 0) list (omega (arith, ints)) (all_weaker (IsFrom gaps.low gaps.high) (λ (gap : ℤ). pos 0 ≤ℤ gap) (λ gap from. let a = from.low in omega (arith, ints)) list is.each));
    })
    (lists_up (numbers gaps.low gaps.high) 0 (suc gaps.len))
    (lists_up_are (IsFrom gaps.low gaps.high) (numbers gaps.low gaps.high) 0 0 (suc gaps.len) gaps.len (range_within gaps.low gaps.high proper.order) (omega arith) (omega arith))

kinds_fit : (kinds kind more : ℕ) (gaps : Range) → AreGaps gaps → 1 ≤ kind → kind + more ≤ suc kinds → AllByRecursion (IsFitting kinds) (delay_lists_of gaps kind more)
kinds_fit kinds kind zero gaps proper some most = tt
kinds_fit kinds kind (suc more) gaps proper some most =
    all_append (IsFitting kinds) (delay_lists gaps kind) (delay_lists_of gaps (suc kind) more) (delays_fit kinds kind gaps proper some (omega arith)) (kinds_fit kinds (suc kind) more gaps proper (omega arith) (omega arith))

-- each candidate fits
pub candidates_fit : (settings : Settings) (kinds : ℕ) → AreProper settings → AllByRecursion (IsFitting kinds) (candidates settings kinds)
candidates_fit settings kinds proper =
    all_append (IsFitting kinds) (lane_lists settings.lanes) (delay_lists_of settings.delays 1 kinds)
    (lanes_fit kinds settings.lanes proper.lanes) (kinds_fit kinds 1 kinds settings.delays proper.delays (omega arith) (omega arith))
