-- All lists of a range, as they are before the first was taken.
use Rattle.std.proofs.Common.{◌≡◌, ℕ, suc, ◌-◌, ◌≤◌, ℤ, ◌≤ℤ◌, List, length, replicate, sym, ap, subst, ◌∙◌, arith}
use Rattle.std.proofs.lemmas.Int.{ints}
use Rattle.std.proofs.lemmas.List.{length-replicate}
use Rattle.std.specs.List.{AllByRecursion}
use Rattle.book_parts.specs.Limits.{IsFrom}
use Rattle.find_order.specs.Lists.{numbers, lists_up}
use Rattle.find_order.specs.Ahead.{on_from}
use Rattle.find_order.specs.Listing.{Listing, IsListed}
use Rattle.find_order.proofs.Behind.{from_first}
use Rattle.find_order.proofs.Passing.{within_least}

abbrev pub listing : ℤ → ℤ → ℕ → List (List ℤ) → Listing
listing low high longest lists = record { low = low; high = high; longest = longest; lists = lists }

pub first_is_listed : (low high written_low written_high : ℤ) (longest shortest : ℕ) (list : List ℤ) → low ≤ℤ high → written_low ≡ low → written_high ≡ high → shortest ≤ longest →
    list ≡ replicate shortest written_low → IsListed written_low written_high longest list
first_is_listed low high written_low written_high longest shortest list order lows highs some is =
    let same : written_low ≤ℤ written_high = omega (arith, ints) in
    let long : length list ≡ shortest = ap length is ∙ length-replicate shortest written_low in
    record { order = same; within = subst (AllByRecursion (IsFrom written_low written_high)) (sym is) (within_least written_low written_high shortest same); short = omega arith }

pub all_lists : (low high written_low written_high : ℤ) (longest shortest : ℕ) (list : List ℤ) → low ≤ℤ high → written_low ≡ low → written_high ≡ high →
    list ≡ replicate shortest written_low →
    listing written_low written_high longest (on_from written_low written_high longest list) ≡ listing low high longest (lists_up (numbers low high) shortest (suc (longest - shortest)))
all_lists low high written_low written_high longest shortest list order lows highs is =
    let first : list ≡ replicate shortest low = is ∙ ap (replicate shortest) lows in
    let lists : on_from written_low written_high longest list ≡ lists_up (numbers low high) shortest (suc (longest - shortest)) =
    ap (λ l. on_from l written_high longest list) lows ∙ ap (λ h. on_from low h longest list) highs ∙ from_first low high longest shortest list order first in
    λ i. listing (lows i) (highs i) longest (lists i)
