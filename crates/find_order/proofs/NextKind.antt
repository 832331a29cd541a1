-- Where the lists of a kind are over come those of the next.
use Rattle.std.proofs.Common.{◌≡◌, ℕ, suc, ◌+◌, ◌-◌, ◌<◌, ℤ, List, [], ◌∷◌, add-one, sym, ap, ◌∙◌, arith}
use Rattle.std.proofs.lemmas.Int.{ints}
use Rattle.std.specs.List.{AllByRecursion}
use Rattle.life_plane.specs.ListLaws.{all_weaker}
use Rattle.book_parts.specs.Limits.{IsFrom, AreGaps}
use Rattle.book_parts.specs.Proper.{IsDelay}
use Rattle.book_parts.specs.declared.settings.Range.{Range}
use Rattle.find_order.specs.Lists.{numbers, lists_up}
use Rattle.find_order.specs.Candidates.{delays_by, delay_lists_of}
use Rattle.find_order.specs.Coming.{delays_coming, coming}
use Rattle.find_order.specs.declared.candidate.Candidate.TheVariants.{Delays}

pub next_kind : (range : Range) (kinds kind : ℕ) (old all new : List (List ℤ)) (list : List ℤ) → kind < kinds → old ≡ [] → all ≡ lists_up (numbers range.low range.high) 0 (suc range.len) → all ≡ list ∷ new →
    delays_coming range kinds kind old ≡ Delays (kind + 1) (delays_by list) ∷ delays_coming range kinds (kind + 1) new
next_kind range kinds kind old all new list under none whole first =
    let more : kinds - kind ≡ suc (kinds - suc kind) = omega arith in
    ap (delays_coming range kinds kind) none
    ∙ ap (delay_lists_of range (suc kind)) more
    ∙ ap (delays_coming range kinds (suc kind)) (sym whole ∙ first)
    ∙ ap (λ k. Delays k (delays_by list) ∷ delays_coming range kinds k new) (sym (add-one kind))

-- the lists of lanes are over
pub no_more_lanes : (range : Range) (kinds kind : ℕ) (lanes gaps : List (List ℤ)) → lanes ≡ [] → coming lanes range kinds kind gaps ≡ delays_coming range kinds kind gaps
no_more_lanes range kinds kind lanes gaps none = ap (λ l. coming l range kinds kind gaps) none

-- gaps of a proper range are delays
pub gaps_are_small : (range : Range) (gaps : List ℤ) → AreGaps range → AllByRecursion (IsFrom range.low range.high) gaps → AllByRecursion IsDelay gaps
gaps_are_small range gaps proper h =
    let low = proper.low in let high = proper.high in
    all_weaker (IsFrom range.low range.high) IsDelay (λ gap from. let a = from.low in let b = from.high in record { low = omega (arith, ints); high = omega (arith, ints) }) gaps h
