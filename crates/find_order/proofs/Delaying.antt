-- Delays are added up from their gaps, one by one.
use Rattle.std.proofs.Common.{◌≡◌, ℕ, suc, ◌+◌, ◌*◌, ◌<◌, ℤ, pos, ◌+ℤ◌, ◌≤ℤ◌, List, [], ◌∷◌, ◌++◌, length, get_or, drop, append_assoc, add-one, sym, ap, ◌∙◌, arith}
use Rattle.std.proofs.lemmas.Int.{ints}
use Rattle.std.proofs.Math.Seq.{drop-cons}
use Rattle.std.specs.List.{AllByRecursion}
use Rattle.life_plane.specs.ListLaws.{each_at}
use Rattle.book_parts.specs.Limits.{IsFrom}
use Rattle.find_order.specs.Candidates.{delays_by, times_after}

-- the first gaps are in the delays, the last of which is the time
pub record IsSoFar (gaps delays : List ℤ) (time : ℤ) (index : ℕ) : Type 0 where
  pub low : pos 0 ≤ℤ time
  pub high : time ≤ℤ pos (65536 * index)
  pub whole : delays_by gaps ≡ delays ++ times_after time (drop index gaps)

pub gap_within : (gaps : List ℤ) (index : ℕ) → AllByRecursion (IsFrom (pos 0) (pos 65536)) gaps → index < length gaps → IsFrom (pos 0) (pos 65536) (get_or gaps index (pos 0))
gap_within gaps index h lt = each_at (IsFrom (pos 0) (pos 65536)) gaps h index (pos 0) lt

-- one gap more
pub one_gap_more : (gaps delays after : List ℤ) (time next : ℤ) (index : ℕ) → AllByRecursion (IsFrom (pos 0) (pos 65536)) gaps → index < length gaps → IsSoFar gaps delays time index →
    next ≡ time +ℤ get_or gaps index (pos 0) → after ≡ delays ++ (next ∷ []) → IsSoFar gaps after next (index + 1)
one_gap_more gaps delays after time next index all lt h sum pushed =
    let gap = gap_within gaps index all lt in
    let above = gap.low in let below = gap.high in let low = h.low in let high = h.high in
    record {
      low = omega (arith, ints);
      high = omega (arith, ints);
      whole =
          h.whole
          ∙ ap (λ g. delays ++ times_after time g) (drop-cons gaps index (pos 0) lt)
          ∙ ap (λ t. delays ++ (t ∷ times_after t (drop (suc index) gaps))) (sym sum)
          ∙ sym (append_assoc delays (next ∷ []) (times_after next (drop (suc index) gaps)))
          ∙ ap (λ l. l ++ times_after next (drop (suc index) gaps)) (sym pushed)
          ∙ ap (λ k. after ++ times_after next (drop k gaps)) (sym (add-one index));
    }
