-- Which candidates are still to come.
use Rattle.std.specs.Prelude.{◌≡◌, ℕ, suc, ◌-◌, ℤ, List, ◌++◌, map}
use Rattle.std.specs.Coded.{Coded, coded_list}
use Rattle.book_parts.specs.Limits.{AreGaps}
use Rattle.book_parts.specs.Proper.{IsKindNumber}
use Rattle.book_parts.specs.declared.settings.Range.{Range}
use Rattle.find_order.specs.Candidates.{delays_by, delay_lists_of}
use Rattle.find_order.specs.Listing.{Listing}
use Rattle.find_order.specs.declared.candidate.Candidate.{Candidate}
use Rattle.find_order.specs.declared.candidate.Candidate.TheVariants.{Lanes, Delays}
use Rattle.find_order.specs.contracts.candidate.Candidate as candidate_row

abbrev pub coded_candidates : Coded (List Candidate)
coded_candidates = coded_list candidate_row.the_row.coded

-- the lists of gaps of a kind that are left, and then all of the kinds behind it
abbrev pub delays_coming : Range → ℕ → ℕ → List (List ℤ) → List Candidate
delays_coming range kinds kind gaps = map (λ (list : List ℤ). Delays kind (delays_by list)) gaps ++ delay_lists_of range (suc kind) (kinds - kind)

-- the lists of lanes that are left, and then those
abbrev pub coming : List (List ℤ) → Range → ℕ → ℕ → List (List ℤ) → List Candidate
coming lanes range kinds kind gaps = map (λ (list : List ℤ). Lanes list) lanes ++ delays_coming range kinds kind gaps

-- the gaps of one of the kinds
pub record IsUnderWay (range : Range) (kinds kind : ℕ) (gaps : Listing) : Type 0 where
  pub number : IsKindNumber kinds kind
  pub proper : AreGaps range
  pub low : gaps.low ≡ range.low
  pub high : gaps.high ≡ range.high
  pub longest : gaps.longest ≡ range.len
