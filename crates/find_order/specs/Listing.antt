-- Lists of a range that are still to come.
use Rattle.std.specs.Prelude.{ℕ, ℤ, List, ◌≤◌, ◌≤ℤ◌, length, refl}
use Rattle.std.specs.Coded.{Coded, code_by, coded×, coded_ℕ, coded_ℤ, coded_list}
use Rattle.std.specs.List.{AllByRecursion}
use Rattle.book_parts.specs.Limits.{IsFrom}

-- a range, and the lists of numbers from low to high that are still to come, up to the longest
pub record Listing : Type 0 where
  pub low : ℤ
  pub high : ℤ
  pub longest : ℕ
  pub lists : List (List ℤ)

-- a listing as the tuple of its fields
abbrev pub coded_listing : Coded Listing
coded_listing = code_by (ℤ × (ℤ × (ℕ × List (List ℤ)))) (coded× coded_ℤ (coded× coded_ℤ (coded× coded_ℕ (coded_list (coded_list coded_ℤ)))))
    (λ l. (l.low, (l.high, (l.longest, l.lists)))) (λ p. record { low = p.0; high = p.1.0; longest = p.1.1.0; lists = p.1.1.1 }) (λ _. refl)

-- a list is one of a range
pub record IsListed (low high : ℤ) (longest : ℕ) (list : List ℤ) : Type 0 where
  pub order : low ≤ℤ high
  pub within : AllByRecursion (IsFrom low high) list
  pub short : length list ≤ longest
