-- A body word whose items are read.
use Rattle.std.proofs.Common.{◌≡◌, ℕ, ◌+◌, ◌<◌, List, [], ◌∷◌, ◌++◌, length, ap, ◌∙◌, subst, arith}
use Rattle.life_cells.specs.Cells.{Cells}
use Rattle.rle_items.specs.Spelling.{IsNone}
use Rattle.rle_items.specs.ItemFaults.{BeginsAt, IsReadTo}
use Rattle.rle_items.specs.Faults.{origin, GoesOn}
use Rattle.rle_items.specs.Read.{IsRead}

module _ (word : List ℕ) (cells : Cells) (rest : List ℕ) (r : IsRead IsNone origin word cells rest) where
  end_is : rest ≡ 33 ∷ r.end.ignored
  end_is = r.end.past.split ∙ ap (λ (bs : List ℕ). bs ++ (33 ∷ r.end.ignored)) r.end.past.gap_is

  read_end : IsReadTo IsNone origin word (33 ∷ r.end.ignored) r.items
  read_end = subst (λ (bs : List ℕ). IsReadTo IsNone origin word bs r.items) end_is r.read

  goes_on_by : (ignored : List ℕ) (at : ℕ) → IsReadTo IsNone origin word (33 ∷ ignored) r.items → 0 < length ignored → at + 1 + length ignored ≡ length word → GoesOn word (at + 1)
  goes_on_by [] at read some place = absurd (omega arith)
  goes_on_by (b ∷ bs) at read some place = record { items = r.items; byte = b; more = bs; read = read; place = place }

  -- a byte behind the `!` is a fault
  pub goes_on : (at : ℕ) → 1 < length rest → BeginsAt word rest at → GoesOn word (at + 1)
  goes_on at long place = goes_on_by r.end.ignored at read_end (omega (arith, ap length end_is)) (omega (arith, ap length end_is))
