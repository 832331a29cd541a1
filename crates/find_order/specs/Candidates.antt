-- The candidates of the finder, in their order.
use Rattle.std.specs.Prelude.{ℕ, zero, suc, ℤ, pos, ◌+ℤ◌, List, [], ◌∷◌, ◌++◌, map}
use Rattle.book_parts.specs.declared.settings.Range.{Range}
use Rattle.book_parts.specs.declared.settings.Settings.{Settings}
use Rattle.find_order.specs.Lists.{numbers, lists_up}
use Rattle.find_order.specs.declared.candidate.Candidate.{Candidate}
use Rattle.find_order.specs.declared.candidate.Candidate.TheVariants.{Lanes, Delays}

-- the times that follow a time by these gaps, one after the other
abbrev pub times_after : ℤ → List ℤ → List ℤ
times_after time [] = []
times_after time (gap ∷ gaps) = (time +ℤ gap) ∷ times_after (time +ℤ gap) gaps

-- delays with these gaps between them, the first of which is 0
abbrev pub delays_by : List ℤ → List ℤ
delays_by gaps = pos 0 ∷ times_after (pos 0) gaps

-- the lists of lanes: of 1 lane, of 2, and so on
abbrev pub lane_lists : Range → List Candidate
lane_lists lanes = map (λ (list : List ℤ). Lanes list) (lists_up (numbers lanes.low lanes.high) 1 lanes.len)

-- a kind's lists of delays: with no gap, with 1, and so on
abbrev pub delay_lists : Range → ℕ → List Candidate
delay_lists gaps kind = map (λ (list : List ℤ). Delays kind (delays_by list)) (lists_up (numbers gaps.low gaps.high) 0 (suc gaps.len))

-- those of so many kinds, in their order, from this one on
abbrev pub delay_lists_of : Range → ℕ → ℕ → List Candidate
delay_lists_of gaps kind zero = []
delay_lists_of gaps kind (suc more) = delay_lists gaps kind ++ delay_lists_of gaps (suc kind) more

-- all candidates of a book with so many kinds: the lists of lanes, and then for each kind the lists of delays
abbrev pub candidates : Settings → ℕ → List Candidate
candidates settings kinds = lane_lists settings.lanes ++ delay_lists_of settings.delays 1 kinds
