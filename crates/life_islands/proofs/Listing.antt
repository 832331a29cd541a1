-- The list of islands, from those that are noted under their ranks.
use Rattle.std.proofs.Common.{◌≡◌, ◌⊎◌, ℕ, List, [], ◌∷◌, ◌++◌, map, length, get_or, refl, sym, ap, subst, ◌∙◌, arith, inl, inr, slice_get, append-nil, Some, None}
use Rattle.std.specs.Prelude.{neg_ℤ, ◌<ℤ◌}
use Rattle.std.specs.List.{AllByRecursion}
use Rattle.std.specs.List.Sorted.{IsStrictlySortedBy}
use Rattle.std.specs.Ordering.{int_cmp, ordering_then}
use Rattle.std.specs.declared.cmp.Ordering.{Ordering}
use Rattle.std.specs.declared.cmp.Ordering.TheVariants.{Less, Equal, Greater}
use Rattle.std.specs.Cmp.{int_ranked}
use Rattle.std.proofs.lemmas.Int.{ints}
use Rattle.std.proofs.lemmas.Bool.{cases_lt}
use Rattle.std.proofs.lemmas.Option.{slice_get_within, slice_get-get_or}
use Rattle.std.proofs.lemmas.Map.Keys.{sorted_head, sorted_tail}
use Rattle.life_cells.specs.Cells.{Cells, cell_cmp, alive, in_order, from_list}
use Rattle.life_cells.specs.Laws.{alive-in_order, alive-from_list, place_of_listed, listed_at_place, same_cells}
use Rattle.life_cells.specs.Listed.{listed}
use Rattle.life_cells.specs.declared.cell.Cell.{Cell}
use Rattle.life_islands.specs.Islands.{IsIsland, IsNoted, IsInOne, AreIslands, IsOneIsland}
use Rattle.life_islands.specs.IslandLaws.{sharing_islands}
use Rattle.life_islands.specs.Joined.{Lives}
use Rattle.life_islands.specs.JoinedLaws.{joined_itself}
use Rattle.life_islands.specs.Search.{AreAllJoined}
use Rattle.life_islands.specs.Order.{ComesBefore, AreInOrder}
use Rattle.life_islands.specs.Ranks.{IsRanked, IsUnderOne, AreRanked}
use Rattle.life_islands.specs.declared.island.Island.{Island}
use Rattle.life_islands.specs.declared.rank.Rank.{Rank}
use Rattle.life_islands.proofs.Noting.{rank_cmp, joined_island}
use Rattle.life_plane.specs.Plane.{Plane}

-- the island under a rank
abbrev pub noted : Rank × Cells → Island
noted e = record { cells = e.1; first = e.0.first }

before_by_rank : (s : Plane) (a b : Rank × Cells) → IsRanked s a → IsRanked s b → rank_cmp a.0 b.0 ≡ Less → ComesBefore (noted a) (noted b)
before_by_rank s a b h k less = record {
  u = neg_ℤ a.0.minus_u;
  other = neg_ℤ b.0.minus_u;
  greatest = h.rank.greatest;
  greatest_other = k.rank.greatest;
  before = by (int_cmp a.0.minus_u b.0.minus_u) refl less;
}
  where
    by : (o : Ordering) → int_cmp a.0.minus_u b.0.minus_u ≡ o → ordering_then o (cell_cmp a.0.first b.0.first) ≡ Less →
        (neg_ℤ b.0.minus_u <ℤ neg_ℤ a.0.minus_u) ⊎ ((neg_ℤ a.0.minus_u ≡ neg_ℤ b.0.minus_u) × (cell_cmp a.0.first b.0.first ≡ Less))
    by Less is less = let lt = int_ranked a.0.minus_u b.0.minus_u Less (sym is) in inl (omega (arith, ints))
    by Equal is less = let same = int_ranked a.0.minus_u b.0.minus_u Equal (sym is) in inr (ap neg_ℤ same, less)
    by Greater is less = cc

all_after : (s : Plane) (a : Rank × Cells) (entries : List (Rank × Cells)) → IsRanked s a → AllByRecursion (IsRanked s) entries → AllByRecursion (λ r. rank_cmp a.0 r ≡ Less) (map (λ (e : Rank × Cells). e.0) entries) →
    AllByRecursion (ComesBefore (noted a)) (map noted entries)
all_after s a [] h each less = tt
all_after s a (b ∷ entries) h each less = (before_by_rank s a b h each.0 less.0, all_after s a entries h each.1 less.1)

order_of_ranks : (s : Plane) (entries : List (Rank × Cells)) → AllByRecursion (IsRanked s) entries → IsStrictlySortedBy rank_cmp (map (λ (e : Rank × Cells). e.0) entries) → AreInOrder (map noted entries)
order_of_ranks s [] each rises = tt
order_of_ranks s (a ∷ entries) each rises =
    (all_after s a entries each.0 each.1 (sorted_head rank_cmp a.0 (map (λ (e : Rank × Cells). e.0) entries) rises), order_of_ranks s entries each.1 (sorted_tail rank_cmp a.0 (map (λ (e : Rank × Cells). e.0) entries) rises))

each_noted : (s : Plane) (entries : List (Rank × Cells)) → AllByRecursion (IsRanked s) entries → AllByRecursion (IsNoted s) (map noted entries)
each_noted s [] each = tt
each_noted s (a ∷ entries) each = (record { is = each.0.is; first = each.0.rank.first }, each_noted s entries each.1)

in_one : (entries : List (Rank × Cells)) (c : Cell) → IsUnderOne entries c → IsInOne (map noted entries) c
in_one [] c h = h
in_one (a ∷ entries) c (inl lives) = inl lives
in_one (a ∷ entries) c (inr later) = inr (in_one entries c later)

-- all islands of a plane, in the order of their ranks, are its islands
pub ranked_islands_are : (s : Plane) (entries : List (Rank × Cells)) (islands : List Island) → AreRanked s s entries → IsStrictlySortedBy rank_cmp (map (λ (e : Rank × Cells). e.0) entries) → islands ≡ map noted entries → AreIslands s islands
ranked_islands_are s entries islands h rises is = subst (AreIslands s) (sym is) (record {
  each = each_noted s entries h.each;
  all = λ c lives. in_one entries c (h.all c lives);
  in_order = order_of_ranks s entries h.each rises;
})

-- ---- one island

-- a plane that is all that is joined with one of its cells is one island
pub one_if_whole : (s : Cells) (start : Cell) (found : List Cell) (island : Cells) → Lives (alive s) start → AreAllJoined (alive s) start found → island ≡ from_list found → island ≡ s → IsOneIsland (alive s)
one_if_whole s start found island lives are is whole =
    let planes : listed found ≡ alive s = sym (alive-from_list found) ∙ ap alive (sym is ∙ whole) in
    subst (IsIsland (alive s)) planes (joined_island (alive s) start found lives are)

-- and the other way round: each island of a plane that is one is all of it
pub whole_if_one : (s : Cells) (start : Cell) (found : List Cell) (island : Cells) → Lives (alive s) start → AreAllJoined (alive s) start found → island ≡ from_list found → IsOneIsland (alive s) → island ≡ s
whole_if_one s start found island lives are is one =
    let part = joined_island (alive s) start found lives are in
    let planes : listed found ≡ alive s = sharing_islands (alive s) (listed found) (alive s) part one start (are.all start (joined_itself (alive s) start lives)) lives in
    is ∙ same_cells (from_list found) s (alive-from_list found ∙ planes)

-- the cell at a place of a set's order lives
pub place_lives : (s : Cells) (k : ℕ) (c : Cell) → slice_get (in_order s) k ≡ Some c → Lives (alive s) c
place_lives s k c at = ap (λ (p : Plane). p c.x c.y) (alive-in_order s) ∙ listed_at_place (in_order s) k c at

-- a plane with no first cell has none, and is no island
pub none_is_one : (s : Cells) → slice_get (in_order s) 0 ≡ None → IsOneIsland (alive s) → ⊥
none_is_one s none one =
    let c = one.some.0 in
    let there = place_of_listed (in_order s) c.x c.y (sym (ap (λ (p : Plane). p c.x c.y) (alive-in_order s)) ∙ one.some.1) in
    let within = slice_get_within (in_order s) there.0 c there.1 in
    elim (cases_lt 0 (length (in_order s))) [
      | inl some ↦ let here : slice_get (in_order s) 0 ≡ Some (get_or (in_order s) 0 c) = slice_get-get_or (in_order s) 0 c some in cc
      | inr empty ↦ omega arith
    ]

-- ---- all of them

-- the list of islands of a set, when each entry was taken
pub islands_of_set : (s : Plane) (entries all left : List (Rank × Cells)) (islands : List Island) → AreRanked s s entries → all ≡ entries → IsStrictlySortedBy rank_cmp (map (λ (e : Rank × Cells). e.0) entries) →
    islands ++ map noted left ≡ map noted all → left ≡ [] → AreIslands s islands
islands_of_set s entries all left islands ranked is rises taken none =
    ranked_islands_are s entries islands ranked rises (sym (append-nil islands) ∙ ap (λ es. islands ++ map noted es) (sym none) ∙ taken ∙ ap (map noted) is)
