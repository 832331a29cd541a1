-- Islands that are noted under their ranks.
use Rattle.std.proofs.Common.{◌≡◌, ◌⊎◌, ℕ, ◌+◌, ◌<◌, ◌≤◌, Bool, true, false, List, [], ◌∷◌, length, get_or, Some, refl, sym, ap, subst, ◌∙◌, arith, inl, inr}
use Rattle.std.specs.BTreeMap.{insert_entry}
use Rattle.std.specs.List.{AllByRecursion, slice_get, list_any}
use Rattle.std.specs.Ordering.{int_cmp, ordering_then, match_ordering}
use Rattle.std.specs.Prelude.{ℤ}
use Rattle.std.specs.declared.cmp.Ordering.{Ordering}
use Rattle.std.specs.declared.cmp.Ordering.TheVariants.{Less, Equal, Greater}
use Rattle.std.specs.Cmp.{int_ranked}
use Rattle.std.proofs.lemmas.Bool.{false_from_ne_true}
use Rattle.std.proofs.lemmas.Option.{slice_get_within}
use Rattle.life_plane.specs.NumberLaws.{lt_or_same}
use Rattle.life_plane.specs.ListLaws.{same_item}
use Rattle.life_cells.specs.Boxes.{IsInRange}
use Rattle.life_cells.specs.Cells.{Cells, cell, cell_cmp, alive, in_order, from_list}
use Rattle.life_cells.specs.Laws.{alive-from_list, alive_of_order, place_of_listed}
use Rattle.life_cells.specs.Listed.{listed}
use Rattle.life_cells.specs.OrderLaws.{cells_antisymmetric, tied_first, tied_second}
use Rattle.life_cells.specs.Same.{same_fields}
use Rattle.life_cells.specs.declared.cell.Cell.{Cell}
use Rattle.life_islands.specs.Islands.{IsIsland}
use Rattle.life_islands.specs.IslandLaws.{sharing_islands}
use Rattle.life_islands.specs.Joined.{Lives}
use Rattle.life_islands.specs.JoinedLaws.{joined_itself, joined_on, joined_back, joined_lives}
use Rattle.life_islands.specs.Ranks.{IsRankOf, IsRanked, IsUnderOne, AreRanked, AddsIsland}
use Rattle.life_islands.specs.Search.{Adds, AreAllJoined}
use Rattle.life_islands.specs.declared.rank.Rank.{Rank}
use Rattle.life_islands.proofs.Adding.{known_is_listed, IsBefore, listed_right, listed_cases, only_one, all_listed}
use Rattle.life_plane.specs.Plane.{Plane, same_plane}

-- ---- the order of ranks

-- by the number, then by the first cell
abbrev pub rank_cmp : Rank → Rank → Ordering
rank_cmp a b = ordering_then (int_cmp a.minus_u b.minus_u) (cell_cmp a.first b.first)

pub same_rank : (a b : Rank) → rank_cmp a b ≡ Equal → a ≡ b
same_rank a b e =
    let numbers : a.minus_u ≡ b.minus_u = int_ranked a.minus_u b.minus_u Equal (sym (tied_first (int_cmp a.minus_u b.minus_u) (cell_cmp a.first b.first) e)) in
    let cells : a.first ≡ b.first = cells_antisymmetric a.first b.first (tied_second (int_cmp a.minus_u b.minus_u) (cell_cmp a.first b.first) e) in
    λ i. record { minus_u = numbers i; first = cells i }

-- ---- one more entry

abbrev Entry : Type 0
Entry = Rank × Cells

each_insert : (P : Entry → Type 0) (entries : List Entry) (k : Rank) (v : Cells) → P (k, v) → AllByRecursion P entries → AllByRecursion P (insert_entry rank_cmp entries k v)
each_insert P [] k v p each = (p, tt)
each_insert P (e ∷ entries) k v p each = by (rank_cmp k e.0) refl (each_insert P entries k v p each.1)
  where
    by : (o : Ordering) → rank_cmp k e.0 ≡ o → AllByRecursion P (insert_entry rank_cmp entries k v) → AllByRecursion P (match_ordering o ((k, v) ∷ e ∷ entries) ((e.0, v) ∷ entries) (e ∷ insert_entry rank_cmp entries k v))
    by Less is rest = (p, each)
    by Equal is rest = let Q : Rank → Type 0 = λ r. P (r, v) in (subst Q (same_rank k e.0 is) p, each.1)
    by Greater is rest = (each.0, rest)

-- a cell of the new set
under_new : (entries : List Entry) (k : Rank) (v : Cells) (c : Cell) → Lives (alive v) c → IsUnderOne (insert_entry rank_cmp entries k v) c
under_new [] k v c lives = inl lives
under_new (e ∷ entries) k v c lives = by (rank_cmp k e.0) (under_new entries k v c lives)
  where
    by : (o : Ordering) → IsUnderOne (insert_entry rank_cmp entries k v) c → IsUnderOne (match_ordering o ((k, v) ∷ e ∷ entries) ((e.0, v) ∷ entries) (e ∷ insert_entry rank_cmp entries k v)) c
    by Less rest = inl lives
    by Equal rest = inl lives
    by Greater rest = inr rest

-- islands of one rank are one
one_of_rank : (s : Plane) (e : Entry) (k : Rank) (v : Cells) (c : Cell) → k ≡ e.0 → IsRanked s e → IsRanked s (k, v) → Lives (alive e.1) c → Lives (alive v) c
one_of_rank s e k v c same h new lives =
    let first : Lives (alive v) e.0.first = let P : Rank → Type 0 = λ r. Lives (alive v) r.first in subst P same new.rank.first.is in
    let planes : alive e.1 ≡ alive v = sharing_islands s (alive e.1) (alive v) h.is new.is e.0.first h.rank.first.is first in
    let P : Plane → Type 0 = λ p. Lives p c in subst P planes lives

-- a cell of those before
under_old : (s : Plane) (entries : List Entry) (k : Rank) (v : Cells) (c : Cell) → AllByRecursion (IsRanked s) entries → IsRanked s (k, v) → IsUnderOne entries c → IsUnderOne (insert_entry rank_cmp entries k v) c
under_old s [] k v c each new there = absurd there
under_old s (e ∷ entries) k v c each new there = by (rank_cmp k e.0) refl there (λ later. under_old s entries k v c each.1 new later)
  where
    by : (o : Ordering) → rank_cmp k e.0 ≡ o → Lives (alive e.1) c ⊎ IsUnderOne entries c → (IsUnderOne entries c → IsUnderOne (insert_entry rank_cmp entries k v) c) →
        IsUnderOne (match_ordering o ((k, v) ∷ e ∷ entries) ((e.0, v) ∷ entries) (e ∷ insert_entry rank_cmp entries k v)) c
    by Less is h rest = inr h
    by Equal is (inl lives) rest = inl (one_of_rank s e k v c (same_rank k e.0 is) each.0 new lives)
    by Equal is (inr later) rest = inr later
    by Greater is (inl lives) rest = inl lives
    by Greater is (inr later) rest = inr (rest later)

-- ---- the island of a cell

-- all that is joined with a live cell is an island
pub joined_island : (s : Plane) (start : Cell) (found : List Cell) → Lives s start → AreAllJoined s start found → IsIsland s (listed found)
joined_island s start found lives are = record {
  some = (start, are.all start (joined_itself s start lives));
  within = λ c there. joined_lives s start c (are.own c there);
  joined = λ a b in_a in_b. joined_on s a start b (joined_back s start a (are.own a in_a)) (are.own b in_b);
  whole = λ a b in_a joined. are.all b (joined_on s start a b (are.own a in_a) joined);
}

-- the cell that is there already, named once more
named_again : (start : Cell) (found : List Cell) → Lives (listed found) start → listed (start ∷ found) ≡ listed found
named_again start found there = same_plane _ _ (λ x y. by x y (listed found x y) refl (λ l. from x y (listed_cases (start ∷ []) found (cell x y) l)))
  where
    from : (x y : ℤ) → Lives (listed (start ∷ [])) (cell x y) ⊎ Lives (listed found) (cell x y) → Lives (listed found) (cell x y)
    from x y (inl l) = subst (λ c. Lives (listed found) c) (only_one start (cell x y) l) there
    from x y (inr l) = l

    by : (x y : ℤ) (b : Bool) → listed found x y ≡ b → (Lives (listed (start ∷ found)) (cell x y) → Lives (listed found) (cell x y)) → listed (start ∷ found) x y ≡ b
    by x y true is back = listed_right (start ∷ []) found (cell x y) is
    by x y false is back = false_from_ne_true (listed (start ∷ found) x y) (λ l. let e = back l in absurd (cc))

-- the cells found are in the range
pub found_in_range : (n : ℕ) (s : Plane) (start : Cell) (found : List Cell) → Lives s start → IsInRange n s → AreAllJoined s start found → IsInRange n (listed (start ∷ found))
found_in_range n s start found lives range are =
    let P : Plane → Type 0 = IsInRange n in
    subst P (sym (named_again start found (are.all start (joined_itself s start lives)))) (record {
      x_low = λ x y l. range.x_low x y (joined_lives s start (cell x y) (are.own (cell x y) l));
      x_high = λ x y l. range.x_high x y (joined_lives s start (cell x y) (are.own (cell x y) l));
      y_low = λ x y l. range.y_low x y (joined_lives s start (cell x y) (are.own (cell x y) l));
      y_high = λ x y l. range.y_high x y (joined_lives s start (cell x y) (are.own (cell x y) l));
    })

-- the set of the cells found, under their rank
pub found_ranked : (s : Plane) (start : Cell) (found : List Cell) (rank : Rank) (set : Cells) → Lives s start → AreAllJoined s start found → IsRankOf rank (listed (start ∷ found)) → set ≡ from_list found →
    IsRanked s (rank, set)
found_ranked s start found rank set lives are is_rank is =
    let planes : listed found ≡ alive set = sym (ap alive is ∙ alive-from_list found) in
    let P : Plane → Type 0 = IsIsland s in
    let Q : Plane → Type 0 = IsRankOf rank in
    record {
      is = subst P planes (joined_island s start found lives are);
      rank = subst Q (named_again start found (are.all start (joined_itself s start lives)) ∙ planes) is_rank;
    }

-- ---- one more island

pub adds_island : (s : Plane) (start : Cell) (found : List Cell) (rank : Rank) (set : Cells) (before after : List Entry) → AllByRecursion (IsRanked s) before → Lives s start → AreAllJoined s start found →
    IsRanked s (rank, set) → set ≡ from_list found → after ≡ insert_entry rank_cmp before rank set → AddsIsland start before after
adds_island s start found rank set before after each lives are ranked is grown =
    let P : Plane → Type 0 = λ p. Lives p start in
    let there : Lives (alive set) start = subst P (sym (ap alive is ∙ alive-from_list found)) (are.all start (joined_itself s start lives)) in
    record {
      there = subst (λ es. IsUnderOne es start) (sym grown) (under_new before rank set start there);
      kept = λ c old. subst (λ es. IsUnderOne es c) (sym grown) (under_old s before rank set c each ranked old);
    }

pub ranked_more : (s : Plane) (start : Cell) (found seen seen_after : List Cell) (rank : Rank) (set : Cells) (before after : List Entry) → AreRanked s (listed seen) before → AreAllJoined s start found →
    IsRanked s (rank, set) → set ≡ from_list found → after ≡ insert_entry rank_cmp before rank set → Adds (Lives (listed found)) seen seen_after → AreRanked s (listed seen_after) after
ranked_more s start found seen seen_after rank set before after was are ranked is grown adds = record {
  each = subst (λ es. AllByRecursion (IsRanked s) es) (sym grown) (each_insert (IsRanked s) before rank set ranked was.each);
  all = λ c l. subst (λ es. IsUnderOne es c) (sym grown) (by c (listed_cases seen adds.more c (subst (λ xs. Lives (listed xs) c) adds.grown l)));
}
  where
    by : (c : Cell) → Lives (listed seen) c ⊎ Lives (listed adds.more) c → IsUnderOne (insert_entry rank_cmp before rank set) c
    by c (inl l) = under_old s before rank set c was.each ranked (was.all c l)
    by c (inr l) =
        let P : Plane → Type 0 = λ p. Lives p c in
        under_new before rank set c (subst P (sym (ap alive is ∙ alive-from_list found)) (all_listed (Lives (listed found)) adds.more c adds.own l))

-- ---- all islands

-- islands under their ranks, with the cells that were seen and those before a place
pub record IsParted (s : Plane) (cells : List Cell) (place : ℕ) (seen : List Cell) (entries : List Entry) : Type 0 where
  pub ranked : AreRanked s (listed seen) entries
  pub passed : (c : Cell) → IsBefore cells place c → IsUnderOne entries c

pub parting_begins : (s : Plane) (cells seen : List Cell) (entries : List Entry) → seen ≡ [] → entries ≡ [] → IsParted s cells 0 seen entries
parting_begins s cells seen entries none empty = record {
  ranked = record {
    each = subst (λ es. AllByRecursion (IsRanked s) es) (sym empty) tt;
    all = λ c l. let no : Lives (listed []) c = subst (λ xs. Lives (listed xs) c) none l in absurd (cc);
  };
  passed = λ c p. let lt = p.1.0 in absurd (omega arith);
}

-- the next cell is in an island that is there
pub parting_stays : (s : Plane) (cells seen : List Cell) (entries : List Entry) (place : ℕ) (c : Cell) → IsParted s cells place seen entries → slice_get cells place ≡ Some c → Lives (listed seen) c →
    IsParted s cells (place + 1) seen entries
parting_stays s cells seen entries place c was at there = record { ranked = was.ranked; passed = λ d p. by d p (lt_or_same p.0 place p.1.0) }
  where
    by : (d : Cell) (p : IsBefore cells (place + 1) d) → (p.0 < place) ⊎ (p.0 ≡ place) → IsUnderOne entries d
    by d p (inl lt) = was.passed d (p.0, (lt, p.1.1))
    by d p (inr e) = let same : c ≡ d = same_item at (ap (slice_get cells) (sym e) ∙ p.1.1) in subst (λ z. IsUnderOne entries z) same (was.ranked.all c there)

-- the next cell's island is added
pub parting_grows : (s : Plane) (cells seen seen_after : List Cell) (entries after : List Entry) (place : ℕ) (c : Cell) → IsParted s cells place seen entries → slice_get cells place ≡ Some c →
    AddsIsland c entries after → AreRanked s (listed seen_after) after → IsParted s cells (place + 1) seen_after after
parting_grows s cells seen seen_after entries after place c was at adds ranked = record { ranked = ranked; passed = λ d p. by d p (lt_or_same p.0 place p.1.0) }
  where
    by : (d : Cell) (p : IsBefore cells (place + 1) d) → (p.0 < place) ⊎ (p.0 ≡ place) → IsUnderOne after d
    by d p (inl lt) = adds.kept d (was.passed d (p.0, (lt, p.1.1)))
    by d p (inr e) = let same : c ≡ d = same_item at (ap (slice_get cells) (sym e) ∙ p.1.1) in subst (λ z. IsUnderOne after z) same adds.there

-- when all cells of a set were passed, all are in islands
pub parting_ends : (cells : Cells) (items seen : List Cell) (entries : List Entry) (place : ℕ) → items ≡ in_order cells → IsParted (alive cells) items place seen entries → length items ≤ place →
    AreRanked (alive cells) (alive cells) entries
parting_ends cells items seen entries place order was long = record {
  each = was.ranked.each;
  all = λ c l.
      let there = place_of_listed items c.x c.y (ap (λ (p : Plane). p c.x c.y) (alive_of_order items cells order) ∙ l) in
      was.passed c (there.0, (omega (arith, slice_get_within items there.0 c there.1), there.1));
}

-- whether the next cell was seen
pub seen_is : (cells seen : List Cell) (place : ℕ) (z : Cell) (b : Bool) → b ≡ list_any (same_fields (get_or cells place z)) seen → b ≡ true → Lives (listed seen) (get_or cells place z)
seen_is cells seen place z b test h = sym (known_is_listed seen (get_or cells place z)) ∙ sym test ∙ h

-- the same lists by other names
pub parting_is : (s : Plane) (cells : List Cell) (place : ℕ) (seen seen_now : List Cell) (entries entries_now : List Entry) → seen_now ≡ seen → entries_now ≡ entries → IsParted s cells place seen entries →
    IsParted s cells place seen_now entries_now
parting_is s cells place seen seen_now entries entries_now e f h = subst (λ xs. IsParted s cells place xs entries_now) (sym e) (subst (λ es. IsParted s cells place seen es) (sym f) h)
