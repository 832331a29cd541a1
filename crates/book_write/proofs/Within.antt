-- What is written is within the limits.
use Rattle.std.proofs.Common.{◌≡◌, ℕ, ◌+◌, ◌≤◌, true, ℤ, pos, ◌≤ℤ◌, List, [], ◌∷◌, ◌++◌, length, map, refl, ap, ◌∙◌, inl, arith, None}
use Rattle.std.specs.List.{AllByRecursion, flat_map}
use Rattle.std.proofs.lemmas.Int.{ints}
use Rattle.life_plane.specs.Plane.{Plane}
use Rattle.life_cells.specs.declared.cell.Cell.{Cell}
use Rattle.life_cells.specs.Cells.{Cells, alive, in_order}
use Rattle.life_cells.specs.Laws.{alive-in_order}
use Rattle.life_cells.specs.PlaceLaws.{each_listed}
use Rattle.book_parts.specs.Limits.{IsCoordinate, IsPlaced}
use Rattle.book_lines.specs.declared.statement.Statement.{Statement}
use Rattle.book_lines.specs.Counts.{delay_count, lane_count, cell_count}
use Rattle.book_lines.specs.declared.limit.Limit.{Limit}
use Rattle.book_lines.specs.Limits.{IsWithin}
use Rattle.book_read.specs.Stated.{Stated, joined}
use Rattle.book_read.specs.Limited.{Limited, held, cell_numbers, numbers, counts, stated_cells, AreFew, IsFirstOutside, IsOver}
use Rattle.life_plane.specs.ListLaws.{all_append}
use Rattle.book_parts.specs.declared.limits.TheConstants.{MOST_CELLS, MOST_DELAYS, MOST_KINDS, MOST_LANES, MOST_SALVOS, MOST_TURNS}

abbrev pub IsHeld : Limited → Type 0
IsHeld n = IsWithin n.limit n.number

none_outside : (ns : List Limited) → AllByRecursion IsHeld ns → IsFirstOutside ns None
none_outside [] h = refl
none_outside (n ∷ ns) h = inl (h.0, none_outside ns h.1)

counted : (n most : ℕ) → n ≤ most → pos n ≤ℤ pos most
counted n most h = omega (arith, ints)

pub not_over : (stated : Stated) (s : Statement) → AllByRecursion IsHeld (numbers s) → AreFew stated s → IsOver stated s None
not_over stated s h few =
    none_outside (numbers s ++ counts stated s)
    (all_append IsHeld (numbers s) (counts stated s) h
    (counted _ MOST_KINDS few.kinds, (counted _ MOST_TURNS few.turns, (counted _ MOST_SALVOS few.salvos, (counted _ MOST_DELAYS few.delays, (counted _ MOST_LANES few.lanes, (counted _ MOST_CELLS few.cells, tt)))))))

-- ---- the numbers of bodies

flat_held : (cs : List Cell) → AllByRecursion (λ (c : Cell). IsCoordinate c.x × IsCoordinate c.y) cs → AllByRecursion IsHeld (flat_map cell_numbers cs)
flat_held [] h = tt
flat_held (c ∷ cs) h = (h.0.0, (h.0.1, flat_held cs h.1))

pub body_held : (s : Cells) → IsPlaced (alive s) → AllByRecursion IsHeld (flat_map cell_numbers (in_order s))
body_held s p =
    flat_held (in_order s) (each_listed (λ (c : Cell). IsCoordinate c.x × IsCoordinate c.y) (in_order s)
    (λ c l. let lives : alive s c.x c.y ≡ true = ap (λ (q : Plane). q c.x c.y) (alive-in_order s) ∙ l in (p.x c.x c.y lives, p.y c.x c.y lives)))

-- ---- lists of numbers

pub each_held : (l : Limit) (zs : List ℤ) → AllByRecursion (IsWithin l) zs → AllByRecursion IsHeld (map (held l) zs)
each_held l [] h = tt
each_held l (z ∷ zs) h = (h.0, each_held l zs h.1)
