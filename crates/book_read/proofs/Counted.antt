-- Counts within their limits.
use Rattle.std.proofs.Common.{◌≡◌, ℕ, ◌+◌, ◌≤◌, pos, ◌≤ℤ◌, List, [], ◌∷◌, ◌++◌, length, drop, Option, Some, None, inl, inr, refl, ap, arith}
use Rattle.std.proofs.lemmas.Int.{ints}
use Rattle.life_cells.specs.Cells.{empty, in_order}
use Rattle.life_cells.specs.Laws.{in_order-empty}
use Rattle.book_lines.specs.declared.statement.Body.{Body}
use Rattle.book_lines.specs.declared.statement.Body.TheVariants.{Drawn, TooMany}
use Rattle.book_lines.specs.declared.statement.Placed.{Placed}
use Rattle.book_lines.specs.declared.statement.Statement.{Statement}
use Rattle.book_lines.specs.Values.{body_count}
use Rattle.book_lines.specs.Counts.{delay_count, lane_count, cell_count, product_count}
use Rattle.book_lines.specs.declared.limit.Limit.TheVariants.{Count}
use Rattle.book_read.specs.Stated.{Stated, cells_of, product_of, joined}
use Rattle.book_read.specs.Limited.{Limited, held, numbers, counts, stated_cells, AreFew, IsFirstOutside, IsOver}
use Rattle.book_parts.specs.declared.limits.TheConstants.{MOST_CELLS, MOST_DELAYS, MOST_KINDS, MOST_LANES, MOST_SALVOS, MOST_TURNS}

pub behind_none : (ns ms : List Limited) → IsFirstOutside (ns ++ ms) None → IsFirstOutside ms None
behind_none [] ms h = h
behind_none (n ∷ ns) ms (inl h) = behind_none ns ms h.1
behind_none (n ∷ ns) ms (inr h) = absurd (cc h.1)

pub front_none : (ns ms : List Limited) → IsFirstOutside (ns ++ ms) None → IsFirstOutside ns None
front_none [] ms h = refl
front_none (n ∷ ns) ms (inl h) = inl (h.0, front_none ns ms h.1)
front_none (n ∷ ns) ms (inr h) = absurd (cc h.1)

at_most : (n most : ℕ) → pos n ≤ℤ pos most → n ≤ most
at_most n most h = omega (arith, ints)

counted : (most n : ℕ) (ns : List Limited) → IsFirstOutside (held (Count most) (pos n) ∷ ns) None → (n ≤ most) × IsFirstOutside ns None
counted most n ns (inl h) = (at_most n most h.0, h.1)
counted most n ns (inr h) = absurd (cc h.1)

pub few : (stated : Stated) (s : Statement) → IsOver stated s None → AreFew stated s
few stated s h =
    let ns = counts stated s in
    let a = counted MOST_KINDS (length (joined stated s).kinds) (drop 1 ns) (behind_none (numbers s) ns h) in
    let b = counted MOST_TURNS (length (joined stated s).turns) (drop 2 ns) a.1 in
    let d = counted MOST_SALVOS (length (joined stated s).salvos) (drop 3 ns) b.1 in
    let e = counted MOST_DELAYS (delay_count s) (drop 4 ns) d.1 in
    let f = counted MOST_LANES (lane_count s) (drop 5 ns) e.1 in
    let g = counted MOST_CELLS (stated_cells stated + cell_count s) (drop 6 ns) f.1 in
    record { kinds = a.0; turns = b.0; salvos = d.0; delays = e.0; lanes = f.0; cells = g.0 }

-- a body has no more cells than it counts
pub cells_counted : (body : Body) → length (in_order (cells_of body)) ≤ body_count body
cells_counted (Drawn cells) = omega arith
cells_counted (TooMany count) = let none : length (in_order empty) ≡ 0 = ap length in_order-empty in omega arith

pub product_counted : (product : Option Placed) → length (in_order (product_of product)) ≤ product_count product
product_counted None = let none : length (in_order empty) ≡ 0 = ap length in_order-empty in omega arith
product_counted (Some placed) = cells_counted placed.body
