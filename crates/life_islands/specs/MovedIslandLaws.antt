-- The laws of islands of a moved plane.
use Rattle.std.specs.Prelude.{◌≡◌, ◌⊎◌, ℤ, ◌+ℤ◌, ◌-ℤ◌, ◌<ℤ◌, List, [], ◌∷◌, map}
use Rattle.std.proofs.Common.{refl, sym, ap, subst, ◌∙◌, arith, inl, inr}
use Rattle.std.proofs.lemmas.Int.{ints}
use Rattle.std.specs.List.{AllByRecursion}
use Rattle.std.specs.declared.cmp.Ordering.TheVariants.{Less}
use Rattle.life_cells.specs.Cells.{cell, cell_cmp, alive}
use Rattle.life_cells.specs.Laws.{same_cells}
use Rattle.life_cells.specs.Moved.{moved}
use Rattle.life_cells.specs.OrderLaws.{comes_before, before_by_row, before_in_row}
use Rattle.life_cells.specs.declared.cell.Cell.{Cell}
use Rattle.life_islands.specs.declared.island.Island.{Island}
use Rattle.life_islands.specs.Islands.{IsIsland, IsNoted, IsInOne, AreIslands}
use Rattle.life_islands.specs.IslandLaws.{IsAmong, each_among, sharing_islands}
use Rattle.life_islands.specs.Joined.{Lives, Links, LeadsBy, AreJoined}
use Rattle.life_cells.specs.Firsts.{IsFirstLive}
use Rattle.life_islands.specs.MovedIslands.{IsMovedIsland, AreMovedIslands}
use Rattle.life_islands.specs.Order.{IsGreatestU, ComesBefore, AreInOrder}
use Rattle.life_islands.specs.OrderLaws.{one_first_cell, one_comes_before, not_before_itself}
use Rattle.life_plane.specs.Plane.{Plane, shift}

-- ---- one cell

there_and_back : (z d : ℤ) → (z +ℤ d) -ℤ d ≡ z
there_and_back z d = omega (arith, ints)

back_and_there : (z d : ℤ) → (z -ℤ d) +ℤ d ≡ z
back_and_there z d = omega (arith, ints)

-- where a cell comes from
abbrev origin : ℤ → ℤ → Cell → Cell
origin dx dy c = cell (c.x -ℤ dx) (c.y -ℤ dy)

moved_origin : (dx dy : ℤ) (c : Cell) → moved dx dy (origin dx dy c) ≡ c
moved_origin dx dy c = λ i. cell (back_and_there c.x dx i) (back_and_there c.y dy i)

moved_lives : (dx dy : ℤ) (s : Plane) (c : Cell) → Lives s c → Lives (shift dx dy s) (moved dx dy c)
moved_lives dx dy s c lives = (λ i. s (there_and_back c.x dx i) (there_and_back c.y dy i)) ∙ lives

-- ---- joined cells

moved_link : (dx dy : ℤ) (s : Plane) (a b : Cell) → Links s a b → Links (shift dx dy s) (moved dx dy a) (moved dx dy b)
moved_link dx dy s a b link =
    let w = link.near in
    record { lives = moved_lives dx dy s b link.lives; near = record { right = omega (arith, ints, w.right); left = omega (arith, ints, w.left); below = omega (arith, ints, w.below); above = omega (arith, ints, w.above) } }

moved_leads : (dx dy : ℤ) (s : Plane) (a : Cell) (cells : List Cell) (b : Cell) → LeadsBy s a cells b → LeadsBy (shift dx dy s) (moved dx dy a) (map (moved dx dy) cells) (moved dx dy b)
moved_leads dx dy s a [] b is = ap (moved dx dy) is
moved_leads dx dy s a (c ∷ cells) b leads = (moved_link dx dy s a c leads.0, moved_leads dx dy s c cells b leads.1)

moved_joined : (dx dy : ℤ) (s : Plane) (a b : Cell) → AreJoined s a b → AreJoined (shift dx dy s) (moved dx dy a) (moved dx dy b)
moved_joined dx dy s a b joined = record { lives = moved_lives dx dy s a joined.lives; cells = map (moved dx dy) joined.cells; leads = moved_leads dx dy s a joined.cells b joined.leads }

origin_link : (dx dy : ℤ) (s : Plane) (a b : Cell) → Links (shift dx dy s) a b → Links s (origin dx dy a) (origin dx dy b)
origin_link dx dy s a b link =
    let w = link.near in
    record { lives = link.lives; near = record { right = omega (arith, ints, w.right); left = omega (arith, ints, w.left); below = omega (arith, ints, w.below); above = omega (arith, ints, w.above) } }

origin_leads : (dx dy : ℤ) (s : Plane) (a : Cell) (cells : List Cell) (b : Cell) → LeadsBy (shift dx dy s) a cells b → LeadsBy s (origin dx dy a) (map (origin dx dy) cells) (origin dx dy b)
origin_leads dx dy s a [] b is = ap (origin dx dy) is
origin_leads dx dy s a (c ∷ cells) b leads = (origin_link dx dy s a c leads.0, origin_leads dx dy s c cells b leads.1)

origin_joined : (dx dy : ℤ) (s : Plane) (a b : Cell) → AreJoined (shift dx dy s) a b → AreJoined s (origin dx dy a) (origin dx dy b)
origin_joined dx dy s a b joined = record { lives = joined.lives; cells = map (origin dx dy) joined.cells; leads = origin_leads dx dy s a joined.cells b joined.leads }

-- ---- one island

-- an island moved is an island of the moved plane
pub island_moves : (dx dy : ℤ) (s t : Plane) → IsIsland s t → IsIsland (shift dx dy s) (shift dx dy t)
island_moves dx dy s t h = record {
  some = (moved dx dy h.some.0, moved_lives dx dy t h.some.0 h.some.1);
  within = λ c lives. h.within (origin dx dy c) lives;
  joined = λ a b in_a in_b.
      subst (λ c. AreJoined (shift dx dy s) c b) (moved_origin dx dy a)
      (subst (λ c. AreJoined (shift dx dy s) (moved dx dy (origin dx dy a)) c) (moved_origin dx dy b)
      (moved_joined dx dy s (origin dx dy a) (origin dx dy b) (h.joined (origin dx dy a) (origin dx dy b) in_a in_b)));
  whole = λ a b in_a joined. h.whole (origin dx dy a) (origin dx dy b) in_a (origin_joined dx dy s a b joined);
}

origin_before : (dx dy : ℤ) (c d : Cell) → cell_cmp c (moved dx dy d) ≡ Less → cell_cmp (origin dx dy c) d ≡ Less
origin_before dx dy c d less = elim (comes_before c (moved dx dy d) less) [
  | inl above ↦ before_by_row (origin dx dy c) d (omega (arith, ints))
  | inr level ↦ let row = level.0 in let left = level.1 in before_in_row (origin dx dy c) d (omega (arith, ints)) (omega (arith, ints))
]

moved_before : (dx dy : ℤ) (c d : Cell) → cell_cmp c d ≡ Less → cell_cmp (moved dx dy c) (moved dx dy d) ≡ Less
moved_before dx dy c d less = elim (comes_before c d less) [
  | inl above ↦ before_by_row (moved dx dy c) (moved dx dy d) (omega (arith, ints))
  | inr level ↦ let row = level.0 in let left = level.1 in before_in_row (moved dx dy c) (moved dx dy d) (omega (arith, ints)) (omega (arith, ints))
]

pub first_moves : (dx dy : ℤ) (t : Plane) (c : Cell) → IsFirstLive t c → IsFirstLive (shift dx dy t) (moved dx dy c)
first_moves dx dy t c h = record { is = moved_lives dx dy t c h.is; none_before = λ x y lives less. h.none_before (x -ℤ dx) (y -ℤ dy) lives (origin_before dx dy (cell x y) c less) }

greatest_moves : (dx dy : ℤ) (t : Plane) (u : ℤ) → IsGreatestU u t → IsGreatestU ((u +ℤ dx) -ℤ dy) (shift dx dy t)
greatest_moves dx dy t u h = record {
  each = λ c lives. let low = h.each (origin dx dy c) lives in omega (arith, ints);
  there = let is = h.there.1.1 in (moved dx dy h.there.0, (moved_lives dx dy t h.there.0 h.there.1.0, omega (arith, ints)));
}

order_moves : (dx dy : ℤ) (a b c d : Island) → IsMovedIsland dx dy a c → IsMovedIsland dx dy b d → ComesBefore a b → ComesBefore c d
order_moves dx dy a b c d ac bd h =
    let first = greatest_moves dx dy (alive a.cells) h.u h.greatest in
    let second = greatest_moves dx dy (alive b.cells) h.other h.greatest_other in
    record {
      u = (h.u +ℤ dx) -ℤ dy;
      other = (h.other +ℤ dx) -ℤ dy;
      greatest = subst (IsGreatestU ((h.u +ℤ dx) -ℤ dy)) (sym ac.cells) first;
      greatest_other = subst (IsGreatestU ((h.other +ℤ dx) -ℤ dy)) (sym bd.cells) second;
      before = by h.before;
    }
  where
    by : (h.other <ℤ h.u) ⊎ ((h.u ≡ h.other) × (cell_cmp a.first b.first ≡ Less)) →
        (((h.other +ℤ dx) -ℤ dy) <ℤ ((h.u +ℤ dx) -ℤ dy)) ⊎ (((h.u +ℤ dx) -ℤ dy ≡ (h.other +ℤ dx) -ℤ dy) × (cell_cmp c.first d.first ≡ Less))
    by (inl lt) = inl (omega (arith, ints))
    by (inr tie) = inr (ap (λ z. (z +ℤ dx) -ℤ dy) tie.0, (λ i. cell_cmp (ac.first i) (bd.first i)) ∙ moved_before dx dy a.first b.first tie.1)

-- islands that share a cell with a moved one are that
is_moved : (dx dy : ℤ) (s : Plane) (a b : Island) (c : Cell) → IsNoted s a → IsNoted (shift dx dy s) b → Lives (alive a.cells) c → Lives (alive b.cells) (moved dx dy c) → IsMovedIsland dx dy a b
is_moved dx dy s a b c h k in_a in_b =
    let cells = sharing_islands (shift dx dy s) (alive b.cells) (shift dx dy (alive a.cells)) k.is (island_moves dx dy s (alive a.cells) h.is) (moved dx dy c) in_b (moved_lives dx dy (alive a.cells) c in_a) in
    record {
      cells = cells;
      first = one_first_cell (shift dx dy (alive a.cells)) b.first (moved dx dy a.first) (subst (λ (p : Plane). IsFirstLive p b.first) cells k.first) (first_moves dx dy (alive a.cells) a.first h.first);
    }

-- an island moves to one
one_moved : (dx dy : ℤ) (a b c : Island) → IsMovedIsland dx dy a b → IsMovedIsland dx dy a c → b ≡ c
one_moved dx dy a b c h k =
    let cells : b.cells ≡ c.cells = same_cells b.cells c.cells (h.cells ∙ sym k.cells) in
    let first : b.first ≡ c.first = h.first ∙ sym k.first in
    λ i. record { cells = cells i; first = first i }

-- ---- lists

-- where an island goes
record Goes (dx dy : ℤ) (others : List Island) (a : Island) : Type 0 where
  island : Island
  among : IsAmong others island
  is : IsMovedIsland dx dy a island

-- and where one comes from
record Comes (dx dy : ℤ) (islands : List Island) (b : Island) : Type 0 where
  island : Island
  among : IsAmong islands island
  is : IsMovedIsland dx dy island b

goes_in : (dx dy : ℤ) (s : Plane) (a : Island) (c : Cell) (others : List Island) → IsNoted s a → Lives (alive a.cells) c → AllByRecursion (IsNoted (shift dx dy s)) others → IsInOne others (moved dx dy c) → Goes dx dy others a
goes_in dx dy s a c [] h lives each there = absurd there
goes_in dx dy s a c (b ∷ others) h lives each (inl there) = record { island = b; among = inl refl; is = is_moved dx dy s a b c h each.0 lives there }
goes_in dx dy s a c (b ∷ others) h lives each (inr there) = let g = goes_in dx dy s a c others h lives each.1 there in record { island = g.island; among = inr g.among; is = g.is }

comes_in : (dx dy : ℤ) (s : Plane) (b : Island) (c : Cell) (islands : List Island) → IsNoted (shift dx dy s) b → Lives (alive b.cells) (moved dx dy c) → AllByRecursion (IsNoted s) islands → IsInOne islands c → Comes dx dy islands b
comes_in dx dy s b c [] h lives each there = absurd there
comes_in dx dy s b c (a ∷ islands) h lives each (inl there) = record { island = a; among = inl refl; is = is_moved dx dy s a b c each.0 h there lives }
comes_in dx dy s b c (a ∷ islands) h lives each (inr there) = let g = comes_in dx dy s b c islands h lives each.1 there in record { island = g.island; among = inr g.among; is = g.is }

lists_move : (dx dy : ℤ) (xs ys : List Island) → AreInOrder xs → AreInOrder ys → ((a : Island) → IsAmong xs a → Goes dx dy ys a) → ((b : Island) → IsAmong ys b → Comes dx dy xs b) → AreMovedIslands dx dy xs ys
lists_move dx dy [] [] h k goes comes = tt
lists_move dx dy [] (y ∷ ys) h k goes comes = (comes y (inl refl)).among
lists_move dx dy (x ∷ xs) [] h k goes comes = (goes x (inl refl)).among
lists_move dx dy (x ∷ xs) (y ∷ ys) h k goes comes =
    let head = heads (goes x (inl refl)) (comes y (inl refl)) in
    (head, lists_move dx dy xs ys h.1 k.1 (λ a among. later head a among (goes a (inr among))) (λ b among. earlier head b among (comes b (inr among))))
  where
    heads : Goes dx dy (y ∷ ys) x → Comes dx dy (x ∷ xs) y → IsMovedIsland dx dy x y
    heads g c = by g.among c.among
      where
        by : IsAmong (y ∷ ys) g.island → IsAmong (x ∷ xs) c.island → IsMovedIsland dx dy x y
        by (inl e) p = subst (IsMovedIsland dx dy x) (sym e) g.is
        by (inr p) (inl e) = let P : Island → Type 0 = λ a. IsMovedIsland dx dy a y in subst P (sym e) c.is
        by (inr p) (inr q) = absurd (one_comes_before y g.island (each_among (ComesBefore y) ys g.island k.0 p) (order_moves dx dy x c.island g.island y g.is c.is (each_among (ComesBefore x) xs c.island h.0 q)))

    later : IsMovedIsland dx dy x y → (a : Island) → IsAmong xs a → Goes dx dy (y ∷ ys) a → Goes dx dy ys a
    later head a among g = by g.among
      where
        by : IsAmong (y ∷ ys) g.island → Goes dx dy ys a
        by (inl e) = absurd (not_before_itself y (order_moves dx dy x a y y head (subst (IsMovedIsland dx dy a) (sym e) g.is) (each_among (ComesBefore x) xs a h.0 among)))
        by (inr p) = record { island = g.island; among = p; is = g.is }

    earlier : IsMovedIsland dx dy x y → (b : Island) → IsAmong ys b → Comes dx dy (x ∷ xs) b → Comes dx dy xs b
    earlier head b among c = by c.among
      where
        by : IsAmong (x ∷ xs) c.island → Comes dx dy xs b
        by (inl e) =
            let P : Island → Type 0 = λ a. IsMovedIsland dx dy a b in
            let same : b ≡ y = one_moved dx dy x b y (subst P (sym e) c.is) head in
            let Q : Island → Type 0 = ComesBefore y in
            absurd (not_before_itself y (subst Q same (each_among (ComesBefore y) ys b k.0 among)))
        by (inr p) = record { island = c.island; among = p; is = c.is }

-- the islands of a moved plane are its islands moved
pub islands_move : (dx dy : ℤ) (s : Plane) (islands others : List Island) → AreIslands s islands → AreIslands (shift dx dy s) others → AreMovedIslands dx dy islands others
islands_move dx dy s islands others h k = lists_move dx dy islands others h.in_order k.in_order goes comes
  where
    goes : (a : Island) → IsAmong islands a → Goes dx dy others a
    goes a among =
        let is = each_among (IsNoted s) islands a h.each among in
        goes_in dx dy s a a.first others is is.first.is k.each (k.all (moved dx dy a.first) (moved_lives dx dy s a.first (is.is.within a.first is.first.is)))

    comes : (b : Island) → IsAmong others b → Comes dx dy islands b
    comes b among =
        let is = each_among (IsNoted (shift dx dy s)) others b k.each among in
        let lives : Lives (alive b.cells) (moved dx dy (origin dx dy b.first)) = subst (λ c. Lives (alive b.cells) c) (sym (moved_origin dx dy b.first)) is.first.is in
        comes_in dx dy s b (origin dx dy b.first) islands is lives h.each (h.all (origin dx dy b.first) (is.is.within b.first is.first.is))
