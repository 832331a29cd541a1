-- The laws of islands.
use Rattle.std.specs.Prelude.{◌≡◌, ◌⊎◌, Bool, true, false, ◌||◌, ◌&&◌, not, ℤ, pos, List, [], ◌∷◌}
use Rattle.std.proofs.Common.{refl, sym, ap, subst, ◌∙◌, arith, inl, inr}
use Rattle.std.proofs.lemmas.Int.{ints}
use Rattle.std.specs.List.{AllByRecursion}
use Rattle.std.proofs.lemmas.Bool.{or_cases, and_parts, not-true, cases_Bool}
use Rattle.std.specs.Cmp.{both_ways}
use Rattle.life_cells.specs.BoxLaws.{near_live}
use Rattle.life_cells.specs.Cells.{cell, alive}
use Rattle.life_cells.specs.Laws.{same_cells}
use Rattle.life_cells.specs.declared.cell.Cell.{Cell}
use Rattle.life_islands.specs.declared.island.Island.{Island}
use Rattle.life_islands.specs.Islands.{IsIsland, IsNoted, IsInOne, AreIslands, rest_of}
use Rattle.life_islands.specs.Joined.{Lives}
use Rattle.life_islands.specs.JoinedLaws.{joined_link}
use Rattle.life_cells.specs.Firsts.{IsFirstLive}
use Rattle.life_islands.specs.Order.{ComesBefore, AreInOrder}
use Rattle.life_islands.specs.OrderLaws.{one_first_cell, one_comes_before, not_before_itself}
use Rattle.life_plane.specs.Plane.{Plane, step, union, IsStill, same_plane}
use Rattle.life_plane.specs.Apart.{Apart, Within}
use Rattle.life_plane.specs.ApartLaws.{step_union}

-- ---- tests

both_and : (a b : Bool) → a ≡ true → b ≡ false → (a && not b) ≡ true
both_and a b h k = rw (h, k) refl

-- ---- one island

-- cells of an island that are within distance 2 of live cells are joined with them
pub island_takes : (s t : Plane) → IsIsland s t → (a b : Cell) → Lives t a → Lives s b → Within (pos 2) a.x a.y b.x b.y → Lives t b
island_takes s t h a b lives other near = h.whole a b lives (joined_link s a b (h.within a lives) (record { lives = other; near = near }))

-- an island is apart from the rest of its set
pub island_apart : (s t : Plane) → IsIsland s t → Apart t (rest_of s t)
island_apart s t h = record {
  far = λ x y a b lives other near.
      let parts = and_parts (s a b) (not (t a b)) other in
      let in_it : t a b ≡ true = island_takes s t h (cell x y) (cell a b) lives parts.0 near in
      let out : t a b ≡ false = not-true (t a b) parts.1 in absurd (cc);
}

-- two islands that share a cell are one
pub sharing_islands : (s t r : Plane) → IsIsland s t → IsIsland s r → (c : Cell) → Lives t c → Lives r c → t ≡ r
sharing_islands s t r h k c in_t in_r = same_plane t r (λ x y. both_ways (t x y) (r x y)
    (λ l. k.whole c (cell x y) in_r (h.joined c (cell x y) in_t l))
    (λ l. h.whole c (cell x y) in_t (k.joined c (cell x y) in_r l)))

-- two islands of a set are one, or they are apart
pub same_or_apart : (s t r : Plane) → IsIsland s t → IsIsland s r → (t ≡ r) ⊎ Apart t r
same_or_apart s t r h k = by (cases_Bool (r h.some.0.x h.some.0.y))
  where
    by : (r h.some.0.x h.some.0.y ≡ true) ⊎ (r h.some.0.x h.some.0.y ≡ false) → (t ≡ r) ⊎ Apart t r
    by (inl in_r) = inl (sharing_islands s t r h k h.some.0 h.some.1 in_r)
    by (inr out) = inr (record {
      far = λ x y a b in_t in_r near.
          let there : t a b ≡ true = island_takes s t h (cell x y) (cell a b) in_t (k.within (cell a b) in_r) near in
          let back = k.whole (cell a b) h.some.0 in_r (h.joined (cell a b) h.some.0 there h.some.1) in absurd (cc);
    })

-- ---- still islands

-- a plane is an island of it and the rest
pub island_and_rest : (s t : Plane) → IsIsland s t → s ≡ union t (rest_of s t)
island_and_rest s t h = same_plane s _ (λ x y. by (t x y) (s x y) (h.within (cell x y)))
  where
    by : (a b : Bool) → (a ≡ true → b ≡ true) → b ≡ (a || (b && not a))
    by true b k = k refl
    by false true k = refl
    by false false k = refl

near_of_one : (x y a b : ℤ) → Within (pos 1) x y a b → Within (pos 2) x y a b
near_of_one x y a b w = let r = w.right in let l = w.left in let d = w.below in let u = w.above in
    record { right = omega (arith, ints); left = omega (arith, ints); below = omega (arith, ints); above = omega (arith, ints) }

turned : (x y a b : ℤ) → Within (pos 2) x y a b → Within (pos 2) a b x y
turned x y a b w = record { right = w.left; left = w.right; below = w.above; above = w.below }

-- each island of a still set is still
pub island_still : (s t : Plane) → IsStill s → IsIsland s t → IsStill t
island_still s t still h = same_plane (step t) t (λ x y. by x y (cases_Bool (t x y)))
  where
    rest : Plane
    rest = rest_of s t

    apart : Apart t rest
    apart = island_apart s t h

    steps : union (step t) (step rest) ≡ s
    steps = sym (step_union t rest apart) ∙ ap step (sym (island_and_rest s t h)) ∙ still

    steps_at : (x y : ℤ) → (step t x y || step rest x y) ≡ s x y
    steps_at x y = ap (λ (p : Plane). p x y) steps

    not_next : (x y : ℤ) → t x y ≡ true → step rest x y ≡ true → ⊥
    not_next x y lives next = let l = near_live rest x y next in apart.far x y l.a l.b lives l.lives (near_of_one x y l.a l.b l.near)

    stays : (x y : ℤ) → t x y ≡ true → (step t x y ≡ true) ⊎ (step rest x y ≡ true) → step t x y ≡ true
    stays x y lives (inl k) = k
    stays x y lives (inr k) = absurd (not_next x y lives k)

    not_born : (x y : ℤ) → t x y ≡ false → step t x y ≡ true → ⊥
    not_born x y dead next =
        let l = near_live t x y next in
        let there : s x y ≡ true = sym (steps_at x y) ∙ ap (λ b. b || step rest x y) next in
        apart.far l.a l.b x y l.lives (both_and (s x y) (t x y) there dead) (turned x y l.a l.b (near_of_one x y l.a l.b l.near))

    by : (x y : ℤ) → (t x y ≡ true) ⊎ (t x y ≡ false) → step t x y ≡ t x y
    by x y (inl lives) = stays x y lives (or_cases (step t x y) (step rest x y) (steps_at x y ∙ h.within (cell x y) lives)) ∙ sym lives
    by x y (inr dead) = elim (cases_Bool (step t x y)) [ inl next ↦ absurd (not_born x y dead next) | inr none ↦ none ∙ sym dead ]

-- ---- lists of islands

-- the noted islands of a plane that share a cell are one
pub same_noted : (s : Plane) (a b : Island) (c : Cell) → IsNoted s a → IsNoted s b → Lives (alive a.cells) c → Lives (alive b.cells) c → a ≡ b
same_noted s a b c h k in_a in_b =
    let planes : alive a.cells ≡ alive b.cells = sharing_islands s (alive a.cells) (alive b.cells) h.is k.is c in_a in_b in
    let cells : a.cells ≡ b.cells = same_cells a.cells b.cells planes in
    let first : a.first ≡ b.first = one_first_cell (alive b.cells) a.first b.first (subst (λ (p : Plane). IsFirstLive p a.first) planes h.first) k.first in
    λ i. record { cells = cells i; first = first i }

-- the island is one of these
abbrev pub IsAmong : List Island → Island → Type 0
IsAmong [] a = ⊥
IsAmong (b ∷ islands) a = (b ≡ a) ⊎ IsAmong islands a

noted_among : (s : Plane) (a : Island) (c : Cell) (islands : List Island) → IsNoted s a → Lives (alive a.cells) c → AllByRecursion (IsNoted s) islands → IsInOne islands c → IsAmong islands a
noted_among s a c [] h lives each there = absurd there
noted_among s a c (b ∷ islands) h lives each (inl there) = inl (same_noted s b a c each.0 h there lives)
noted_among s a c (b ∷ islands) h lives each (inr there) = inr (noted_among s a c islands h lives each.1 there)

all_among : (s : Plane) (a : Island) (islands : List Island) → IsNoted s a → AreIslands s islands → IsAmong islands a
all_among s a islands h are = noted_among s a a.first islands h h.first.is are.each (are.all a.first (h.is.within a.first h.first.is))

pub each_among : (P : Island → Type 0) (islands : List Island) (a : Island) → AllByRecursion P islands → IsAmong islands a → P a
each_among P [] a each there = absurd there
each_among P (b ∷ islands) a each (inl is) = subst P is each.0
each_among P (b ∷ islands) a each (inr there) = each_among P islands a each.1 there

-- lists in order of the same islands are equal
same_in_order : (xs ys : List Island) → AreInOrder xs → AreInOrder ys → ((a : Island) → IsAmong xs a → IsAmong ys a) → ((a : Island) → IsAmong ys a → IsAmong xs a) → xs ≡ ys
same_in_order [] [] h k there back = refl
same_in_order [] (y ∷ ys) h k there back = absurd (back y (inl refl))
same_in_order (x ∷ xs) [] h k there back = absurd (there x (inl refl))
same_in_order (x ∷ xs) (y ∷ ys) h k there back = joined (heads (there x (inl refl)) (back y (inl refl))) (λ f g. same_in_order xs ys h.1 k.1 f g)
  where
    heads : IsAmong (y ∷ ys) x → IsAmong (x ∷ xs) y → x ≡ y
    heads (inl e) p = sym e
    heads (inr p) (inl e) = e
    heads (inr p) (inr q) = absurd (one_comes_before x y (each_among (ComesBefore x) xs y h.0 q) (each_among (ComesBefore y) ys x k.0 p))

    later : (z w : Island) (zs ws : List Island) → w ≡ z → AllByRecursion (ComesBefore z) zs → (a : Island) → IsAmong zs a → IsAmong (w ∷ ws) a → IsAmong ws a
    later z w zs ws e each a among (inl is) =
        let P : Island → Type 0 = λ b. ComesBefore z b in
        absurd (not_before_itself z (subst P (sym (sym e ∙ is)) (each_among (ComesBefore z) zs a each among)))
    later z w zs ws e each a among (inr p) = p

    joined : x ≡ y → (((a : Island) → IsAmong xs a → IsAmong ys a) → ((a : Island) → IsAmong ys a → IsAmong xs a) → xs ≡ ys) → x ∷ xs ≡ y ∷ ys
    joined e rest =
        let tails : xs ≡ ys = rest (λ a p. later x y xs ys (sym e) h.0 a p (there a (inr p))) (λ a p. later y x ys xs e k.0 a p (back a (inr p))) in
        λ i. e i ∷ tails i

-- a set has one list of islands
pub one_list : (s : Plane) (xs ys : List Island) → AreIslands s xs → AreIslands s ys → xs ≡ ys
one_list s xs ys h k = same_in_order xs ys h.in_order k.in_order
    (λ a among. all_among s a ys (each_among (IsNoted s) xs a h.each among) k)
    (λ a among. all_among s a xs (each_among (IsNoted s) ys a k.each among) h)

-- what lives in one of the islands lives in the set
in_one_lives : (s : Plane) (islands : List Island) (c : Cell) → AllByRecursion (IsNoted s) islands → IsInOne islands c → Lives s c
in_one_lives s [] c each there = absurd there
in_one_lives s (a ∷ islands) c each (inl lives) = each.0.is.within c lives
in_one_lives s (a ∷ islands) c each (inr there) = in_one_lives s islands c each.1 there

-- and the other way round
pub islands_are_all : (s : Plane) (islands : List Island) (c : Cell) → AreIslands s islands → (IsInOne islands c → Lives s c) × (Lives s c → IsInOne islands c)
islands_are_all s islands c h = (in_one_lives s islands c h.each, h.all c)
