-- The least u beside lanes, as cells are added, and what it says of a glider's flight.
use Rattle.std.proofs.Common.{◌≡◌, ◌⊎◌, Bool, true, false, cond, ℕ, ◌+◌, ◌<◌, ℤ, pos, ◌+ℤ◌, ◌-ℤ◌, ◌*ℤ◌, ◌≤ℤ◌, ◌<ℤ◌, List, [], ◌∷◌, take, length, get_or, ◌++◌, refl, sym, ap, subst, ◌∙◌, arith, inl, inr}
use Rattle.std.specs.Prelude.{◌||◌, int_le}
use Rattle.std.specs.declared.option.Option.{Option}
use Rattle.std.specs.declared.option.Option.TheVariants.{Some, None}
use Rattle.std.specs.Int.{int_min}
use Rattle.std.specs.Ordering.{int_eq}
use Rattle.std.specs.HashMap.{get, Updates, IsEmpty}
use Rattle.std.specs.Map.{lookup}
use Rattle.std.specs.Cmp.{signed_Decides}
use Rattle.std.proofs.lemmas.List.{take_more}
use Rattle.std.proofs.Math.Bool.{or-false}
use Rattle.std.proofs.lemmas.Int.{ints, clamps}
use Rattle.std.proofs.lemmas.Bool.{false_from_ne_true, or_cases, or_left, or_right, and_parts, and_from}
use Rattle.life_plane.specs.Plane.{Plane, nothing, union, same_plane}
use Rattle.life_plane.specs.Strips.{Each}
use Rattle.life_plane.specs.NumberLaws.{cases_below, le_from_test, test_from_le}
use Rattle.life_cells.specs.declared.cell.Cell.{Cell}
use Rattle.life_cells.specs.Boxes.{IsInRange, IsCellInRange}
use Rattle.life_cells.specs.Cells.{cell}
use Rattle.life_cells.specs.Laws.{place_listed}
use Rattle.life_cells.specs.Listed.{same_cell, listed}
use Rattle.life_cells.specs.OrderLaws.{same_cell_is, same_cell-itself}
use Rattle.recipe_hit.specs.declared.frame.HitFrame.{HitFrame}
use Rattle.lane_clear.specs.Clear.{IsAside}
use Rattle.lane_clear.specs.BaseLaws.{not_both}
use Rattle.lane_clear.specs.Barriers.{ByLane, IsBeside, IsLeastBeside, IsBarrier, AreBarriers, lesser_of, is_beside, with_cell, with_cells}

beside_is : (lane : ℤ) (c : Cell) → is_beside lane c ≡ true → IsBeside lane c.x c.y
beside_is lane c h =
    let parts = and_parts (int_le (lane -ℤ pos 6) (c.x +ℤ c.y)) (int_le (c.x +ℤ c.y) (lane +ℤ pos 5)) h in
    record { low = le_from_test parts.0; high = le_from_test parts.1 }

is_beside_of : (lane : ℤ) (c : Cell) → IsBeside lane c.x c.y → is_beside lane c ≡ true
is_beside_of lane c h = and_from _ _ (test_from_le h.low) (test_from_le h.high)

-- ---- one cell more

module _ (s : Plane) (lane : ℤ) (c : Cell) where
  abbrev more : Plane
  more = union s (listed (c ∷ []))

  kept : (x y : ℤ) → s x y ≡ true → more x y ≡ true
  kept x y l = or_left (s x y) (listed (c ∷ []) x y) l

  there : more c.x c.y ≡ true
  there = or_right (s c.x c.y) (listed (c ∷ []) c.x c.y) (or_left (same_cell c c) false (same_cell-itself c))

  by_parts : (P : ℤ → ℤ → Type 0) → Each P s → P c.x c.y → Each P more
  by_parts P old new x y l = elim (or_cases (s x y) (listed (c ∷ []) x y) l) [
    | inl was ↦ old x y was
    | inr now ↦ elim (or_cases (same_cell (cell x y) c) false now) [
      | inl same ↦ subst (λ (d : Cell). P d.x d.y) (sym (same_cell_is (cell x y) c same)) new
      | inr none ↦ absurd (cc)
    ]
  ]

  -- a cell that isn't beside the lane changes nothing
  aside_more : (o : Option ℤ) → (IsBeside lane c.x c.y → ⊥) → IsBarrier s lane o → IsBarrier more lane o
  aside_more None off h = by_parts (λ x y. IsBeside lane x y → ⊥) h off
  aside_more (Some u) off h = record {
    x = h.x;
    y = h.y;
    lives = kept h.x h.y h.lives;
    beside = h.beside;
    is = h.is;
    least = by_parts (λ a b. IsBeside lane a b → u ≤ℤ (a -ℤ b)) h.least (λ on. absurd (off on));
  }

  -- one that is beside it may have the least u
  beside_more : (o : Option ℤ) → IsBeside lane c.x c.y → IsBarrier s lane o → IsLeastBeside more lane (lesser_of (c.x -ℤ c.y) o)
  beside_more None on h = record {
    x = c.x;
    y = c.y;
    lives = there;
    beside = on;
    is = refl;
    least = by_parts (λ a b. IsBeside lane a b → (c.x -ℤ c.y) ≤ℤ (a -ℤ b)) (λ x y l b. absurd (h x y l b)) (λ _. omega (arith, ints));
  }
  beside_more (Some u) on h = by (cases_below (c.x -ℤ c.y) u)
    where
      by : ((c.x -ℤ c.y) <ℤ u) ⊎ (u ≤ℤ (c.x -ℤ c.y)) → IsLeastBeside more lane (int_min (c.x -ℤ c.y) u)
      by (inl less) = record {
        x = c.x;
        y = c.y;
        lives = there;
        beside = on;
        is = omega (arith, ints, clamps);
        least = by_parts (λ a b. IsBeside lane a b → int_min (c.x -ℤ c.y) u ≤ℤ (a -ℤ b)) (λ x y l b. let w = h.least x y l b in omega (arith, ints, clamps)) (λ _. omega (arith, ints, clamps));
      }
      by (inr le) = record {
        x = h.x;
        y = h.y;
        lives = kept h.x h.y h.lives;
        beside = h.beside;
        is = let is = h.is in omega (arith, ints, clamps);
        least = by_parts (λ a b. IsBeside lane a b → int_min (c.x -ℤ c.y) u ≤ℤ (a -ℤ b)) (λ x y l b. let w = h.least x y l b in omega (arith, ints, clamps)) (λ _. omega (arith, ints, clamps));
      }

  one_more : (o : Option ℤ) → IsBarrier s lane o → IsBarrier more lane (with_cell lane o c)
  one_more o h = by (is_beside lane c) refl
    where
      by : (b : Bool) → is_beside lane c ≡ b → IsBarrier more lane (cond b (Some (lesser_of (c.x -ℤ c.y) o)) o)
      by true is = beside_more o (beside_is lane c is) h
      by false is = aside_more o (λ on. not_both is (is_beside_of lane c on)) h

-- ---- cells of a list more

all_more : (s : Plane) (lane : ℤ) (o : Option ℤ) (cs : List Cell) → IsBarrier s lane o → IsBarrier (union s (listed cs)) lane (with_cells lane o cs)
all_more s lane o [] h = subst (λ (p : Plane). IsBarrier p lane o) (same_plane _ _ (λ x y. sym (or-false (s x y)))) h
all_more s lane o (c ∷ cs) h =
    subst (λ (p : Plane). IsBarrier p lane (with_cells lane (with_cell lane o c) cs)) (same_plane _ _ (λ x y. or_all (s x y) (same_cell (cell x y) c) (listed cs x y)))
    (all_more (union s (listed (c ∷ []))) lane (with_cell lane o c) cs (one_more s lane c o h))
  where
    or_all : (a b d : Bool) → ((a || (b || false)) || d) ≡ (a || (b || d))
    or_all true b d = refl
    or_all false true d = refl
    or_all false false d = refl

pub barriers_more : (s : Plane) (cs : List Cell) (before after : ByLane) → AreBarriers s before → ((lane : ℤ) → get int_eq after lane ≡ with_cells lane (get int_eq before lane) cs) → AreBarriers (union s (listed cs)) after
barriers_more s cs before after h is lane = subst (IsBarrier (union s (listed cs)) lane) (sym (is lane)) (all_more s lane (get int_eq before lane) cs (h lane))

with_append : (lane : ℤ) (o : Option ℤ) (cs ds : List Cell) → with_cells lane o (cs ++ ds) ≡ with_cells lane (with_cells lane o cs) ds
with_append lane o [] ds = refl
with_append lane o (c ∷ cs) ds = with_append lane (with_cell lane o c) cs ds

pub with_one_more : (lane : ℤ) (o : Option ℤ) (cs : List Cell) (i : ℕ) (d : Cell) → i < length cs → with_cells lane o (take (i + 1) cs) ≡ with_cell lane (with_cells lane o (take i cs)) (get_or cs i d)
with_one_more lane o cs i d lt = ap (with_cells lane o) (take_more cs i d lt) ∙ with_append lane o (take i cs) (get_or cs i d ∷ [])

-- ---- lanes from one to another

-- what the lanes have when a cell stands beside those from a low one on and before a bound
pub record AreLowered (before after : ByLane) (c : Cell) (low bound : ℤ) : Type 0 where
  pub begun : low ≤ℤ bound
  pub within : bound ≤ℤ (low +ℤ pos 12)
  pub passed : (lane : ℤ) → low ≤ℤ lane → lane <ℤ bound → get int_eq after lane ≡ Some (lesser_of (c.x -ℤ c.y) (get int_eq before lane))
  pub others : (lane : ℤ) → (lane <ℤ low) ⊎ (bound ≤ℤ lane) → get int_eq after lane ≡ get int_eq before lane

pub none_lowered : (before : ByLane) (c : Cell) (low : ℤ) → AreLowered before before c low low
none_lowered before c low = record { begun = omega (arith, ints); within = omega (arith, ints); passed = λ lane from to. absurd (omega (arith, ints)); others = λ lane off. refl }

another : (a b : ℤ) → (a ≡ b → ⊥) → int_eq a b ≡ false
another a b ne = false_from_ne_true _ (λ t. ne ((signed_Decides a b).0 t))

pub lowered_more : (before m n : ByLane) (c : Cell) (low at next u : ℤ) → u ≡ c.x -ℤ c.y → next ≡ at +ℤ pos 1 → at <ℤ (low +ℤ pos 12) → AreLowered before m c low at → Updates int_eq m n at (Some (lesser_of u (get int_eq m at))) →
    AreLowered before n c low next
lowered_more before m n c low at next u eu en lt h up = record {
  begun = let b = h.begun in omega (arith, ints);
  within = omega (arith, ints);
  passed = λ lane from to. elim (cases_below lane at) [
    | inl less ↦ up.2 lane (another at lane (λ e. omega (arith, ints))) ∙ h.passed lane from less
    | inr le ↦ let same : at ≡ lane = omega (arith, ints) in subst (λ (l : ℤ). get int_eq n l ≡ Some (lesser_of (c.x -ℤ c.y) (get int_eq before l))) same here
  ];
  others = λ lane off. elim off [
    | inl less ↦ let b = h.begun in up.2 lane (another at lane (λ e. omega (arith, ints))) ∙ h.others lane (inl less)
    | inr le ↦ up.2 lane (another at lane (λ e. omega (arith, ints))) ∙ h.others lane (inr (omega (arith, ints)))
  ];
}
  where
    here : get int_eq n at ≡ Some (lesser_of (c.x -ℤ c.y) (get int_eq before at))
    here = up.1 ∙ ap (λ v. Some (lesser_of v (get int_eq m at))) eu ∙ ap (λ o. Some (lesser_of (c.x -ℤ c.y) o)) (h.others at (inr (omega (arith, ints))))

-- the lanes that a cell is beside are those from 5 below its v to 6 above
pub all_lowered : (before after : ByLane) (c : Cell) (low bound : ℤ) → low ≡ (c.x +ℤ c.y) -ℤ pos 5 → ((c.x +ℤ c.y) +ℤ pos 7) ≤ℤ bound → AreLowered before after c low bound →
    (lane : ℤ) → get int_eq after lane ≡ with_cell lane (get int_eq before lane) c
all_lowered before after c low bound el eb h lane = by (is_beside lane c) refl
  where
    within : bound ≤ℤ (low +ℤ pos 12)
    within = h.within

    off : is_beside lane c ≡ false → (lane <ℤ low) ⊎ (bound ≤ℤ lane)
    off out = elim (cases_below lane low) [
      | inl less ↦ inl less
      | inr from ↦ elim (cases_below lane bound) [
        | inl to ↦ absurd (not_both out (is_beside_of lane c (record { low = omega (arith, ints); high = omega (arith, ints) })))
        | inr past ↦ inr past
      ]
    ]

    by : (b : Bool) → is_beside lane c ≡ b → get int_eq after lane ≡ cond b (Some (lesser_of (c.x -ℤ c.y) (get int_eq before lane))) (get int_eq before lane)
    by true is = let on = beside_is lane c is in let l = on.low in let g = on.high in h.passed lane (omega (arith, ints)) (omega (arith, ints))
    by false is = h.others lane (off is)

-- ---- what it says of a flight

aside_of : (frame : HitFrame) (x y : ℤ) → (IsBeside frame.lane x y → ((frame.lane +ℤ pos 2 *ℤ frame.start) +ℤ pos 10) ≤ℤ (x -ℤ y)) → IsAside frame x y
aside_of frame x y ahead = elim (cases_below (x +ℤ y) (frame.lane -ℤ pos 6)) [
  | inl below ↦ inl (omega (arith, ints))
  | inr low ↦ elim (cases_below (frame.lane +ℤ pos 5) (x +ℤ y)) [
    | inl above ↦ inr (inl (omega (arith, ints)))
    | inr high ↦ inr (inr (ahead (record { low = low; high = high })))
  ]
]

ahead_of : (frame : HitFrame) (x y : ℤ) → IsAside frame x y → IsBeside frame.lane x y → ((frame.lane +ℤ pos 2 *ℤ frame.start) +ℤ pos 10) ≤ℤ (x -ℤ y)
ahead_of frame x y (inl below) on = let low = on.low in absurd (omega (arith, ints))
ahead_of frame x y (inr (inl above)) on = let high = on.high in absurd (omega (arith, ints))
ahead_of frame x y (inr (inr ahead)) on = ahead

-- nothing beside the lane: each cell is aside
pub free_lane : (s : Plane) (frame : HitFrame) → IsBarrier s frame.lane None → Each (IsAside frame) s
free_lane s frame h x y l = aside_of frame x y (λ on. absurd (h x y l on))

-- the least u beside the lane is that of a cell ahead exactly where each cell is aside
pub free_behind : (s : Plane) (frame : HitFrame) (u : ℤ) → IsBarrier s frame.lane (Some u) → ((frame.lane +ℤ pos 2 *ℤ frame.start) +ℤ pos 10) ≤ℤ u → Each (IsAside frame) s
free_behind s frame u h ahead x y l = aside_of frame x y (λ on. let least = h.least x y l on in omega (arith, ints))

pub ahead_where_free : (s : Plane) (frame : HitFrame) (u : ℤ) → IsBarrier s frame.lane (Some u) → Each (IsAside frame) s → ((frame.lane +ℤ pos 2 *ℤ frame.start) +ℤ pos 10) ≤ℤ u
ahead_where_free s frame u h all = let is = h.is in let a = ahead_of frame h.x h.y (all h.x h.y h.lives) h.beside in omega (arith, ints)

-- ---- cells of a list

pub item_in_range : (n : ℕ) (cs : List Cell) (i : ℕ) (d : Cell) → IsInRange n (listed cs) → i < length cs → IsCellInRange n (get_or cs i d)
item_in_range n cs i d range lt =
    let lives = place_listed cs i d lt in
    record { x_low = range.x_low _ _ lives; x_high = range.x_high _ _ lives; y_low = range.y_low _ _ lives; y_high = range.y_high _ _ lives }

pub nothing_in_range : (n : ℕ) → IsInRange n nothing
nothing_in_range n = record { x_low = λ x y l. cc; x_high = λ x y l. cc; y_low = λ x y l. cc; y_high = λ x y l. cc }

pub nothing_barred : (m : ByLane) → IsEmpty m → AreBarriers nothing m
nothing_barred m none lane = subst (λ es. IsBarrier nothing lane (lookup (int_eq lane) es)) (sym none) (λ x y l. cc)
