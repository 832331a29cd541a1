-- The first cell of a salvo's glider, and the glider that a first cell tells.
use Rattle.std.proofs.Common.{◌≡◌, ◌↔◌, ◌⊎◌, IsTrue, ℕ, ◌<◌, ◌≤◌, zero, suc, Bool, true, false, ℤ, pos, neg_ℤ, ◌+ℤ◌, ◌-ℤ◌, ◌*ℤ◌, ◌≤ℤ◌, ◌<ℤ◌, refl, sym, ap, subst, ◌∙◌, inl, inr, arith}
use Rattle.std.specs.Prelude.{◌||◌, ◌&&◌, int_le, int_lt}
use Rattle.std.specs.Ordering.{int_eq}
use Rattle.std.specs.Cmp.{signed_Decides}
use Rattle.std.specs.declared.cmp.Ordering.TheVariants.{Less}
use Rattle.std.proofs.lemmas.Int.{ints}
use Rattle.std.proofs.lemmas.Bool.{or_cases, and_parts}
use Rattle.life_plane.specs.NumberLaws.{le_from_test, lt_from_test}
use Rattle.life_plane.specs.Plane.{Plane, nothing}
use Rattle.life_plane.specs.Finite.{plane_of, each_cell}
use Rattle.life_plane.specs.FiniteLaws.{each_live}
use Rattle.life_plane.specs.Tracks.{stream_glider, phase}
use Rattle.life_plane.specs.TrackLaws.{stream_glider_at, quartered, Quartered}
use Rattle.life_plane.specs.Salvo.{salvo_glider}
use Rattle.life_plane.specs.SalvoLaws.{salvo_front}
use Rattle.life_cells.specs.declared.cell.Cell.{Cell}
use Rattle.life_cells.specs.Cells.{cell, cell_cmp}
use Rattle.life_cells.specs.OrderLaws.{before_by_row, before_in_row}
use Rattle.life_gliders.specs.Beyond.{IsFirstLive}
use Rattle.life_gliders.specs.Listing.{cell_at_rest}
use Rattle.life_gliders.specs.Starts.{first_of_phase, StartsAt}

-- ---- the lowest cell of a phase, and the leftmost of these

-- a cell is above this one, or in the same row and not left of it
abbrev is_after_first : ℤ × ℤ → ℤ → ℤ → Bool
is_after_first f x y = int_lt y f.1 || (int_eq y f.1 && int_le f.0 x)

after_first : (n : ℕ) → each_cell (is_after_first (first_of_phase n)) (phase n) ≡ true
after_first zero = refl
after_first (suc zero) = refl
after_first (suc (suc zero)) = refl
after_first (suc (suc (suc n))) = refl

first_lives : (n : ℕ) → plane_of (phase n) (first_of_phase n).0 (first_of_phase n).1 ≡ true
first_lives zero = refl
first_lives (suc zero) = refl
first_lives (suc (suc zero)) = refl
first_lives (suc (suc (suc n))) = refl

-- where the live cells of a phase are
record IsAfterFirst (n : ℕ) (x y : ℤ) : Type 0 where
  pub is : (y <ℤ (first_of_phase n).1) ⊎ ((y ≡ (first_of_phase n).1) × ((first_of_phase n).0 ≤ℤ x))

lies_after_first : (n : ℕ) (x y : ℤ) → plane_of (phase n) x y ≡ true → IsAfterFirst n x y
lies_after_first n x y live = record {
  is = elim (or_cases _ _ (each_live (is_after_first (first_of_phase n)) (phase n) (after_first n) x y live)) [
    | inl h ↦ inl (lt_from_test h)
    | inr h ↦ let both = and_parts _ _ h in inr ((signed_Decides y (first_of_phase n).1).0 both.0, le_from_test both.1)
  ];
}

-- ---- the first cell of a glider

-- a glider's cells are those of its phase
in_phase : (lane j : ℤ) (w : Quartered j) (x y : ℤ) → salvo_glider lane j x y ≡ plane_of (phase w.r) ((x -ℤ lane) -ℤ w.q) (neg_ℤ (y -ℤ pos 0) -ℤ w.q)
unfolding salvo_glider
in_phase lane j w x y = ap (λ (s : Plane). s (x -ℤ lane) (neg_ℤ (y -ℤ pos 0))) (ap stream_glider w.is ∙ stream_glider_at w.q w.r w.below)

-- the lowest cell of the phase, placed, lives
first_is_live : (lane j : ℤ) (w : Quartered j) → salvo_glider lane j (lane +ℤ (w.q +ℤ (first_of_phase w.r).0)) (neg_ℤ (w.q +ℤ (first_of_phase w.r).1)) ≡ true
first_is_live lane j w =
    let ex : (a : ℤ) → ((lane +ℤ (w.q +ℤ a)) -ℤ lane) -ℤ w.q ≡ a = λ a. omega (arith, ints) in
    let ey : (b : ℤ) → neg_ℤ (neg_ℤ (w.q +ℤ b) -ℤ pos 0) -ℤ w.q ≡ b = λ b. omega (arith, ints) in
    in_phase lane j w _ _ ∙ ap (λ x. plane_of (phase w.r) x (neg_ℤ (neg_ℤ (w.q +ℤ (first_of_phase w.r).1) -ℤ pos 0) -ℤ w.q)) (ex (first_of_phase w.r).0) ∙ ap (λ y. plane_of (phase w.r) (first_of_phase w.r).0 y) (ey (first_of_phase w.r).1) ∙ first_lives w.r

-- a cell that is not above it, and that it does not come before, is that cell
at_first : (x y fx fy lane q : ℤ) → ((neg_ℤ (y -ℤ pos 0) -ℤ q) <ℤ fy) ⊎ (((neg_ℤ (y -ℤ pos 0) -ℤ q) ≡ fy) × (fx ≤ℤ ((x -ℤ lane) -ℤ q))) → (cell_cmp (cell (lane +ℤ (q +ℤ fx)) (neg_ℤ (q +ℤ fy))) (cell x y) ≡ Less → ⊥) →
    cell x y ≡ cell (lane +ℤ (q +ℤ fx)) (neg_ℤ (q +ℤ fy))
at_first x y fx fy lane q (inl h) not_before =
    let above : neg_ℤ (q +ℤ fy) <ℤ y = omega (arith, ints) in
    absurd (not_before (before_by_row (cell (lane +ℤ (q +ℤ fx)) (neg_ℤ (q +ℤ fy))) (cell x y) above))
at_first x y fx fy lane q (inr (ey, ex)) not_before = by_column (further x (lane +ℤ (q +ℤ fx)) (omega (arith, ints)))
  where
    further : (a b : ℤ) → b ≤ℤ a → (b <ℤ a) ⊎ (a ≡ b)
    further a b h = grind (arith, ints)

    same_row : neg_ℤ (q +ℤ fy) ≡ y
    same_row = omega (arith, ints)

    by_column : ((lane +ℤ (q +ℤ fx)) <ℤ x) ⊎ (x ≡ lane +ℤ (q +ℤ fx)) → cell x y ≡ cell (lane +ℤ (q +ℤ fx)) (neg_ℤ (q +ℤ fy))
    by_column (inl lt) = absurd (not_before (before_in_row (cell (lane +ℤ (q +ℤ fx)) (neg_ℤ (q +ℤ fy))) (cell x y) same_row lt))
    by_column (inr same) = λ i. record { y = sym same_row i; x = same i }

-- the phase in which a glider begins at its first cell
pub record Begins (first : Cell) (lane j : ℤ) : Type 0 where
  pub n : ℕ
  pub below : n < 4
  pub start : StartsAt first n lane j

pub first_begins : (lane j : ℤ) (first : Cell) → IsFirstLive first (salvo_glider lane j) → Begins first lane j
first_begins lane j first h =
    let w = quartered j in
    let here : plane_of (phase w.r) ((first.x -ℤ lane) -ℤ w.q) (neg_ℤ (first.y -ℤ pos 0) -ℤ w.q) ≡ true = sym (in_phase lane j w first.x first.y) ∙ h.lives in
    record {
      n = w.r;
      below = w.below;
      start = record {
        quarters = w.q;
        index = w.is;
        at = at_first first.x first.y (first_of_phase w.r).0 (first_of_phase w.r).1 lane w.q (lies_after_first w.r _ _ here).is (h.none_before _ _ (first_is_live lane j w));
      };
    }

-- the glider that a phase and a first cell tell
pub starts : (first : Cell) (n x y : ℕ) (q lane j : ℤ) → cell_at_rest (x, y) ≡ first_of_phase n → q ≡ neg_ℤ first.y -ℤ pos y → lane ≡ (first.x -ℤ q) -ℤ pos x → j ≡ pos 4 *ℤ q +ℤ pos n → StartsAt first n lane j
starts first n x y q lane j is eq el ej =
    let ex : pos x ≡ (first_of_phase n).0 = ap (λ (p : ℤ × ℤ). p.0) is in
    let ey : pos y ≡ (first_of_phase n).1 = ap (λ (p : ℤ × ℤ). p.1) is in
    let sx : first.x ≡ lane +ℤ (q +ℤ (first_of_phase n).0) = omega (arith, ints) in
    let sy : first.y ≡ neg_ℤ (q +ℤ (first_of_phase n).1) = omega (arith, ints) in
    record { quarters = q; index = ej; at = λ i. record { y = sy i; x = sx i } }

-- a phase and a first cell tell the lane and the index
pub one_start : (first : Cell) (n : ℕ) (l j m k : ℤ) → StartsAt first n l j → StartsAt first n m k → (l ≡ m) × (j ≡ k)
one_start first n l j m k a b =
    let q = a.quarters in
    let r = b.quarters in
    let same = sym a.at ∙ b.at in
    let ex : l +ℤ (q +ℤ (first_of_phase n).0) ≡ m +ℤ (r +ℤ (first_of_phase n).0) = ap (λ (c : Cell). c.x) same in
    let ey : neg_ℤ (q +ℤ (first_of_phase n).1) ≡ neg_ℤ (r +ℤ (first_of_phase n).1) = ap (λ (c : Cell). c.y) same in
    let ja = a.index in
    let jb = b.index in
    (omega (arith, ints), omega (arith, ints))

-- ---- the glider in front of the wall

-- with nothing in front there is no glider there
pub none_is_no_glider : (s : Plane) (l j : ℤ) → s ≡ nothing → s ≡ salvo_glider l j → ⊥
none_is_no_glider s l j none e =
    let f = salvo_front l j in
    let live : nothing f.x f.y ≡ true = ap (λ (p : Plane). p f.x f.y) (sym none ∙ e) ∙ f.lives in
    cc

-- what is in front of the wall begins in one of the four phases
pub front_begins : (s : Plane) (first : Cell) (l j : ℤ) → IsFirstLive first s → s ≡ salvo_glider l j → Begins first l j
front_begins s first l j h e = first_begins l j first (subst (IsFirstLive first) e h)

-- a test that fails
pub not_glider : (s : Plane) (l j l' j' : ℤ) (test : Bool) → l' ≡ l → j' ≡ j → (IsTrue test ↔ (s ≡ salvo_glider l' j')) → test ≡ false → s ≡ salvo_glider l j → ⊥
not_glider s l j l' j' test el ej exact fails e =
    let passes = exact.1 (e ∙ ap (λ (z : ℤ). salvo_glider z j) (sym el) ∙ ap (salvo_glider l') (sym ej)) in
    true≢false (sym passes ∙ fails)
  where
    true≢false : true ≡ false → ⊥
    true≢false h = cc

-- a glider that was looked for and not found is not there
pub not_this_phase : (s : Plane) (first : Cell) (n : ℕ) (l j m k : ℤ) → StartsAt first n l j → (s ≡ salvo_glider l j → ⊥) → StartsAt first n m k → s ≡ salvo_glider m k → ⊥
not_this_phase s first n l j m k here none there e =
    let same = one_start first n m k l j there here in
    none (e ∙ ap (λ (z : ℤ). salvo_glider z k) same.0 ∙ ap (salvo_glider l) same.1)

-- with each of the four phases looked at, there is no glider
pub none_of_four : (s : Plane) (first : Cell) (n : ℕ) → IsFirstLive first s → 4 ≤ n → ((k : ℕ) → k < n → (l j : ℤ) → StartsAt first k l j → s ≡ salvo_glider l j → ⊥) → (l j : ℤ) → s ≡ salvo_glider l j → ⊥
none_of_four s first n is all none l j e =
    let b = front_begins s first l j is e in
    let below = b.below in
    none b.n (omega arith) l j b.start e
