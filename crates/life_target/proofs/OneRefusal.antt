-- A target has no refusal, and a set of cells has one at most.
use Rattle.std.proofs.Common.{◌≡◌, ◌≢◌, ℕ, ◌≤◌, ◌<◌, true, false, pos, refl, sym, ap, ◌∙◌, inl, inr, arith, List, length}
use Rattle.std.proofs.lemmas.Int.{ints}
use Rattle.std.specs.Int.{int_max}
use Rattle.life_plane.specs.Plane.{Plane, nothing}
use Rattle.life_cells.specs.declared.bounds.Bounds.{Bounds}
use Rattle.life_cells.specs.BoxLaws.{one_least_box}
use Rattle.life_cells.specs.FirstLaws.{one_first}
use Rattle.life_islands.specs.Islands.{AreIslands}
use Rattle.life_islands.specs.declared.island.Island.{Island}
use Rattle.life_target.specs.Targets.{width, height, most_side, most_islands, HasSide, IsNarrow, HasIslands, IsTarget, TargetIsRefused}
use Rattle.life_target.specs.declared.refusal.TargetError.{TargetError}
use Rattle.life_target.specs.declared.refusal.TargetError.TheVariants.{TooWide, NotStill, TooManyIslands, Memory}

same_number : (a b : ℕ) → pos a ≡ pos b → a ≡ b
same_number a b e = omega (arith, ints)

-- a plane has one side
one_side : (s : Plane) (a b : ℕ) → HasSide s a → HasSide s b → a ≡ b
one_side s a b h k =
    same_number a b (h.side_is ∙ ap (λ (box : Bounds). int_max (width box) (height box)) (one_least_box s h.box k.box h.box_is k.box_is) ∙ sym k.side_is)

nothing_has_no_side : (s : Plane) (side : ℕ) → s ≡ nothing → HasSide s side → ⊥
nothing_has_no_side s side e h =
    let there = h.box_is.lives in
    let dead : false ≡ true = sym (ap (λ (p : Plane). p there.0 there.1.0) e) ∙ there.1.1 in
    cc

-- what is narrow is not too wide
narrow_clash : (s : Plane) (side : ℕ) → IsNarrow s → HasSide s side → most_side < side → ⊥
narrow_clash s side (inl e) h over = nothing_has_no_side s side e h
narrow_clash s side (inr (other, (k, few))) h over = let same = one_side s side other h k in absurd (omega arith)

-- a plane has one list of islands
abbrev OneList : Type 0
OneList = (s : Plane) (a b : List Island) → AreIslands s a → AreIslands s b → a ≡ b

-- so it has one number of them
one_number : OneList → (s : Plane) (a b : ℕ) → HasIslands s a → HasIslands s b → a ≡ b
one_number one s a b (xs, (h, e)) (ys, (k, f)) = sym e ∙ ap length (one s xs ys h k) ∙ f

number_clash : OneList → (s : Plane) (a b : ℕ) → HasIslands s a → HasIslands s b → a ≤ most_islands → most_islands < b → ⊥
number_clash one s a b h k few many = let same = one_number one s a b h k in absurd (omega arith)

pub no_refusal : OneList → (s : Plane) (e : TargetError) → IsTarget s → TargetIsRefused s e → e ≡ Memory
no_refusal one s (TooWide side) t (h, over) = absurd (narrow_clash s side t.narrow h over)
no_refusal one s (NotStill cell) t (narrow, first) = absurd (first.is (λ i. t.still i cell.x cell.y))
no_refusal one s (TooManyIslands count) t (narrow, (still, (has, many))) = absurd (number_clash one s t.islands.0 count t.islands.1.0 has t.islands.1.1 many)
no_refusal one s Memory t h = refl

pub one_refusal : OneList → (s : Plane) (e f : TargetError) → TargetIsRefused s e → TargetIsRefused s f → e ≢ Memory → f ≢ Memory → e ≡ f
one_refusal one s Memory f h k other another = absurd (other refl)
one_refusal one s (TooWide a) Memory h k other another = absurd (another refl)
one_refusal one s (NotStill a) Memory h k other another = absurd (another refl)
one_refusal one s (TooManyIslands a) Memory h k other another = absurd (another refl)
one_refusal one s (TooWide a) (TooWide b) h k other another = ap TooWide (one_side s a b h.0 k.0)
one_refusal one s (TooWide a) (NotStill b) h k other another = absurd (narrow_clash s a k.0 h.0 h.1)
one_refusal one s (TooWide a) (TooManyIslands b) h k other another = absurd (narrow_clash s a k.0 h.0 h.1)
one_refusal one s (NotStill a) (TooWide b) h k other another = absurd (narrow_clash s b h.0 k.0 k.1)
one_refusal one s (NotStill a) (NotStill b) h k other another = ap NotStill (one_first _ a b h.1 k.1)
one_refusal one s (NotStill a) (TooManyIslands b) h k other another = absurd (h.1.is (λ i. k.1.0 i a.x a.y))
one_refusal one s (TooManyIslands a) (TooWide b) h k other another = absurd (narrow_clash s b h.0 k.0 k.1)
one_refusal one s (TooManyIslands a) (NotStill b) h k other another = absurd (k.1.is (λ i. h.1.0 i b.x b.y))
one_refusal one s (TooManyIslands a) (TooManyIslands b) h k other another = ap TooManyIslands (one_number one s a b h.1.1.0 k.1.1.0)
