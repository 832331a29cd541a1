-- What the least box of a generation says of an end.
use Rattle.std.proofs.Common.{◌≡◌, ℕ, zero, suc, true, ℤ, List, [], ◌∷◌, length, inl, inr, refl, sym, ap, subst, ◌∙◌, arith}
use Rattle.std.specs.List.{Any}
use Rattle.std.proofs.lemmas.Int.{ints}
use Rattle.std.proofs.lemmas.Bool.{or_right, true≢false}
use Rattle.life_plane.specs.Plane.{Plane, shift}
use Rattle.life_plane.specs.Salvo.{salvo_glider}
use Rattle.life_plane.specs.SalvoLaws.{salvo_front}
use Rattle.life_cells.specs.BoxLaws.{one_least_box}
use Rattle.life_cells.specs.Boxes.{IsLeastBox}
use Rattle.life_cells.specs.declared.bounds.Bounds.{Bounds}
use Rattle.life_islands.specs.ShapeLaws.{moved_box, least_box_moves}
use Rattle.book_parts.specs.Kinds.{kind_plane}
use Rattle.book_parts.specs.Proper.{IsKindNumber}
use Rattle.book_parts.specs.declared.kind.RawKind.{RawKind}
use Rattle.book_parts.specs.declared.settings.Settings.{Settings}
use Rattle.book_parts.specs.declared.turn.TurnEnd.TheVariants.{Close, Move, Emit}
use Rattle.find_turn.specs.Boxes.{AreBoxesOf, IsMovedBox, MayBeEnd}
use Rattle.find_turn.specs.Standing.{IsNoEnd}
use Rattle.find_turn.proofs.Throwing.{thrown_beyond}

-- one of the boxes is that of the kind with this number
box_of_kind : (kinds : List RawKind) (boxes : List Bounds) → AreBoxesOf kinds boxes → (number : ℕ) → IsKindNumber (length kinds) number → Any (λ box. IsLeastBox box (kind_plane kinds number)) boxes
box_of_kind [] boxes are number is = let some = is.some in let most = is.most in absurd (omega arith)
box_of_kind (kind ∷ kinds) [] are number is = absurd are
box_of_kind (kind ∷ kinds) (box ∷ boxes) are zero is = let some = is.some in absurd (omega arith)
box_of_kind (kind ∷ kinds) (box ∷ boxes) are (suc zero) is = (0, box, omega arith, refl, are.0)
box_of_kind (kind ∷ kinds) (box ∷ boxes) are (suc (suc k)) is =
    let most = is.most in
    let rest = box_of_kind kinds boxes are.1 (suc k) (record { some = omega arith; most = omega arith }) in
    let lt = rest.2 in
    (suc rest.0, rest.1, omega arith, rest.3, rest.4)

-- the boxes of a plane and of what it is, moved
box_moves : (s kind : Plane) (box from : Bounds) (advance : ℤ) → IsLeastBox box s → IsLeastBox from kind → s ≡ shift advance advance kind → IsMovedBox from box
box_moves s kind box from advance least first is =
    let same = one_least_box s box (moved_box advance advance from) least (subst (IsLeastBox (moved_box advance advance from)) (sym is) (least_box_moves advance advance kind from first)) in
    record {
      advance = advance;
      left = ap (λ (b : Bounds). b.left) same;
      top = ap (λ (b : Bounds). b.top) same;
      right = ap (λ (b : Bounds). b.right) same;
      bottom = ap (λ (b : Bounds). b.bottom) same;
    }

-- a box that is no kind's, moved, and has no place in front of the wall is no end's
pub box_tells : (settings : Settings) (kinds : List RawKind) (boxes : List Bounds) (s : Plane) (box : Bounds) → AreBoxesOf kinds boxes → IsLeastBox box s → (MayBeEnd settings boxes box → ⊥) → IsNoEnd settings kinds s
box_tells settings kinds boxes s box are least never Close h = true≢false (sym least.lives.1.1 ∙ ap (λ (p : Plane). p least.lives.0 least.lives.1.0) h.stands)
box_tells settings kinds boxes s box are least never (Move kind advance) h =
    let there = box_of_kind kinds boxes are kind h.leads in
    never (inr (there.0, there.1, there.2, there.3, box_moves s (kind_plane kinds kind) box there.1 advance least there.4 h.stands))
box_tells settings kinds boxes s box are least never (Emit kind advance lane j) h =
    let f = salvo_front lane j in
    let live : s f.x f.y ≡ true = ap (λ (p : Plane). p f.x f.y) h.stands ∙ or_right (shift advance advance (kind_plane kinds kind) f.x f.y) (salvo_glider lane j f.x f.y) f.lives in
    let within = least.holds.each f.x f.y live in
    let right = within.left_of_right in let top = within.below_top in
    let far = thrown_beyond settings.wall lane j f.x f.y h.front f.lives in
    never (inl (omega (arith, ints, right, top, far)))
