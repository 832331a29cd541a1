-- Boxes looked at one by one.
use Rattle.std.proofs.Common.{◌≡◌, ℕ, ◌+◌, ◌^◌, ◌<◌, ◌≤◌, List, [], ◌∷◌, ◌++◌, length, get_or, take, sym, subst, arith}
use Rattle.std.specs.List.{AllByRecursion, AllZip}
use Rattle.std.proofs.lemmas.Int.{ints}
use Rattle.std.proofs.lemmas.List.{take_more, take_all}
use Rattle.life_plane.specs.ListLaws.{each_at}
use Rattle.life_cells.specs.declared.bounds.Bounds.{Bounds}
use Rattle.life_plane.specs.Plane.{Plane}
use Rattle.life_cells.specs.Boxes.{IsInRange, IsLeastBox, IsBoxInRange}
use Rattle.life_cells.specs.BoxRangeLaws.{box_in_range}
use Rattle.life_cells.specs.Cells.{Cells, alive, empty}
use Rattle.book_parts.specs.KindLaws.{empty_dead}
use Rattle.book_parts.specs.Limits.{IsPlaced}
use Rattle.book_parts.specs.Proper.{HasLife, IsProperKind}
use Rattle.book_parts.specs.declared.kind.RawKind.{RawKind}
use Rattle.find_turn.specs.Boxes.{IsMovedBox, AreBoxesOf}

-- none of those before a place is this box, moved
abbrev pub NoneMoved : List Bounds → Bounds → ℕ → Type 0
NoneMoved boxes to n = (k : ℕ) (from : Bounds) → k < n → k < length boxes → get_or boxes k from ≡ from → IsMovedBox from to → ⊥

-- ---- the boxes of kinds

zip_push : {A B : Type 0} (R : A → B → Type 0) (xs : List A) (ys : List B) (x : A) (y : B) → AllZip R xs ys → R x y → AllZip R (xs ++ x ∷ []) (ys ++ y ∷ [])
zip_push R [] [] x y h here = (here, tt)
zip_push R [] (b ∷ ys) x y h here = absurd h
zip_push R (a ∷ xs) [] x y h here = absurd h
zip_push R (a ∷ xs) (b ∷ ys) x y h here = (h.0, zip_push R xs ys x y h.1 here)

-- the kind at a place, as it is read
pub kind_read : (kinds : List RawKind) → AllByRecursion IsProperKind kinds → (i : ℕ) (kind : RawKind) → i < length kinds → kind ≡ get_or kinds i kind → IsProperKind kind
kind_read kinds proper i kind lt is = subst IsProperKind (sym is) (each_at IsProperKind kinds proper i kind lt)

-- one box more
pub boxes_more : (kinds : List RawKind) (boxes more : List Bounds) (box : Bounds) (i : ℕ) (kind : RawKind) → i < length kinds → kind ≡ get_or kinds i kind → AreBoxesOf (take i kinds) boxes →
    IsLeastBox box (alive kind.cells) → more ≡ boxes ++ box ∷ [] → AreBoxesOf (take (i + 1) kinds) more
boxes_more kinds boxes more box i kind lt is before here joined =
    subst (AreBoxesOf (take (i + 1) kinds)) (sym joined) (subst (λ ks. AreBoxesOf ks (boxes ++ box ∷ [])) (sym (take_more kinds i kind lt))
    (zip_push (λ (k : RawKind) b. IsLeastBox b (alive k.cells)) (take i kinds) boxes (get_or kinds i kind) box before (subst (λ (k : RawKind). IsLeastBox box (alive k.cells)) is here)))

pub boxes_all : (kinds : List RawKind) (boxes : List Bounds) (n : ℕ) → length kinds ≤ n → AreBoxesOf (take n kinds) boxes → AreBoxesOf kinds boxes
boxes_all kinds boxes n long h = subst (λ ks. AreBoxesOf ks boxes) (take_all n kinds long) h

-- the coordinates of a book are in range
pub placed_range : (s : Plane) → IsPlaced s → IsInRange (2 ^ 30) s
placed_range s placed = record {
  x_low = λ x y live. let at = placed.x x y live in let low = at.low in omega (arith, ints);
  x_high = λ x y live. let at = placed.x x y live in let high = at.high in omega (arith, ints);
  y_low = λ x y live. let at = placed.y x y live in let low = at.low in omega (arith, ints);
  y_high = λ x y live. let at = placed.y x y live in let high = at.high in omega (arith, ints);
}

pub box_placed : (box : Bounds) (s : Plane) → IsLeastBox box s → IsPlaced s → IsBoxInRange (2 ^ 30) box
box_placed box s least placed = box_in_range (2 ^ 30) box s least (placed_range s placed)

-- what lives isn't empty
pub lives_not_empty : (s : Cells) → HasLife (alive s) → s ≡ empty → ⊥
lives_not_empty s lives none = empty_dead s lives.0 lives.1.0 none lives.1.1
