-- What the least box of a generation tells: whether a turn may end with it.
use Rattle.std.specs.Prelude.{◌≡◌, ◌^◌, ◌⊎◌, ℤ, pos, neg_ℤ, ◌+ℤ◌, ◌-ℤ◌, ◌≤ℤ◌, List}
use Rattle.std.specs.List.{Any, AllZip}
use Rattle.life_cells.specs.declared.bounds.Bounds.{Bounds}
use Rattle.life_cells.specs.Boxes.{IsLeastBox}
use Rattle.life_cells.specs.Cells.{alive}
use Rattle.book_parts.specs.declared.kind.RawKind.{RawKind}
use Rattle.book_parts.specs.declared.settings.Settings.{Settings}

-- the least boxes of the kinds, kind by kind
abbrev pub AreBoxesOf : List RawKind → List Bounds → Type 0
AreBoxesOf kinds boxes = AllZip (λ (kind : RawKind) box. IsLeastBox box (alive kind.cells)) kinds boxes

-- a coordinate, or how far something is moved, from -2^42 to 2^42
pub record IsNear (z : ℤ) : Type 0 where
  pub low : neg_ℤ (pos (2 ^ 42)) ≤ℤ z
  pub high : z ≤ℤ pos (2 ^ 42)

-- the one box is the other, moved along the diagonal
pub record IsMovedBox (from to : Bounds) : Type 0 where
  pub advance : ℤ
  pub left : to.left ≡ from.left +ℤ advance
  pub top : to.top ≡ from.top +ℤ advance
  pub right : to.right ≡ from.right +ℤ advance
  pub bottom : to.bottom ≡ from.bottom +ℤ advance

-- the box is that of a kind, moved, or it has a place in front of the wall, where a glider may be
abbrev pub MayBeEnd : Settings → List Bounds → Bounds → Type 0
MayBeEnd settings boxes box = ((settings.wall +ℤ pos 5) ≤ℤ (box.right -ℤ box.top)) ⊎ Any (λ from. IsMovedBox from box) boxes
