-- The first cell of a set in order that fails a test.
use Rattle.std.proofs.Common.{◌≡◌, ℕ, ◌+◌, ◌<◌, ◌≤◌, ◌↔◌, IsTrue, Bool, false, ℤ, List, length, get_or, sym, ap, subst, ◌∙◌, inl, inr, arith}
use Rattle.std.specs.List.{slice_get}
use Rattle.std.specs.declared.option.Option.TheVariants.{Some}
use Rattle.std.proofs.lemmas.Option.{slice_get_within, slice_get-get_or}
use Rattle.life_plane.specs.Plane.{Plane}
use Rattle.life_plane.specs.Strips.{Each}
use Rattle.life_plane.specs.ListLaws.{same_item}
use Rattle.life_plane.specs.NumberLaws.{lt_or_same}
use Rattle.life_cells.specs.declared.cell.Cell.{Cell}
use Rattle.life_cells.specs.Cells.{cell, Cells, in_order, alive, IsRising}
use Rattle.life_cells.specs.Laws.{alive-in_order, place_of_listed}
use Rattle.life_cells.specs.Listed.{listed}
use Rattle.life_cells.specs.Firsts.{IsFirstOf}
use Rattle.life_cells.specs.FirstLaws.{first_place}
use Rattle.lane_clear.specs.Refusals.{Fails}
use Rattle.life_cells.specs.PlaceLaws.{live_at}
use Rattle.std.proofs.lemmas.Bool.{false≢true}

-- this holds of each cell before a place
abbrev pub HoldsBefore : (ℤ → ℤ → Type 0) → List Cell → ℕ → Type 0
HoldsBefore P cs i = (k : ℕ) (c : Cell) → k < i → slice_get cs k ≡ Some c → P c.x c.y

pub holds_of_more : (P : ℤ → ℤ → Type 0) (cs : List Cell) (i : ℕ) (d : Cell) → i < length cs → HoldsBefore P cs i → P (get_or cs i d).x (get_or cs i d).y → HoldsBefore P cs (i + 1)
holds_of_more P cs i d lt before here k c early at = elim (lt_or_same k i early) [
  | inl less ↦ before k c less at
  | inr same ↦ subst (λ (e : Cell). P e.x e.y) (same_item (slice_get-get_or cs i d lt) (subst (λ n. slice_get cs n ≡ Some c) same at)) here
]

-- where it holds of all places it holds of the set
pub holds_of_all : (P : ℤ → ℤ → Type 0) (cs : List Cell) (s : Cells) (i : ℕ) → cs ≡ in_order s → length cs ≤ i → HoldsBefore P cs i → Each P (alive s)
holds_of_all P cs s i e long before x y lives =
    let there = place_of_listed cs x y (ap (λ (p : Plane). p x y) (ap listed e ∙ sym (alive-in_order s)) ∙ lives) in
    let within = slice_get_within cs there.0 (cell x y) there.1 in
    before there.0 (cell x y) (omega arith) there.1

-- the first place at which it doesn't hold has the first such cell
pub first_failing : (P : ℤ → ℤ → Type 0) (cs : List Cell) (s : Cells) (i : ℕ) (d : Cell) → cs ≡ in_order s → IsRising cs → i < length cs → HoldsBefore P cs i → (test : Bool) →
    IsTrue test ↔ P (get_or cs i d).x (get_or cs i d).y → test ≡ false → IsFirstOf (Fails P (alive s)) (get_or cs i d)
first_failing P cs s i d e rises lt before test exact fails = record {
  is = record { lives = live_at s cs e i d lt; not_so = λ holds. false≢true (sym fails ∙ exact.1 holds) };
  none_before = λ x y f. first_place cs rises (λ x y. P x y → ⊥) i (get_or cs i d) (slice_get-get_or cs i d lt) (λ k c early at no. no (before k c early at)) x y
      (ap (λ (p : Plane). p x y) (ap listed e ∙ sym (alive-in_order s)) ∙ f.lives) f.not_so;
}
