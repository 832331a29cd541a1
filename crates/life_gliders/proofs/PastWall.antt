-- Cells of a set in front of the wall, looked at one by one.
use Rattle.std.proofs.Common.{◌≡◌, ◌↔◌, IsTrue, ℕ, ◌+◌, ◌<◌, ◌≤◌, Bool, true, false, ℤ, pos, ◌+ℤ◌, ◌-ℤ◌, List, length, get_or, sym, ap, ◌∙◌}
use Rattle.std.specs.Prelude.{int_le}
use Rattle.std.proofs.lemmas.Bool.{and_parts, and_from, false_from_ne_true, true≢false}
use Rattle.std.specs.Cmp.{both_ways}
use Rattle.life_plane.specs.Plane.{Plane, nothing, same_plane}
use Rattle.life_cells.specs.declared.cell.Cell.{Cell}
use Rattle.life_cells.specs.Cells.{IsRising, Cells, alive, in_order}
use Rattle.life_cells.specs.Listed.{listed}
use Rattle.life_gliders.specs.Beyond.{beyond, IsFirstLive, IsPartOf}
use Rattle.life_gliders.proofs.EachCell.{EachBefore, each_more, each_listed, listed_is_alive, first_place}
use Rattle.life_cells.specs.PlaceLaws.{live_at}

-- u is at least five more than the wall
abbrev pub past : ℤ → Cell → Bool
past wall c = int_le (wall +ℤ pos 5) (c.x -ℤ c.y)

-- ---- the first cell past the wall

pub first_past : (w : ℤ) (cs : List Cell) (s : Cells) (i : ℕ) (z : Cell) → cs ≡ in_order s → IsRising cs → i < length cs → EachBefore (λ d. past w d ≡ true → ⊥) cs i →
    past w (get_or cs i z) ≡ true → IsFirstLive (get_or cs i z) (beyond w (alive s))
first_past w cs s i z order rises lt none here = record {
  lives = and_from _ _ (live_at s cs order i z lt) here;
  none_before = λ x y live before. let both = and_parts _ _ live in first_place (λ d. past w d ≡ true) cs i z rises lt none x y (listed_is_alive cs s order x y ∙ both.0) both.1 before;
}

pub none_past : (w : ℤ) (cs : List Cell) (s : Cells) (n : ℕ) → cs ≡ in_order s → length cs ≤ n → EachBefore (λ d. past w d ≡ true → ⊥) cs n → beyond w (alive s) ≡ nothing
none_past w cs s n order short none = same_plane _ _ (λ x y. false_from_ne_true _ (λ live.
    let both = and_parts _ _ live in each_listed (λ d. past w d ≡ true → ⊥) cs n short none x y (listed_is_alive cs s order x y ∙ both.0) both.1))

-- one more cell that is not past the wall
pub none_more : (w : ℤ) (cs : List Cell) (i : ℕ) (z : Cell) (test : Bool) → i < length cs → EachBefore (λ d. past w d ≡ true → ⊥) cs i → test ≡ past w (get_or cs i z) → test ≡ false →
    EachBefore (λ d. past w d ≡ true → ⊥) cs (i + 1)
none_more w cs i z test lt none is fails = each_more (λ d. past w d ≡ true → ⊥) cs i z lt none (λ h. true≢false (sym h ∙ sym is ∙ fails))

-- ---- all that is listed, and only that

pub all_past : (w : ℤ) (list : List Cell) (s : Plane) (n : ℕ) → length list ≤ n → EachBefore (λ d. beyond w s d.x d.y ≡ true) list n → IsPartOf (listed list) (beyond w s)
all_past w list s n short each = record { each = each_listed (λ d. beyond w s d.x d.y ≡ true) list n short each }

pub only_listed : (w : ℤ) (list cs : List Cell) (s : Cells) (n : ℕ) → cs ≡ in_order s → length cs ≤ n → EachBefore (λ d. past w d ≡ true → listed list d.x d.y ≡ true) cs n →
    IsPartOf (beyond w (alive s)) (listed list)
only_listed w list cs s n order short each = record {
  each = λ x y live. let both = and_parts _ _ live in each_listed (λ d. past w d ≡ true → listed list d.x d.y ≡ true) cs n short each x y (listed_is_alive cs s order x y ∙ both.0) both.1;
}

-- one more cell that is listed
pub listed_more : (w : ℤ) (list cs : List Cell) (i : ℕ) (z : Cell) (test : Bool) → i < length cs → EachBefore (λ d. past w d ≡ true → listed list d.x d.y ≡ true) cs i →
    test ≡ listed list (get_or cs i z).x (get_or cs i z).y → test ≡ true → EachBefore (λ d. past w d ≡ true → listed list d.x d.y ≡ true) cs (i + 1)
listed_more w list cs i z test lt each is passes = each_more (λ d. past w d ≡ true → listed list d.x d.y ≡ true) cs i z lt each (λ _. sym is ∙ passes)

-- one more cell that is not past the wall
pub not_past_more : (w : ℤ) (list cs : List Cell) (i : ℕ) (z : Cell) (test : Bool) → i < length cs → EachBefore (λ d. past w d ≡ true → listed list d.x d.y ≡ true) cs i →
    test ≡ past w (get_or cs i z) → test ≡ false → EachBefore (λ d. past w d ≡ true → listed list d.x d.y ≡ true) cs (i + 1)
not_past_more w list cs i z test lt each is fails = each_more (λ d. past w d ≡ true → listed list d.x d.y ≡ true) cs i z lt each (λ h. absurd (true≢false (sym h ∙ sym is ∙ fails)))

-- a cell past the wall that is not listed
pub not_only : (w : ℤ) (list cs : List Cell) (s : Cells) (i : ℕ) (z : Cell) (front there : Bool) → cs ≡ in_order s → i < length cs → front ≡ past w (get_or cs i z) → front ≡ true →
    there ≡ listed list (get_or cs i z).x (get_or cs i z).y → there ≡ false → IsTrue false ↔ IsPartOf (beyond w (alive s)) (listed list)
not_only w list cs s i z front there order lt is passes has fails = (
  λ h. absurd (true≢false (sym h)),
  λ part. absurd (true≢false (sym (part.each _ _ (and_from _ _ (live_at s cs order i z lt) (sym is ∙ passes))) ∙ sym has ∙ fails)),
)

-- ---- the same plane

-- planes that are part of each other are the same
pub same_parts : (s t : Plane) → IsPartOf s t → IsPartOf t s → s ≡ t
same_parts s t h k = same_plane _ _ (λ x y. both_ways (s x y) (t x y) (h.each x y) (k.each x y))

pub part_of_same : (s t : Plane) → s ≡ t → IsPartOf s t
part_of_same s t e = record { each = λ x y live. ap (λ (p : Plane). p x y) (sym e) ∙ live }

pub test_only : (s t : Plane) (all only : Bool) → (IsTrue all ↔ IsPartOf t s) → all ≡ true → (IsTrue only ↔ IsPartOf s t) → IsTrue only ↔ (s ≡ t)
test_only s t all only ha is ho = (λ h. same_parts s t (ho.0 h) (ha.0 is), λ e. ho.1 (part_of_same s t e))

pub test_none : (s t : Plane) (all : Bool) → (IsTrue all ↔ IsPartOf t s) → all ≡ false → IsTrue all ↔ (s ≡ t)
test_none s t all ha fails = (λ h. absurd (true≢false (sym h ∙ fails)), λ e. ha.1 (part_of_same t s (sym e)))
