-- A salvo's hits, looked at one by one.
use Rattle.std.proofs.Common.{◌≡◌, ◌↔◌, IsTrue, Bool, true, false, ℕ, ◌+◌, ◌<◌, ◌≤◌, List, [], ◌∷◌, take, length, get_or, refl, sym, subst}
use Rattle.std.specs.List.{AllByRecursion}
use Rattle.std.proofs.lemmas.List.{take_more, take_all}
use Rattle.life_plane.specs.ListLaws.{each_at, all_push}
use Rattle.life_plane.specs.Plane.{Plane}
use Rattle.life_cells.specs.declared.cell.Cell.{Cell}
use Rattle.book_parts.specs.declared.settings.Settings.{Settings}
use Rattle.recipe_hit.specs.declared.frame.HitFrame.{HitFrame}
use Rattle.recipe_hit.specs.declared.frame.Hit.{Hit}
use Rattle.recipe_hit.specs.Checked.{Struck, IsSmallFrame}
use Rattle.lane_clear.specs.BaseLaws.{not_both}
use Rattle.lane_clear.specs.Clear.{IsClear}
use Rattle.lane_clear.specs.FrameLaws.{small_in_range}
use Rattle.lane_clear.specs.Frames.{moved_frame, farthest, IsFrameInRange}
use Rattle.hand_route.specs.Clearings.{IsSalvoClear, AreAllBeyond, AreAllAside, AreAllOff}

-- ---- what holds of the items so far

abbrev pub HoldsSoFar : {X : Type 0} → (X → Type 0) → List X → ℕ → Type 0
HoldsSoFar P xs i = AllByRecursion P (take i xs)

pub holds_more : {X : Type 0} (P : X → Type 0) (xs : List X) (i : ℕ) (x : X) → i < length xs → x ≡ get_or xs i x → HoldsSoFar P xs i → P x → HoldsSoFar P xs (i + 1)
holds_more P xs i x lt is so here = subst (AllByRecursion P) (sym (take_more xs i x lt)) (all_push P (take i xs) (get_or xs i x) so (subst P is here))

-- all of them
pub holds_of_all : {X : Type 0} (P : X → Type 0) (xs : List X) (i : ℕ) → length xs ≤ i → HoldsSoFar P xs i → IsTrue true ↔ AllByRecursion P xs
holds_of_all P xs i long so = (λ _. subst (AllByRecursion P) (take_all i xs long) so, λ _. refl)

-- not of this one, so not of all
pub fails_here : {X : Type 0} (P : X → Type 0) (xs : List X) (i : ℕ) (x : X) (test : Bool) → i < length xs → x ≡ get_or xs i x → IsTrue test ↔ P x → test ≡ false → IsTrue false ↔ AllByRecursion P xs
fails_here P xs i x test lt is tests fails = (λ h. cc, λ all. absurd (not_both fails (tests.1 (subst P (sym is) (each_at P xs all i x lt)))))

-- ---- frames

pub frame_in_range : (hits : List Hit) (i : ℕ) (hit : Hit) → AllByRecursion (λ (h : Hit). IsSmallFrame h.frame) hits → i < length hits → hit ≡ get_or hits i hit → IsFrameInRange farthest hit.frame
frame_in_range hits i hit small lt is = subst (λ (h : Hit). IsFrameInRange farthest h.frame) (sym is) (small_in_range _ (each_at (λ (h : Hit). IsSmallFrame h.frame) hits small i hit lt))

-- the test of a moved frame, of the frame as it is moved
pub moved_test : (P : HitFrame → Type 0) (test : Bool) (moved frame : HitFrame) → moved ≡ frame → IsTrue test ↔ P moved → IsTrue test ↔ P frame
moved_test P test moved frame same is = subst (λ (f : HitFrame). IsTrue test ↔ P f) same is

-- ---- the parts of a salvo's clearance

pub clear_of_parts : (settings : Settings) (built : Plane) (place : Cell) (hits : List Hit) → AreAllBeyond settings place hits → AreAllAside built place hits → AreAllOff built place hits →
    AllByRecursion (λ (hit : Hit). IsClear settings built (moved_frame place hit.frame)) hits
clear_of_parts settings built place [] beyond aside off = tt
clear_of_parts settings built place (hit ∷ hits) beyond aside off =
    (record { works = beyond.0; near = off.0; lane_free = aside.0 }, clear_of_parts settings built place hits beyond.1 aside.1 off.1)

pub beyond_of_clear : (settings : Settings) (built : Plane) (place : Cell) (hits : List Hit) → AllByRecursion (λ (hit : Hit). IsClear settings built (moved_frame place hit.frame)) hits → AreAllBeyond settings place hits
beyond_of_clear settings built place [] clear = tt
beyond_of_clear settings built place (hit ∷ hits) clear = (clear.0.works, beyond_of_clear settings built place hits clear.1)

pub aside_of_clear : (settings : Settings) (built : Plane) (place : Cell) (hits : List Hit) → AllByRecursion (λ (hit : Hit). IsClear settings built (moved_frame place hit.frame)) hits → AreAllAside built place hits
aside_of_clear settings built place [] clear = tt
aside_of_clear settings built place (hit ∷ hits) clear = (clear.0.lane_free, aside_of_clear settings built place hits clear.1)

pub off_of_clear : (settings : Settings) (built : Plane) (place : Cell) (hits : List Hit) → AllByRecursion (λ (hit : Hit). IsClear settings built (moved_frame place hit.frame)) hits → AreAllOff built place hits
off_of_clear settings built place [] clear = tt
off_of_clear settings built place (hit ∷ hits) clear = (clear.0.near, off_of_clear settings built place hits clear.1)

pub clear_test : (settings : Settings) (built : Plane) (salvo : Struck) (place : Cell) (hits : List Hit) (test : Bool) → hits ≡ salvo.hits → AreAllBeyond settings place hits → AreAllAside built place hits →
    IsTrue test ↔ AreAllOff built place hits → IsTrue test ↔ IsSalvoClear settings built salvo place
clear_test settings built salvo place hits test same beyond aside off =
    subst (λ (hs : List Hit). IsTrue test ↔ AllByRecursion (λ (hit : Hit). IsClear settings built (moved_frame place hit.frame)) hs) same
    (λ h. clear_of_parts settings built place hits beyond aside (off.0 h), λ clear. off.1 (off_of_clear settings built place hits clear))

-- where a part fails
pub never_clear : (settings : Settings) (built : Plane) (salvo : Struck) (place : Cell) (hits : List Hit) (test : Bool) → hits ≡ salvo.hits → test ≡ false →
    (AllByRecursion (λ (hit : Hit). IsClear settings built (moved_frame place hit.frame)) hits → ⊥) → IsTrue test ↔ IsSalvoClear settings built salvo place
never_clear settings built salvo place hits test same fails not_so =
    subst (λ (hs : List Hit). IsTrue test ↔ AllByRecursion (λ (hit : Hit). IsClear settings built (moved_frame place hit.frame)) hs) same
    (λ h. absurd (not_both fails h), λ clear. absurd (not_so clear))
