-- The hits of a salvo are one list, and a salvo has one refusal.
use Rattle.std.proofs.Common.{◌≡◌, ◌≢◌, ℕ, zero, suc, ◌+◌, ℤ, List, [], ◌∷◌, ◌++◌, length, refl, sym, ap, subst, ◌∙◌}
use Rattle.life_plane.specs.Plane.{Plane, nothing}
use Rattle.life_cells.specs.Cells.{alive}
use Rattle.life_cells.specs.declared.cell.Cell.{Cell}
use Rattle.life_cells.specs.Firsts.{IsFirstDifferent}
use Rattle.life_cells.specs.FirstLaws.{one_first}
use Rattle.book_parts.specs.Proper.{HasLife}
use Rattle.book_parts.specs.declared.salvo.RawSalvo.{RawSalvo}
use Rattle.recipe_hit.specs.declared.frame.Hit.{Hit}
use Rattle.recipe_hit.specs.declared.refusal.SalvoRefusal.{SalvoRefusal}
use Rattle.recipe_hit.specs.declared.refusal.SalvoRefusal.TheVariants.{Empty, NotSettled, EndDiffers, ProductSplit, HandNear, Memory}
use Rattle.recipe_hit.specs.Strike.{IsHit}
use Rattle.recipe_hit.specs.Refusals.{HasNoHit}
use Rattle.recipe_hit.specs.Sound.{AreHits, what_is_left, left_hand, IsSound}
use Rattle.recipe_hit.specs.SalvoRefusals.{IsFirstMissing, HasLast, SalvoIsRefused}
use Rattle.recipe_hit.specs.OneHitLaws.{one_hit, lives_not_nothing, one_list}
use Rattle.recipe_hit.proofs.Ends.{near_not_apart}

-- what holds of what is left by one list and by another holds of one
same_last : (start : Plane) (salvo : RawSalvo) (P : Plane → Type 0) (hits : List Hit) (h : HasLast start salvo P) → AreHits start salvo.lanes hits → P (what_is_left start hits)
same_last start salvo P hits h k = subst (λ hs. P (what_is_left start hs)) (one_list start salvo.lanes h.hits hits h.hits_are k) h.holds

-- ---- the first lane without a hit

-- the hits come to the lane that so many are before, and there this holds
abbrev MissesAt : (Plane → ℤ → Type 0) → Plane → List ℤ → ℕ → Type 0
MissesAt Fails start [] k = ⊥
MissesAt Fails start (lane ∷ lanes) zero = Fails start lane
MissesAt Fails start (lane ∷ lanes) (suc k) = (hit : Hit) × (IsHit start lane hit × MissesAt Fails (alive hit.after) lanes k)

-- this holds only where there is no hit
abbrev Clashes : (Plane → ℤ → Type 0) → Type 0
Clashes Fails = (struck : Plane) (lane : ℤ) (hit : Hit) → IsHit struck lane hit → Fails struck lane → ⊥

misses : (Fails : Plane → ℤ → Type 0) (start : Plane) (front : List ℤ) (lane : ℤ) (back : List ℤ) (hits : List Hit) → AreHits start front hits → Fails (what_is_left start hits) lane →
    MissesAt Fails start (front ++ (lane ∷ back)) (length front)
misses Fails start [] lane back [] h fails = fails
misses Fails start [] lane back (a ∷ hits) h fails = absurd h
misses Fails start (l ∷ front) lane back [] h fails = absurd h
misses Fails start (l ∷ front) lane back (a ∷ hits) h fails = (a, (h.0, misses Fails (alive a.after) front lane back hits h.1 fails))

missed : (Fails : Plane → ℤ → Type 0) (start : Plane) (lanes : List ℤ) (place : ℕ) (m : IsFirstMissing start lanes place Fails) → MissesAt Fails start lanes (length m.front)
missed Fails start lanes place m = subst (λ ls. MissesAt Fails start ls (length m.front)) (sym m.split) (misses Fails start m.front m.lane m.back m.hits m.hits_are m.fails)

not_all : (Fails : Plane → ℤ → Type 0) → Clashes Fails → (start : Plane) (lanes : List ℤ) (k : ℕ) (hits : List Hit) → MissesAt Fails start lanes k → AreHits start lanes hits → ⊥
not_all Fails clash start [] k hits m h = m
not_all Fails clash start (lane ∷ lanes) k [] m h = h
not_all Fails clash start (lane ∷ lanes) zero (a ∷ hits) m h = clash start lane a h.0 m
not_all Fails clash start (lane ∷ lanes) (suc k) (a ∷ hits) m h =
    not_all Fails clash (alive a.after) lanes k hits (subst (λ (x : Hit). MissesAt Fails (alive x.after) lanes k) (one_hit start lane m.0 a m.1.0 h.0) m.1.1) h.1

-- two such lanes are one
record IsOneMiss (Fails Others : Plane → ℤ → Type 0) (k j : ℕ) : Type 0 where
  same : k ≡ j
  struck : Plane
  lane : ℤ
  fails : Fails struck lane
  others : Others struck lane

later : (Fails Others : Plane → ℤ → Type 0) (k j : ℕ) → IsOneMiss Fails Others k j → IsOneMiss Fails Others (suc k) (suc j)
later Fails Others k j m = record { same = ap suc m.same; struck = m.struck; lane = m.lane; fails = m.fails; others = m.others }

one_miss : (Fails Others : Plane → ℤ → Type 0) → Clashes Fails → Clashes Others → (start : Plane) (lanes : List ℤ) (k j : ℕ) → MissesAt Fails start lanes k → MissesAt Others start lanes j → IsOneMiss Fails Others k j
one_miss Fails Others f g start [] k j m n = absurd m
one_miss Fails Others f g start (lane ∷ lanes) zero zero m n = record { same = refl; struck = start; lane = lane; fails = m; others = n }
one_miss Fails Others f g start (lane ∷ lanes) zero (suc j) m n = absurd (f start lane n.0 n.1.0 m)
one_miss Fails Others f g start (lane ∷ lanes) (suc k) zero m n = absurd (g start lane m.0 m.1.0 n)
one_miss Fails Others f g start (lane ∷ lanes) (suc k) (suc j) m n =
    later Fails Others k j
    (one_miss Fails Others f g (alive n.0.after) lanes k j (subst (λ (x : Hit). MissesAt Fails (alive x.after) lanes k) (one_hit start lane m.0 n.0 m.1.0 n.1.0) m.1.1) n.1.1)

-- ---- what fails clashes with a hit

abbrev IsEmptyAt : Plane → ℤ → Type 0
IsEmptyAt struck lane = struck ≡ nothing

abbrev IsMovingAt : Plane → ℤ → Type 0
IsMovingAt struck lane = HasLife struck × HasNoHit struck lane

empty_clashes : Clashes IsEmptyAt
empty_clashes struck lane hit is none = lives_not_nothing struck is.box_is.lives none

moving_clashes : Clashes IsMovingAt
moving_clashes struck lane hit is moving = moving.1 hit is

one_place : (Fails Others : Plane → ℤ → Type 0) → Clashes Fails → Clashes Others → (start : Plane) (lanes : List ℤ) (place other : ℕ) → IsFirstMissing start lanes place Fails →
    IsFirstMissing start lanes other Others → place ≡ other
one_place Fails Others f g start lanes place other m n =
    let one = one_miss Fails Others f g start lanes (length m.front) (length n.front) (missed Fails start lanes place m) (missed Others start lanes other n) in
    m.place_is ∙ ap (λ k. k + 1) one.same ∙ sym n.place_is

empty_not_moving : (start : Plane) (lanes : List ℤ) (place other : ℕ) → IsFirstMissing start lanes place IsEmptyAt → IsFirstMissing start lanes other IsMovingAt → ⊥
empty_not_moving start lanes place other m n =
    let one = one_miss IsEmptyAt IsMovingAt empty_clashes moving_clashes start lanes (length m.front) (length n.front) (missed IsEmptyAt start lanes place m) (missed IsMovingAt start lanes other n) in
    lives_not_nothing one.struck one.others.0 one.fails

missing_not_last : (Fails : Plane → ℤ → Type 0) (Holds : Plane → Type 0) → Clashes Fails → (start : Plane) (salvo : RawSalvo) (place : ℕ) → IsFirstMissing start salvo.lanes place Fails → HasLast start salvo Holds → ⊥
missing_not_last Fails Holds clash start salvo place m l = not_all Fails clash start salvo.lanes (length m.front) l.hits (missed Fails start salvo.lanes place m) l.hits_are

differs_clash : (s t : Plane) (c : Cell) → IsFirstDifferent s t c → s ≡ t → ⊥
differs_clash s t c first same = first.is (ap (λ (p : Plane). p c.x c.y) same)

-- a sound salvo has no refusal
pub no_salvo_refusal : (start : Plane) (salvo : RawSalvo) (hits : List Hit) (e : SalvoRefusal) → IsSound start salvo hits → SalvoIsRefused start salvo e → e ≡ Memory
no_salvo_refusal start salvo hits (Empty place) sound h = absurd (not_all IsEmptyAt empty_clashes start salvo.lanes (length h.front) hits (missed IsEmptyAt start salvo.lanes place h) sound.hits_are)
no_salvo_refusal start salvo hits (NotSettled place) sound h = absurd (not_all IsMovingAt moving_clashes start salvo.lanes (length h.front) hits (missed IsMovingAt start salvo.lanes place h) sound.hits_are)
no_salvo_refusal start salvo hits (EndDiffers c) sound h = absurd (differs_clash _ _ c (same_last start salvo _ hits h sound.hits_are) sound.ends)
no_salvo_refusal start salvo hits ProductSplit sound h = absurd (h.holds.1 sound.whole)
no_salvo_refusal start salvo hits (HandNear c) sound h = absurd (near_not_apart (alive salvo.product) (left_hand start salvo.hand) c h.holds.1.1 sound.clear)
no_salvo_refusal start salvo hits Memory sound h = refl

-- a salvo has one refusal
pub one_salvo_refusal : (start : Plane) (salvo : RawSalvo) (e f : SalvoRefusal) → SalvoIsRefused start salvo e → SalvoIsRefused start salvo f → e ≢ Memory → f ≢ Memory → e ≡ f
one_salvo_refusal start salvo (Empty n) (Empty m) h k other another = ap Empty (one_place IsEmptyAt IsEmptyAt empty_clashes empty_clashes start salvo.lanes n m h k)
one_salvo_refusal start salvo (Empty n) (NotSettled m) h k other another = absurd (empty_not_moving start salvo.lanes n m h k)
one_salvo_refusal start salvo (Empty n) (EndDiffers d) h k other another = absurd (missing_not_last IsEmptyAt _ empty_clashes start salvo n h k)
one_salvo_refusal start salvo (Empty n) ProductSplit h k other another = absurd (missing_not_last IsEmptyAt _ empty_clashes start salvo n h k)
one_salvo_refusal start salvo (Empty n) (HandNear d) h k other another = absurd (missing_not_last IsEmptyAt _ empty_clashes start salvo n h k)
one_salvo_refusal start salvo (NotSettled n) (Empty m) h k other another = absurd (empty_not_moving start salvo.lanes m n k h)
one_salvo_refusal start salvo (NotSettled n) (NotSettled m) h k other another = ap NotSettled (one_place IsMovingAt IsMovingAt moving_clashes moving_clashes start salvo.lanes n m h k)
one_salvo_refusal start salvo (NotSettled n) (EndDiffers d) h k other another = absurd (missing_not_last IsMovingAt _ moving_clashes start salvo n h k)
one_salvo_refusal start salvo (NotSettled n) ProductSplit h k other another = absurd (missing_not_last IsMovingAt _ moving_clashes start salvo n h k)
one_salvo_refusal start salvo (NotSettled n) (HandNear d) h k other another = absurd (missing_not_last IsMovingAt _ moving_clashes start salvo n h k)
one_salvo_refusal start salvo (EndDiffers c) (Empty m) h k other another = absurd (missing_not_last IsEmptyAt _ empty_clashes start salvo m k h)
one_salvo_refusal start salvo (EndDiffers c) (NotSettled m) h k other another = absurd (missing_not_last IsMovingAt _ moving_clashes start salvo m k h)
one_salvo_refusal start salvo (EndDiffers c) (EndDiffers d) h k other another = ap EndDiffers (one_first _ c d (same_last start salvo _ k.hits h k.hits_are) k.holds)
one_salvo_refusal start salvo (EndDiffers c) ProductSplit h k other another = absurd (differs_clash _ _ c (same_last start salvo _ k.hits h k.hits_are) k.holds.0)
one_salvo_refusal start salvo (EndDiffers c) (HandNear d) h k other another = absurd (differs_clash _ _ c (same_last start salvo _ k.hits h k.hits_are) k.holds.0)
one_salvo_refusal start salvo ProductSplit (Empty m) h k other another = absurd (missing_not_last IsEmptyAt _ empty_clashes start salvo m k h)
one_salvo_refusal start salvo ProductSplit (NotSettled m) h k other another = absurd (missing_not_last IsMovingAt _ moving_clashes start salvo m k h)
one_salvo_refusal start salvo ProductSplit (EndDiffers d) h k other another = absurd (differs_clash _ _ d (same_last start salvo _ h.hits k h.hits_are) h.holds.0)
one_salvo_refusal start salvo ProductSplit ProductSplit h k other another = refl
one_salvo_refusal start salvo ProductSplit (HandNear d) h k other another = absurd (h.holds.1 k.holds.1.0)
one_salvo_refusal start salvo (HandNear c) (Empty m) h k other another = absurd (missing_not_last IsEmptyAt _ empty_clashes start salvo m k h)
one_salvo_refusal start salvo (HandNear c) (NotSettled m) h k other another = absurd (missing_not_last IsMovingAt _ moving_clashes start salvo m k h)
one_salvo_refusal start salvo (HandNear c) (EndDiffers d) h k other another = absurd (differs_clash _ _ d (same_last start salvo _ h.hits k h.hits_are) h.holds.0)
one_salvo_refusal start salvo (HandNear c) ProductSplit h k other another = absurd (k.holds.1 h.holds.1.0)
one_salvo_refusal start salvo (HandNear c) (HandNear d) h k other another = ap HandNear (one_first _ c d h.holds.1.1 k.holds.1.1)
one_salvo_refusal start salvo (Empty n) Memory h k other another = absurd (another refl)
one_salvo_refusal start salvo (NotSettled n) Memory h k other another = absurd (another refl)
one_salvo_refusal start salvo (EndDiffers c) Memory h k other another = absurd (another refl)
one_salvo_refusal start salvo ProductSplit Memory h k other another = absurd (another refl)
one_salvo_refusal start salvo (HandNear c) Memory h k other another = absurd (another refl)
one_salvo_refusal start salvo Memory f h k other another = absurd (other refl)
