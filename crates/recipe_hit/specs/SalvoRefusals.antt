-- Why a salvo isn't sound: the first part that fails.
use Rattle.std.specs.Prelude.{◌≡◌, ◌+◌, true, ℕ, ℤ, List, ◌∷◌, ◌++◌, length}
use Rattle.life_plane.specs.Plane.{Plane, nothing, union}
use Rattle.life_plane.specs.Apart.{Apart}
use Rattle.life_cells.specs.declared.cell.Cell.{Cell}
use Rattle.life_cells.specs.Cells.{alive}
use Rattle.life_cells.specs.Firsts.{IsFirstOf, IsFirstDifferent}
use Rattle.life_cells.specs.Close.{Close}
use Rattle.book_parts.specs.Proper.{HasLife}
use Rattle.book_parts.specs.declared.salvo.RawSalvo.{RawSalvo}
use Rattle.recipe_hit.specs.declared.frame.Hit.{Hit}
use Rattle.recipe_hit.specs.declared.refusal.SalvoRefusal.{SalvoRefusal}
use Rattle.recipe_hit.specs.declared.refusal.SalvoRefusal.TheVariants.{Empty, NotSettled, EndDiffers, ProductSplit, HandNear, Memory}
use Rattle.recipe_hit.specs.Refusals.{HasNoHit}
use Rattle.recipe_hit.specs.Sound.{AreHits, what_is_left, left_hand, stated_end, IsWhole}

-- the lanes before this place have their hits, and for the lane at it and what they leave this holds; places count from 1
pub record IsFirstMissing (start : Plane) (lanes : List ℤ) (place : ℕ) (Fails : Plane → ℤ → Type 0) : Type 0 where
  pub front : List ℤ
  pub lane : ℤ
  pub back : List ℤ
  pub split : lanes ≡ front ++ (lane ∷ back)
  pub place_is : place ≡ length front + 1
  pub hits : List Hit
  pub hits_are : AreHits start front hits
  pub fails : Fails (what_is_left start hits) lane

-- all lanes have their hits, and of what they leave this holds
pub record HasLast (start : Plane) (salvo : RawSalvo) (Holds : Plane → Type 0) : Type 0 where
  pub hits : List Hit
  pub hits_are : AreHits start salvo.lanes hits
  pub holds : Holds (what_is_left start hits)

-- a salvo isn't sound for this cause
abbrev pub SalvoIsRefused : Plane → RawSalvo → SalvoRefusal → Type 0
SalvoIsRefused start salvo (Empty place) = IsFirstMissing start salvo.lanes place (λ struck lane. struck ≡ nothing)
SalvoIsRefused start salvo (NotSettled place) = IsFirstMissing start salvo.lanes place (λ struck lane. HasLife struck × HasNoHit struck lane)
SalvoIsRefused start salvo (EndDiffers cell) = HasLast start salvo (λ last. IsFirstDifferent last (stated_end start salvo) cell)
SalvoIsRefused start salvo ProductSplit = HasLast start salvo (λ last. (last ≡ stated_end start salvo) × (IsWhole (alive salvo.product) → ⊥))
SalvoIsRefused start salvo (HandNear cell) = HasLast start salvo (λ last. (last ≡ stated_end start salvo) × (IsWhole (alive salvo.product)
    × IsFirstOf (λ x y. (alive salvo.product x y ≡ true) × Close (left_hand start salvo.hand) x y) cell))
SalvoIsRefused start salvo Memory = Unit {0}

-- ---- parts of the test

-- a glider of the lane at this place has no hit
abbrev pub LaneIsRefused : Plane → ℤ → ℕ → SalvoRefusal → Type 0
LaneIsRefused struck lane at (Empty place) = (place ≡ at) × (struck ≡ nothing)
LaneIsRefused struck lane at (NotSettled place) = (place ≡ at) × (HasLife struck × HasNoHit struck lane)
LaneIsRefused struck lane at (EndDiffers cell) = ⊥
LaneIsRefused struck lane at ProductSplit = ⊥
LaneIsRefused struck lane at (HandNear cell) = ⊥
LaneIsRefused struck lane at Memory = Unit {0}

-- some lane has no hit
abbrev pub LanesAreRefused : Plane → List ℤ → SalvoRefusal → Type 0
LanesAreRefused start lanes (Empty place) = IsFirstMissing start lanes place (λ struck lane. struck ≡ nothing)
LanesAreRefused start lanes (NotSettled place) = IsFirstMissing start lanes place (λ struck lane. HasLife struck × HasNoHit struck lane)
LanesAreRefused start lanes (EndDiffers cell) = ⊥
LanesAreRefused start lanes ProductSplit = ⊥
LanesAreRefused start lanes (HandNear cell) = ⊥
LanesAreRefused start lanes Memory = Unit {0}

-- the first cell of a product within distance 2 of a hand
abbrev pub IsFirstNear : Plane → Plane → Cell → Type 0
IsFirstNear product hand cell = IsFirstOf (λ x y. (product x y ≡ true) × Close hand x y) cell

-- what is left isn't what is stated, or that is not in order
abbrev pub EndIsRefused : Plane → Plane → Plane → SalvoRefusal → Type 0
EndIsRefused last product hand (Empty place) = ⊥
EndIsRefused last product hand (NotSettled place) = ⊥
EndIsRefused last product hand (EndDiffers cell) = IsFirstDifferent last (union product hand) cell
EndIsRefused last product hand ProductSplit = (last ≡ union product hand) × (IsWhole product → ⊥)
EndIsRefused last product hand (HandNear cell) = (last ≡ union product hand) × (IsWhole product × IsFirstNear product hand cell)
EndIsRefused last product hand Memory = Unit {0}

-- what is left is the product and the hand, which are in order
pub record EndsWell (last product hand : Plane) : Type 0 where
  pub ends : last ≡ union product hand
  pub whole : IsWhole product
  pub clear : Apart product hand
