-- The limits of what a book says, each in one place.
use Rattle.std.specs.Prelude.{◌≡◌, ℕ, ◌≤◌, ℤ, pos, neg_ℤ, nat_abs, ◌≤ℤ◌, ◌+ℤ◌, ◌*ℤ◌, List, ◌∷◌, length, codes, ◌≢◌, Bool, true, false, ◌&&◌, ◌||◌, nat_le, ◌==◌, []}
use Rattle.std.specs.List.{list_all}
use Rattle.life_plane.specs.Plane.{Plane}
use Rattle.life_plane.specs.Tracks.{gap}
use Rattle.book_parts.specs.declared.limits.TheConstants.{GREATEST_COORDINATE, MOST_LANES, MOST_GAPS, LONGEST_DELAY, LEAST_APPROACH, GREATEST_APPROACH, GREATEST_WALL, WALL_MARGIN, GREATEST_REACH, GREATEST_ROOM, GREATEST_SPAN, LONGEST_NAME}
use Rattle.book_parts.specs.declared.settings.Settings.{Settings}
use Rattle.book_parts.specs.declared.settings.Range.{Range}

-- z lies from the least to the greatest
pub record IsFrom (least greatest z : ℤ) : Type 0 where
  pub low : least ≤ℤ z
  pub high : z ≤ℤ greatest

-- how far from (0,0) a place of a book may be, right or left and up or down
abbrev pub farthest : ℕ
farthest = nat_abs GREATEST_COORDINATE

-- coordinates, shifts and lanes in a book lie from -2^30 to 2^30
abbrev pub IsCoordinate : ℤ → Type 0
IsCoordinate z = IsFrom (neg_ℤ GREATEST_COORDINATE) GREATEST_COORDINATE z

-- each live cell has coordinates that a book may have
pub record IsPlaced (s : Plane) : Type 0 where
  pub x : (x y : ℤ) → s x y ≡ true → IsCoordinate x
  pub y : (x y : ℤ) → s x y ≡ true → IsCoordinate y

-- the approach: a multiple of 4 from 20 to 4,096
pub record IsApproach (z : ℤ) : Type 0 where
  pub range : IsFrom LEAST_APPROACH GREATEST_APPROACH z
  pub quarters : ℤ
  pub multiple : z ≡ pos 4 *ℤ quarters

-- the finder's lanes: LOW at most HIGH, and from 1 to 64 of them in a list
pub record AreLanes (range : Range) : Type 0 where
  pub low : IsCoordinate range.low
  pub high : IsCoordinate range.high
  pub order : range.low ≤ℤ range.high
  pub some : 1 ≤ range.len
  pub few : range.len ≤ MOST_LANES

-- the finder's gaps: a stream's gap at most LOW, LOW at most HIGH, HIGH at most 65,536, and at most 63 of them in a list
pub record AreGaps (range : Range) : Type 0 where
  pub low : pos gap ≤ℤ range.low
  pub order : range.low ≤ℤ range.high
  pub high : range.high ≤ℤ LONGEST_DELAY
  pub few : range.len ≤ MOST_GAPS

-- the settings are within the limits, and the reach is past the wall by at least 9
pub record AreProper (settings : Settings) : Type 0 where
  pub approach : IsApproach settings.approach
  pub wall : IsFrom (pos 1) GREATEST_WALL settings.wall
  pub reach : IsFrom (settings.wall +ℤ WALL_MARGIN) GREATEST_REACH settings.reach
  pub corner_x : IsCoordinate settings.corner.x
  pub corner_y : IsCoordinate settings.corner.y
  pub room : IsFrom (pos 0) GREATEST_ROOM settings.room
  pub span : IsFrom (pos 0) GREATEST_SPAN settings.span
  pub lanes : AreLanes settings.lanes
  pub delays : AreGaps settings.delays

-- a letter a to z
abbrev pub is_letter : ℕ → Bool
is_letter b = nat_le 97 b && nat_le b 122

-- a letter, a digit or `_`
abbrev pub is_name_byte : ℕ → Bool
is_name_byte b = is_letter b || ((nat_le 48 b && nat_le b 57) || (b == 95))

abbrev pub begins_with_letter : List ℕ → Bool
begins_with_letter [] = false
begins_with_letter (b ∷ bs) = is_letter b

-- a name: from 1 to 32 letters, digits and `_`, the first a letter, and not `none`
pub record IsName (text : List ℕ) : Type 0 where
  pub first : begins_with_letter text ≡ true
  pub short : length text ≤ LONGEST_NAME
  pub bytes : list_all is_name_byte text ≡ true
  pub other : text ≢ codes "none"
