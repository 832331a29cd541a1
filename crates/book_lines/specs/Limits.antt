-- What the numbers and counts of a book are held against.
use Rattle.std.specs.Prelude.{ℤ, pos, ◌≤ℤ◌, List, [], ◌∷◌}
use Rattle.life_plane.specs.Tracks.{gap}
use Rattle.book_parts.specs.declared.limits.TheConstants.{MOST_GAPS, MOST_LANES, LONGEST_DELAY, LONGEST_TURN, GREATEST_WALL, GREATEST_REACH, GREATEST_ROOM, GREATEST_SPAN}
use Rattle.book_parts.specs.Limits.{IsFrom, IsCoordinate, IsApproach}
use Rattle.book_parts.specs.Proper.{IsDelay, IsIndex}
use Rattle.book_lines.specs.declared.book_word.BookWord.{BookWord}
use Rattle.book_lines.specs.declared.book_word.BookWord.TheVariants.{Approach, Wall, Reach, Corner, Room, Span, Lanes, Delays}
use Rattle.book_lines.specs.declared.limit.Limit.{Limit}
use Rattle.book_lines.specs.declared.limit.Limit.TheVariants as limit

-- a number is within a limit
abbrev pub IsWithin : Limit → ℤ → Type 0
IsWithin limit.Approach z = IsApproach z
IsWithin limit.Wall z = IsFrom (pos 1) GREATEST_WALL z
IsWithin limit.Reach z = IsFrom (pos 1) GREATEST_REACH z
IsWithin limit.Coordinate z = IsCoordinate z
IsWithin limit.Room z = IsFrom (pos 0) GREATEST_ROOM z
IsWithin limit.Span z = IsFrom (pos 0) GREATEST_SPAN z
IsWithin limit.LanesLength z = IsFrom (pos 1) (pos MOST_LANES) z
IsWithin limit.LeastGap z = pos gap ≤ℤ z
IsWithin limit.GreatestGap z = z ≤ℤ LONGEST_DELAY
IsWithin limit.GapsLength z = IsFrom (pos 0) (pos MOST_GAPS) z
IsWithin limit.Time z = IsFrom (pos 0) (pos LONGEST_TURN) z
IsWithin limit.Delay z = IsDelay z
IsWithin limit.Index z = IsIndex z
IsWithin (limit.Count most) z = z ≤ℤ pos most

-- the limits of a setting's numbers, in the order of its line; none where the word is no setting
abbrev pub limits : BookWord → List Limit
limits Approach = limit.Approach ∷ []
limits Wall = limit.Wall ∷ []
limits Reach = limit.Reach ∷ []
limits Corner = limit.Coordinate ∷ (limit.Coordinate ∷ [])
limits Room = limit.Room ∷ []
limits Span = limit.Span ∷ []
limits Lanes = limit.Coordinate ∷ (limit.Coordinate ∷ (limit.LanesLength ∷ []))
limits Delays = limit.LeastGap ∷ (limit.GreatestGap ∷ (limit.GapsLength ∷ []))
limits other = []
