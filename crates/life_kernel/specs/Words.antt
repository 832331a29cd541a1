-- Words of 64 cells side by side, and the planes that they make.
use Rattle.std.specs.Prelude.{◌≡◌, ℕ, suc, ◌+◌, ◌<◌, Bool, ℤ, pos, ◌+ℤ◌, ◌-ℤ◌, unsigned_abs}
use Rattle.std.specs.Int.{int_div_euclid, int_rem_euclid}
use Rattle.life_plane.specs.Plane.{Plane, one_if, lives_on}
use Rattle.life_kernel.specs.declared.row.Row.{Row}
use Rattle.life_kernel.specs.Rows.{test, column}

-- The cells of a row's middle word and their two neighbours: 0 is the cell to its west, 1 to 64 are its bits 0 to 63, and 65 is
-- the cell to its east.
unfoldable pub spread : Row → ℕ → Bool
spread row = column row.here (test row.west 63) (test row.east 0)

-- the next generation of the cell in bit k of the middle word of the middle one of three rows
unfoldable pub next_bit : Row → Row → Row → ℕ → Bool
next_bit above here below k =
    lives_on (spread here (suc k))
    (one_if (spread above k) + one_if (spread above (suc k)) + one_if (spread above (suc (suc k)))
    + one_if (spread here k) + one_if (spread here (suc (suc k)))
    + one_if (spread below k) + one_if (spread below (suc k)) + one_if (spread below (suc (suc k))))

-- each bit of the word is the rule on the middle word of the three rows
pub record IsNextWord (above here below : Row) (next : ℕ) : Type 0 where
  pub bits : (k : ℕ) → k < 64 → test next k ≡ next_bit above here below k

-- the numbers fall into parts of 64; the one that has z, and how far z is into it
unfoldable pub part : ℤ → ℤ
part z = int_div_euclid z (pos 64)

unfoldable pub offset : ℤ → ℕ
offset z = unsigned_abs (int_rem_euclid z (pos 64))

-- the word of a column and a row: that in column c has the cells from x = 64 c to 64 c + 63
abbrev pub Words : Type 0
Words = ℤ → ℤ → ℕ

-- the cells of words as a plane
unfoldable pub plane_of_words : Words → Plane
plane_of_words words x y = test (words (part x) y) (offset x)

-- three words of a row, about the one in column c
abbrev pub row_of_words : Words → ℤ → ℤ → Row
row_of_words words c y = record { west = words (c -ℤ pos 1) y; here = words c y; east = words (c +ℤ pos 1) y }

-- each word of the second is the next generation of that of the first
pub record AreNextWords (words next : Words) : Type 0 where
  pub each : (c y : ℤ) → IsNextWord (row_of_words words c (y -ℤ pos 1)) (row_of_words words c y) (row_of_words words c (y +ℤ pos 1)) (next c y)
