-- The numbers of generations that are tried.
use Rattle.std.proofs.Common.{◌≡◌, ℕ, zero, suc, ◌+◌, ◌<◌, ℤ, pos, ◌+ℤ◌, ◌≤ℤ◌, List, [], ◌∷◌, length, get_or, refl, arith}
use Rattle.life_plane.specs.Tracks.{gap}
use Rattle.recipe_turn.specs.Gaps.{AreApart, AreApartFrom}
use Rattle.recipe_turn.specs.Turn.{AreSpaced, AreSpacedFrom}
use Rattle.find_turn.specs.Found.{last_delay}

-- the delay at the last place
pub last_at : (ds : List ℤ) (k : ℕ) → k + 1 ≡ length ds → get_or ds k (pos 0) ≡ last_delay ds
last_at [] k is = absurd (omega arith)
last_at (d ∷ []) zero is = refl
last_at (d ∷ []) (suc k) is = absurd (omega arith)
last_at (d ∷ (e ∷ ds)) zero is = absurd (omega arith)
last_at (d ∷ (e ∷ ds)) (suc k) is = last_at (e ∷ ds) k (omega arith)

-- ---- gaps

spaced_from : (before : ℤ) (ds : List ℤ) (n : ℤ) → AreApartFrom before ds → (last_delay (before ∷ ds) +ℤ pos gap) ≤ℤ n → AreSpacedFrom before ds n
spaced_from before [] n h end_after = end_after
spaced_from before (d ∷ ds) n h end_after = (h.0, spaced_from d ds n h.1 end_after)

-- delays that are apart, with the end a gap after the last
pub spaced : (ds : List ℤ) (n : ℤ) → 0 < length ds → AreApart ds → (last_delay ds +ℤ pos gap) ≤ℤ n → AreSpaced ds n
spaced [] n some h end_after = absurd (omega arith)
spaced (d ∷ ds) n some h end_after = (h.0, spaced_from d ds n h.1 end_after)
