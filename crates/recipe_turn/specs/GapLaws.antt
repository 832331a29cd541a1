-- Laws of the gaps of a turn.
use Rattle.std.proofs.Common.{◌≡◌, ℕ, zero, suc, ◌+◌, ℤ, List, [], ◌∷◌, ◌++◌, length, take, append_assoc, sym, ap, subst, ◌∙◌}
use Rattle.std.proofs.lemmas.List.{take_at, length_push}
use Rattle.recipe_turn.specs.Turn.{AreSpaced, AreSpacedFrom}
use Rattle.recipe_turn.specs.Gaps.{AreApart, AreApartFrom, IsFirstNarrow}

-- delays that are spaced are apart
apart_from_spaced : (before : ℤ) (ds : List ℤ) (n : ℤ) → AreSpacedFrom before ds n → AreApartFrom before ds
apart_from_spaced before [] n h = tt
apart_from_spaced before (d ∷ ds) n h = (h.0, apart_from_spaced d ds n h.1)

pub spaced_apart : (ds : List ℤ) (n : ℤ) → AreSpaced ds n → AreApart ds
spaced_apart [] n h = absurd h
spaced_apart (d ∷ ds) n h = (h.0, apart_from_spaced d ds n h.1)

from_take : (before : ℤ) (ds : List ℤ) (n : ℕ) → AreApartFrom before ds → AreApartFrom before (take n ds)
from_take before [] zero h = tt
from_take before [] (suc n) h = tt
from_take before (d ∷ ds) zero h = tt
from_take before (d ∷ ds) (suc n) h = (h.0, from_take d ds n h.1)

-- the first of delays that are apart are
pub apart_take : (ds : List ℤ) (n : ℕ) → AreApart ds → AreApart (take n ds)
apart_take [] zero h = tt
apart_take [] (suc n) h = tt
apart_take (d ∷ ds) zero h = tt
apart_take (d ∷ ds) (suc n) h = (h.0, from_take d ds n h.1)

-- the delays up to a narrow gap
pub take_narrow : (ds front back : List ℤ) (here : ℤ) → ds ≡ front ++ (here ∷ back) → take (length front + 1) ds ≡ front ++ (here ∷ [])
take_narrow ds front back here split =
    ap (take (length front + 1)) (split ∙ sym (append_assoc front (here ∷ []) back)) ∙ take_at (front ++ (here ∷ [])) back (length front + 1) (length_push front here)

-- delays with a narrow gap aren't apart
pub narrow_not_apart : (ds : List ℤ) (place : ℕ) → IsFirstNarrow ds place → AreApart ds → ⊥
narrow_not_apart ds place n h = n.narrow (subst AreApart (take_narrow ds n.front n.back n.here n.split) (apart_take ds (length n.front + 1) h))
