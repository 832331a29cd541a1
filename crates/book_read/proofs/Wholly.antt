-- All of a book is stated.
use Rattle.std.proofs.Common.{◌≡◌, ℕ, ℤ, pos, List, [], ◌∷◌, true, false, Option, Some, None, IsSome, rules, refl, ◌+ℤ◌, ◌<ℤ◌, ◌≤ℤ◌, negsuc, ap, arith}
use lib.Signed.{lt_z}
use mir.Syntax.{w64}
use mir.Val.{SFits, of_z, to_z}
use Rattle.std.proofs.lemmas.Int.{ints, to_z-of_z}
use Rattle.book_parts.specs.Limits.{IsFrom}
use Rattle.life_cells.specs.Cells.{Cells}
use Rattle.book_parts.specs.declared.settings.Settings.{Settings}
use Rattle.book_lines.specs.declared.book_word.BookWord.{BookWord}
use Rattle.book_lines.specs.declared.book_word.BookWord.TheVariants as word
use Rattle.book_read.specs.declared.draft.Draft.{Draft}
use Rattle.book_read.specs.Book.{Said, whole}
use Rattle.book_read.specs.Stated.{setting_numbers}
use Rattle.book_read.specs.Drafted.{stated_of, IsKept}
use Rattle.book_parts.specs.declared.limits.TheConstants.{GREATEST_WALL, WALL_MARGIN}

abbrev pub said_of : Draft → Settings → Cells → ℕ → Said
said_of draft settings hand start =
    record { settings = settings; hand = hand; kinds = draft.kinds.items; start = start; turns = draft.turns.items; salvos = draft.salvos.items }

pub all_stated : (draft : Draft) (settings : Settings) (hand : Cells) (start : ℕ) → (stated_of draft).settings ≡ setting_numbers settings → draft.hand ≡ Some hand → draft.start ≡ Some start
    → stated_of draft ≡ whole (said_of draft settings hand start)
all_stated draft settings hand start h e f = λ i. record {
  settings = h i;
  hand = e i;
  kinds = draft.kinds.items;
  start = f i;
  turns = draft.turns.items;
  salvos = draft.salvos.items;
}

-- what isn't missing is there
pub some_of : {V : Type 0} (o : Option V) → (o ≡ None → ⊥) → (v : V) × (o ≡ Some v)
some_of None there = absurd (there refl)
some_of (Some v) there = (v, refl)

pub is_some_of : {V : Type 0} (o : Option V) → (o ≡ None → ⊥) → IsSome o
is_some_of None there = absurd (there refl)
is_some_of (Some v) there = search rules

-- ---- the reach and the wall

small_fits : (z : ℤ) → pos 1 ≤ℤ z → z ≤ℤ (GREATEST_WALL +ℤ WALL_MARGIN) → SFits w64 z
small_fits (pos n) low high = record { sfits = omega (arith, ints) }
small_fits (negsuc n) low high = absurd (omega (arith, ints))

pub margin_fits : (wall : ℤ) → IsFrom (pos 1) GREATEST_WALL wall → SFits w64 (to_z w64 (of_z w64 wall) +ℤ WALL_MARGIN)
margin_fits wall h =
    let low = h.low in
    let high = h.high in
    rw (to_z-of_z w64 wall (small_fits wall low (omega (arith, ints)))) (small_fits (wall +ℤ WALL_MARGIN) (omega (arith, ints)) (omega (arith, ints)))

-- what the test of the reach says
pub reach_near : (wall reach : ℤ) → IsFrom (pos 1) GREATEST_WALL wall → SFits w64 reach
    → lt_z (to_z w64 (of_z w64 reach)) (to_z w64 (of_z w64 (to_z w64 (of_z w64 wall) +ℤ WALL_MARGIN))) ≡ true → reach <ℤ (wall +ℤ WALL_MARGIN)
reach_near wall reach h fits e =
    let low = h.low in
    let high = h.high in
    let fits_wall : SFits w64 wall = small_fits wall low (omega (arith, ints)) in
    let fits_sum : SFits w64 (wall +ℤ WALL_MARGIN) = small_fits (wall +ℤ WALL_MARGIN) (omega (arith, ints)) (omega (arith, ints)) in
    let test = rw (to_z-of_z w64 reach fits, to_z-of_z w64 wall fits_wall, to_z-of_z w64 (wall +ℤ WALL_MARGIN) fits_sum) at e in
    tested reach (wall +ℤ WALL_MARGIN) test
  where
    tested : (a b : ℤ) → lt_z a b ≡ true → a <ℤ b
    tested a b e = grind (arith, ints)

pub reach_far : (wall reach : ℤ) → IsFrom (pos 1) GREATEST_WALL wall → SFits w64 reach
    → lt_z (to_z w64 (of_z w64 reach)) (to_z w64 (of_z w64 (to_z w64 (of_z w64 wall) +ℤ WALL_MARGIN))) ≡ false → (wall +ℤ WALL_MARGIN) ≤ℤ reach
reach_far wall reach h fits e =
    let low = h.low in
    let high = h.high in
    let fits_wall : SFits w64 wall = small_fits wall low (omega (arith, ints)) in
    let fits_sum : SFits w64 (wall +ℤ WALL_MARGIN) = small_fits (wall +ℤ WALL_MARGIN) (omega (arith, ints)) (omega (arith, ints)) in
    let test = rw (to_z-of_z w64 reach fits, to_z-of_z w64 wall fits_wall, to_z-of_z w64 (wall +ℤ WALL_MARGIN) fits_sum) at e in
    tested reach (wall +ℤ WALL_MARGIN) test
  where
    tested : (a b : ℤ) → lt_z a b ≡ false → b ≤ℤ a
    tested a b e = grind (arith, ints)

-- a stated wall is within its limits
pub wall_from : (draft : Draft) (settings : Settings) → IsKept draft → (stated_of draft).settings ≡ setting_numbers settings → IsFrom (pos 1) GREATEST_WALL settings.wall
wall_from draft settings kept told = (kept.settings word.Wall (settings.wall ∷ []) (ap (λ (f : BookWord → Option (List ℤ)). f word.Wall) told)).each.0
