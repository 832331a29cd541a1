-- Bytes of words: each is past the space.
use Rattle.std.proofs.Common.{◌≡◌, ℕ, ◌<◌, ◌≤◌, Bool, true, false, ◌==◌, ◌||◌, List, [], ◌∷◌, length, get_or, ap, arith, nat_lt}
use Rattle.std.specs.List.{list_all}
use Rattle.std.proofs.lemmas.Bool.{eqb-false}
use Rattle.life_rle.specs.ByteLaws.{weaker}
use Rattle.std.proofs.lemmas.Bool.Decides.{nat_tests}
use Rattle.book_parts.specs.Limits.{is_name_byte, IsName}

abbrev pub is_visible : ℕ → Bool
is_visible b = nat_lt 32 b

pub no_blank : (b : ℕ) → is_visible b ≡ true → (b == 32 || b == 9) ≡ false
no_blank b h = grind (arith, nat_tests)

pub name_byte_visible : (b : ℕ) → is_name_byte b ≡ true → is_visible b ≡ true
name_byte_visible b h = grind (arith, nat_tests)

pub digit_visible : (b : ℕ) → 48 ≤ b → b ≤ 57 → is_visible b ≡ true
digit_visible b h k = grind (arith, nat_tests)

-- texts that begin with other bytes are others
pub other_head : (a b : ℕ) (xs ys : List ℕ) → (a == b) ≡ false → a ∷ xs ≡ b ∷ ys → ⊥
other_head a b xs ys h e = eqb-false a b h (ap (λ (cs : List ℕ). get_or cs 0 0) e)

-- a text that may stand as a word of a line: not empty, and without a blank
pub record IsWord (word : List ℕ) : Type 0 where
  pub some : 0 < length word
  pub bytes : list_all is_visible word ≡ true

pub name_some : (text : List ℕ) → IsName text → 0 < length text
name_some [] h = let e = h.first in cc
name_some (b ∷ bs) h = omega arith

pub name_word : (text : List ℕ) → IsName text → IsWord text
name_word text h = record { some = name_some text h; bytes = weaker is_name_byte is_visible name_byte_visible text h.bytes }
