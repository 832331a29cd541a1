-- Names are plain text.
use Rattle.std.proofs.Common.{◌≡◌, ℕ, ◌<◌, true, List, [], ◌∷◌, zero, suc, arith, lit<}
use Rattle.std.specs.List.{list_all}
use Rattle.std.specs.Str.{IsAscii}
use Rattle.std.proofs.lemmas.Bool.{and_parts}
use Rattle.std.proofs.lemmas.Bool.Decides.{nat_tests}
use Rattle.book_parts.specs.Limits.{is_name_byte}

byte_small : (b : ℕ) → is_name_byte b ≡ true → b < 128
byte_small b h = grind (arith, nat_tests)

-- the bytes of a name are below 128
pub name_is_ascii : (text : List ℕ) → list_all is_name_byte text ≡ true → IsAscii text
name_is_ascii [] h i = lit< tt
name_is_ascii (b ∷ bs) h zero = byte_small b (and_parts (is_name_byte b) (list_all is_name_byte bs) h).0
name_is_ascii (b ∷ bs) h (suc i) = name_is_ascii bs (and_parts (is_name_byte b) (list_all is_name_byte bs) h).1 i
