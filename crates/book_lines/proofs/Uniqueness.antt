-- A text spells one number.
use Rattle.std.proofs.Common.{◌≡◌, ℕ, ℤ, pos, neg_ℤ, ◌≤ℤ◌, List, [], ◌∷◌, true, inl, inr, sym, ap, ◌∙◌, subst}
use Rattle.std.specs.List.{AllZip}
use Rattle.std.specs.Str.{all_ascii_digits}
use Rattle.std.proofs.lemmas.Bool.{false≢true}
use lib.Signed.{le_z}
use Rattle.book_lines.specs.NumberLaws.{one_number}
use Rattle.book_lines.specs.Values.{IsNumber, IsNumberAt}
use Rattle.book_lines.specs.Values.Level.{Numbers}
use Rattle.book_lines.specs.Forms.{AreInOrder}
use Rattle.life_plane.specs.NumberLaws.{le_from_test, test_from_le}

pub one_list : (ts : List (List ℕ)) (zs ws : List ℤ) → AllZip (IsNumberAt Numbers) ts zs → AllZip (IsNumberAt Numbers) ts ws → zs ≡ ws
one_list [] [] [] h k = cc
one_list [] [] (w ∷ ws) h k = absurd k
one_list [] (z ∷ zs) ws h k = absurd h
one_list (t ∷ ts) [] ws h k = absurd h
one_list (t ∷ ts) (z ∷ zs) [] h k = absurd k
one_list (t ∷ ts) (z ∷ zs) (w ∷ ws) h k =
    let head = one_number t z w h.0 k.0 in
    let tail = one_list ts zs ws h.1 k.1 in
    cc

-- two numbers in order, and no others
pub order_known : (t u : List ℕ) (a b : ℤ) → IsNumber t a → IsNumber u b → a ≤ℤ b → AreInOrder t u
order_known t u a b h k l = λ low high p q. subst (λ (z : ℤ). z ≤ℤ high) (one_number t a low h p) (subst (λ (z : ℤ). a ≤ℤ z) (one_number u b high k q) l)

-- the test of their order
pub order_tested : (t u : List ℕ) (a b : ℤ) → IsNumber t a → IsNumber u b → (le_z a b ≡ true → AreInOrder t u) × (AreInOrder t u → le_z a b ≡ true)
order_tested t u a b h k = (λ e. order_known t u a b h k (le_from_test e), λ o. test_from_le (o a b h k))
