-- A text spells one number.
use Rattle.std.proofs.Common.{◌≡◌, ℕ, ℤ, pos, neg_ℤ, List, ◌∷◌, true, inl, inr, sym, ap, ◌∙◌, subst}
use Rattle.std.specs.Str.{all_ascii_digits}
use Rattle.std.proofs.lemmas.Bool.{false≢true}
use Rattle.book_lines.specs.Values.{IsNumber}

-- a text spells one number at most
pub one_number : (text : List ℕ) (z w : ℤ) → IsNumber text z → IsNumber text w → z ≡ w
one_number text z w (inl a) (inl b) = let e : a.0 ≡ b.0 = sym a.1.0.is ∙ b.1.0.is in a.1.1 ∙ ap pos e ∙ sym b.1.1
one_number text z w (inl a) (inr b) = absurd (false≢true (subst (λ (t : List ℕ). all_ascii_digits t ≡ true) b.1.1.0 a.1.0.digits.digits))
one_number text z w (inr a) (inl b) = absurd (false≢true (subst (λ (t : List ℕ). all_ascii_digits t ≡ true) a.1.1.0 b.1.0.digits.digits))
one_number text z w (inr a) (inr b) =
    let same : a.0 ≡ b.0 = cc (a.1.1.0, b.1.1.0) in
    let spelled = a.1.1.1.0.is in
    let spelled_too = b.1.1.1.0.is in
    let e : a.1.0 ≡ b.1.0 = cc in
    a.1.1.1.1 ∙ ap (λ (n : ℕ). neg_ℤ (pos n)) e ∙ sym b.1.1.1.1
