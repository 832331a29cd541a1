-- The laws of the sound entries of a book.
use Rattle.std.specs.Prelude.{◌≡◌, List, [], ◌∷◌}
use Rattle.std.proofs.Common.{sym, ap, ◌∙◌, inl, inr}
use Rattle.recipe_book.specs.Entries.{AreThose}

-- those of a list for which something holds are one list
pub those_once : {A : Type 0} (P : A → Type 0) (xs a b : List A) → AreThose P xs a → AreThose P xs b → a ≡ b
those_once P [] a b h k = h ∙ sym k
those_once {A} P (x ∷ xs) a b (inl h) (inl k) = h.1.1.0 ∙ ap (λ (rest : List A). x ∷ rest) (those_once P xs h.1.0 k.1.0 h.1.1.1 k.1.1.1) ∙ sym k.1.1.0
those_once P (x ∷ xs) a b (inl h) (inr k) = absurd (k.0 h.0)
those_once P (x ∷ xs) a b (inr h) (inl k) = absurd (h.0 k.0)
those_once P (x ∷ xs) a b (inr h) (inr k) = those_once P xs a b h.1 k.1
