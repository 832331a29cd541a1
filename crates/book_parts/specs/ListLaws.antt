-- Lists of a book, item by item.
use Rattle.std.proofs.Common.{◌≡◌, List, [], ◌∷◌, refl}
use Rattle.std.specs.List.{AllZip}

-- two lists that hold of a third place by place are one, where one thing at most holds of each
pub one_each : {A B : Type 0} (R : A → B → Type 0) → ((x : A) (y z : B) → R x y → R x z → y ≡ z) → (xs : List A) (ys zs : List B) → AllZip R xs ys → AllZip R xs zs → ys ≡ zs
one_each R one [] [] [] h k = refl
one_each R one [] [] (z ∷ zs) h k = absurd k
one_each R one [] (y ∷ ys) zs h k = absurd h
one_each R one (x ∷ xs) [] zs h k = absurd h
one_each R one (x ∷ xs) (y ∷ ys) [] h k = absurd k
one_each R one (x ∷ xs) (y ∷ ys) (z ∷ zs) h k = let first = one x y z h.0 k.0 in let rest = one_each R one xs ys zs h.1 k.1 in λ i. first i ∷ rest i
