-- Laws of lists that std lacks: what holds of each element, and what stands at a place.
use Rattle.std.specs.Prelude.{◌≡◌, ℕ, zero, suc, ◌<◌, List, [], ◌∷◌, ◌++◌, length, Option, Some}
use Rattle.std.specs.List.{AllByRecursion, slice_get}
use Rattle.std.proofs.Common.{refl, subst, get_or, arith}

-- two items at one place are one
pub same_item : {X : Type 0} {x y : X} {o : Option X} → o ≡ Some x → o ≡ Some y → x ≡ y
same_item p q = cc

-- what holds of each holds at a place
pub each_at : {X : Type 0} (P : X → Type 0) (xs : List X) → AllByRecursion P xs → (i : ℕ) (d : X) → i < length xs → P (get_or xs i d)
each_at P [] h i d lt = absurd (omega arith)
each_at P (x ∷ xs) h zero d lt = h.0
each_at P (x ∷ xs) h (suc i) d lt = each_at P xs h.1 i d (omega arith)

-- and of the item that stands there
pub all_at : {X : Type 0} (P : X → Type 0) (xs : List X) (k : ℕ) (x : X) → AllByRecursion P xs → slice_get xs k ≡ Some x → P x
all_at P [] k x h at = absurd (cc)
all_at P (y ∷ ys) zero x h at = subst P (same_item refl at) h.0
all_at P (y ∷ ys) (suc k) x h at = all_at P ys k x h.1 at

-- what holds at each place holds of each
pub all_at_places : {X : Type 0} (P : X → Type 0) (xs : List X) (z : X) → ((k : ℕ) → k < length xs → P (get_or xs k z)) → AllByRecursion P xs
all_at_places P [] z h = tt
all_at_places P (x ∷ xs) z h = (h 0 (omega arith), all_at_places P xs z (λ k lt. h (suc k) (omega arith)))

pub all_append : {X : Type 0} (P : X → Type 0) (xs ys : List X) → AllByRecursion P xs → AllByRecursion P ys → AllByRecursion P (xs ++ ys)
all_append P [] ys h k = k
all_append P (x ∷ xs) ys h k = (h.0, all_append P xs ys h.1 k)

-- what holds of each of two lists holds of each of the first, and of the second
pub all_front : {X : Type 0} (P : X → Type 0) (xs ys : List X) → AllByRecursion P (xs ++ ys) → AllByRecursion P xs
all_front P [] ys h = tt
all_front P (x ∷ xs) ys h = (h.0, all_front P xs ys h.1)

pub all_back : {X : Type 0} (P : X → Type 0) (xs ys : List X) → AllByRecursion P (xs ++ ys) → AllByRecursion P ys
all_back P [] ys h = h
all_back P (x ∷ xs) ys h = all_back P xs ys h.1

-- one more behind the others
pub all_push : {X : Type 0} (P : X → Type 0) (xs : List X) (x : X) → AllByRecursion P xs → P x → AllByRecursion P (xs ++ x ∷ [])
all_push P xs x h p = all_append P xs (x ∷ []) h (p, tt)

pub all_weaker : {X : Type 0} (P Q : X → Type 0) → ((x : X) → P x → Q x) → (xs : List X) → AllByRecursion P xs → AllByRecursion Q xs
all_weaker P Q f [] h = tt
all_weaker P Q f (x ∷ xs) h = (f x h.0, all_weaker P Q f xs h.1)

-- the front of two lists has its items where it had them
pub at_left : {X : Type 0} (xs ys : List X) (k : ℕ) → k < length xs → slice_get (xs ++ ys) k ≡ slice_get xs k
at_left [] ys k lt = absurd (omega arith)
at_left (x ∷ xs) ys zero lt = refl
at_left (x ∷ xs) ys (suc k) lt = at_left xs ys k (omega arith)
