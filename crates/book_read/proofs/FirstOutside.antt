-- The first number outside its limits, among the numbers of lists.
use Rattle.std.proofs.Common.{◌≡◌, ℕ, ◌+◌, ◌<◌, ℤ, List, [], ◌∷◌, ◌++◌, length, take, get_or, map, flat_map, ◌⊎◌, inl, inr, Option, Some, None, zero, suc, refl, sym, ap, subst, arith, add-one, true, false, is_some}
use Rattle.book_lines.specs.declared.limit.Limit.{Limit}
use Rattle.std.specs.Option.{option_or}
use Rattle.std.specs.List.{zip}
use Rattle.book_lines.specs.Limits.{IsWithin}
use Rattle.book_read.specs.Limited.{Limited, held, IsFirstOutside}

pub first_append : (ns ms : List Limited) (a b : Option ℤ) → IsFirstOutside ns a → IsFirstOutside ms b → IsFirstOutside (ns ++ ms) (option_or a b)
first_append [] ms a b e k = subst (λ (o : Option ℤ). IsFirstOutside ms (option_or o b)) (sym e) k
first_append (n ∷ ns) ms a b (inl h) k = inl (h.0, first_append ns ms a b h.1 k)
first_append (n ∷ ns) ms a b (inr h) k = inr (h.0, subst (λ (o : Option ℤ). option_or o b ≡ Some n.number) (sym h.1) refl)

-- behind numbers within their limits
pub first_behind : (ns ms : List Limited) (b : Option ℤ) → IsFirstOutside ns None → IsFirstOutside ms b → IsFirstOutside (ns ++ ms) b
first_behind ns ms b h k = first_append ns ms None b h k

-- a number that is outside decides
pub first_there : (ns ms : List Limited) (z : ℤ) → IsFirstOutside ns (Some z) → IsFirstOutside (ns ++ ms) (Some z)
first_there [] ms z h = absurd (cc h)
first_there (n ∷ ns) ms z (inl h) = inl (h.0, first_there ns ms z h.1)
first_there (n ∷ ns) ms z (inr h) = inr h

-- ---- lists, an item at a time

split_more : (ns ms more : List Limited) → (IsFirstOutside ms None → IsFirstOutside more None) → IsFirstOutside (ns ++ ms) None → IsFirstOutside (ns ++ more) None
split_more [] ms more next g = next g
split_more (n ∷ ns) ms more next (inl g) = inl (g.0, split_more ns ms more next g.1)
split_more (n ∷ ns) ms more next (inr g) = absurd (cc g.1)

split_found : (ns ms more : List Limited) (z : ℤ) → (IsFirstOutside ms None → IsFirstOutside more (Some z)) → IsFirstOutside (ns ++ ms) None → IsFirstOutside (ns ++ more) (Some z)
split_found [] ms more z next g = next g
split_found (n ∷ ns) ms more z next (inl g) = inl (g.0, split_found ns ms more z next g.1)
split_found (n ∷ ns) ms more z next (inr g) = absurd (cc g.1)

pub first_more : {V : Type 0} (f : V → List Limited) (xs : List V) (i : ℕ) (d : V) → i < length xs → IsFirstOutside (flat_map f (take i xs)) None → IsFirstOutside (f (get_or xs i d)) None
    → IsFirstOutside (flat_map f (take (i + 1) xs)) None
first_more f [] i d l h k = absurd (omega arith)
first_more f (x ∷ xs) zero d l h k = first_behind (f x) [] None k refl
first_more f (x ∷ xs) (suc i) d l h k =
    rw (add-one (suc i)) (split_more (f x) (flat_map f (take i xs)) (flat_map f (take (suc i) xs)) (λ g. rw (add-one i) at (first_more f xs i d (omega arith) g k)) h)

pub first_found_at : {V : Type 0} (f : V → List Limited) (xs : List V) (i : ℕ) (d : V) (z : ℤ) → i < length xs → IsFirstOutside (flat_map f (take i xs)) None → IsFirstOutside (f (get_or xs i d)) (Some z)
    → IsFirstOutside (flat_map f xs) (Some z)
first_found_at f [] i d z l h k = absurd (omega arith)
first_found_at f (x ∷ xs) zero d z l h k = first_there (f x) (flat_map f xs) z k
first_found_at f (x ∷ xs) (suc i) d z l h k = split_found (f x) (flat_map f (take i xs)) (flat_map f xs) z (λ g. first_found_at f xs i d z (omega arith) g k) h

-- the same, where the answer for the item is an option that is some
pub first_some_at : {V : Type 0} (f : V → List Limited) (xs : List V) (i : ℕ) (d : V) (o : Option ℤ) → i < length xs → true ≡ is_some o → IsFirstOutside (flat_map f (take i xs)) None → IsFirstOutside (f (get_or xs i d)) o
    → IsFirstOutside (flat_map f xs) o
first_some_at f xs i d None l e h k = absurd (cc e)
first_some_at f xs i d (Some z) l e h k = first_found_at f xs i d z l h k

pub none_is : (ns : List Limited) (o : Option ℤ) → false ≡ is_some o → IsFirstOutside ns o → IsFirstOutside ns None
none_is ns None e h = h
none_is ns (Some z) e h = absurd (cc e)

pub one_each : (limit : Limit) (zs : List ℤ) → flat_map (λ z. held limit z ∷ []) zs ≡ map (held limit) zs
one_each limit [] = refl
one_each limit (z ∷ zs) = ap (λ (ns : List Limited). held limit z ∷ ns) (one_each limit zs)

-- ---- numbers, each with a limit of its own

abbrev pub held_each : List Limit → List ℤ → List Limited
held_each ls zs = map (λ (p : Limit × ℤ). held p.0 p.1) (zip ls zs)

pub each_same : (ls ms : List Limit) (zs ys : List ℤ) (found : Option ℤ) → ls ≡ ms → zs ≡ ys → IsFirstOutside (held_each ls zs) found → IsFirstOutside (held_each ms ys) found
each_same ls ms zs ys found e f h = subst (λ (xs : List Limit). IsFirstOutside (held_each xs ys) found) e (subst (λ (xs : List ℤ). IsFirstOutside (held_each ls xs) found) f h)

pub each_within : (ls more : List Limit) (zs rest : List ℤ) (l : Limit) (z : ℤ) (found : Option ℤ) → ls ≡ l ∷ more → zs ≡ z ∷ rest → IsWithin l z → IsFirstOutside (held_each more rest) found → IsFirstOutside (held_each ls zs) found
each_within ls more zs rest l z found e f within h = rw (e, f) (inl (within, h))

pub each_outside : (ls more : List Limit) (zs rest : List ℤ) (l : Limit) (z : ℤ) → ls ≡ l ∷ more → zs ≡ z ∷ rest → (IsWithin l z → ⊥) → IsFirstOutside (held_each ls zs) (Some z)
each_outside ls more zs rest l z e f outside = rw (e, f) (inr (outside, refl))

pub each_none : (ls : List Limit) (zs : List ℤ) → (ls ≡ []) ⊎ (zs ≡ []) → IsFirstOutside (held_each ls zs) None
each_none [] zs h = refl
each_none (l ∷ ls) [] h = refl
each_none (l ∷ ls) (z ∷ zs) (inl e) = absurd (cc e)
each_none (l ∷ ls) (z ∷ zs) (inr e) = absurd (cc e)
