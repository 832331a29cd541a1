-- Names and numbers of kinds.
use Rattle.std.proofs.Common.{◌≡◌, ◌≢◌, ℕ, zero, suc, ◌+◌, ◌≤◌, true, false, List, [], ◌∷◌, ◌++◌, length, map, refl, sym, ap, ◌∙◌, arith, Some, Option, IsSome, unwrap_or, is_some}
use Rattle.std.specs.List.{AllByRecursion}
use Rattle.std.specs.Str.{bytes_eq}
use Rattle.std.proofs.lemmas.Slice.Eq.{bytes_eq-Decides}
use Rattle.book_parts.specs.Limits.{IsName}
use Rattle.book_parts.specs.Proper.{IsKindNumber, IsNoneOf, AreDistinct, IsProperKind}
use Rattle.book_parts.specs.declared.kind.RawKind.{RawKind}
use Rattle.book_read.specs.Names.{number_from, number_of, known_number}
use Rattle.book_write.specs.Parts.{kind_name}

-- ---- distinct names

none_after : (xs : List (List ℕ)) (y : List ℕ) (ys : List (List ℕ)) (x : List ℕ) → IsNoneOf (xs ++ (y ∷ ys)) x → y ≢ x
none_after [] y ys x h = h.0
none_after (z ∷ xs) y ys x h = none_after xs y ys x h.1

-- a name is none of those before it
pub none_before : (xs : List (List ℕ)) (y : List ℕ) (ys : List (List ℕ)) → AreDistinct (xs ++ (y ∷ ys)) → IsNoneOf xs y
none_before [] y ys h = tt
none_before (x ∷ xs) y ys h = ((λ e. none_after xs y ys x h.0 (sym e)), none_before xs y ys h.1)

-- ---- the kind with a number

-- the number of the kind with a name, counted from 1, is this
pub record IsKnown (kinds : List RawKind) (name : List ℕ) (k : ℕ) : Type 0 where
  pub known : IsSome (number_of kinds name)
  pub number : known_number kinds name ≡ k

-- a kind's name is among the names
none_at : (kinds : List RawKind) (k : ℕ) (x : List ℕ) → 1 ≤ k → k ≤ length kinds → IsNoneOf (map (λ (kind : RawKind). kind.name) kinds) x → kind_name kinds k ≢ x
none_at [] k x some most h = absurd (omega arith)
none_at (kind ∷ kinds) zero x some most h = absurd (omega arith)
none_at (kind ∷ kinds) (suc zero) x some most h = h.0
none_at (kind ∷ kinds) (suc (suc k)) x some most h = none_at kinds (suc k) x (omega arith) (omega arith) h.1

differs : (xs ys : List ℕ) → xs ≢ ys → bytes_eq xs ys ≡ false
differs xs ys n = elim (bytes_eq xs ys) as (λ v. bytes_eq xs ys ≡ v → v ≡ false) [ true ↦ λ e. absurd (n ((bytes_eq-Decides xs ys).0 e)) | false ↦ λ e. refl ] refl

found_from : (kinds : List RawKind) (k n m : ℕ) (name : List ℕ) → 1 ≤ k → k ≤ length kinds → AreDistinct (map (λ (kind : RawKind). kind.name) kinds) → name ≡ kind_name kinds k → m + 1 ≡ n + k → number_from n kinds name ≡ Some m
found_from [] k n m name some most d e c = absurd (omega arith)
found_from (kind ∷ kinds) zero n m name some most d e c = absurd (omega arith)
found_from (kind ∷ kinds) (suc zero) n m name some most d e c = let same : n ≡ m = omega arith in rw ((bytes_eq-Decides name kind.name).1 e) (ap Some same)
found_from (kind ∷ kinds) (suc (suc k)) n m name some most d e c =
    let other : bytes_eq name kind.name ≡ false = differs name kind.name (λ same. none_at kinds (suc k) kind.name (omega arith) (omega arith) d.0 (sym e ∙ same)) in
    rw other (found_from kinds (suc k) (n + 1) m name (omega arith) (omega arith) d.1 e (omega arith))

-- a kind is known by its name
pub kind_known : (kinds : List RawKind) (k : ℕ) → IsKindNumber (length kinds) k → AreDistinct (map (λ (kind : RawKind). kind.name) kinds) → IsKnown kinds (kind_name kinds k) k
kind_known kinds k h d =
    let e = found_from kinds k 1 k (kind_name kinds k) h.some h.most d refl (omega arith) in
    record { known = ap is_some e; number = ap (λ (o : Option ℕ). unwrap_or o 0) e }

pub name_of_kind : (kinds : List RawKind) (k : ℕ) → IsKindNumber (length kinds) k → AllByRecursion IsProperKind kinds → IsName (kind_name kinds k)
name_of_kind kinds k h each = named kinds k h.some h.most each
  where
    named : (kinds : List RawKind) (k : ℕ) → 1 ≤ k → k ≤ length kinds → AllByRecursion IsProperKind kinds → IsName (kind_name kinds k)
    named [] k some most each = absurd (omega arith)
    named (kind ∷ kinds) zero some most each = absurd (omega arith)
    named (kind ∷ kinds) (suc zero) some most each = each.0.name
    named (kind ∷ kinds) (suc (suc k)) some most each = named kinds (suc k) (omega arith) (omega arith) each.1
