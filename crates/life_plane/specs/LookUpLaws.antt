-- What a look-up in a list answers, and what an answer says that is known.
use Rattle.std.specs.Prelude.{◌≡◌, ℕ, zero, suc, ◌≤◌, List, [], ◌∷◌, length, Option, Some, None, IfSome, IfNone, Bool, true, false, IsTrue, ◌↔◌}
use Rattle.std.specs.Borrow.{Bor}
use Rattle.std.specs.List.{slice_get}
use Rattle.std.specs.Option.{option_copied}
use Rattle.std.specs.Slice.{IsItemAt}
use Rattle.std.proofs.Common.{sym, ap, ◌∙◌, subst, arith}
use Rattle.std.proofs.lemmas.Option.{slice_get_past, slice_get-get_or}

-- a copy of what is found at a place
pub copied_item : {X : Type 0} (xs : List X) (i : ℕ) (r : Option (Bor X)) → IsItemAt xs i r → option_copied r ≡ slice_get xs i
copied_item xs i None h = sym (slice_get_past xs i h.3)
copied_item xs i (Some b) h = ap Some (h.3.1 b.now) ∙ sym (slice_get-get_or xs i b.now h.3.0)

-- where nothing is found the list has ended
pub past_end : {X : Type 0} (xs : List X) (k : ℕ) → None ≡ slice_get xs k → length xs ≤ k
past_end [] k h = omega arith
past_end (x ∷ xs) zero h = absurd (cc)
past_end (x ∷ xs) (suc k) h = let rest = past_end xs k h in omega arith

-- an answer that is none says what is said of none
pub when_none : {X : Type 0} (P : Type 0) (o : Option X) → o ≡ None → IfNone o P → P
when_none {X} P o is h = let R : Option X → Type 0 = λ p. IfNone p P in subst R is h

-- an answer that is some says what is said of it
pub when_some : {X : Type 0} (P : X → Type 0) (o : Option X) (x : X) → o ≡ Some x → IfSome o P → P x
when_some {X} P o x is h = let R : Option X → Type 0 = λ p. IfSome p P in let there : IfSome (Some x) P = subst R is h in there

-- what a failed test decides against
pub not_if_false : (b : Bool) (P : Type 0) → b ≡ false → IsTrue b ↔ P → P → ⊥
not_if_false true P is h p = cc
not_if_false false P is h p = let yes = h.1 p in cc
