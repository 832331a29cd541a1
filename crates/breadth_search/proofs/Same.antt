-- What a set of states holds after an insertion, and where a state stands in it.
use Rattle.std.proofs.Common.{◌≡◌, ℕ, ◌<◌, Bool, true, false, not, MatchBool, subst, List, [], ◌∷◌, ◌++◌, length, get_or, Option, Some, None, IfSome, position, refl, sym, ap, ◌∙◌}
use Rattle.std.specs.Bool.{if◌then◌else◌}
use Rattle.std.specs.List.{list_any, Contains, slice_get}
use Rattle.std.proofs.lemmas.List.Quantifiers.{position-Some}
use Rattle.std.proofs.lemmas.Option.{slice_get-get_or}
use Rattle.std.proofs.lemmas.Map.Views.{Contains-from_any}
use Rattle.indexmap.specs.IndexSet.{insert_key}

pub at_false : (P Q : Type 0) (b : Bool) → b ≡ false → Q → MatchBool b P Q
at_false P Q b is q = let R : Bool → Type 0 = λ c. MatchBool c P Q in subst R (sym is) q

-- a state that is found already changes nothing
pub known : {S : Type 0} (eq : S → S → Bool) → ((a b : S) → eq a b ≡ true → a ≡ b) → (now after : List S) (next : S) → not (list_any (eq next) now) ≡ false → after ≡ insert_key eq now next → (after ≡ now) × Contains now next
known {S} eq same now after next old is = by (list_any (eq next) now) refl old is
  where
    by : (b : Bool) → list_any (eq next) now ≡ b → not b ≡ false → after ≡ (if b then now else now ++ next ∷ []) → (after ≡ now) × Contains now next
    by true among old is = (is, Contains-from_any same next now among)
    by false none old is = cc

-- the place that is answered for a state is one at which it stands
pub place_found : {S : Type 0} (eq : S → S → Bool) → ((a b : S) → eq a b ≡ true → a ≡ b) → (states : List S) (state : S) (answer : Option ℕ) → answer ≡ position (eq state) states →
    IfSome answer (λ place. (place < length states) × (slice_get states place ≡ Some state))
place_found {S} eq same states state None is = tt
place_found {S} eq same states state (Some place) is =
    let there = position-Some (eq state) states place state (sym is) in
    (there.0, slice_get-get_or states place state there.0 ∙ ap Some (sym (same state (get_or states place state) there.1)))
