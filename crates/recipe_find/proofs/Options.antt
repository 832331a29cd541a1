-- What is known where something was found, and where nothing was.
use Rattle.std.proofs.Common.{◌≡◌, Option, Some, None, refl, subst}
use Rattle.std.specs.Prelude.{IfSome, IfNone, MatchOption}

pub none_when : {A : Type 0} (o : Option A) (P : Type 0) → ((v : A) → o ≡ Some v → ⊥) → IfNone o P → P
none_when None P other h = h
none_when (Some v) P other h = absurd (other v refl)

pub unmatched_when : {A : Type 0} (o : Option A) (P : Type 0) (Q : A → Type 0) → ((v : A) → o ≡ Some v → ⊥) → MatchOption o P Q → P
unmatched_when None P Q other h = h
unmatched_when (Some v) P Q other h = absurd (other v refl)

pub some_when : {A : Type 0} (o : Option A) (v : A) (Q : A → Type 0) → o ≡ Some v → IfSome o Q → Q v
some_when o v Q is h = subst (λ x. IfSome x Q) is h

pub matched_when : {A : Type 0} (o : Option A) (v : A) (P : Type 0) (Q : A → Type 0) → o ≡ Some v → MatchOption o P Q → Q v
matched_when o v P Q is h = subst (λ x. MatchOption x P Q) is h
