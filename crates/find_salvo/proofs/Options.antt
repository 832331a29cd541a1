-- What holds where there is something, and where there is nothing.
use Rattle.std.proofs.Common.{◌≡◌, Option, Some, None, subst}
use Rattle.std.specs.Option.{IfSome, IfNone}

pub when_none : {X : Type 0} (P : Type 0) (o : Option X) → o ≡ None → IfNone o P → P
when_none {X} P o is h = let R : Option X → Type 0 = λ p. IfNone p P in subst R is h

pub when_some : {X : Type 0} (P : X → Type 0) (o : Option X) (x : X) → o ≡ Some x → IfSome o P → P x
when_some {X} P o x is h = let R : Option X → Type 0 = λ p. IfSome p P in let there : IfSome (Some x) P = subst R is h in there

-- what follows where there is nothing
pub none_more : {X : Type 0} (o : Option X) (P Q : Type 0) → (P → Q) → IfNone o P → IfNone o Q
none_more None P Q more h = more h
none_more (Some x) P Q more h = h
