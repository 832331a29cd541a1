-- What there is, where there is something.
use Rattle.std.proofs.Common.{◌≡◌, true, Option, Some, None}
use Rattle.std.specs.Option.{is_some, IfSome}

pub what_is : {X : Type 0} (o : Option X) (P : X → Type 0) → is_some o ≡ true → IfSome o P → (x : X) × P x
what_is None P some h = cc
what_is (Some x) P some h = (x, h)
