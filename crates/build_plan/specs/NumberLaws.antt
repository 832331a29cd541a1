-- An item with a number is the one that stands there.
use Rattle.std.specs.Prelude.{◌≡◌, ℕ, zero, suc, List, [], ◌∷◌}
use Rattle.std.specs.declared.option.Option.TheVariants.{Some}
use Rattle.std.proofs.Common.{sym, ap}
use Rattle.elbow_graph.specs.Numbered.{IsNumbered}
use Rattle.build_plan.specs.Numbers.{item_of}

pub item_numbered : {X : Type 0} (xs : List X) (k : ℕ) (x : X) → IsNumbered xs k x → item_of xs k ≡ Some x
item_numbered [] zero x h = absurd h
item_numbered [] (suc k) x h = absurd h
item_numbered (y ∷ xs) zero x h = absurd h
item_numbered (y ∷ xs) (suc zero) x h = ap Some (sym h)
item_numbered (y ∷ xs) (suc (suc k)) x h = item_numbered xs (suc k) x h
