-- Items of a list by their numbers, counted from 1.
use Rattle.std.specs.Prelude.{ℕ, zero, suc, List, Option}
use Rattle.std.specs.List.{slice_get}
use Rattle.std.specs.declared.option.Option.TheVariants.{None}

-- the item with this number, if there is one
abbrev pub item_of : {X : Type 0} → List X → ℕ → Option X
item_of xs zero = None
item_of xs (suc place) = slice_get xs place
