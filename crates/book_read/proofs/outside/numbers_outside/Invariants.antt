use Rattle.std.proofs.Common.{[], ◌∷◌, take, None, flat_map}
use Rattle.book_read.proofs.outside.numbers_outside.Given as goal
use Rattle.book_read.specs.Limited.{held, IsFirstOutside}

-- the numbers so far are within the limit
abbrev pub invariant-loop-item : goal.invariant-loop-item
invariant-loop-item l = IsFirstOutside (flat_map (λ z. held l.limit z ∷ []) (take l.item-index l.items)) None
