use Rattle.std.proofs.Common.{take}
use Rattle.std.specs.List.{AllByRecursion}
use Rattle.book_parts.specs.Proper.{IsDelay}
use Rattle.recipe_find.proofs.limits.are_delays.Given as goal

-- those so far are short enough
abbrev pub invariant-loop-delay : goal.invariant-loop-delay
invariant-loop-delay l = AllByRecursion IsDelay (take l.delay-index l.delays)
