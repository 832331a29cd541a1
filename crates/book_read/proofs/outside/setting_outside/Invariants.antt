use Rattle.std.proofs.Common.{ℤ, Option}
use Rattle.std.specs.Iterator.Adapters.{zip_first, zip_second}
use Rattle.std.specs.Slice.Iter.{iter_rest}
use Rattle.book_read.specs.Limited.{setting_limited, IsFirstOutside}
use Rattle.book_read.proofs.FirstOutside.{held_each}
use Rattle.book_read.proofs.outside.setting_outside.Given as goal

-- what the numbers that are left decide, all decide
abbrev pub invariant-loop-limit : goal.invariant-loop-limit
invariant-loop-limit l = (found : Option ℤ) → IsFirstOutside (held_each (iter_rest (zip_first l.limit-iterator)) (iter_rest (zip_second l.limit-iterator))) found → IsFirstOutside (setting_limited l.setting) found
