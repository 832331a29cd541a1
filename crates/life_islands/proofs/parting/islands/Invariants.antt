use Rattle.std.proofs.Common.{◌≡◌, ◌++◌, map}
use Rattle.life_islands.proofs.Listing.{noted}
use Rattle.life_islands.proofs.parting.islands.Given as goal

abbrev pub invariant-loop-rank : goal.invariant-loop-rank
invariant-loop-rank l = l.islands.items ++ map noted l.rank-iterator ≡ map noted l.initial.rank-iterator
