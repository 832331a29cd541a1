-- So many candidates were tried.
use Rattle.recipe_find.proofs.Growth.{IsUnderWay}
use Rattle.recipe_find.proofs.extending.found_entries.Given as goal

abbrev pub invariant-loop-tried : goal.invariant-loop-tried
invariant-loop-tried g l = IsUnderWay l.book l.tried l.candidates l.entries.turns.items l.entries.salvos.items l.hits.hand l.initial.steps l.steps
