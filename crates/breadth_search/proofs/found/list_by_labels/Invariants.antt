use Rattle.breadth_search.proofs.Back.{IsWalkedBack}
use Rattle.breadth_search.proofs.found.list_by_labels.Given as goal

abbrev pub invariant-back : goal.invariant-back
invariant-back l = IsWalkedBack l.labels l.place l.at l.list.items

abbrev pub decreases-back : goal.decreases-back
decreases-back l = l.at
