use Rattle.std.proofs.Common.{◌+◌, ◌*◌, ◌≤◌, take}
use Rattle.life_cells.specs.Cells.{alive}
use Rattle.life_cells.specs.Boxes.{IsInRange}
use Rattle.recipe_hit.specs.Sound.{AreHits, what_is_left}
use Rattle.recipe_hit.specs.Checked.{AreSmallFrames}
use Rattle.recipe_hit.proofs.in_turn.strike_in_turn.Given as goal
use Rattle.recipe_hit.specs.declared.limits.TheConstants.{MOST_COUNTED}
use Rattle.book_parts.specs.Limits.{farthest}
use Rattle.recipe_hit.specs.Strike.{beyond}

abbrev pub invariant-loop-place : goal.invariant-loop-place
invariant-loop-place g l = record {
  hits : AreHits (alive l.hand) (take l.place l.lanes) l.hits.items;
  small : AreSmallFrames l.hits.items;
  range : IsInRange (farthest + beyond * l.place) (what_is_left (alive l.hand) l.hits.items);
  least : l.initial.steps ≤ l.steps;
  most : l.steps ≤ l.initial.steps + MOST_COUNTED * l.place;
}
