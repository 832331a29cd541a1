-- A search for the first of the islands left begins.
use Rattle.std.specs.Prelude.{◌≡◌, ◌^◌, ◌<◌, true, List, get_or, length}
use Rattle.std.specs.List.{AllByRecursion}
use Rattle.std.proofs.Common.{sym, ap, subst, ◌∙◌, arith}
use Rattle.life_plane.specs.Plane.{Plane, nothing}
use Rattle.life_cells.specs.Boxes.{IsInRange}
use Rattle.life_cells.specs.BoxLaws.{range_wider}
use Rattle.life_cells.specs.Cells.{alive, empty}
use Rattle.life_cells.specs.Laws.{alive-empty}
use Rattle.life_islands.specs.Islands.{IsNoted}
use Rattle.life_islands.specs.Shapes.{IsShapeOf}
use Rattle.life_islands.specs.declared.island.Island.{Island}
use Rattle.lane_clear.specs.Frames.{farthest}
use Rattle.build_plan.specs.declared.search.Search.{Search}
use Rattle.build_plan.specs.Drafts.{AreLeft}
use Rattle.build_plan.specs.Planners.{IsPlanner, AreWays}
use Rattle.build_plan.specs.Trials.{IsHandIn, IsSearch, search_site}
use Rattle.build_plan.proofs.OnIsland.{top_left_small}
use Rattle.build_plan.proofs.Trying.{island_near}

module _ (left : List Island) (l : AreLeft left) (d : Island) where
  pub first_is : get_or left 0 d ≡ l.wanted
  first_is = ap (λ (x : List Island). get_or x 0 d) l.left_is

  pub some_left : 0 < length left
  some_left = let e = ap (λ (x : List Island). length x) l.left_is in omega arith

  noted : IsNoted l.target l.wanted
  noted = (subst (AllByRecursion (IsNoted l.target)) l.left_is l.islands.noted).0

  pub cells_near : IsInRange (2 ^ 40) (alive (get_or left 0 d).cells)
  cells_near = subst (λ (i : Island). IsInRange (2 ^ 40) (alive i.cells)) (sym first_is) (island_near (2 ^ 40) l.target l.wanted noted l.near)

  pub cells_built : IsInRange farthest (alive (get_or left 0 d).cells)
  cells_built = range_wider (2 ^ 40) farthest (alive (get_or left 0 d).cells) cells_near (omega arith)

  pub cells_far : IsInRange (2 ^ 60) (alive (get_or left 0 d).cells)
  cells_far = range_wider (2 ^ 40) (2 ^ 60) (alive (get_or left 0 d).cells) cells_near (omega arith)

  -- some cell lives
  pub not_empty : (get_or left 0 d).cells ≡ empty → ⊥
  not_empty none =
      let lives : nothing l.wanted.first.x l.wanted.first.y ≡ true =
      subst (λ (p : Plane). p l.wanted.first.x l.wanted.first.y ≡ true) (ap alive (sym (ap (λ (i : Island). i.cells) first_is) ∙ none) ∙ alive-empty) noted.first.is in
      cc

-- a search at work
pub begins : (search : Search) → IsPlanner search.planner.now → AreWays (search_site search) search.place search.ways → IsHandIn search.planner.now.placing.room search.place → (l : AreLeft search.left.now) → (d : Island) →
    IsShapeOf (alive (get_or search.left.now 0 d).cells) (alive search.shape) search.corner → IsSearch search
begins search planner ways hand l d is = record {
  planner = planner;
  ways = ways;
  hand = hand;
  wanted = l.wanted;
  others = l.others;
  left_is = l.left_is;
  target = l.target;
  islands = l.islands;
  near = l.near;
  shape_is = subst (λ (i : Island). IsShapeOf (alive i.cells) (alive search.shape) search.corner) (first_is search.left.now l d) is;
  range = top_left_small (2 ^ 40) (alive (get_or search.left.now 0 d).cells) search.corner (cells_near search.left.now l d) is.top_left;
}
