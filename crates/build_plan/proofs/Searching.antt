-- A search at work, and what it walks.
use Rattle.std.specs.Prelude.{◌≡◌, ℕ, ◌^◌, Bool, true, false, List, [], Option}
use Rattle.std.specs.declared.option.Option.TheVariants.{Some, None}
use Rattle.std.proofs.Common.{sym, subst, ◌∙◌, append-nil}
use Rattle.life_cells.specs.declared.cell.Cell.{Cell}
use Rattle.life_cells.specs.declared.bounds.Bounds.{Bounds}
use Rattle.life_cells.specs.Boxes.{IsBoxInRange}
use Rattle.elbow_graph.specs.declared.elbow.Elbow.{Elbow}
use Rattle.recipe_book.specs.Checked.{CheckedEntries}
use Rattle.hand_route.specs.Moves.{Site}
use Rattle.hand_route.specs.Lists.{IsLeastHandList}
use Rattle.build_plan.specs.declared.event.Event.{Event}
use Rattle.build_plan.specs.declared.search.Search.{Search}
use Rattle.build_plan.specs.declared.throw.Throw.{Throw}
use Rattle.build_plan.specs.declared.walk.Walk.{Walk}
use Rattle.build_plan.specs.Planners.{HandLabels, AreWays}
use Rattle.build_plan.specs.ServedWalk.{ServedBy, IsServed}
use Rattle.build_plan.specs.Stand.{Stand}
use Rattle.build_plan.specs.Usable.{site_of, IsWayIn, way_throws}
use Rattle.build_plan.specs.Visited.{IsCarried}
use Rattle.build_plan.specs.Trials.{IsHandIn, search_site, IsSearch, with_ways, IsWalkedTo, IsThrown, AddsSome}
use Rattle.build_plan.proofs.Visiting.{list_visited}

-- other ways of the same hand
pub still_search : (search : Search) (ways : Option HandLabels) → IsSearch search → AreWays (search_site search) search.place ways →
    IsSearch (with_ways search ways)
still_search search ways s are = record {
  planner = s.planner;
  ways = are;
  hand = s.hand;
  wanted = s.wanted;
  others = s.others;
  left_is = s.left_is;
  target = s.target;
  islands = s.islands;
  near = s.near;
  shape_is = s.shape_is;
  range = s.range;
}

-- the salvos of a way can be visited
pub way_carried : (site : Site) (from : Option Cell) (way : List ℕ) (to : Cell) → IsBoxInRange (2 ^ 50) site.room → IsHandIn site.room from → IsWayIn site from way to → IsCarried site.salvos from way
way_carried site None way to range here is = is
way_carried site (Some from) way to range here is = list_visited site range from to way here is.leads

-- nothing was added
pub adds_none : (walk : Walk) → AddsSome walk walk
adds_none walk = ([], sym (append-nil walk.events.items))

-- without a way there are no events
pub no_way : (book : CheckedEntries) (room : Bounds) (stand : Stand) (number : ℕ) (at : Cell) → ((way : List ℕ) → IsWayIn (site_of book room stand.built) stand.place way at → ⊥) →
    (way : List ℕ) (events : List Event) (to : Elbow) → IsThrown book room stand number at way events to → ⊥
no_way book room stand number at none way events to thrown = none way thrown.way_is

-- a hand comes to a place in one way
abbrev pub OneWay : Site → Type 0
OneWay site = (from to : Cell) (a b : List ℕ) → IsLeastHandList site from a to → IsLeastHandList site from b to → a ≡ b

pub one_way : (site : Site) (from : Option Cell) (to : Cell) (a b : List ℕ) → OneWay site → IsWayIn site from a to → IsWayIn site from b to → a ≡ b
one_way site None to a b one h k = h ∙ sym k
one_way site (Some from) to a b one h k = one from to a b h k

-- what serving the gliders of a way comes to
pub walked_to : (search : Search) (old new : Walk) (number : ℕ) (at : Cell) (way : List ℕ) (throws : List Throw) (all : Bool) → OneWay (search_site search) →
    IsWayIn (search_site search) search.place way at → throws ≡ way_throws search.planner.now.book.now.salvos search.place way number at →
    IsServed search.planner.now.book.now old new throws all → IsWalkedTo search old new number at all
walked_to search old new number at way throws true one is are served =
    (way, (served.0, (served.1.0, record { way_is = is; served = subst (λ (l : List Throw). ServedBy search.planner.now.book.now old.elbow l served.0 new.elbow) are served.1.1 })))
walked_to search old new number at way throws false one is are served = (
  (served.0, served.1.0),
  λ other events to thrown.
      let same = one_way (search_site search) search.place at other way one thrown.way_is is in
      served.1.1 events to
      (subst (λ (l : List Throw). ServedBy search.planner.now.book.now old.elbow l events to) (sym are)
      (subst (λ (w : List ℕ). ServedBy search.planner.now.book.now old.elbow (way_throws search.planner.now.book.now.salvos search.place w number at) events to) same thrown.served)),
)
