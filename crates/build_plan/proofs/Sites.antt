-- The site of a planner's hand is that of its ways.
use Rattle.std.specs.Prelude.{◌≡◌, ℕ, List}
use Rattle.std.specs.declared.option.Option.TheVariants.{Some}
use Rattle.std.proofs.Common.{sym, ap, subst, ◌∙◌}
use Rattle.life_cells.specs.declared.cell.Cell.{Cell}
use Rattle.life_cells.specs.Cells.{Cells, alive}
use Rattle.life_cells.specs.Boxes.{InBox}
use Rattle.hand_route.specs.Moves.{Site}
use Rattle.hand_route.specs.Lists.{IsFarewell, IsLeastFarewell}
use Rattle.hand_route.specs.Ways as hand
use Rattle.hand_route.specs.Ways.{ground}
use Rattle.build_plan.specs.Planners.{IsPlanner, HandLabels}
use Rattle.build_plan.specs.ServedWalk.{ServedBy}
use Rattle.build_plan.specs.Throws.{list_throws}
use Rattle.build_plan.specs.Usable.{site_of, CanSayFarewell}
use Rattle.build_plan.specs.declared.event.Event.{Event}
use Rattle.build_plan.specs.declared.throw.Throw.{Throw}
use Rattle.elbow_graph.specs.declared.elbow.Elbow.{Elbow}
use Rattle.build_plan.specs.Visited.{AreVisited}
use Rattle.build_plan.specs.declared.planner.Planner.{Planner}
use Rattle.build_plan.proofs.Visiting.{room_in_range, farewell_visited}

module _ (planner : Planner) (p : IsPlanner planner) (built : Cells) where
  pub same_site : (ways : HandLabels) → ways.graph ≡ ground planner.salvos.now built planner.placing.room → hand.site_of ways.graph ≡ site_of planner.book.now planner.placing.room (alive built)
  same_site ways among = ap hand.site_of among ∙ (λ i. record { settings = p.settings i; salvos = p.salvos i; room = planner.placing.room; built = alive built })

  -- what holds at the one's site and place holds at the other's
  pub at_site : (P : Site → Cell → Type 0) (ways : HandLabels) (from : Cell) → ways.graph ≡ ground planner.salvos.now built planner.placing.room → ways.from ≡ from →
      P (hand.site_of ways.graph) ways.from → P (site_of planner.book.now planner.placing.room (alive built)) from
  at_site P ways from among there h = subst (P (site_of planner.book.now planner.placing.room (alive built))) there (subst (λ (s : Site). P s ways.from) (same_site ways among) h)

  -- the salvos of a farewell
  pub farewell_there : (ways : HandLabels) (from : Cell) (list : List ℕ) → ways.graph ≡ ground planner.salvos.now built planner.placing.room → ways.from ≡ from → InBox planner.placing.room from.x from.y →
      IsFarewell (hand.site_of ways.graph) ways.from list → AreVisited planner.book.now.salvos from list
  farewell_there ways from list among there here says =
      farewell_visited (site_of planner.book.now planner.placing.room (alive built)) (room_in_range planner.placing.room p.room) from list here (at_site (λ s f. IsFarewell s f list) ways from among there says)

  -- where the gliders of the least farewell aren't served, there is none
  pub none_served : (from : Cell) → ((a b : List ℕ) → IsLeastFarewell (site_of planner.book.now planner.placing.room (alive built)) from a → IsLeastFarewell (site_of planner.book.now planner.placing.room (alive built)) from b → a ≡ b) →
      (elbow : Elbow) (list : List ℕ) (throws : List Throw) → IsLeastFarewell (site_of planner.book.now planner.placing.room (alive built)) from list → throws ≡ list_throws planner.book.now.salvos from list →
      ((events : List Event) (to : Elbow) → ServedBy planner.book.now elbow throws events to → ⊥) → CanSayFarewell planner.book.now planner.placing.room (alive built) (Some from) elbow → ⊥
  none_served from one elbow list throws least are none (events, (to, (other, (least_other, served)))) =
      none events to
      (subst (λ (l : List Throw). ServedBy planner.book.now elbow l events to) (sym are)
      (subst (λ (k : List ℕ). ServedBy planner.book.now elbow (list_throws planner.book.now.salvos from k) events to) (one other list least_other least) served))
