-- The first hand of a construction is in its pattern: where there is one it is hit.
use Rattle.std.specs.Prelude.{◌≡◌, Bool, true, false, ℕ, List, [], ◌∷◌, Option, if◌then◌else◌}
use Rattle.std.specs.declared.option.Option.TheVariants.{Some, None}
use Rattle.std.proofs.Common.{refl, sym, ap, ◌∙◌}
use Rattle.life_plane.specs.Plane.{Plane, nothing, shift}
use Rattle.life_cells.specs.declared.cell.Cell.{Cell}
use Rattle.book_parts.specs.declared.settings.Settings.{Settings}
use Rattle.book_parts.specs.declared.kind.RawKind.{RawKind}
use Rattle.event_times.specs.Events as timed
use Rattle.plan_facts.specs.Happenings.{Happening, events_of}
use Rattle.plan_facts.specs.Happenings.Happening.{Turns, Hits}
use Rattle.plan_facts.specs.State.{State, hand_plane, first_hand, first_state}
use Rattle.plan_facts.specs.State.Hand.{Gone, Rests}
use Rattle.plan_facts.specs.MayTurn.{after_turn}
use Rattle.plan_facts.specs.Facts.{IsConstruction}
use Rattle.plan_facts.specs.ListLaws.{GoesWell, goes_well}

module _ (settings : Settings) (kinds : List RawKind) (hand target : Plane) where
  rests_gone : (place : Cell) → Rests place ≡ Gone → ⊥
  rests_gone place e = cc

  -- a hand that rests is hit
  is_hit_then : (happenings : List Happening) (state : State) (place : Cell) → state.hand ≡ Rests place → GoesWell settings kinds hand target state happenings → timed.has_hit (events_of happenings) ≡ true
  is_hit_then [] state place is goes = absurd (rests_gone place (sym is ∙ goes.no_hand))
  is_hit_then (Turns m ∷ happenings) state place is goes = is_hit_then happenings (after_turn state m) place is goes.1
  is_hit_then (Hits h ∷ happenings) state place is goes = refl

  if_none : (b : Bool) → (if b then nothing else nothing) ≡ nothing
  if_none true = refl
  if_none false = refl

  -- the pattern's first hand is the one that stands there at first
  pub hand_at_first : (start : ℕ) (first : Option Cell) (happenings : List Happening) → IsConstruction settings kinds start hand first happenings target →
      timed.first_hand (hand_plane hand (first_hand first)) (events_of happenings) ≡ hand_plane hand (first_hand first)
  hand_at_first start None happenings c = if_none (timed.has_hit (events_of happenings))
  hand_at_first start (Some place) happenings c =
      ap (λ b. if b then shift place.x place.y hand else nothing)
      (is_hit_then happenings (first_state start (Some place)) place refl (goes_well settings kinds hand target (first_state start (Some place)) happenings c.all_may c.done))
