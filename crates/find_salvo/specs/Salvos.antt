-- The outcome of gliders of a list of lanes.
use Rattle.std.specs.Prelude.{ℕ, ℤ, List}
use Rattle.life_plane.specs.Plane.{Plane}
use Rattle.book_parts.specs.declared.salvo.RawSalvo.{RawSalvo}
use Rattle.recipe_hit.specs.declared.frame.Hit.{Hit}
use Rattle.recipe_hit.specs.Sound.{AreHits, what_is_left}
use Rattle.find_salvo.specs.Outcomes.{IsOutcomeOf}
use Rattle.find_salvo.specs.declared.outcome.Outcome.{Outcome}

-- Gliders of these lanes, one after the other, strike the hand, and the last leaves what has this outcome.
pub record IsSalvoOutcome (hand : Plane) (lanes : List ℤ) (outcome : Outcome) : Type 0 where
  pub hits : List Hit
  pub hits_are : AreHits hand lanes hits
  pub leaves : IsOutcomeOf hand (what_is_left hand hits) outcome

-- not all of them have a hit, or what the last leaves has no outcome
abbrev pub HasNoSalvo : Plane → List ℤ → Type 0
HasNoSalvo hand lanes = (outcome : Outcome) → IsSalvoOutcome hand lanes outcome → ⊥

-- the salvo with a name that states this outcome
abbrev pub salvo_of : List ℕ → List ℤ → Outcome → RawSalvo
salvo_of name lanes outcome = record { name = name; lanes = lanes; product = outcome.product; hand = outcome.hand }
