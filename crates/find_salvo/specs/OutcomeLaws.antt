-- What gliders leave has one outcome, and a salvo that states it is sound.
use Rattle.std.specs.Prelude.{◌≡◌, Bool, true, false, not, ◌||◌, ◌&&◌, ℕ, ℤ, List}
use Rattle.std.specs.declared.option.Option.{Option}
use Rattle.std.specs.declared.option.Option.TheVariants.{Some, None}
use Rattle.std.proofs.Common.{refl, sym, ap, subst, ◌∙◌}
use Rattle.life_plane.specs.Plane.{Plane, nothing, union, same_plane}
use Rattle.life_plane.specs.PlaneLaws.{union_none}
use Rattle.life_plane.specs.Apart.{Apart}
use Rattle.life_cells.specs.Cells.{Cells, alive, cell}
use Rattle.life_cells.specs.declared.cell.Cell.{Cell}
use Rattle.life_cells.specs.Laws.{same_cells}
use Rattle.life_cells.specs.FirstLaws.{one_first}
use Rattle.life_islands.specs.Islands.{rest_of}
use Rattle.recipe_hit.specs.declared.frame.Hit.{Hit}
use Rattle.recipe_hit.specs.Sound.{what_is_left, left_hand, IsWhole, IsSoundSalvo}
use Rattle.recipe_hit.specs.OneHitLaws.{one_list}
use Rattle.life_gliders.specs.Beyond.{IsPartOf}
use Rattle.find_salvo.specs.Outcomes.{hand_at, beside_hand, StandsAt, IsMadeUpOf, IsOutcomeOf}
use Rattle.find_salvo.specs.Salvos.{IsSalvoOutcome, salvo_of}
use Rattle.find_salvo.specs.declared.outcome.Outcome.{Outcome}

-- ---- one outcome

same_ends : (hand left : Plane) (a b : Cells) (p q : Option Cell) → IsMadeUpOf hand left (alive a) p → IsMadeUpOf hand left (alive b) q → (a ≡ b) × (p ≡ q)
same_ends hand left a b (Some p) (Some q) h k =
    let at : p ≡ q = one_first (λ x y. StandsAt hand left (cell x y)) p q h.0 k.0 in
    (same_cells a b (h.1 ∙ ap (beside_hand hand left) at ∙ sym k.1), ap Some at)
same_ends hand left a b (Some p) None h k = absurd (k.0 p h.0.is)
same_ends hand left a b None (Some q) h k = absurd (h.0 q k.0.is)
same_ends hand left a b None None h k = (same_cells a b (h.1.1 ∙ sym k.1.1), refl)

-- what is left has one
pub one_outcome : (hand left : Plane) (a b : Outcome) → IsOutcomeOf hand left a → IsOutcomeOf hand left b → a ≡ b
one_outcome hand left a b h k =
    let same = same_ends hand left a.product b.product a.hand b.hand h k in
    λ i. record { product = same.0 i; hand = same.1 i }

-- and so have gliders of these lanes
pub one_salvo_outcome : (hand : Plane) (lanes : List ℤ) (a b : Outcome) → IsSalvoOutcome hand lanes a → IsSalvoOutcome hand lanes b → a ≡ b
one_salvo_outcome hand lanes a b h k =
    let same = one_list hand lanes k.hits h.hits k.hits_are h.hits_are in
    one_outcome hand (what_is_left hand h.hits) a b h.leaves (subst (λ (hits : List Hit). IsOutcomeOf hand (what_is_left hand hits) b) same k.leaves)

-- ---- it is sound

in_part : (a b : Bool) → (b ≡ true → a ≡ true) → a ≡ ((a && not b) || b)
in_part true true h = refl
in_part true false h = refl
in_part false true h = h refl
in_part false false h = refl

-- a plane is a part of it and the rest
rest_and_part : (whole part : Plane) → IsPartOf part whole → whole ≡ union (rest_of whole part) part
rest_and_part whole part h = same_plane _ _ (λ x y. in_part (whole x y) (part x y) (h.each x y))

record EndsSo (hand left product : Plane) (place : Option Cell) : Type 0 where
  ends : left ≡ union product (left_hand hand place)
  whole : IsWhole product
  clear : Apart product (left_hand hand place)

false≢true : false ≡ true → ⊥
false≢true h = cc

apart_nothing : (s : Plane) → Apart s nothing
apart_nothing s = record { far = λ x y a b p q w. false≢true q }

ends_so : (hand left product : Plane) (place : Option Cell) → IsMadeUpOf hand left product place → EndsSo hand left product place
ends_so hand left product (Some place) h =
    let stands = h.0.is in record {
      ends = rest_and_part left (hand_at hand place) stands.part ∙ ap (λ (s : Plane). union s (hand_at hand place)) (sym h.1);
      whole = subst IsWhole (sym h.1) stands.whole;
      clear = subst (λ (s : Plane). Apart s (hand_at hand place)) (sym h.1) stands.clear;
    }
ends_so hand left product None h = record {
  ends = sym h.1.1 ∙ sym (union_none product);
  whole = subst IsWhole (sym h.1.1) h.1.0;
  clear = apart_nothing product;
}

-- a salvo that states the outcome of its lanes is sound
pub sound_outcome : (hand : Plane) (name : List ℕ) (lanes : List ℤ) (outcome : Outcome) → IsSalvoOutcome hand lanes outcome → IsSoundSalvo hand (salvo_of name lanes outcome)
sound_outcome hand name lanes outcome h =
    let end = ends_so hand (what_is_left hand h.hits) (alive outcome.product) outcome.hand h.leaves in
    (h.hits, record { hits_are = h.hits_are; ends = end.ends; whole = end.whole; clear = end.clear })
