-- Items by their numbers, from 1 on, and the hits of a sound salvo.
use Rattle.std.proofs.Common.{◌≡◌, ℕ, zero, suc, ◌-◌, ◌≤◌, List, [], ◌∷◌, length, get_or, refl, sym, ap, subst, ◌∙◌, arith, ℤ}
use Rattle.std.specs.List.{AllByRecursion}
use Rattle.life_plane.specs.Plane.{Plane}
use Rattle.life_cells.specs.Cells.{alive}
use Rattle.elbow_graph.specs.Numbered.{IsNumbered}
use Rattle.recipe_hit.specs.Sound.{AreHits}
use Rattle.recipe_hit.specs.declared.frame.Hit.{Hit}
use Rattle.recipe_hit.specs.declared.limits.TheConstants.{LONGEST_HIT}

-- the item with a number stands before it in a list that counts from 0
pub record StandsThere {X : Type 0} (xs : List X) (k : ℕ) (x : X) : Type 0 where
  pub some : 1 ≤ k
  pub most : k ≤ length xs
  pub there : (d : X) → get_or xs (k - 1) d ≡ x

pub stands_there : {X : Type 0} (xs : List X) (k : ℕ) (x : X) → IsNumbered xs k x → StandsThere xs k x
stands_there [] k x h = absurd h
stands_there (y ∷ xs) zero x h = absurd h
stands_there (y ∷ xs) (suc zero) x h = record { some = omega arith; most = omega arith; there = λ d. sym h }
stands_there (y ∷ xs) (suc (suc k)) x h =
    let rest = stands_there xs (suc k) x h in
    let most = rest.most in
    record { some = omega arith; most = omega arith; there = λ d. (let e : suc k - 1 ≡ k = omega arith in let f : suc (suc k) - 1 ≡ suc k = omega arith in ap (λ n. get_or (y ∷ xs) n d) f ∙ ap (λ n. get_or xs n d) (sym e) ∙ rest.there d) }

-- what stands there has that number
pub numbered_there : {X : Type 0} (xs : List X) (k : ℕ) (x d : X) → IsNumbered xs k x → IsNumbered xs k (get_or xs (k - 1) d)
numbered_there xs k x d h = subst (IsNumbered xs k) (sym ((stands_there xs k x h).there d)) h

-- a salvo has as many hits as lanes, each of them short
pub record AreShort (lanes : List ℤ) (hits : List Hit) : Type 0 where
  pub count : length hits ≡ length lanes
  pub each : AllByRecursion (λ (hit : Hit). hit.generations ≤ LONGEST_HIT) hits

pub short_hits : (struck : Plane) (lanes : List ℤ) (hits : List Hit) → AreHits struck lanes hits → AreShort lanes hits
short_hits struck [] [] h = record { count = refl; each = tt }
short_hits struck [] (hit ∷ hits) h = absurd h
short_hits struck (lane ∷ lanes) [] h = absurd h
short_hits struck (lane ∷ lanes) (hit ∷ hits) h =
    let rest = short_hits (alive hit.after) lanes hits h.1 in
    record { count = ap suc rest.count; each = (h.0.soon, rest.each) }
