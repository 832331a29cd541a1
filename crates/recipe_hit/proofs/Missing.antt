-- The first lane without a hit.
use Rattle.std.proofs.Common.{◌≡◌, ℕ, ◌+◌, ◌<◌, ℤ, List, [], ◌∷◌, ◌++◌, length, get_or, take, drop, sym, ap, subst, ◌∙◌, arith}
use Rattle.std.proofs.lemmas.List.{at_drop_more, take-append-drop, length-take-le, take_more}
use Rattle.life_plane.specs.Plane.{Plane}
use Rattle.recipe_hit.specs.declared.frame.Hit.{Hit}
use Rattle.recipe_hit.specs.declared.refusal.SalvoRefusal.{SalvoRefusal}
use Rattle.recipe_hit.specs.declared.refusal.SalvoRefusal.TheVariants.{Empty, NotSettled, EndDiffers, ProductSplit, HandNear, Memory}
use Rattle.recipe_hit.specs.Strike.{IsHit}
use Rattle.recipe_hit.specs.Sound.{AreHits, what_is_left}
use Rattle.recipe_hit.specs.SalvoRefusals.{IsFirstMissing, LaneIsRefused, LanesAreRefused}
use Rattle.recipe_hit.specs.InTurnLaws.{hits_more}

missing_here : (start struck : Plane) (lanes : List ℤ) (hits : List Hit) (place number : ℕ) (d : ℤ) (Fails : Plane → ℤ → Type 0) → place < length lanes → AreHits start (take place lanes) hits →
    struck ≡ what_is_left start hits → number ≡ place + 1 → Fails struck (get_or lanes place d) → IsFirstMissing start lanes number Fails
missing_here start struck lanes hits place number d Fails lt before left is fails = record {
  front = take place lanes;
  lane = get_or lanes place d;
  back = drop (place + 1) lanes;
  split = sym (take-append-drop place lanes) ∙ ap (λ rest. take place lanes ++ rest) (at_drop_more (λ xs. xs) lanes place d lt);
  place_is = is ∙ ap (λ k. k + 1) (sym (length-take-le place lanes (omega arith)));
  hits = hits;
  hits_are = before;
  fails = subst (λ s. Fails s (get_or lanes place d)) left fails;
}

-- a lane that has no hit after others that have theirs
pub missed_here : (start struck : Plane) (lanes : List ℤ) (hits : List Hit) (place : ℕ) (d lane : ℤ) → place < length lanes → AreHits start (take place lanes) hits → struck ≡ what_is_left start hits →
    lane ≡ get_or lanes place d → (e : SalvoRefusal) → LaneIsRefused struck lane (place + 1) e → LanesAreRefused start lanes e
missed_here start struck lanes hits place d lane lt before left on (Empty number) h = missing_here start struck lanes hits place number d _ lt before left h.0 h.1
missed_here start struck lanes hits place d lane lt before left on (NotSettled number) h =
    missing_here start struck lanes hits place number d _ lt before left h.0 (h.1.0, λ hit is. h.1.1 hit (subst (λ l. IsHit struck l hit) (sym on) is))
missed_here start struck lanes hits place d lane lt before left on (EndDiffers cell) h = absurd h
missed_here start struck lanes hits place d lane lt before left on ProductSplit h = absurd h
missed_here start struck lanes hits place d lane lt before left on (HandNear cell) h = absurd h
missed_here start struck lanes hits place d lane lt before left on Memory h = tt

-- one lane more
pub turns_more : (start struck : Plane) (lanes : List ℤ) (hits all : List Hit) (place : ℕ) (d lane : ℤ) (hit : Hit) → place < length lanes → AreHits start (take place lanes) hits →
    struck ≡ what_is_left start hits → lane ≡ get_or lanes place d → IsHit struck lane hit → all ≡ hits ++ hit ∷ [] → AreHits start (take (place + 1) lanes) all
turns_more start struck lanes hits all place d lane hit lt before left on is grown =
    let here : IsHit (what_is_left start hits) (get_or lanes place d) hit = subst (λ l. IsHit (what_is_left start hits) l hit) on (subst (λ s. IsHit s lane hit) left is) in
    subst (AreHits start (take (place + 1) lanes)) (sym grown)
    (subst (λ ls. AreHits start ls (hits ++ hit ∷ [])) (sym (take_more lanes place d lt)) (hits_more start (take place lanes) hits (get_or lanes place d) hit before here))
