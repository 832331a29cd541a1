-- The kept hits, fewer and more.
use Rattle.std.proofs.Common.{◌≡◌, true, int_eq, ℕ, zero, suc, ◌+◌, ◌-◌, ◌*◌, ◌<◌, ◌≤◌, ◌^◌, ℤ, List, [], ◌∷◌, ◌++◌, length, take, get_or, drop, Some, None, Option, refl, sym, ap, subst, ◌∙◌, arith}
use Rattle.std.specs.Option.{option_eq}
use Rattle.std.proofs.lemmas.Bool.Decides.{Decides-int_eq}
use Rattle.std.proofs.lemmas.List.{length-take, length-append, length-drop, take-map, take_rest, take_all, get_or-drop, take-append-drop, at_drop_more}
use Rattle.life_plane.specs.Plane.{Plane, nothing}
use Rattle.life_cells.specs.Cells.{Cells, alive}
use Rattle.life_cells.specs.Boxes.{IsInRange}
use Rattle.life_cells.specs.BoxLaws.{range_wider}
use Rattle.book_parts.specs.Limits.{farthest}
use Rattle.book_parts.specs.Proper.{IsProperHand}
use Rattle.book_parts.specs.declared.limits.TheConstants.{MOST_LANES}
use Rattle.recipe_hit.specs.declared.frame.Hit.{Hit}
use Rattle.recipe_hit.specs.Strike.{IsHit, beyond}
use Rattle.recipe_hit.specs.Refusals.{HasNoHit}
use Rattle.recipe_hit.specs.Sound.{AreHits, what_is_left}
use Rattle.recipe_hit.specs.InTurnLaws.{after_range, hand_range, hits_more}
use Rattle.recipe_hit.specs.OneHitLaws.{one_hit, lives_not_nothing}
use Rattle.recipe_hit.specs.OneHitLaws.{one_list}
use Rattle.find_salvo.specs.Kept.{Kept, lanes_of, left_so_far, IsMissing, IsKept}
use Rattle.find_salvo.specs.Salvos.{IsSalvoOutcome, HasNoSalvo}
use Rattle.find_salvo.specs.Outcomes.{IsOutcomeOf, HasNoOutcome}
use Rattle.find_salvo.specs.declared.outcome.Outcome.{Outcome}

-- ---- how far what they leave lies

left_range : (n : ℕ) (start : Plane) (lanes : List ℤ) (hits : List Hit) → IsInRange n start → AreHits start lanes hits → IsInRange (n + beyond * length hits) (what_is_left start hits)
left_range n start [] [] range h = range_wider n (n + beyond * 0) start range (omega arith)
left_range n start [] (hit ∷ hits) range h = absurd h
left_range n start (lane ∷ lanes) [] range h = absurd h
left_range n start (lane ∷ lanes) (hit ∷ hits) range h =
    range_wider ((n + beyond) + beyond * length hits) (n + beyond * length (hit ∷ hits)) _
    (left_range (n + beyond) (alive hit.after) lanes hits (after_range n start lane hit range h.0) h.1) (omega arith)

-- what the kept hits leave lies in the range of a hit
pub kept_range : (kept : Kept) → IsProperHand (alive kept.hand) → IsKept kept → IsInRange (2 ^ 40) (left_so_far kept)
kept_range kept proper is =
    let few = is.few in
    range_wider (farthest + beyond * length kept.hits) (2 ^ 40) _ (left_range farthest (alive kept.hand) (lanes_of kept.hits) kept.hits (hand_range (alive kept.hand) proper) is.hits_are) (omega arith)

-- ---- the first of them

pub first_hits : (n : ℕ) (start : Plane) (hits : List Hit) → AreHits start (lanes_of hits) hits → AreHits start (lanes_of (take n hits)) (take n hits)
first_hits zero start hits h = tt
first_hits (suc n) start [] h = tt
first_hits (suc n) start (hit ∷ hits) h = (h.0, first_hits n (alive hit.after) hits h.1)

pub kept_first : (n : ℕ) (hand : Cells) (hits fewer : List Hit) (missing : Option ℤ) → IsKept (record { hand = hand; hits = hits; missing = missing }) → fewer ≡ take n hits →
    IsKept (record { hand = hand; hits = fewer; missing = None })
kept_first n hand hits fewer missing is front =
    let few = is.few in
    subst (λ (hs : List Hit). IsKept (record { hand = hand; hits = hs; missing = None })) (sym front) (record {
      hits_are = first_hits n (alive hand) hits is.hits_are;
      few = omega (arith, length-take n hits);
      missing = tt;
    })

-- ---- one more

lanes_more : (hits : List Hit) (hit : Hit) → lanes_of (hits ++ hit ∷ []) ≡ lanes_of hits ++ hit.frame.lane ∷ []
lanes_more [] hit = refl
lanes_more (one ∷ hits) hit = ap (λ lanes. one.frame.lane ∷ lanes) (lanes_more hits hit)

-- with one lane more
pub kept_more : (hand : Cells) (hits all : List Hit) (missing : Option ℤ) (left : Plane) (lane : ℤ) (hit : Hit) → IsKept (record { hand = hand; hits = hits; missing = missing }) → length hits < MOST_LANES →
    left ≡ what_is_left (alive hand) hits → IsHit left lane hit → all ≡ hits ++ hit ∷ [] → IsKept (record { hand = hand; hits = all; missing = None })
kept_more hand hits all missing left lane hit is few at strikes grown =
    let here = subst (λ (l : ℤ). IsHit (what_is_left (alive hand) hits) l hit) (sym strikes.lane_is) (subst (λ (s : Plane). IsHit s lane hit) at strikes) in
    subst (λ (hs : List Hit). IsKept (record { hand = hand; hits = hs; missing = None })) (sym grown) (record {
      hits_are = subst (λ ls. AreHits (alive hand) ls (hits ++ hit ∷ [])) (sym (lanes_more hits hit)) (hits_more (alive hand) (lanes_of hits) hits hit.frame.lane hit is.hits_are here);
      few = omega (arith, length-append hits (hit ∷ []));
      missing = tt;
    })

pub lanes_grown : (hits all : List Hit) (struck : Plane) (lane : ℤ) (hit : Hit) → IsHit struck lane hit → all ≡ hits ++ hit ∷ [] → lanes_of all ≡ lanes_of hits ++ lane ∷ []
lanes_grown hits all struck lane hit strikes grown = ap lanes_of grown ∙ lanes_more hits hit ∙ ap (λ (l : ℤ). lanes_of hits ++ l ∷ []) strikes.lane_is

-- or a lane that has no hit behind them
pub kept_missing : (hand : Cells) (hits : List Hit) (missing : Option ℤ) (left : Plane) (lane : ℤ) → IsKept (record { hand = hand; hits = hits; missing = missing }) → left ≡ what_is_left (alive hand) hits →
    HasNoHit left lane → IsKept (record { hand = hand; hits = hits; missing = Some lane })
kept_missing hand hits missing left lane is at none = record { hits_are = is.hits_are; few = is.few; missing = subst (λ (s : Plane). HasNoHit s lane) at none }

-- ---- a list of lanes by its kept hits

-- a lane without a hit, behind others that have theirs: the list has no outcome
not_all : (start : Plane) (front : List ℤ) (lane : ℤ) (back : List ℤ) (hits all : List Hit) → AreHits start front hits → HasNoHit (what_is_left start hits) lane → AreHits start (front ++ lane ∷ back) all → ⊥
not_all start [] lane back [] [] h none k = k
not_all start [] lane back [] (one ∷ all) h none k = none one k.0
not_all start [] lane back (hit ∷ hits) all h none k = h
not_all start (l ∷ front) lane back [] all h none k = h
not_all start (l ∷ front) lane back (hit ∷ hits) [] h none k = k
not_all start (l ∷ front) lane back (hit ∷ hits) (one ∷ all) h none k =
    let same : one ≡ hit = one_hit start l one hit k.0 h.0 in
    not_all (alive hit.after) front lane back hits all h.1 none (subst (λ (x : Hit). AreHits (alive x.after) (front ++ lane ∷ back) all) same k.1)

-- the lane at a place has no hit behind those of the lanes before it
pub no_salvo_past : (kept : Kept) (hand : Cells) (lanes : List ℤ) (place : ℕ) (lane d : ℤ) → kept.hand ≡ hand → IsKept kept → lanes_of kept.hits ≡ take place lanes → place < length lanes → lane ≡ get_or lanes place d →
    HasNoHit (left_so_far kept) lane → HasNoSalvo (alive hand) lanes
no_salvo_past kept hand lanes place lane d same is before lt at none outcome salvo =
    let split : lanes ≡ take place lanes ++ (lane ∷ drop (place + 1) lanes) =
    sym (take-append-drop place lanes) ∙ ap (λ rest. take place lanes ++ rest) (at_drop_more (λ xs. xs) lanes place d lt ∙ ap (λ (l : ℤ). l ∷ drop (place + 1) lanes) (sym at)) in
    not_all (alive kept.hand) (take place lanes) lane (drop (place + 1) lanes) kept.hits salvo.hits (subst (λ ls. AreHits (alive kept.hand) ls kept.hits) before is.hits_are) none
    (subst (λ (h : Cells). AreHits (alive h) (take place lanes ++ (lane ∷ drop (place + 1) lanes)) salvo.hits) (sym same) (subst (λ ls. AreHits (alive hand) ls salvo.hits) split salvo.hits_are))

-- all lanes have their hits
pub salvo_of_last : (kept : Kept) (hand : Cells) (lanes : List ℤ) (left : Plane) (outcome : Outcome) → kept.hand ≡ hand → IsKept kept → lanes_of kept.hits ≡ lanes → left ≡ left_so_far kept →
    IsOutcomeOf (alive kept.hand) left outcome → IsSalvoOutcome (alive hand) lanes outcome
salvo_of_last kept hand lanes left outcome same is all at leaves =
    subst (λ (h : Cells). IsSalvoOutcome (alive h) lanes outcome) same (record {
      hits = kept.hits;
      hits_are = subst (λ ls. AreHits (alive kept.hand) ls kept.hits) all is.hits_are;
      leaves = subst (λ (s : Plane). IsOutcomeOf (alive kept.hand) s outcome) at leaves;
    })

pub no_salvo_last : (kept : Kept) (hand : Cells) (lanes : List ℤ) (left : Plane) → kept.hand ≡ hand → IsKept kept → lanes_of kept.hits ≡ lanes → left ≡ left_so_far kept →
    HasNoOutcome (alive kept.hand) left → HasNoSalvo (alive hand) lanes
no_salvo_last kept hand lanes left same is all at none outcome salvo =
    let here = subst (λ (h : Cells). IsSalvoOutcome (alive h) lanes outcome) (sym same) salvo in
    let hits = one_list (alive kept.hand) lanes here.hits kept.hits here.hits_are (subst (λ ls. AreHits (alive kept.hand) ls kept.hits) all is.hits_are) in
    none outcome (subst (λ (s : Plane). IsOutcomeOf (alive kept.hand) s outcome) (sym at) (subst (λ (hs : List Hit). IsOutcomeOf (alive kept.hand) (what_is_left (alive kept.hand) hs) outcome) hits here.leaves))

-- ---- a lane without a hit

-- nothing lives that can be struck
pub no_hit_of_nothing : (struck : Plane) (lane : ℤ) → struck ≡ nothing → HasNoHit struck lane
no_hit_of_nothing struck lane none hit strikes = lives_not_nothing struck strikes.box_is.lives none

-- the lane that is kept has none
pub missing_is : (struck : Plane) (missing : Option ℤ) (read lane : ℤ) → IsMissing struck missing → option_eq int_eq missing (Some read) ≡ true → read ≡ lane → HasNoHit struck lane
missing_is struck None read lane none same is = cc
missing_is struck (Some l) read lane none same is = subst (HasNoHit struck) (equal l read same ∙ is) none
  where
    equal : (a b : ℤ) → int_eq a b ≡ true → a ≡ b
    equal a b h = (Decides-int_eq a b).0 h

-- the lanes of the first hits are those of the list
pub first_lanes : (n : ℕ) (hits read fewer : List Hit) (lanes : List ℤ) → fewer ≡ take n hits → read ≡ hits → take n (lanes_of read) ≡ take n lanes → lanes_of fewer ≡ take n lanes
first_lanes n hits read fewer lanes front same shared =
    ap lanes_of front ∙ sym (take-map (λ (h : Hit). h.frame.lane) n hits) ∙ ap (λ (hs : List Hit). take n (lanes_of hs)) (sym same) ∙ shared

-- what the last of them leaves, as it is read
pub left_read : (left : Plane) (hand read : Cells) (hits seen : List Hit) → left ≡ what_is_left (alive read) seen → read ≡ hand → seen ≡ hits → left ≡ what_is_left (alive hand) hits
left_read left hand read hits seen is same these = is ∙ λ i. what_is_left (alive (same i)) (these i)

-- ---- the lanes behind the first ones

pub rest_at : (lanes : List ℤ) (shared i : ℕ) (d : ℤ) → i < length (take (length lanes - shared) (drop shared lanes)) →
    (shared + i < length lanes) × (get_or (take (length lanes - shared) (drop shared lanes)) i d ≡ get_or lanes (shared + i) d)
rest_at lanes shared i d lt =
    let rest = take_rest lanes shared in
    let within : i < length (drop shared lanes) = subst (λ ls. i < length ls) rest lt in
    (omega (arith, within, length-drop shared lanes), ap (λ ls. get_or ls i d) rest ∙ get_or-drop shared lanes i d)

-- all of them are struck
pub all_struck : (lanes : List ℤ) (shared i : ℕ) → length (take (length lanes - shared) (drop shared lanes)) ≤ i → take (shared + i) lanes ≡ lanes
all_struck lanes shared i short =
    let within : length (drop shared lanes) ≤ i = subst (λ ls. length ls ≤ i) (take_rest lanes shared) short in
    take_all (shared + i) lanes (omega (arith, within, length-drop shared lanes))
