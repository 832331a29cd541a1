-- The events of a salvo may come, and leave what it states.
use Rattle.std.specs.Prelude.{◌≡◌, Bool, true, false, cond, nat_eq, ℕ, zero, suc, ◌+◌, ◌<◌, List, [], ◌∷◌, ◌++◌, length, Option}
use Rattle.std.specs.List.{AllByRecursion, slice_get}
use Rattle.std.specs.declared.option.Option.TheVariants.{Some, None}
use Rattle.std.proofs.Common.{refl, sym, ap, subst, ◌∙◌, arith, inl, inr}
use Rattle.std.proofs.Math.Nat.{suc_inj}
use Rattle.std.proofs.lemmas.Bool.Decides.{eqb_tells}
use Rattle.life_plane.specs.Plane.{Plane, union, shift}
use Rattle.life_plane.specs.ListLaws.{same_item}
use Rattle.life_cells.specs.Cells.{alive}
use Rattle.life_cells.specs.declared.cell.Cell.{Cell}
use Rattle.elbow_graph.specs.declared.elbow.Elbow.{Elbow}
use Rattle.elbow_graph.specs.Numbered.{IsNumbered}
use Rattle.elbow_graph.specs.NumberedLaws.{numbered_once}
use Rattle.elbow_route.specs.Lists.{ServesBy}
use Rattle.lane_clear.specs.Clear.{IsClear}
use Rattle.lane_clear.specs.Frames.{moved_frame}
use Rattle.hand_route.specs.Moves.{moved_by}
use Rattle.recipe_hit.specs.Checked.{Struck}
use Rattle.recipe_hit.specs.Sound.{IsSound}
use Rattle.recipe_hit.specs.declared.frame.Hit.{Hit}
use Rattle.plan_facts.specs.Happenings.{SalvoHit}
use Rattle.plan_facts.specs.State.{State, Hand, first_hand}
use Rattle.plan_facts.specs.State.Hand.{Rests, Under}
use Rattle.plan_facts.specs.MayHit.{MayHit, IsNextHit, hand_left, after_hit}
use Rattle.recipe_turn.specs.Checked.{raws}
use Rattle.recipe_book.specs.Checked.{CheckedEntries}
use Rattle.build_plan.specs.NumberLaws.{item_numbered}
use Rattle.build_plan.specs.declared.event.Event.{Event}
use Rattle.build_plan.specs.TurnEvents.{turn_events, elbow_after}
use Rattle.build_plan.specs.Throws.{hit_throws}
use Rattle.build_plan.specs.Served.{AreServed}
use Rattle.build_plan.specs.Happenings.{salvo_of, IsHitOf}
use Rattle.build_plan.proofs.Goes.{Goes, goes_nowhere, goes_on, hit_first, rests_at, AreSoundTurns, lane_goes}

-- the hit with this number, counted from 0, of a salvo at a place
abbrev pub hit_at : Struck → Cell → ℕ → Hit → SalvoHit
hit_at salvo place number hit = record { salvo = salvo_of salvo; number = number; place = place; hit = hit }

-- the hand before the hit with this number
abbrev pub hand_at : Struck → Cell → ℕ → Hand
hand_at salvo place zero = Rests place
hand_at salvo place (suc n) = Under (salvo_of salvo) place (suc n)

next_is : (salvo : Struck) (place : Cell) (number : ℕ) (hit : Hit) → IsNextHit (hand_at salvo place number) (hit_at salvo place number hit)
next_is salvo place zero hit = (refl, refl)
next_is salvo place (suc n) hit = (refl, (refl, refl))

same_hand : (place : Cell) (to : Option Cell) → hand_left place to ≡ first_hand (moved_by place to)
same_hand place None = refl
same_hand place (Some to) = refl

is_last_one : (a b : ℕ) → b ≡ a → nat_eq a b ≡ true
is_last_one a b same = elim (eqb_tells a b) [ inl is ↦ is.0 | inr other ↦ absurd (other.1 (sym same)) ]

is_not_last : (a b : ℕ) → (a ≡ b → ⊥) → nat_eq a b ≡ false
is_not_last a b differs = elim (eqb_tells a b) [ inl is ↦ absurd (differs is.1) | inr other ↦ other.0 ]

module _ (book : CheckedEntries) (sound : AreSoundTurns book) (built : Plane) (number : ℕ) (salvo : Struck) (place : Cell) (numbered : IsNumbered book.salvos number salvo)
    (salvo_sound : IsSound (alive book.hand) salvo.raw salvo.hits) where
  abbrev product : Plane
  product = shift place.x place.y (alive salvo.raw.product)

  -- after the salvo
  abbrev pub salvo_done : Elbow → State
  salvo_done to = rests_at (Some to) None (first_hand (moved_by place salvo.raw.hand)) (union built product)

  abbrev waits : ℕ → Hit → Elbow → State
  waits n hit next = rests_at (Some next) (Some (moved_frame place hit.frame).lane) (hand_at salvo place n) built

  after_last : (n : ℕ) (hit : Hit) (next : Elbow) → length salvo.hits ≡ suc n → after_hit (waits n hit next) (hit_at salvo place n hit) ≡ salvo_done next
  after_last n hit next long =
      ap (λ (b : Bool). rests_at (Some next) None (cond b (hand_left place salvo.raw.hand) (Under (salvo_of salvo) place (suc n))) (cond b (union built product) built))
      (is_last_one (suc n) (length salvo.hits) long)
      ∙ ap (λ (h : Hand). rests_at (Some next) None h (union built product)) (same_hand place salvo.raw.hand)

  after_another : (n : ℕ) (hit : Hit) (next : Elbow) → (suc n ≡ length salvo.hits → ⊥) → after_hit (waits n hit next) (hit_at salvo place n hit) ≡ rests_at (Some next) None (hand_at salvo place (suc n)) built
  after_another n hit next more =
      ap (λ (b : Bool). rests_at (Some next) None (cond b (hand_left place salvo.raw.hand) (Under (salvo_of salvo) place (suc n))) (cond b (union built product) built))
      (is_not_last (suc n) (length salvo.hits) more)

  -- what an event of the salvo stands for
  hit_is : (n : ℕ) (hit : Hit) (h : SalvoHit) → slice_get salvo.hits n ≡ Some hit → IsHitOf book number (suc n) place h → h ≡ hit_at salvo place n hit
  hit_is n hit h there is =
      let salvos : is.salvo ≡ salvo = numbered_once book.salvos number is.salvo salvo is.numbered numbered in
      let hits : h.hit ≡ hit = same_item (item_numbered salvo.hits (suc n) h.hit (subst (λ (s : Struck). IsNumbered s.hits (suc n) h.hit) salvos is.hit_is)) there in
      let own : h.salvo ≡ salvo_of salvo = is.salvo_is ∙ ap salvo_of salvos in
      let count = suc_inj is.number_is in
      λ i. record { salvo = own i; number = count i; place = is.place_is i; hit = hits i }

  -- the turns for a hit, and the hit, and what comes after it
  hit_goes : (n : ℕ) (hit : Hit) (from : Elbow) (list : List ℕ) (rest : List Event) (end : State) → slice_get salvo.hits n ≡ Some hit → IsClear book.settings built (moved_frame place hit.frame) →
      ServesBy (raws book.turns) book.settings.span (moved_frame place hit.frame).lane from list → Goes book (after_hit (waits n hit (elbow_after (raws book.turns) from list)) (hit_at salvo place n hit)) rest end →
      Goes book (rests_at (Some from) None (hand_at salvo place n) built) (turn_events (raws book.turns) from list ++ Event.Hit number (suc n) place ∷ rest) end
  hit_goes n hit from list rest end there clear serves goes =
      goes_on book (rests_at (Some from) None (hand_at salvo place n) built) (waits n hit (elbow_after (raws book.turns) from list)) end (turn_events (raws book.turns) from list) (Event.Hit number (suc n) place ∷ rest)
      (lane_goes book sound (hand_at salvo place n) built (moved_frame place hit.frame).lane from list serves)
      (hit_first book (waits n hit (elbow_after (raws book.turns) from list)) end number (suc n) place rest (λ h is.
      let same : hit_at salvo place n hit ≡ h = sym (hit_is n hit h there is) in (
        subst (MayHit book.settings (alive book.hand) (waits n hit (elbow_after (raws book.turns) from list))) same
            (record { waits_for = refl; is_next = next_is salvo place n hit; sound = salvo_sound; hit_is = there; clear = clear }),
        subst (λ (g : SalvoHit). Goes book (after_hit (waits n hit (elbow_after (raws book.turns) from list)) g) rest end) same goes,
      )))

  hits_go : (n : ℕ) (hit : Hit) (hits : List Hit) (from to : Elbow) (events : List Event) → ((k : ℕ) → slice_get salvo.hits (k + n) ≡ slice_get (hit ∷ hits) k) → length salvo.hits ≡ length hits + suc n →
      AllByRecursion (λ (h : Hit). IsClear book.settings built (moved_frame place h.frame)) (hit ∷ hits) →
      AreServed (raws book.turns) book.settings.span from (hit_throws number place (suc n) (hit ∷ hits)) events to → Goes book (rests_at (Some from) None (hand_at salvo place n) built) events (salvo_done to)
  hits_go n hit [] from to events there long clear (list, (rest, (least, (is, (none, same))))) =
      subst (λ (l : List Event). Goes book (rests_at (Some from) None (hand_at salvo place n) built) l (salvo_done to)) (sym is)
      (hit_goes n hit from list rest (salvo_done to) (ap (slice_get salvo.hits) (omega arith) ∙ there 0) clear.0 least.ends
      (subst (λ (l : List Event). Goes book (after_hit (waits n hit (elbow_after (raws book.turns) from list)) (hit_at salvo place n hit)) l (salvo_done to)) (sym none)
      (subst (λ (s : State). Goes book s [] (salvo_done to)) (ap salvo_done same ∙ sym (after_last n hit (elbow_after (raws book.turns) from list) (long ∙ omega arith))) (goes_nowhere book (salvo_done to)))))
  hits_go n hit (second ∷ hits) from to events there long clear (list, (rest, (least, (is, more)))) =
      subst (λ (l : List Event). Goes book (rests_at (Some from) None (hand_at salvo place n) built) l (salvo_done to)) (sym is)
      (hit_goes n hit from list rest (salvo_done to) (ap (slice_get salvo.hits) (omega arith) ∙ there 0) clear.0 least.ends
      (subst (λ (s : State). Goes book s rest (salvo_done to)) (sym (after_another n hit (elbow_after (raws book.turns) from list) (λ e. omega arith)))
      (hits_go (suc n) second hits (elbow_after (raws book.turns) from list) to rest (λ k. ap (slice_get salvo.hits) (omega arith) ∙ there (suc k)) (omega arith) clear.1 more)))

  -- all events of the salvo, where it has a hit
  pub salvo_goes : (from to : Elbow) (events : List Event) → 0 < length salvo.hits → AllByRecursion (λ (h : Hit). IsClear book.settings built (moved_frame place h.frame)) salvo.hits →
      AreServed (raws book.turns) book.settings.span from (hit_throws number place 1 salvo.hits) events to → Goes book (rests_at (Some from) None (Rests place) built) events (salvo_done to)
  salvo_goes from to events some clear served = by salvo.hits refl some clear served
    where
      by : (l : List Hit) → salvo.hits ≡ l → 0 < length l → AllByRecursion (λ (h : Hit). IsClear book.settings built (moved_frame place h.frame)) l →
          AreServed (raws book.turns) book.settings.span from (hit_throws number place 1 l) events to → Goes book (rests_at (Some from) None (Rests place) built) events (salvo_done to)
      by [] is some c t = absurd (omega arith)
      by (hit ∷ hits) is some c t = hits_go 0 hit hits from to events (λ k. ap (slice_get salvo.hits) (omega arith) ∙ ap (λ (l : List Hit). slice_get l k) is) (ap length is ∙ omega arith) c t
