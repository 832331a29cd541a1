-- The turns of a list, added one by one to what was walked.
use Rattle.std.specs.Prelude.{◌≡◌, ℕ, suc, ◌<◌, ◌≤◌, ℤ, List, [], ◌∷◌, ◌++◌, length, drop, get_or}
use Rattle.std.proofs.Common.{refl, sym, ap, subst, ◌∙◌, append_assoc, append-nil}
use Rattle.std.proofs.Math.Seq.{drop-cons}
use Rattle.std.proofs.lemmas.List.{drop_all}
use Rattle.elbow_graph.specs.declared.elbow.Elbow.{Elbow}
use Rattle.book_parts.specs.declared.turn.RawTurn.{RawTurn}
use Rattle.build_plan.specs.declared.event.Event.{Event}
use Rattle.build_plan.specs.declared.event.Event.TheVariants.{Turn}
use Rattle.build_plan.specs.Numbers.{item_of}
use Rattle.build_plan.specs.TurnEvents.{elbow_past, elbow_after, turn_events}
use Rattle.build_plan.specs.Walked.{IsWalked, AreWalked}

-- the turns before a place are added: with those from there on they are all
pub record IsPushed (turns : List RawTurn) (span : ℤ) (list : List ℕ) (first : Elbow) (before : List Event) (place : ℕ) (elbow : Elbow) (events : List Event) : Type 0 where
  pub walked : AreWalked turns span elbow (drop place list)
  pub events_are : events ++ turn_events turns elbow (drop place list) ≡ before ++ turn_events turns first list
  pub elbow_is : elbow_after turns elbow (drop place list) ≡ elbow_after turns first list

module _ (turns : List RawTurn) (span : ℤ) (list : List ℕ) (first : Elbow) (before : List Event) where
  pub pushed_none : AreWalked turns span first list → IsPushed turns span list first before 0 first before
  pushed_none walked = record { walked = walked; events_are = refl; elbow_is = refl }

  -- the next one can be walked
  pub next_walked : (place : ℕ) (elbow : Elbow) (events : List Event) → place < length list → IsPushed turns span list first before place elbow events →
      IsWalked turns span (get_or list place 0) elbow × AreWalked turns span (elbow_past (item_of turns (get_or list place 0)) elbow) (drop (suc place) list)
  next_walked place elbow events lt p = subst (AreWalked turns span elbow) (drop-cons list place 0 lt) p.walked

  -- one more is added
  pub pushed_more : (place : ℕ) (elbow next : Elbow) (events : List Event) → place < length list → IsPushed turns span list first before place elbow events →
      next ≡ elbow_past (item_of turns (get_or list place 0)) elbow → IsPushed turns span list first before (suc place) next (events ++ Turn (get_or list place 0) elbow.shift ∷ [])
  pushed_more place elbow next events lt p is =
      let k = get_or list place 0 in
      let rest = drop (suc place) list in
      let past = elbow_past (item_of turns k) elbow in
      let more = next_walked place elbow events lt p in
      let split : drop place list ≡ k ∷ rest = drop-cons list place 0 lt in
      let events_are : (events ++ Turn k elbow.shift ∷ []) ++ turn_events turns past rest ≡ before ++ turn_events turns first list =
      append_assoc events (Turn k elbow.shift ∷ []) (turn_events turns past rest) ∙ ap (λ (l : List ℕ). events ++ turn_events turns elbow l) (sym split) ∙ p.events_are in
      let elbow_is : elbow_after turns past rest ≡ elbow_after turns first list = ap (elbow_after turns elbow) (sym split) ∙ p.elbow_is in
      subst (λ (e : Elbow). IsPushed turns span list first before (suc place) e (events ++ Turn k elbow.shift ∷ [])) (sym is) (record { walked = more.1; events_are = events_are; elbow_is = elbow_is })

  -- all are added
  pub pushed_all : (place : ℕ) (elbow : Elbow) (events : List Event) → length list ≤ place → IsPushed turns span list first before place elbow events →
      (events ≡ before ++ turn_events turns first list) × (elbow ≡ elbow_after turns first list)
  pushed_all place elbow events le p =
      let none : drop place list ≡ [] = drop_all place list le in (
        sym (append-nil events) ∙ ap (λ (l : List ℕ). events ++ turn_events turns elbow l) (sym none) ∙ p.events_are,
        ap (elbow_after turns elbow) (sym none) ∙ p.elbow_is,
      )
