-- Turns that may pass, and turns that end a list, by their tables.
use Rattle.std.proofs.Common.{◌≡◌, ◌⊎◌, ℕ, suc, ◌+◌, ◌<◌, ◌≤◌, ℤ, pos, ◌+ℤ◌, ◌*ℤ◌, List, [], ◌∷◌, Option, Some, None, inl, inr, refl, sym, ap, subst, ◌∙◌, add-one, arith}
use Rattle.std.proofs.lemmas.Int.{ints}
use Rattle.std.proofs.lemmas.Bool.{cases_lt}
use Rattle.life_plane.specs.ListLaws.{same_item}
use Rattle.book_parts.specs.declared.turn.TurnEnd.{TurnEnd}
use Rattle.book_parts.specs.declared.turn.TurnEnd.TheVariants.{Close, Move, Emit}
use Rattle.breadth_search.specs.declared.graph.Lead.{Lead}
use Rattle.breadth_search.specs.declared.outcome.Outcome.{Outcome}
use Rattle.breadth_search.specs.declared.outcome.Outcome.TheVariants.{Route, Nowhere, More}
use Rattle.breadth_search.specs.Leads.{IsFirstLead, IsFirstEnd, LeadsOn}
use Rattle.elbow_graph.specs.declared.elbow.Elbow.{Elbow}
use Rattle.elbow_graph.specs.declared.exit.Exit.{Exit}
use Rattle.elbow_graph.specs.declared.goal.Goal.{Goal}
use Rattle.elbow_graph.specs.declared.goal.Goal.TheVariants as goals
use Rattle.elbow_graph.specs.declared.table.TurnKey.{TurnKey}
use Rattle.elbow_graph.specs.declared.table.Table.TheVariants.{Closing, Throws}
use Rattle.elbow_graph.specs.Answers.{AnswersSo}
use Rattle.elbow_graph.specs.Elbows.{elbow, leaves, IsInSpan}
use Rattle.elbow_graph.specs.Goals.{MayPass, IsEnd, Passes, Ends, IsRoute, IsLeastRoute}
use Rattle.elbow_graph.specs.Numbered.{IsNumbered}
use Rattle.elbow_graph.specs.States.{HasReached, HasReachedMore}
use Rattle.elbow_graph.specs.Tables.{turn_key, key_of_end, passing_in, IsKeyed, IsLeastFrom, IsTurnOf, LeadsBy}
use Rattle.elbow_graph.specs.NumberedLaws.{numbered_from_at, at_from_numbered}

-- ---- turns that may pass

may_keyed : (goal : Goal) (kind : ℕ) (end : TurnEnd) → MayPass goal end → key_of_end (passing_in goal) kind end ≡ Some (turn_key kind None)
may_keyed goal kind Close may = absurd may
may_keyed goals.Anywhere kind (Move next advance) may = refl
may_keyed goals.Closed kind (Move next advance) may = refl
may_keyed (goals.Lane wanted) kind (Move next advance) may = refl
may_keyed goals.Anywhere kind (Emit next advance lane j) may = refl
may_keyed goals.Closed kind (Emit next advance lane j) may = absurd may
may_keyed (goals.Lane wanted) kind (Emit next advance lane j) may = absurd may

keyed_may : (goal : Goal) (kind : ℕ) (end : TurnEnd) (key : TurnKey) → key_of_end (passing_in goal) kind end ≡ Some key → MayPass goal end
keyed_may goals.Anywhere kind Close key keyed = cc
keyed_may goals.Closed kind Close key keyed = cc
keyed_may (goals.Lane wanted) kind Close key keyed = cc
keyed_may goal kind (Move next advance) key keyed = tt
keyed_may goals.Anywhere kind (Emit next advance lane j) key keyed = tt
keyed_may goals.Closed kind (Emit next advance lane j) key keyed = cc
keyed_may (goals.Lane wanted) kind (Emit next advance lane j) key keyed = cc

module _ (exits : List Exit) (span : ℤ) (goal : Goal) (at : Elbow) where
  pub leads_from_passes : (k : ℕ) (to : Elbow) → Passes exits span goal k at to → LeadsBy (passing_in goal) exits span (turn_key at.kind None) k at to
  leads_from_passes k to h = record {
    exit = h.exit;
    numbered = h.numbered;
    keyed = may_keyed goal h.exit.kind h.exit.end h.may ∙ ap (λ kind. Some (turn_key kind None)) h.leads.kind;
    leads = h.leads;
  }

  pub passes_from_leads : (k : ℕ) (to : Elbow) → LeadsBy (passing_in goal) exits span (turn_key at.kind None) k at to → Passes exits span goal k at to
  passes_from_leads k to h = record { exit = h.exit; numbered = h.numbered; may = keyed_may goal h.exit.kind h.exit.end (turn_key at.kind None) h.keyed; leads = h.leads }

  -- a turn that leads on is one of the table
  pub turn_of_table : (number : ℕ) → LeadsOn (Passes exits span goal) at number → IsTurnOf (passing_in goal) exits (turn_key at.kind None) number
  turn_of_table number h = let by = leads_from_passes number h.0 h.1 in record { exit = by.exit; numbered = by.numbered; keyed = by.keyed }

  -- the first that leads on by the table is the first that passes
  pub first_passes : (bound : ℕ) (answer : Option (Lead Elbow)) → IsFirstLead (LeadsBy (passing_in goal) exits span (turn_key at.kind None)) at bound answer → IsFirstLead (Passes exits span goal) at bound answer
  first_passes bound None none = λ k to low passes. none k to low (leads_from_passes k to passes)
  first_passes bound (Some lead) first = record {
    up = first.up;
    leads = passes_from_leads lead.number lead.to first.leads;
    only = λ to passes. first.only to (leads_from_passes lead.number to passes);
    least = λ k to low high passes. first.least k to low high (leads_from_passes k to passes);
  }

-- ---- turns that close

closing_ends : (kind : ℕ) (end : TurnEnd) (key : TurnKey) (span shift : ℤ) → key_of_end Closing kind end ≡ Some key → IsEnd goals.Closed span end shift
closing_ends kind Close key span shift keyed = tt
closing_ends kind (Move next advance) key span shift keyed = cc
closing_ends kind (Emit next advance lane j) key span shift keyed = cc

closing_kind : (kind : ℕ) (end : TurnEnd) (key : TurnKey) → key_of_end Closing kind end ≡ Some key → kind ≡ key.kind
closing_kind kind Close key keyed = ap (λ (k : TurnKey). k.kind) (same_item refl keyed)
closing_kind kind (Move next advance) key keyed = cc
closing_kind kind (Emit next advance lane j) key keyed = cc

ends_closing : (kind : ℕ) (end : TurnEnd) (span shift : ℤ) → IsEnd goals.Closed span end shift → key_of_end Closing kind end ≡ Some (turn_key kind None)
ends_closing kind Close span shift ends = refl
ends_closing kind (Move next advance) span shift ends = absurd ends
ends_closing kind (Emit next advance lane j) span shift ends = absurd ends

module _ (exits : List Exit) (span : ℤ) (at : Elbow) where
  closes_at : (k : ℕ) → Ends exits span goals.Closed k at → (i : ℕ) × ((k ≡ suc i) × IsKeyed Closing exits (turn_key at.kind None) i)
  closes_at k h =
      let there = at_from_numbered exits k h.exit h.numbered in
      (there.0, (there.1.0, record { exit = h.exit; at = there.1.1; keyed = ends_closing h.exit.kind h.exit.end span at.shift h.end ∙ ap (λ kind. Some (turn_key kind None)) h.kind }))

  pub none_closes : (answer : Option ℕ) → answer ≡ None → IsLeastFrom (IsKeyed Closing exits (turn_key at.kind None)) 0 answer → (k : ℕ) → Ends exits span goals.Closed k at → ⊥
  none_closes answer none least k ends =
      let over : IsLeastFrom (IsKeyed Closing exits (turn_key at.kind None)) 0 None = subst (IsLeastFrom (IsKeyed Closing exits (turn_key at.kind None)) 0) none least in
      let there = closes_at k ends in
      over there.0 (omega arith) there.1.1

  pub first_closes : (answer : Option ℕ) (place : ℕ) → answer ≡ Some place → IsLeastFrom (IsKeyed Closing exits (turn_key at.kind None)) 0 answer → IsFirstEnd (Ends exits span goals.Closed) at (Some (place + 1))
  first_closes answer place some least =
      let first : IsLeastFrom (IsKeyed Closing exits (turn_key at.kind None)) 0 (Some place) = subst (IsLeastFrom (IsKeyed Closing exits (turn_key at.kind None)) 0) some least in (
        record {
          exit = first.1.0.exit;
          numbered = subst (λ n. IsNumbered exits n first.1.0.exit) (sym (add-one place)) (numbered_from_at exits place first.1.0.exit first.1.0.at);
          kind = closing_kind first.1.0.exit.kind first.1.0.exit.end (turn_key at.kind None) first.1.0.keyed;
          end = closing_ends first.1.0.exit.kind first.1.0.exit.end (turn_key at.kind None) span at.shift first.1.0.keyed;
        },
        λ k ends. by k (closes_at k ends) first.1.1,
      )
    where
      by : (k : ℕ) → (i : ℕ) × ((k ≡ suc i) × IsKeyed Closing exits (turn_key at.kind None) i) → ((j : ℕ) → 0 ≤ j → j < place → IsKeyed Closing exits (turn_key at.kind None) j → ⊥) → place + 1 ≤ k
      by k there none = order (cases_lt there.0 place)
        where
          order : (there.0 < place) ⊎ (place ≤ there.0) → place + 1 ≤ k
          order (inl less) = absurd (none there.0 (omega arith) less there.1.1)
          order (inr le) = let e = there.1.0 in omega arith

-- ---- turns that throw on a lane

throw_keyed : (kind : ℕ) (end : TurnEnd) (span shift wanted relative : ℤ) → relative +ℤ pos 2 *ℤ shift ≡ wanted → IsEnd (goals.Lane wanted) span end shift → key_of_end Throws kind end ≡ Some (turn_key kind (Some relative))
throw_keyed kind Close span shift wanted relative is ends = absurd ends
throw_keyed kind (Move next advance) span shift wanted relative is ends = absurd ends
throw_keyed kind (Emit next advance lane j) span shift wanted relative is ends = let on = ends.0 in ap (λ l. Some (turn_key kind (Some l))) (omega (arith, ints))

throw_to : (end : TurnEnd) (span shift wanted : ℤ) → IsEnd (goals.Lane wanted) span end shift → (to : Elbow) × ((leaves end shift ≡ Some to) × IsInSpan span to)
throw_to Close span shift wanted ends = absurd ends
throw_to (Move next advance) span shift wanted ends = absurd ends
throw_to (Emit next advance lane j) span shift wanted ends = (elbow next (shift +ℤ advance), (refl, ends.1))

keyed_throw : (kind : ℕ) (end : TurnEnd) (span shift wanted relative : ℤ) (key : TurnKey) (to : Elbow) → relative +ℤ pos 2 *ℤ shift ≡ wanted → key.lane ≡ Some relative → key_of_end Throws kind end ≡ Some key → leaves end shift ≡ Some to →
    IsInSpan span to → IsEnd (goals.Lane wanted) span end shift
keyed_throw kind Close span shift wanted relative key to is lane_is keyed leaves_it near = cc
keyed_throw kind (Move next advance) span shift wanted relative key to is lane_is keyed leaves_it near = cc
keyed_throw kind (Emit next advance lane j) span shift wanted relative key to is lane_is keyed leaves_it near =
    let lanes : Some lane ≡ Some relative = ap (λ (k : TurnKey). k.lane) (same_item refl keyed) ∙ lane_is in
    let same : lane ≡ relative = same_item refl lanes in
    (omega (arith, ints), subst (IsInSpan span) (sym (same_item refl leaves_it)) near)

module _ (exits : List Exit) (span : ℤ) (at : Elbow) (wanted relative : ℤ) (is : relative +ℤ pos 2 *ℤ at.shift ≡ wanted) where
  leads_from_ends : (k : ℕ) → Ends exits span (goals.Lane wanted) k at → (to : Elbow) × LeadsBy Throws exits span (turn_key at.kind (Some relative)) k at to
  leads_from_ends k h =
      let there = throw_to h.exit.end span at.shift wanted h.end in (
        there.0,
        record {
          exit = h.exit;
          numbered = h.numbered;
          keyed = throw_keyed h.exit.kind h.exit.end span at.shift wanted relative is h.end ∙ ap (λ kind. Some (turn_key kind (Some relative))) h.kind;
          leads = record { kind = h.kind; leaves_it = there.1.0; near = there.1.1 };
        },
      )

  ends_from_leads : (k : ℕ) (to : Elbow) → LeadsBy Throws exits span (turn_key at.kind (Some relative)) k at to → Ends exits span (goals.Lane wanted) k at
  ends_from_leads k to h = record {
    exit = h.exit;
    numbered = h.numbered;
    kind = h.leads.kind;
    end = keyed_throw h.exit.kind h.exit.end span at.shift wanted relative (turn_key at.kind (Some relative)) to is refl h.keyed h.leads.leaves_it h.leads.near;
  }

  pub none_throws : (answer : Option (Lead Elbow)) → answer ≡ None → IsFirstLead (LeadsBy Throws exits span (turn_key at.kind (Some relative))) at 0 answer → (k : ℕ) → Ends exits span (goals.Lane wanted) k at → ⊥
  none_throws answer none first k ends =
      let over : IsFirstLead (LeadsBy Throws exits span (turn_key at.kind (Some relative))) at 0 None = subst (IsFirstLead (LeadsBy Throws exits span (turn_key at.kind (Some relative))) at 0) none first in
      let there = leads_from_ends k ends in
      over k there.0 (omega arith) there.1

  pub first_throws : (answer : Option (Lead Elbow)) (lead : Lead Elbow) → answer ≡ Some lead → IsFirstLead (LeadsBy Throws exits span (turn_key at.kind (Some relative))) at 0 answer →
      IsFirstEnd (Ends exits span (goals.Lane wanted)) at (Some lead.number)
  first_throws answer lead some first =
      let found : IsFirstLead (LeadsBy Throws exits span (turn_key at.kind (Some relative))) at 0 (Some lead) = subst (IsFirstLead (LeadsBy Throws exits span (turn_key at.kind (Some relative))) at 0) some first in
      (ends_from_leads lead.number lead.to found.leads, λ k ends. by k (leads_from_ends k ends) found.least (cases_lt k lead.number))
    where
      by : (k : ℕ) → (to : Elbow) × LeadsBy Throws exits span (turn_key at.kind (Some relative)) k at to →
          ((j : ℕ) (to : Elbow) → 0 ≤ j → j < lead.number → LeadsBy Throws exits span (turn_key at.kind (Some relative)) j at to → ⊥) → (k < lead.number) ⊎ (lead.number ≤ k) → lead.number ≤ k
      by k there none (inl less) = absurd (none k there.0 (omega arith) less there.1)
      by k there none (inr le) = le

-- ---- where no end is wanted

pub nowhere_ends : (exits : List Exit) (span : ℤ) (from : Elbow) (list : List ℕ) → IsRoute exits span goals.Anywhere from list → ⊥
nowhere_ends exits span from [] route = route
nowhere_ends exits span from (k ∷ ks) (inl last) = last.0.end
nowhere_ends exits span from (k ∷ ks) (inr on) = nowhere_ends exits span on.0 ks on.1.1

-- ---- what a search for no end answers

pub counted : (seen exits : List Exit) (used span : ℤ) (from : Elbow) (limit count : ℕ) (outcome : Outcome) → outcome ≡ Nowhere count → seen ≡ exits → used ≡ span → AnswersSo seen used goals.Anywhere from limit outcome →
    HasReached (Passes exits span goals.Anywhere) from limit count
counted seen exits used span from limit count outcome is same same_span answer =
    let nowhere : AnswersSo seen used goals.Anywhere from limit (Nowhere count) = subst (AnswersSo seen used goals.Anywhere from limit) is answer in
    subst (λ es. HasReached (Passes es span goals.Anywhere) from limit count) same (subst (λ (z : ℤ). HasReached (Passes seen z goals.Anywhere) from limit count) same_span nowhere.0)

pub more_counted : (seen exits : List Exit) (used span : ℤ) (from : Elbow) (limit : ℕ) (outcome : Outcome) → outcome ≡ More → seen ≡ exits → used ≡ span → AnswersSo seen used goals.Anywhere from limit outcome →
    HasReachedMore (Passes exits span goals.Anywhere) from limit
more_counted seen exits used span from limit outcome is same same_span answer =
    let more : AnswersSo seen used goals.Anywhere from limit More = subst (AnswersSo seen used goals.Anywhere from limit) is answer in
    subst (λ es. HasReachedMore (Passes es span goals.Anywhere) from limit) same (subst (λ (z : ℤ). HasReachedMore (Passes seen z goals.Anywhere) from limit) same_span more.0)

pub not_a_route : (exits : List Exit) (span : ℤ) (from : Elbow) (limit : ℕ) (outcome : Outcome) (list : _) → outcome ≡ Route list → AnswersSo exits span goals.Anywhere from limit outcome → ⊥
not_a_route exits span from limit outcome list is answer =
    let route : IsLeastRoute exits span goals.Anywhere from list.items = subst (AnswersSo exits span goals.Anywhere from limit) is answer in
    nowhere_ends exits span from list.items route.ends
