-- The first turn with a key that leads from an elbow to another.
use Rattle.std.proofs.Common.{◌≡◌, ◌⊎◌, ℕ, suc, ◌+◌, ◌-◌, ◌<◌, ◌≤◌, ℤ, List, length, Option, Some, None, IfSome, inl, inr, sym, ap, subst, ◌∙◌, add-one, arith}
use Rattle.std.specs.List.{slice_get}
use Rattle.std.proofs.lemmas.Bool.{cases_lt}
use Rattle.std.proofs.lemmas.Option.{slice_get_within}
use Rattle.life_plane.specs.ListLaws.{same_item}
use Rattle.life_plane.specs.NumberLaws.{lt_or_same}
use Rattle.breadth_search.specs.declared.graph.Lead.{Lead}
use Rattle.breadth_search.specs.Search.{bound_past}
use Rattle.breadth_search.specs.Leads.{IsLead, IsFirstLead}
use Rattle.elbow_graph.specs.declared.elbow.Elbow.{Elbow}
use Rattle.elbow_graph.specs.declared.exit.Exit.{Exit}
use Rattle.elbow_graph.specs.declared.table.Table.{Table}
use Rattle.elbow_graph.specs.declared.table.TurnKey.{TurnKey}
use Rattle.elbow_graph.specs.Elbows.{Leads}
use Rattle.elbow_graph.specs.Numbered.{IsNumbered}
use Rattle.elbow_graph.specs.Tables.{key_in, place_past, IsKeyed, IsLeastFrom, IsTurnOf, LeadsBy}
use Rattle.elbow_graph.specs.NumberedLaws.{numbered_from_at, at_from_numbered}

-- ---- numbers and places

pub keyed_from_turn : (table : Table) (exits : List Exit) (key : TurnKey) (number : ℕ) → IsTurnOf table exits key number → (i : ℕ) × ((number ≡ suc i) × IsKeyed table exits key i)
keyed_from_turn table exits key number turn =
    let there = at_from_numbered exits number turn.exit turn.numbered in
    (there.0, (there.1.0, record { exit = turn.exit; at = there.1.1; keyed = turn.keyed }))

keyed_from_leads : (table : Table) (exits : List Exit) (span : ℤ) (key : TurnKey) (k : ℕ) (at to : Elbow) → LeadsBy table exits span key k at to → (i : ℕ) × ((k ≡ suc i) × IsKeyed table exits key i)
keyed_from_leads table exits span key k at to leads = keyed_from_turn table exits key k (record { exit = leads.exit; numbered = leads.numbered; keyed = leads.keyed })

-- the place before a turn's number
pub place_of_turn : (table : Table) (exits : List Exit) (key : TurnKey) (number : ℕ) → IsTurnOf table exits key number → (number - 1 < length exits) × (IsKeyed table exits key (number - 1) × (number - 1 + 1 ≡ number))
place_of_turn table exits key number turn =
    let there = keyed_from_turn table exits key number turn in
    let is : number - 1 ≡ there.0 = (let e = there.1.0 in omega arith) in (
      (let lt = slice_get_within exits there.0 there.1.1.exit there.1.1.at in omega arith),
      (subst (IsKeyed table exits key) (sym is) there.1.1, (let e = there.1.0 in omega arith)),
    )

-- the turn that is named
pub turn_named : (table : Table) (exits : List Exit) (key : TurnKey) {past : Option ℕ} (number : ℕ) → past ≡ Some number → IfSome past (IsTurnOf table exits key) → IsTurnOf table exits key number
turn_named table exits key {past} number is h =
    let P : Option ℕ → Type 0 = λ o. IfSome o (IsTurnOf table exits key) in let there : IfSome (Some number) (IsTurnOf table exits key) = subst P is h in there

-- by the table and the key that they are
pub first_by : (used table : Table) (exits : List Exit) (span : ℤ) (used_key key : TurnKey) (at : Elbow) (bound : ℕ) (answer : Option (Lead Elbow)) → used ≡ table → used_key ≡ key → IsFirstLead (LeadsBy used exits span used_key) at bound answer →
    IsFirstLead (LeadsBy table exits span key) at bound answer
first_by used table exits span used_key key at bound answer same same_key first =
    subst (λ k. IsFirstLead (LeadsBy table exits span k) at bound answer) same_key (subst (λ t. IsFirstLead (LeadsBy t exits span used_key) at bound answer) same first)

-- ---- the search for the first

module _ (table : Table) (exits : List Exit) (span : ℤ) (key : TurnKey) (at : Elbow) (bound : ℕ) where
  -- the turns with the key, from the bound on, that come before a place lead nowhere; and there is the next of them
  pub record IsSought (place : Option ℕ) : Type 0 where
    pub tried : ℕ
    pub up : bound ≤ suc tried
    pub least : IsLeastFrom (IsKeyed table exits key) tried place
    pub none : (k : ℕ) (to : Elbow) → bound ≤ k → k < suc tried → LeadsBy table exits span key k at to → ⊥

  pub sought_within : (place : Option ℕ) (index : ℕ) → place ≡ Some index → IsSought place → index < length exits
  sought_within place index is was =
      let least : IsLeastFrom (IsKeyed table exits key) was.tried (Some index) = subst (IsLeastFrom (IsKeyed table exits key) was.tried) is was.least in
      slice_get_within exits index least.1.0.exit least.1.0.at

  module _ (place : Option ℕ) (index : ℕ) (is : place ≡ Some index) (was : IsSought place) (exit : Exit) (at_index : slice_get exits index ≡ Some exit) where
    least : IsLeastFrom (IsKeyed table exits key) was.tried (Some index)
    least = subst (IsLeastFrom (IsKeyed table exits key) was.tried) is was.least

    pub sought_keyed : IsKeyed table exits key index
    sought_keyed = least.1.0

    exit_is : least.1.0.exit ≡ exit
    exit_is = same_item least.1.0.at at_index

    -- a turn that leads on, up to this one, is this one
    this_leads : (k : ℕ) (to : Elbow) → bound ≤ k → k < suc (suc index) → LeadsBy table exits span key k at to → (k ≡ suc index) × Leads span exit at to
    this_leads k to low high leads = by (cases_lt k (suc was.tried))
      where
        there : (i : ℕ) × ((k ≡ suc i) × IsKeyed table exits key i)
        there = keyed_from_leads table exits span key k at to leads

        here : (k ≡ suc index) → (k ≡ suc index) × Leads span exit at to
        here number =
            let numbered = at_from_numbered exits k leads.exit leads.numbered in
            let place_is : numbered.0 ≡ index = (let e = numbered.1.0 in omega arith) in
            let it_is : leads.exit ≡ exit = same_item numbered.1.1 (ap (slice_get exits) place_is ∙ at_index) in
            (number, subst (λ e. Leads span e at to) it_is leads.leads)

        by_place : suc was.tried ≤ k → (there.0 < index) ⊎ (there.0 ≡ index) → (k ≡ suc index) × Leads span exit at to
        by_place low (inl less) = absurd (least.1.1 there.0 (let e = there.1.0 in omega arith) less there.1.1)
        by_place low (inr same) = here (there.1.0 ∙ ap suc same)

        by : (k < suc was.tried) ⊎ (suc was.tried ≤ k) → (k ≡ suc index) × Leads span exit at to
        by (inl early) = absurd (was.none k to low early leads)
        by (inr late) = by_place late (lt_or_same there.0 index (let e = there.1.0 in omega arith))

    -- it leads nowhere
    pub sought_fails : (next : Option ℕ) → ((to : Elbow) → Leads span exit at to → ⊥) → IsLeastFrom (IsKeyed table exits key) (index + 1) next → IsSought next
    sought_fails next nowhere rest = record {
      tried = suc index;
      up = (let up = was.up in let low = least.0 in omega arith);
      least = subst (λ n. IsLeastFrom (IsKeyed table exits key) n next) (add-one index) rest;
      none = λ k to low high leads. nowhere to (this_leads k to low high leads).1;
    }

    -- it leads to an elbow
    pub sought_found : (to : Elbow) (lead : Lead Elbow) → Leads span exit at to → lead ≡ record { number = index + 1; to = to } → IsLead (LeadsBy table exits span key) at bound lead
    sought_found to lead leads is = subst (IsLead (LeadsBy table exits span key) at bound) (sym is) (record {
      up = (let up = was.up in let low = least.0 in omega arith);
      leads = record {
        exit = exit;
        numbered = subst (λ n. IsNumbered exits n exit) (sym (add-one index)) (numbered_from_at exits index exit at_index);
        keyed = subst (λ e. key_in table e ≡ Some key) exit_is least.1.0.keyed;
        leads = leads;
      };
      only = λ other other_leads. same_item (this_leads (index + 1) other (let up = was.up in let low = least.0 in omega arith) (omega arith) other_leads).1.leaves_it leads.leaves_it;
      least = λ k other low high other_leads. let number = (this_leads k other low (omega arith) other_leads).0 in omega arith;
    })

  -- no turn is left
  pub sought_over : (place : Option ℕ) → place ≡ None → IsSought place → (k : ℕ) (to : Elbow) → bound ≤ k → LeadsBy table exits span key k at to → ⊥
  sought_over place over was k to low leads = by (cases_lt k (suc was.tried))
    where
      there : (i : ℕ) × ((k ≡ suc i) × IsKeyed table exits key i)
      there = keyed_from_leads table exits span key k at to leads

      by : (k < suc was.tried) ⊎ (suc was.tried ≤ k) → ⊥
      by (inl early) = was.none k to low early leads
      by (inr late) =
          let none : IsLeastFrom (IsKeyed table exits key) was.tried None = subst (IsLeastFrom (IsKeyed table exits key) was.tried) over was.least in
          none there.0 (let e = there.1.0 in omega arith) there.1.1

pub sought_begins : (table : Table) (exits : List Exit) (span : ℤ) (key : TurnKey) (at : Elbow) (past place : Option ℕ) → IfSome past (IsTurnOf table exits key) → IsLeastFrom (IsKeyed table exits key) (place_past past) place →
    IsSought table exits span key at (bound_past past) place
sought_begins table exits span key at None place turn least = record {
  tried = 0;
  up = omega arith;
  least = least;
  none = λ k to low high leads. let there = keyed_from_leads table exits span key k at to leads in let is = there.1.0 in omega arith;
}
sought_begins table exits span key at (Some number) place turn least = record { tried = number; up = omega arith; least = least; none = λ k to low high leads. omega arith }

-- ---- the turns that are left

abbrev pub left : ℕ → Option ℕ → ℕ
left many None = 0
left many (Some index) = many - index

pub left_falls : (Has : ℕ → Type 0) (many index : ℕ) (now later : Option ℕ) → now ≡ Some index → index < many → IsLeastFrom Has (index + 1) later → left many later < left many now
left_falls Has many index now None is lt least = let e : left many now ≡ many - index = ap (left many) is in omega arith
left_falls Has many index now (Some k) is lt least = let e : left many now ≡ many - index = ap (left many) is in let le = least.0 in omega arith
