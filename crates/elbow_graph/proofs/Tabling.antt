-- Tables of turns, made from the last turn to the first.
use Rattle.std.proofs.Common.{◌≡◌, ◌⊎◌, ℕ, ◌+◌, ◌<◌, ◌≤◌, Bool, true, false, cond, List, length, get_or, Option, Some, None, inl, inr, refl, sym, ap, subst, ◌∙◌, arith}
use Rattle.std.specs.List.{slice_get}
use Rattle.std.proofs.Math.ListN.{set}
use Rattle.std.proofs.lemmas.List.{get_or-set_same, get_or-set_other, length-set}
use Rattle.std.proofs.lemmas.Bool.{cases_order, true≢false}
use Rattle.std.proofs.lemmas.Option.{slice_get_within}
use Rattle.life_plane.specs.ListLaws.{same_item}
use Rattle.elbow_graph.specs.declared.exit.Exit.{Exit}
use Rattle.elbow_graph.specs.declared.table.Table.{Table}
use Rattle.elbow_graph.specs.declared.table.TurnKey.{TurnKey}
use Rattle.elbow_graph.specs.Made.{IsMade}
use Rattle.elbow_graph.specs.SameKeys.{key_eq}
use Rattle.elbow_graph.specs.SameKeyLaws.{same_key, key_itself}
use Rattle.elbow_graph.specs.Tables.{key_in, IsKeyed, IsLeastFrom, Listed, listed}

-- ---- of what contracts see

pub least_seen : (table : Table) (exits : List Exit) (seen : Listed) (key : TurnKey) (from : ℕ) (answer used : Option ℕ) → listed table exits ≡ seen → answer ≡ used → IsLeastFrom (IsKeyed table exits key) from answer →
    IsLeastFrom (IsKeyed seen.table seen.exits key) from used
least_seen table exits seen key from answer used is same least =
    subst (λ (s : Listed). IsLeastFrom (IsKeyed s.table s.exits key) from used) is (subst (IsLeastFrom (IsKeyed table exits key) from) same least)

pub keyed_seen : (table : Table) (exits : List Exit) (seen : Listed) (key : TurnKey) (place : ℕ) → listed table exits ≡ seen → IsKeyed seen.table seen.exits key place → IsKeyed table exits key place
keyed_seen table exits seen key place is keyed = subst (λ (s : Listed). IsKeyed s.table s.exits key place) (sym is) keyed

pub length_seen : (table : Table) (exits : List Exit) (seen : Listed) → listed table exits ≡ seen → length exits ≡ length seen.exits
length_seen table exits seen is = ap (λ (s : Listed). length s.exits) is

-- by the table and the key that they are
pub least_of : (seen : Listed) (table : Table) (exits : List Exit) (used key : TurnKey) (from : ℕ) (answer : Option ℕ) → seen ≡ listed table exits → used ≡ key → IsLeastFrom (IsKeyed seen.table seen.exits used) from answer →
    IsLeastFrom (IsKeyed table exits key) from answer
least_of seen table exits used key from answer is same least =
    subst (λ k. IsLeastFrom (IsKeyed table exits k) from answer) same (subst (λ (s : Listed). IsLeastFrom (IsKeyed s.table s.exits used) from answer) is least)

-- the next after a place
pub next_of : (seen : Listed) (table : Table) (exits : List Exit) (key : TurnKey) (place : ℕ) (answer : Option ℕ) → seen ≡ listed table exits → IsKeyed table exits key place →
    ((k : TurnKey) → IsKeyed seen.table seen.exits k place → IsLeastFrom (IsKeyed seen.table seen.exits k) (place + 1) answer) → IsLeastFrom (IsKeyed table exits key) (place + 1) answer
next_of seen table exits key place answer is keyed each =
    let there : (k : TurnKey) → IsKeyed table exits k place → IsLeastFrom (IsKeyed table exits k) (place + 1) answer =
    subst (λ (s : Listed). (k : TurnKey) → IsKeyed s.table s.exits k place → IsLeastFrom (IsKeyed s.table s.exits k) (place + 1) answer) is each in
    there key keyed

-- ---- of what is made

-- a place more that lacks a property
down : (Has : ℕ → Type 0) (place : ℕ) (least : Option ℕ) → (Has place → ⊥) → IsLeastFrom Has (place + 1) least → IsLeastFrom Has place least
down Has place None lacks none = λ k low has. by k low has (cases_order k place)
  where
    by : (k : ℕ) → place ≤ k → Has k → (k ≡ place) ⊎ ((k < place) ⊎ (place < k)) → ⊥
    by k low has (inl is) = lacks (subst Has is has)
    by k low has (inr (inl less)) = omega arith
    by k low has (inr (inr more)) = none k (omega arith) has
down Has place (Some k) lacks least = (let low = least.0 in omega arith, (least.1.0, λ j low lt has. by j low lt has (cases_order j place)))
  where
    by : (j : ℕ) → place ≤ j → j < k → Has j → (j ≡ place) ⊎ ((j < place) ⊎ (place < j)) → ⊥
    by j low lt has (inl is) = lacks (subst Has is has)
    by j low lt has (inr (inl less)) = omega arith
    by j low lt has (inr (inr more)) = least.1.1 j (omega arith) lt has

module _ (table : Table) (exits : List Exit) where
  pub made_begins : (firsts : TurnKey → Option ℕ) (nexts : List (Option ℕ)) (place : ℕ) → ((key : TurnKey) → firsts key ≡ None) → length nexts ≡ length exits → place ≡ length exits → IsMade table exits firsts nexts place
  made_begins firsts nexts place none many is = record {
    as_many = many;
    first = λ key. subst (IsLeastFrom (IsKeyed table exits key) place) (sym (none key)) (λ k low keyed. let lt = slice_get_within exits k keyed.exit keyed.at in omega arith);
    next = λ k key low keyed. let lt = slice_get_within exits k keyed.exit keyed.at in absurd (omega arith);
  }

  module _ (firsts : TurnKey → Option ℕ) (nexts : List (Option ℕ)) (before place : ℕ) (exit : Exit) (was : IsMade table exits firsts nexts before) (turn : before ≡ place + 1) (at : slice_get exits place ≡ Some exit) where
    was_next : IsMade table exits firsts nexts (place + 1)
    was_next = subst (IsMade table exits firsts nexts) turn was

    keyed_here : (key : TurnKey) → IsKeyed table exits key place → key_in table exit ≡ Some key
    keyed_here key keyed = ap (key_in table) (same_item at keyed.at) ∙ keyed.keyed

    -- the table does not have the turn
    pub made_skips : (answer : Option TurnKey) → answer ≡ None → answer ≡ key_in table exit → IsMade table exits firsts nexts place
    made_skips answer none is = record {
      as_many = was.as_many;
      first = λ key. down (IsKeyed table exits key) place (firsts key) (lacks key) (was_next.first key);
      next = λ k key low keyed. by k key keyed low (cases_order k place);
    }
      where
        lacks : (key : TurnKey) → IsKeyed table exits key place → ⊥
        lacks key keyed = let e : Some key ≡ None = sym (keyed_here key keyed) ∙ sym is ∙ none in cc

        by : (k : ℕ) (key : TurnKey) → IsKeyed table exits key k → place ≤ k → (k ≡ place) ⊎ ((k < place) ⊎ (place < k)) → IsLeastFrom (IsKeyed table exits key) (k + 1) (get_or nexts k None)
        by k key keyed low (inl same) = absurd (lacks key (subst (IsKeyed table exits key) same keyed))
        by k key keyed low (inr (inl less)) = absurd (omega arith)
        by k key keyed low (inr (inr more)) = was_next.next k key (omega arith) keyed

    -- it has it by a key
    pub made_adds : (answer : Option TurnKey) (key : TurnKey) (old : Option ℕ) (firsts_after : TurnKey → Option ℕ) (nexts_after : List (Option ℕ)) → answer ≡ Some key → answer ≡ key_in table exit → old ≡ firsts key →
        ((q : TurnKey) → firsts_after q ≡ cond (key_eq key q) (Some place) (firsts q)) → nexts_after ≡ set nexts place old → IsMade table exits firsts_after nexts_after place
    made_adds answer key old firsts_after nexts_after some is old_is updates nexts_are =
        subst (λ ns. IsMade table exits firsts_after ns place) (sym nexts_are) (record {
          as_many = length-set nexts place old ∙ was.as_many;
          first = λ q. first_by q (key_eq key q) refl;
          next = λ k q low keyed. by k q keyed low (cases_order k place);
        })
      where
        here : IsKeyed table exits key place
        here = record { exit = exit; at = at; keyed = sym is ∙ some }

        only : (q : TurnKey) → IsKeyed table exits q place → key ≡ q
        only q keyed = same_item (sym is ∙ some) (keyed_here q keyed)

        first_by : (q : TurnKey) (b : Bool) → key_eq key q ≡ b → IsLeastFrom (IsKeyed table exits q) place (firsts_after q)
        first_by q true same =
            let value : firsts_after q ≡ Some place = updates q ∙ ap (λ b. cond b (Some place) (firsts q)) same in
            subst (IsLeastFrom (IsKeyed table exits q) place) (sym value) (omega arith, (subst (λ k. IsKeyed table exits k place) (same_key key q same) here, λ j low lt has. omega arith))
        first_by q false other =
            let value : firsts_after q ≡ firsts q = updates q ∙ ap (λ b. cond b (Some place) (firsts q)) other in
            subst (IsLeastFrom (IsKeyed table exits q) place) (sym value)
            (down (IsKeyed table exits q) place (firsts q) (λ keyed. true≢false (sym (subst (λ k. key_eq key k ≡ true) (only q keyed) (key_itself key)) ∙ other)) (was_next.first q))

        small : place < length nexts
        small = let lt = slice_get_within exits place exit at in let many = was.as_many in omega arith

        by : (k : ℕ) (q : TurnKey) → IsKeyed table exits q k → place ≤ k → (k ≡ place) ⊎ ((k < place) ⊎ (place < k)) → IsLeastFrom (IsKeyed table exits q) (k + 1) (get_or (set nexts place old) k None)
        by k q keyed low (inl same) =
            let q_is : key ≡ q = only q (subst (IsKeyed table exits q) same keyed) in
            let there : IsLeastFrom (IsKeyed table exits q) (place + 1) (firsts q) = was_next.first q in
            let value : firsts q ≡ get_or (set nexts place old) place None = ap firsts (sym q_is) ∙ sym old_is ∙ sym (get_or-set_same nexts place old None small) in
            subst (λ n. IsLeastFrom (IsKeyed table exits q) (n + 1) (get_or (set nexts place old) n None)) (sym same) (subst (IsLeastFrom (IsKeyed table exits q) (place + 1)) value there)
        by k q keyed low (inr (inl less)) = absurd (omega arith)
        by k q keyed low (inr (inr more)) =
            subst (IsLeastFrom (IsKeyed table exits q) (k + 1)) (sym (get_or-set_other nexts place k old None (λ is. omega arith))) (was_next.next k q (omega arith) keyed)
