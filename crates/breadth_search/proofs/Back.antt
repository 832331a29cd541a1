-- The list to a state, read back from the labels.
use Rattle.std.proofs.Common.{◌≡◌, ℕ, ◌+◌, ◌-◌, ◌<◌, ◌≤◌, List, [], ◌∷◌, ◌++◌, length, get_or, reverse, sym, ap, subst, ◌∙◌, arith}
use Rattle.std.proofs.lemmas.List.{append_assoc, append-nil, reverse-append}
use Rattle.breadth_search.specs.declared.found.Label.{Label}
use Rattle.breadth_search.specs.Labels.{label_at, list_by, ArePrior, AreLabelled}

-- the list to a place is the list to an earlier one, and then what was read, in reverse
pub record IsWalkedBack (labels : List Label) (place at : ℕ) (read : List ℕ) : Type 0 where
  pub within : at ≤ length labels
  pub split : (lists : List (List ℕ)) → AreLabelled labels lists → get_or lists place [] ≡ get_or lists at [] ++ reverse read

one_back : (at : ℕ) → 0 < at → at - 1 + 1 ≡ at
one_back at some = omega arith

pub walk_begins : (labels : List Label) (place : ℕ) (read : List ℕ) → place ≤ length labels → read ≡ [] → IsWalkedBack labels place place read
walk_begins labels place read within none = record {
  within = within;
  split = λ lists labelled. sym (ap (λ xs. get_or lists place [] ++ reverse xs) none ∙ append-nil (get_or lists place []));
}

pub walk_more : (labels : List Label) (place at : ℕ) (read after : List ℕ) (mark : Label) → ArePrior labels → IsWalkedBack labels place at read → 0 < at → mark ≡ label_at labels (at - 1) →
    after ≡ read ++ mark.number ∷ [] → IsWalkedBack labels place mark.before after
walk_more labels place at read after mark prior was some is grown =
    let back : mark.before ≤ at - 1 = subst (λ (m : Label). m.before ≤ at - 1) (sym is) (prior (at - 1) (omega (arith, was.within))) in
    record {
      within = omega (arith, was.within);
      split = λ lists labelled.
          let lead : get_or lists at [] ≡ get_or lists mark.before [] ++ mark.number ∷ [] =
          ap (λ k. get_or lists k []) (sym (one_back at some)) ∙ labelled.next (at - 1) (omega (arith, was.within)) ∙ ap (list_by lists) (sym is) in
          was.split lists labelled ∙ ap (λ xs. xs ++ reverse read) lead ∙ append_assoc (get_or lists mark.before []) (mark.number ∷ []) (reverse read)
          ∙ ap (λ xs. get_or lists mark.before [] ++ xs) (sym (reverse-append read (mark.number ∷ [])) ∙ ap reverse (sym grown));
    }

pub walk_ends : (labels : List Label) (place at : ℕ) (read after : List ℕ) → IsWalkedBack labels place at read → at ≤ 0 → after ≡ reverse read → (lists : List (List ℕ)) →
    AreLabelled labels lists → after ≡ get_or lists place []
walk_ends labels place at read after was none is lists labelled =
    let first : get_or lists at [] ≡ [] = ap (λ k. get_or lists k []) (zero_from at none) ∙ labelled.first in
    is ∙ sym (was.split lists labelled ∙ ap (λ xs. xs ++ reverse read) first)
  where
    zero_from : (at : ℕ) → at ≤ 0 → at ≡ 0
    zero_from at none = omega arith
