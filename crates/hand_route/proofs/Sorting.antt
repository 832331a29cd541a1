-- Salvos sorted one by one.
use Rattle.std.proofs.Common.{◌≡◌, ◌⊎◌, ◌↔◌, IsTrue, Bool, true, false, not, ℕ, suc, ◌+◌, ◌-◌, ◌<◌, ◌≤◌, List, [], ◌∷◌, ◌++◌, length, get_or, refl, sym, ap, subst, ◌∙◌, inl, inr, arith}
use Rattle.std.specs.List.{slice_get}
use Rattle.std.specs.declared.option.Option.{Option}
use Rattle.std.specs.declared.option.Option.TheVariants.{Some, None}
use Rattle.std.specs.Option.{is_some}
use Rattle.life_cells.specs.declared.cell.Cell.{Cell}
use Rattle.std.proofs.lemmas.List.{length_push}
use Rattle.std.proofs.lemmas.Option.{slice_get_within, slice_get_read}
use Rattle.life_plane.specs.ListLaws.{same_item, at_left}
use Rattle.life_plane.specs.NumberLaws.{lt_or_same}
use Rattle.life_plane.specs.Plane.{nothing}
use Rattle.life_cells.specs.Cells.{Cells, alive, empty}
use Rattle.life_cells.specs.Laws.{alive-empty, same_cells}
use Rattle.book_parts.specs.Proper.{IsProperSalvo, IsProperPlace}
use Rattle.elbow_graph.specs.Numbered.{IsNumbered}
use Rattle.elbow_graph.specs.NumberedLaws.{numbered_from_at, at_from_numbered}
use Rattle.recipe_hit.specs.Checked.{Struck}
use Rattle.hand_route.specs.declared.salvos.Carrier.{Carrier}
use Rattle.hand_route.specs.Moves.{BuildsNothing}
use Rattle.hand_route.specs.Carriers.{HasSalvo, AreItems, CarriesBy, IsNear}

-- ---- items at the end of a list

last_item : {X : Type 0} (xs : List X) (x : X) → slice_get (xs ++ x ∷ []) (length xs) ≡ Some x
last_item [] x = refl
last_item (y ∷ ys) x = last_item ys x

pub item_cases : {X : Type 0} (xs : List X) (last : X) (k : ℕ) (x : X) → slice_get (xs ++ last ∷ []) k ≡ Some x → (slice_get xs k ≡ Some x) ⊎ ((k ≡ length xs) × (x ≡ last))
item_cases xs last k x at = elim (lt_or_same k (length xs) (omega (arith, slice_get_within (xs ++ last ∷ []) k x at, length_push xs last))) [
  | inl less ↦ inl (sym (at_left xs (last ∷ []) k less) ∙ at)
  | inr is ↦ inr (is, same_item (sym (ap (slice_get (xs ++ last ∷ [])) is) ∙ at) (last_item xs last))
]

-- ---- the salvos so far

-- the items of the salvos before a place
pub record AreSoFar {X : Type 0} (number : X → ℕ) (Of : Struck → X → Type 0) (salvos : List Struck) (place : ℕ) (items : List X) : Type 0 where
  pub each : (k : ℕ) (x : X) → slice_get items k ≡ Some x → HasSalvo number Of salvos x
  pub before : (k : ℕ) (x : X) → slice_get items k ≡ Some x → number x ≤ place
  pub rising : (j k : ℕ) (x y : X) → j < k → slice_get items j ≡ Some x → slice_get items k ≡ Some y → number x < number y
  pub all : (p : ℕ) (salvo : Struck) (x : X) → p < place → slice_get salvos p ≡ Some salvo → number x ≡ suc p → Of salvo x → (k : ℕ) × (slice_get items k ≡ Some x)

module _ {X : Type 0} (number : X → ℕ) (Of : Struck → X → Type 0) (salvos : List Struck) where
  pub none_so_far : AreSoFar number Of salvos 0 []
  none_so_far = record {
    each = λ k x at. absurd (cc);
    before = λ k x at. absurd (cc);
    rising = λ j k x y lt at other. absurd (cc);
    all = λ p salvo x lt at is of. absurd (omega arith);
  }

  -- a salvo more that has no item
  pub skipped : (place : ℕ) (items : List X) (salvo : Struck) → AreSoFar number Of salvos place items → slice_get salvos place ≡ Some salvo → ((x : X) → Of salvo x → ⊥) → AreSoFar number Of salvos (place + 1) items
  skipped place items salvo h here none = record {
    each = h.each;
    before = λ k x at. let b = h.before k x at in omega arith;
    rising = h.rising;
    all = λ p other x lt at is of. elim (lt_or_same p place lt) [
      | inl less ↦ h.all p other x less at is of
      | inr same ↦ absurd (none x (subst (λ (s : Struck). Of s x) (same_item at (ap (slice_get salvos) same ∙ here)) of))
    ];
  }

  -- one that has an item
  pub pushed : (place : ℕ) (items after : List X) (salvo : Struck) (x : X) → AreSoFar number Of salvos place items → slice_get salvos place ≡ Some salvo → number x ≡ place + 1 → Of salvo x →
      ((y : X) → number y ≡ number x → Of salvo y → y ≡ x) → after ≡ items ++ x ∷ [] → AreSoFar number Of salvos (place + 1) after
  pushed place items after salvo x h here is of only grown = subst (AreSoFar number Of salvos (place + 1)) (sym grown) (record {
    each = λ k y at. elim (item_cases items x k y at) [
      | inl was ↦ h.each k y was
      | inr last ↦ subst (HasSalvo number Of salvos) (sym last.1) (record { salvo = salvo; numbered = subst (λ n. IsNumbered salvos n salvo) next (numbered_from_at salvos place salvo here); of = of })
    ];
    before = λ k y at. elim (item_cases items x k y at) [
      | inl was ↦ let b = h.before k y was in omega arith
      | inr last ↦ let e = ap number last.1 in omega arith
    ];
    rising = λ j k y z lt at other. elim (item_cases items x k z other) [
      | inl was ↦ h.rising j k y z lt (earlier j y lt (slice_get_within items k z was) at) was
      | inr last ↦ let e = ap number last.1 in let b = h.before j y (first j y (let f = last.0 in omega arith) at) in omega arith
    ];
    all = λ p other y lt at e mine. elim (lt_or_same p place lt) [
      | inl less ↦ let there = h.all p other y less at e mine in (there.0, at_left items (x ∷ []) there.0 (slice_get_within items there.0 y there.1) ∙ there.1)
      | inr same ↦ (length items, last_item items x ∙ ap Some (sym (only y (e ∙ ap suc same ∙ next) (subst (λ (s : Struck). Of s y) (same_item at (ap (slice_get salvos) same ∙ here)) mine))))
    ];
  })
    where
      next : suc place ≡ number x
      next = omega arith

      first : (j : ℕ) (y : X) → j < length items → slice_get (items ++ x ∷ []) j ≡ Some y → slice_get items j ≡ Some y
      first j y lt at = sym (at_left items (x ∷ []) j lt) ∙ at

      earlier : (j : ℕ) (y : X) {k : ℕ} → j < k → k < length items → slice_get (items ++ x ∷ []) j ≡ Some y → slice_get items j ≡ Some y
      earlier j y lt small at = first j y (omega arith) at

  -- all salvos
  pub all_so_far : (place : ℕ) (items : List X) → length salvos ≤ place → AreSoFar number Of salvos place items → AreItems number Of salvos items
  all_so_far place items long h = record {
    each = h.each;
    rising = h.rising;
    all = λ salvo x numbered of. let there = at_from_numbered salvos (number x) salvo numbered in h.all there.0 salvo x (let lt = slice_get_within salvos there.0 salvo there.1.1 in omega arith) there.1.1 there.1.0 of;
  }

-- ---- what a salvo's item says

pub nothing_built : (salvo : Struck) (product : Cells) (test : Bool) → product ≡ salvo.raw.product → IsTrue test ↔ (product ≡ empty) → IsTrue test ↔ BuildsNothing salvo
nothing_built salvo product test same is =
    subst (λ (p : Cells). IsTrue test ↔ (alive p ≡ nothing)) same
    (λ h. ap alive (is.0 h) ∙ alive-empty, λ none. is.1 (same_cells product empty (none ∙ sym alive-empty)))

pub near_by : (salvo : Struck) (c : Carrier) → IsProperSalvo salvo.raw → salvo.raw.hand ≡ Some c.by → IsNear c
near_by salvo c proper carries = let p : IsProperPlace (Some c.by) = subst IsProperPlace carries proper.hand in record { x = p.0; y = p.1 }

-- a salvo carries the hand in one way
pub one_way : (salvo : Struck) (a b : Carrier) → a.number ≡ b.number → CarriesBy salvo a → CarriesBy salvo b → a ≡ b
one_way salvo a b e h k = let by : a.by ≡ b.by = same_item h.carries k.carries in λ i. record { number = e i; by = by i }

pub none_test : (o hand : Option Cell) (none : Bool) → is_some o ≡ not none → o ≡ hand → IsTrue none ↔ (hand ≡ None)
none_test o hand none is same = subst (λ (h : Option Cell). IsTrue none ↔ (h ≡ None)) same (by o none is)
  where
    by : (o : Option Cell) (none : Bool) → is_some o ≡ not none → IsTrue none ↔ (o ≡ None)
    by None true is = (λ _. refl, λ _. refl)
    by None false is = cc
    by (Some c) true is = cc
    by (Some c) false is = (λ h. cc, λ e. cc)

pub number_within : {X : Type 0} (xs : List X) (number : ℕ) (x : X) → IsNumbered xs number x → number - 1 < length xs
number_within xs number x h = let p = at_from_numbered xs number x h in let e = p.1.0 in let lt = slice_get_within xs p.0 x p.1.1 in omega arith

pub numbered_there : {X : Type 0} (xs : List X) (number : ℕ) (x y : X) → IsNumbered xs number x → y ≡ get_or xs (number - 1) y → IsNumbered xs number y
numbered_there {X} xs number x y h is =
    let p = at_from_numbered xs number x h in
    let before : number - 1 ≡ p.0 = (let e = p.1.0 in omega arith) in
    let there : slice_get xs p.0 ≡ Some y = slice_get_read xs (length xs) p.0 y refl (slice_get_within xs p.0 x p.1.1) (is ∙ ap (λ n. get_or xs n y) before) in
    subst (λ n. IsNumbered xs n y) (sym p.1.0) (numbered_from_at xs p.0 y there)
