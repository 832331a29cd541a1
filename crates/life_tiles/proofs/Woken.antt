-- Rows that wake.
use Rattle.std.proofs.Common.{◌≡◌, ◌≢◌, ◌⊎◌, ℕ, nat_eq, ◌+◌, ◌<◌, ◌≤◌, Bool, true, false, List, length, set, refl, sym, subst, ◌∙◌, arith, inl, inr}
use Rattle.std.proofs.lemmas.Bool.{cases_lt}
use Rattle.std.proofs.lemmas.List.{get_or-set_other, get_or-set_same, length-set}
use Rattle.life_tiles.specs.declared.span.Span.{Span}
use Rattle.life_tiles.specs.Spans.{InSpan, IsAwake, OnlyWakes, IsRowAwake, no_rows, span_of}

pub wakes_none : (spans : List Span) → OnlyWakes spans spans
wakes_none spans = record { long = refl; each = λ i row h. h }

pub wakes_both : (a b d : List Span) → OnlyWakes a b → OnlyWakes b d → OnlyWakes a d
wakes_both a b d f g = record { long = g.long ∙ f.long; each = λ i row h. g.each i row (f.each i row h) }

-- a row that is awake stays so
pub row_stays : (before after : List Span) (n west here east columns row : ℕ) → OnlyWakes before after → IsRowAwake before n west here east columns row → IsRowAwake after n west here east columns row
row_stays before after n west here east columns row only r = record {
  on_west = λ t h. only.each west row (r.on_west t h);
  on_here = λ h. only.each here row (r.on_here h);
  on_east = λ t h. only.each east row (r.on_east t h);
}

-- as many tiles are as many
pub row_along : (spans : List Span) (m n west here east columns row : ℕ) → m ≡ n → IsRowAwake spans m west here east columns row → IsRowAwake spans n west here east columns row
row_along spans m n west here east columns row e = subst (λ k. IsRowAwake spans k west here east columns row) e

-- all rows of a tile
pub in_all : (s : Span) → s.from ≡ 0 → s.to ≡ 64 → (row : ℕ) → row < 64 → InSpan s row
in_all s from to row h = record { from = omega arith; to = omega arith }

pub in_none : (s : Span) → s.to ≤ s.from → (row : ℕ) → InSpan s row → ⊥
in_none s none row h = let low = h.from in let high = h.to in omega arith

pub in_empty : (s : Span) → s.from ≡ 0 → s.to ≡ 0 → (row : ℕ) → InSpan s row → ⊥
in_empty s from to = in_none s (omega arith)

-- where a tile's rows are set
module _ (spans : List Span) (i : ℕ) (s : Span) (within : i < length spans) where
  pub set_here : span_of (set spans i s) i ≡ s
  set_here = get_or-set_same spans i s no_rows within

  pub set_there : (j : ℕ) → j ≢ i → span_of (set spans i s) j ≡ span_of spans j
  set_there j other = get_or-set_other spans i j s no_rows other

  -- rows are only added
  pub set_wakes : ((row : ℕ) → IsAwake spans i row → InSpan s row) → OnlyWakes spans (set spans i s)
  set_wakes more = record { long = length-set spans i s; each = λ j row h. by j row (nat_eq j i) refl h }
    where
      by : (j row : ℕ) (b : Bool) → nat_eq j i ≡ b → IsAwake spans j row → IsAwake (set spans i s) j row
      by j row true e h =
          let same : j ≡ i = grind arith in
          subst (λ k. IsAwake (set spans i s) k row) (sym same) (subst (λ (t : Span). InSpan t row) (sym set_here) (more row (subst (λ k. IsAwake spans k row) same h)))
      by j row false e h =
          let other : j ≢ i = grind arith in
          subst (λ (t : Span). InSpan t row) (sym (set_there j other)) h

-- all rows of one tile more wake
pub all_more : (spans : List Span) (i : ℕ) (s : Span) → i < length spans → ((row : ℕ) → row < 64 → InSpan s row) → ((j row : ℕ) → j < i → row < 64 → IsAwake spans j row) → (j row : ℕ) → j < i + 1 → row < 64 → IsAwake (set spans i s) j row
all_more spans i s within all before j row lt h = elim (cases_lt j i) [
  | inl less ↦
      let other : j ≢ i = omega arith in
      subst (λ (t : Span). InSpan t row) (sym (set_there spans i s within j other)) (before j row less h)
  | inr ge ↦
      let same : i ≡ j = omega arith in
      subst (λ k. IsAwake (set spans i s) k row) same (subst (λ (t : Span). InSpan t row) (sym (set_here spans i s within)) (all row h))
]

-- a row is among some rows, or it is not
pub in_or_out : (s : Span) (row : ℕ) → (InSpan s row) ⊎ (InSpan s row → ⊥)
in_or_out s row = elim (cases_lt row s.from) [
  | inl before ↦ inr (λ h. let from = h.from in omega arith)
  | inr from ↦ elim (cases_lt row s.to) [
    | inl to ↦ inl (record { from = from; to = to })
    | inr past ↦ inr (λ h. let to = h.to in omega arith)
  ]
]
