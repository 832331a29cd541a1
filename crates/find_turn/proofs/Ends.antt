-- The end of a turn, read off what stands.
use Rattle.std.proofs.Common.{◌≡◌, ℕ, ◌≤◌, ℤ, pos, ◌+ℤ◌, ◌*ℤ◌, ◌≤ℤ◌, List, sym, ap, subst, ◌∙◌, arith}
use Rattle.std.specs.Int.{int_div_euclid}
use Rattle.std.proofs.lemmas.Int.{ints}
use Rattle.std.proofs.lemmas.Bool.{true≢false}
use Rattle.life_plane.specs.Plane.{Plane, union, shift}
use Rattle.life_plane.specs.Salvo.{salvo_glider}
use Rattle.life_gliders.specs.Beyond.{beyond}
use Rattle.life_gliders.specs.GliderLaws.{one_salvo_glider}
use Rattle.book_parts.specs.Kinds.{kind_plane}
use Rattle.book_parts.specs.Proper.{HasLife}
use Rattle.book_parts.specs.declared.kind.RawKind.{RawKind}
use Rattle.book_parts.specs.declared.settings.Settings.{Settings}
use Rattle.book_parts.specs.declared.turn.TurnEnd.{TurnEnd}
use Rattle.book_parts.specs.declared.turn.TurnEnd.TheVariants.{Close, Move, Emit}
use Rattle.recipe_turn.specs.Checked.{AreValid}
use Rattle.find_turn.specs.Behind.{behind}
use Rattle.find_turn.specs.Standing.{IsEnd, IsFirstEnd, IsNoEnd, Stands, IsFirstStanding, NoneStands, next_kind}
use Rattle.find_turn.proofs.Throwing.{moved_behind, thrown_beyond, thrown_is, left_is, both_parts, front_lives}

-- it is in front of the wall, as what is thrown has to be
abbrev pub IsFront : Settings → ℤ → ℤ → Type 0
IsFront settings lane j = (settings.wall +ℤ pos 5) ≤ℤ ((lane +ℤ pos 2 *ℤ int_div_euclid j (pos 4)) +ℤ pos 1)

-- ---- what an end says

-- nothing ends a turn that leaves something by closing
not_closed : (settings : Settings) (kinds : List RawKind) (s : Plane) → HasLife s → IsEnd settings kinds s Close → ⊥
not_closed settings kinds s lives closed = true≢false (sym lives.1.1 ∙ ap (λ (p : Plane). p lives.0 lives.1.0) closed.stands)

-- where a turn ends with a throw, the glider is what is in front of the wall
pub emit_beyond : (settings : Settings) (kinds : List RawKind) → AreValid settings kinds → (s : Plane) (kind : ℕ) (advance lane j : ℤ) → IsEnd settings kinds s (Emit kind advance lane j) →
    beyond settings.wall s ≡ salvo_glider lane j
emit_beyond settings kinds valid s kind advance lane j h =
    ap (beyond settings.wall) h.stands ∙ thrown_is settings.wall (shift advance advance (kind_plane kinds kind)) (salvo_glider lane j) (moved_behind settings kinds valid kind advance) (λ x y live. thrown_beyond settings.wall lane j x y h.front live)

-- and the kind is what isn't
pub emit_behind : (settings : Settings) (kinds : List RawKind) → AreValid settings kinds → (s : Plane) (kind : ℕ) (advance lane j : ℤ) → IsEnd settings kinds s (Emit kind advance lane j) →
    Stands kinds (behind settings.wall s) kind advance
emit_behind settings kinds valid s kind advance lane j h = record {
  number_is = h.leads;
  moved = ap (behind settings.wall) h.stands ∙ left_is settings.wall (shift advance advance (kind_plane kinds kind)) (salvo_glider lane j) (moved_behind settings kinds valid kind advance) (λ x y live. thrown_beyond settings.wall lane j x y h.front live);
}

-- where a glider is in front of the wall, no turn ends by a move
pub move_unthrown : (settings : Settings) (kinds : List RawKind) → AreValid settings kinds → (s : Plane) (kind : ℕ) (advance lane j : ℤ) → beyond settings.wall s ≡ salvo_glider lane j →
    IsEnd settings kinds s (Move kind advance) → ⊥
move_unthrown settings kinds valid s kind advance lane j glider h =
    let there = front_lives settings.wall lane j s glider in
    let far = there.1.1.1 in
    let near = moved_behind settings kinds valid kind advance there.0 there.1.0 (ap (λ (p : Plane). p there.0 there.1.0) (sym h.stands) ∙ there.1.1.0) in
    omega (arith, ints, far, near)

-- ---- without a glider

pub no_move : (settings : Settings) (kinds : List RawKind) → AreValid settings kinds → (s : Plane) → HasLife s → ((l j : ℤ) → beyond settings.wall s ≡ salvo_glider l j → ⊥) → NoneStands kinds s →
    IsNoEnd settings kinds s
no_move settings kinds valid s lives unthrown none Close h = not_closed settings kinds s lives h
no_move settings kinds valid s lives unthrown none (Move kind advance) h = none kind advance (record { number_is = h.leads; moved = h.stands })
no_move settings kinds valid s lives unthrown none (Emit kind advance lane j) h = unthrown lane j (emit_beyond settings kinds valid s kind advance lane j h)

first_move : (settings : Settings) (kinds : List RawKind) → AreValid settings kinds → (s : Plane) → HasLife s → ((l j : ℤ) → beyond settings.wall s ≡ salvo_glider l j → ⊥) →
    (kind : ℕ) (advance : ℤ) → IsFirstStanding kinds s kind advance → (other : TurnEnd) → IsEnd settings kinds s other → kind ≤ next_kind other
first_move settings kinds valid s lives unthrown kind advance first Close h = absurd (not_closed settings kinds s lives h)
first_move settings kinds valid s lives unthrown kind advance first (Move other along) h = first.first other along (record { number_is = h.leads; moved = h.stands })
first_move settings kinds valid s lives unthrown kind advance first (Emit other along lane j) h = absurd (unthrown lane j (emit_beyond settings kinds valid s other along lane j h))

pub is_move : (settings : Settings) (kinds : List RawKind) → AreValid settings kinds → (s : Plane) → HasLife s → ((l j : ℤ) → beyond settings.wall s ≡ salvo_glider l j → ⊥) →
    (kind : ℕ) (advance : ℤ) → IsFirstStanding kinds s kind advance → IsFirstEnd settings kinds s (Move kind advance)
is_move settings kinds valid s lives unthrown kind advance first = record {
  is = record { leads = first.stands.number_is; stands = first.stands.moved; front = tt };
  first = first_move settings kinds valid s lives unthrown kind advance first;
}

-- ---- with a glider

-- what holds of the one glider in front of the wall
same_glider : (settings : Settings) (kinds : List RawKind) → AreValid settings kinds → (s : Plane) (kind : ℕ) (advance lane j l i : ℤ) → beyond settings.wall s ≡ salvo_glider lane j →
    IsEnd settings kinds s (Emit kind advance l i) → IsFront settings lane j
same_glider settings kinds valid s kind advance lane j l i glider h =
    let same = one_salvo_glider l i lane j (sym (emit_beyond settings kinds valid s kind advance l i h) ∙ glider) in
    subst (λ z. IsFront settings z j) same.0 (subst (IsFront settings l) same.1 h.front)

pub not_in_front : (settings : Settings) (kinds : List RawKind) → AreValid settings kinds → (s : Plane) → HasLife s → (lane j : ℤ) → beyond settings.wall s ≡ salvo_glider lane j →
    (IsFront settings lane j → ⊥) → IsNoEnd settings kinds s
not_in_front settings kinds valid s lives lane j glider close Close h = not_closed settings kinds s lives h
not_in_front settings kinds valid s lives lane j glider close (Move kind advance) h = move_unthrown settings kinds valid s kind advance lane j glider h
not_in_front settings kinds valid s lives lane j glider close (Emit kind advance l i) h = close (same_glider settings kinds valid s kind advance lane j l i glider h)

pub no_throw : (settings : Settings) (kinds : List RawKind) → AreValid settings kinds → (s : Plane) → HasLife s → (lane j : ℤ) → beyond settings.wall s ≡ salvo_glider lane j →
    NoneStands kinds (behind settings.wall s) → IsNoEnd settings kinds s
no_throw settings kinds valid s lives lane j glider none Close h = not_closed settings kinds s lives h
no_throw settings kinds valid s lives lane j glider none (Move kind advance) h = move_unthrown settings kinds valid s kind advance lane j glider h
no_throw settings kinds valid s lives lane j glider none (Emit kind advance l i) h = none kind advance (emit_behind settings kinds valid s kind advance l i h)

first_throw : (settings : Settings) (kinds : List RawKind) → AreValid settings kinds → (s : Plane) → HasLife s → (lane j : ℤ) → beyond settings.wall s ≡ salvo_glider lane j →
    (kind : ℕ) (advance : ℤ) → IsFirstStanding kinds (behind settings.wall s) kind advance → (other : TurnEnd) → IsEnd settings kinds s other → kind ≤ next_kind other
first_throw settings kinds valid s lives lane j glider kind advance first Close h = absurd (not_closed settings kinds s lives h)
first_throw settings kinds valid s lives lane j glider kind advance first (Move other along) h = absurd (move_unthrown settings kinds valid s other along lane j glider h)
first_throw settings kinds valid s lives lane j glider kind advance first (Emit other along l i) h = first.first other along (emit_behind settings kinds valid s other along l i h)

pub is_throw : (settings : Settings) (kinds : List RawKind) → AreValid settings kinds → (s : Plane) → HasLife s → (lane j : ℤ) → beyond settings.wall s ≡ salvo_glider lane j → IsFront settings lane j →
    (kind : ℕ) (advance : ℤ) → IsFirstStanding kinds (behind settings.wall s) kind advance → IsFirstEnd settings kinds s (Emit kind advance lane j)
is_throw settings kinds valid s lives lane j glider front kind advance first = record {
  is = record { leads = first.stands.number_is; stands = both_parts settings.wall s ∙ (λ i. union (first.stands.moved i) (glider i)); front = front };
  first = first_throw settings kinds valid s lives lane j glider kind advance first;
}
