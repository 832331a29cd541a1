-- Kinds looked at one by one.
use Rattle.std.proofs.Common.{◌≡◌, ℕ, ◌+◌, ◌-◌, ◌<◌, ◌≤◌, ℤ, List, length, get_or, inl, inr, sym, ap, ◌∙◌, arith}
use Rattle.std.proofs.lemmas.Bool.{cases_lt}
use Rattle.life_plane.specs.Plane.{Plane, shift}
use Rattle.life_cells.specs.Cells.{alive}
use Rattle.book_parts.specs.KindLaws.{kind_at}
use Rattle.book_parts.specs.Kinds.{kind_plane}
use Rattle.book_parts.specs.declared.kind.RawKind.{RawKind}
use Rattle.find_turn.specs.Standing.{Stands, IsFirstStanding, NoneStands}

-- the kinds up to a number don't stand
abbrev pub NoneUpTo : List RawKind → Plane → ℕ → Type 0
NoneUpTo kinds s n = (number : ℕ) (advance : ℤ) → Stands kinds s number advance → n < number

-- the kind at a place by its number
numbered : (kinds : List RawKind) (i : ℕ) (kind : RawKind) → i < length kinds → kind ≡ get_or kinds i kind → alive kind.cells ≡ kind_plane kinds (i + 1)
numbered kinds i kind lt is =
    let back : (i + 1) - 1 ≡ i = omega arith in
    ap (λ (k : RawKind). alive k.cells) (is ∙ ap (λ j. get_or kinds j kind) (sym back)) ∙ kind_at kinds (i + 1) kind (record { some = omega arith; most = omega arith })

pub first_stands : (kinds : List RawKind) (s : Plane) (i : ℕ) (kind : RawKind) (advance : ℤ) → i < length kinds → kind ≡ get_or kinds i kind → NoneUpTo kinds s i → s ≡ shift advance advance (alive kind.cells) →
    IsFirstStanding kinds s (i + 1) advance
first_stands kinds s i kind advance lt is before here = record {
  stands = record { number_is = record { some = omega arith; most = omega arith }; moved = here ∙ ap (shift advance advance) (numbered kinds i kind lt is) };
  first = λ other along stands. let more = before other along stands in omega arith;
}

pub none_more : (kinds : List RawKind) (s : Plane) (i : ℕ) (kind : RawKind) → i < length kinds → kind ≡ get_or kinds i kind → NoneUpTo kinds s i → ((a : ℤ) → s ≡ shift a a (alive kind.cells) → ⊥) →
    NoneUpTo kinds s (i + 1)
none_more kinds s i kind lt is before here number advance stands = elim (cases_lt (i + 1) number) [
  | inl more ↦ more
  | inr short ↦
      let up = before number advance stands in
      let same : number ≡ i + 1 = omega arith in
      absurd (here advance (stands.moved ∙ ap (shift advance advance) (ap (kind_plane kinds) same ∙ sym (numbered kinds i kind lt is))))
]

pub none_stands : (kinds : List RawKind) (s : Plane) (n : ℕ) → length kinds ≤ n → NoneUpTo kinds s n → NoneStands kinds s
none_stands kinds s n long none number advance stands = let up = none number advance stands in let most = stands.number_is.most in absurd (omega arith)

pub none_yet : (kinds : List RawKind) (s : Plane) → NoneUpTo kinds s 0
none_yet kinds s number advance stands = let some = stands.number_is.some in omega arith
