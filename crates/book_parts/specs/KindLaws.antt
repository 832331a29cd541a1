-- The kinds of a book by their numbers: which one has a number, and that its coordinates are ones that a book may have.
use Rattle.std.proofs.Common.{◌≡◌, true, ℕ, zero, suc, ◌-◌, ◌<◌, ℤ, List, [], ◌∷◌, length, get_or, refl, sym, ap, ◌∙◌, arith}
use Rattle.std.proofs.lemmas.Bool.{true≢false, false≢true}
use Rattle.std.specs.List.{AllByRecursion}
use Rattle.life_plane.specs.Plane.{Plane, nothing}
use Rattle.life_cells.specs.Cells.{Cells, alive, empty}
use Rattle.life_cells.specs.Laws.{alive-empty}
use Rattle.book_parts.specs.Kinds.{kind_plane, next_plane}
use Rattle.book_parts.specs.Limits.{IsPlaced}
use Rattle.book_parts.specs.Proper.{IsKindNumber, IsProperKind}
use Rattle.book_parts.specs.declared.kind.RawKind.{RawKind}
use Rattle.book_parts.specs.declared.turn.TurnEnd.{TurnEnd}
use Rattle.book_parts.specs.declared.turn.TurnEnd.TheVariants.{Close, Move, Emit}

-- no cell of the empty set lives
pub empty_dead : (s : Cells) (x y : ℤ) → s ≡ empty → alive s x y ≡ true → ⊥
empty_dead s x y e h = false≢true (sym (ap (λ (p : Plane). p x y) (ap alive e ∙ alive-empty)) ∙ h)

kind_after : (kinds : List RawKind) (k : ℕ) (d : RawKind) → k < length kinds → alive (get_or kinds k d).cells ≡ kind_plane kinds (suc k)
kind_after [] k d lt = absurd (omega arith)
kind_after (kind ∷ kinds) zero d lt = refl
kind_after (kind ∷ kinds) (suc k) d lt = kind_after kinds k d (omega arith)

-- the kind at a number's place
pub kind_at : (kinds : List RawKind) (number : ℕ) (d : RawKind) → IsKindNumber (length kinds) number → alive (get_or kinds (number - 1) d).cells ≡ kind_plane kinds number
kind_at kinds number d is =
    let some = is.some in let most = is.most in
    let up : suc (number - 1) ≡ number = omega arith in
    kind_after kinds (number - 1) d (omega arith) ∙ ap (kind_plane kinds) up

none_placed : IsPlaced nothing
none_placed = record { x = λ x y h. absurd (true≢false (sym h)); y = λ x y h. absurd (true≢false (sym h)) }

-- each kind of a book has coordinates that a book may have
pub kind_placed : (kinds : List RawKind) → AllByRecursion IsProperKind kinds → (number : ℕ) → IsPlaced (kind_plane kinds number)
kind_placed [] h number = none_placed
kind_placed (kind ∷ kinds) h zero = none_placed
kind_placed (kind ∷ kinds) h (suc zero) = h.0.placed
kind_placed (kind ∷ kinds) h (suc (suc k)) = kind_placed kinds h.1 (suc k)

pub next_placed : (kinds : List RawKind) → AllByRecursion IsProperKind kinds → (stated : TurnEnd) → IsPlaced (next_plane kinds stated)
next_placed kinds h Close = none_placed
next_placed kinds h (Move kind advance) = kind_placed kinds h kind
next_placed kinds h (Emit kind advance lane j) = kind_placed kinds h kind
