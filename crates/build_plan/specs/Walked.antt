-- Turns by their numbers that the elbow can take, one after the other, within the span.
use Rattle.std.specs.Prelude.{ℕ, ℤ, ◌+ℤ◌, List, [], ◌∷◌}
use Rattle.book_parts.specs.declared.turn.RawTurn.{RawTurn}
use Rattle.book_parts.specs.declared.turn.TurnEnd.{TurnEnd}
use Rattle.book_parts.specs.declared.turn.TurnEnd.TheVariants.{Close, Move, Emit}
use Rattle.elbow_graph.specs.declared.elbow.Elbow.{Elbow}
use Rattle.elbow_graph.specs.Elbows.{elbow, IsInSpan}
use Rattle.elbow_graph.specs.Numbered.{IsNumbered}
use Rattle.build_plan.specs.Numbers.{item_of}
use Rattle.build_plan.specs.TurnEvents.{elbow_past}

-- a turn of this end leaves the elbow within the span, unless it closes it
abbrev pub IsNearEnd : ℤ → TurnEnd → Elbow → Type 0
IsNearEnd span Close from = Unit {0}
IsNearEnd span (Move kind advance) from = IsInSpan span (elbow kind (from.shift +ℤ advance))
IsNearEnd span (Emit kind advance lane j) from = IsInSpan span (elbow kind (from.shift +ℤ advance))

-- there is a turn with the number, and it leaves the elbow within the span
pub record IsWalked (turns : List RawTurn) (span : ℤ) (number : ℕ) (from : Elbow) : Type 0 where
  pub turn : RawTurn
  pub numbered : IsNumbered turns number turn
  pub near : IsNearEnd span turn.end from

-- each of them, from where the one before leaves the elbow
abbrev pub AreWalked : List RawTurn → ℤ → Elbow → List ℕ → Type 0
AreWalked turns span from [] = Unit {0}
AreWalked turns span from (k ∷ ks) = IsWalked turns span k from × AreWalked turns span (elbow_past (item_of turns k) from) ks
