-- Elbows, and where one turn leads them.
use Rattle.std.specs.Prelude.{◌≡◌, ℕ, ℤ, neg_ℤ, ◌+ℤ◌, ◌≤ℤ◌}
use Rattle.std.specs.declared.option.Option.{Option}
use Rattle.std.specs.declared.option.Option.TheVariants.{Some, None}
use Rattle.book_parts.specs.declared.turn.TurnEnd.{TurnEnd}
use Rattle.book_parts.specs.declared.turn.TurnEnd.TheVariants.{Close, Move, Emit}
use Rattle.elbow_graph.specs.declared.elbow.Elbow.{Elbow}
use Rattle.elbow_graph.specs.declared.exit.Exit.{Exit}

abbrev pub elbow : ℕ → ℤ → Elbow
elbow kind shift = record { kind = kind; shift = shift }

-- the elbow's shift is from -span to span
pub record IsInSpan (span : ℤ) (at : Elbow) : Type 0 where
  pub low : neg_ℤ span ≤ℤ at.shift
  pub high : at.shift ≤ℤ span

-- the elbow that a turn of this end leaves where it begins at a shift, unless it closes
abbrev pub leaves : TurnEnd → ℤ → Option Elbow
leaves Close shift = None
leaves (Move kind advance) shift = Some (elbow kind (shift +ℤ advance))
leaves (Emit kind advance lane j) shift = Some (elbow kind (shift +ℤ advance))

-- a turn leads from an elbow of its kind to another within the span
pub record Leads (span : ℤ) (exit : Exit) (from to : Elbow) : Type 0 where
  pub kind : exit.kind ≡ from.kind
  pub leaves_it : leaves exit.end from.shift ≡ Some to
  pub near : IsInSpan span to
