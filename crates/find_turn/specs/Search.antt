-- Where a pattern first comes to the end of a turn, in bounds.
use Rattle.std.specs.Prelude.{ℕ, ◌≤◌, ℤ, List}
use Rattle.life_plane.specs.Plane.{Plane, run}
use Rattle.book_parts.specs.declared.kind.RawKind.{RawKind}
use Rattle.book_parts.specs.declared.settings.Settings.{Settings}
use Rattle.book_parts.specs.declared.turn.TurnEnd.{TurnEnd}
use Rattle.recipe_turn.specs.Turn.{KeepsBounds}
use Rattle.find_turn.specs.Standing.{IsEnd, next_kind}
use Rattle.find_turn.specs.declared.found_turn.FoundTurn.{FoundTurn}
use Rattle.find_turn.specs.declared.tried.Tried.{Tried}

-- the generations up to this one keep the bounds, and a turn may end so with its cells
pub record EndsAt (settings : Settings) (kinds : List RawKind) (delays : List ℤ) (start : Plane) (n : ℕ) (leaves : TurnEnd) : Type 0 where
  pub bounds : KeepsBounds settings delays start n
  pub is : IsEnd settings kinds (run n start) leaves

-- the first of these generations at which it comes to an end, and there the first end
pub record IsFirstEndAt (settings : Settings) (kinds : List RawKind) (delays : List ℤ) (start : Plane) (tried : Tried) (found : FoundTurn) : Type 0 where
  pub least : tried.least ≤ found.n
  pub most : found.n ≤ tried.most
  pub ends : EndsAt settings kinds delays start found.n found.end
  pub none_before : (n : ℕ) (leaves : TurnEnd) → tried.least ≤ n → EndsAt settings kinds delays start n leaves → found.n ≤ n
  pub first : (leaves : TurnEnd) → EndsAt settings kinds delays start found.n leaves → next_kind found.end ≤ next_kind leaves

-- it comes to no end in these generations
abbrev pub NeverEnds : Settings → List RawKind → List ℤ → Plane → Tried → Type 0
NeverEnds settings kinds delays start tried = (n : ℕ) (leaves : TurnEnd) → tried.least ≤ n → n ≤ tried.most → EndsAt settings kinds delays start n leaves → ⊥
