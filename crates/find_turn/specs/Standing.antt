-- What stands at the end of a turn.
use Rattle.std.specs.Prelude.{◌≡◌, ℕ, ◌≤◌, ℤ, List, length}
use Rattle.life_plane.specs.Plane.{Plane, shift}
use Rattle.book_parts.specs.Kinds.{kind_plane, next_plane}
use Rattle.book_parts.specs.Proper.{IsKindNumber}
use Rattle.book_parts.specs.declared.kind.RawKind.{RawKind}
use Rattle.book_parts.specs.declared.settings.Settings.{Settings}
use Rattle.book_parts.specs.declared.turn.TurnEnd.{TurnEnd}
use Rattle.book_parts.specs.declared.turn.TurnEnd.TheVariants.{Close, Move, Emit}
use Rattle.recipe_turn.specs.Turn.{turn_end, IsInFront}

-- the number of the kind that a turn leads to: kinds count from 1, and a closing turn, which leads to none, has 0
abbrev pub next_kind : TurnEnd → ℕ
next_kind Close = 0
next_kind (Move kind advance) = kind
next_kind (Emit kind advance lane j) = kind

-- a turn closes, or it leads to one of so many kinds
abbrev pub LeadsToKind : ℕ → TurnEnd → Type 0
LeadsToKind kinds Close = Unit {0}
LeadsToKind kinds (Move kind advance) = IsKindNumber kinds kind
LeadsToKind kinds (Emit kind advance lane j) = IsKindNumber kinds kind

-- this is all that lives where a turn ends so, and what it throws is in front of the wall
pub record IsEnd (settings : Settings) (kinds : List RawKind) (s : Plane) (leaves : TurnEnd) : Type 0 where
  pub leads : LeadsToKind (length kinds) leaves
  pub stands : s ≡ turn_end leaves (next_plane kinds leaves)
  pub front : IsInFront settings leaves

-- and no turn that ends with the same cells leads to a kind before: a closing turn comes first, then the first kind
pub record IsFirstEnd (settings : Settings) (kinds : List RawKind) (s : Plane) (leaves : TurnEnd) : Type 0 where
  pub is : IsEnd settings kinds s leaves
  pub first : (other : TurnEnd) → IsEnd settings kinds s other → next_kind leaves ≤ next_kind other

-- no turn ends with these cells
abbrev pub IsNoEnd : Settings → List RawKind → Plane → Type 0
IsNoEnd settings kinds s = (leaves : TurnEnd) → IsEnd settings kinds s leaves → ⊥

-- the kind with this number, moved by (advance,advance), is all that lives
pub record Stands (kinds : List RawKind) (s : Plane) (number : ℕ) (advance : ℤ) : Type 0 where
  pub number_is : IsKindNumber (length kinds) number
  pub moved : s ≡ shift advance advance (kind_plane kinds number)

-- and no kind before it, however moved, is
pub record IsFirstStanding (kinds : List RawKind) (s : Plane) (number : ℕ) (advance : ℤ) : Type 0 where
  pub stands : Stands kinds s number advance
  pub first : (other : ℕ) (along : ℤ) → Stands kinds s other along → number ≤ other

-- no kind, however moved, is
abbrev pub NoneStands : List RawKind → Plane → Type 0
NoneStands kinds s = (number : ℕ) (advance : ℤ) → Stands kinds s number advance → ⊥
