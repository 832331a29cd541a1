-- The turn that is found for a list of delays at a kind: of the numbers of generations at which some end makes it sound the least, and
-- there a closing turn before any other, then the one that leads to the first kind.
use Rattle.std.specs.Prelude.{ℕ, ◌≤◌, ℤ, pos, ◌+ℤ◌, ◌≤ℤ◌, List, [], ◌∷◌, length}
use Rattle.life_plane.specs.Tracks.{gap}
use Rattle.book_parts.specs.Kinds.{kind_plane, next_plane}
use Rattle.book_parts.specs.declared.kind.RawKind.{RawKind}
use Rattle.book_parts.specs.declared.limits.TheConstants.{LONGEST_TURN}
use Rattle.book_parts.specs.declared.settings.Settings.{Settings}
use Rattle.book_parts.specs.declared.turn.RawTurn.{RawTurn}
use Rattle.book_parts.specs.declared.turn.TurnEnd.{TurnEnd}
use Rattle.recipe_turn.specs.Turn.{IsSound}
use Rattle.find_turn.specs.Standing.{LeadsToKind, next_kind}
use Rattle.find_turn.specs.declared.found_turn.FoundTurn.{FoundTurn}
use Rattle.find_turn.specs.declared.found_turn.TheConstants.{LONGEST_WAIT}

-- the last of a turn's delays
abbrev pub last_delay : List ℤ → ℤ
last_delay [] = pos 0
last_delay (delay ∷ []) = delay
last_delay (delay ∷ (later ∷ delays)) = last_delay (later ∷ delays)

-- the numbers of generations that are tried: at least a gap and at most 4,096 more than the last delay, and at most as many as a turn has
pub record IsTried (delays : List ℤ) (n : ℕ) : Type 0 where
  pub least : (last_delay delays +ℤ pos gap) ≤ℤ pos n
  pub most : pos n ≤ℤ (last_delay delays +ℤ LONGEST_WAIT)
  pub longest : n ≤ LONGEST_TURN

-- the turn with these numbers; its name says nothing of whether it is sound
abbrev pub turn_of : ℕ → List ℤ → ℕ → TurnEnd → RawTurn
turn_of kind delays n leaves = record { name = []; kind = kind; end = leaves; n = n; delays = delays }

-- a turn of these delays at this kind that ends so after n generations is sound, and leads to one of the kinds if it leads to any
pub record EndsSoundly (settings : Settings) (kinds : List RawKind) (kind : ℕ) (delays : List ℤ) (n : ℕ) (leaves : TurnEnd) : Type 0 where
  pub leads : LeadsToKind (length kinds) leaves
  pub sound : IsSound settings (kind_plane kinds kind) (next_plane kinds leaves) (turn_of kind delays n leaves)

-- the least number of generations with a sound end, and of the ends at it the first: a closing one before any other, then by the next kind
pub record IsLeastTurn (settings : Settings) (kinds : List RawKind) (kind : ℕ) (delays : List ℤ) (found : FoundTurn) : Type 0 where
  pub tried : IsTried delays found.n
  pub sound : EndsSoundly settings kinds kind delays found.n found.end
  pub least : (n : ℕ) (leaves : TurnEnd) → IsTried delays n → EndsSoundly settings kinds kind delays n leaves → found.n ≤ n
  pub first : (leaves : TurnEnd) → EndsSoundly settings kinds kind delays found.n leaves → next_kind found.end ≤ next_kind leaves

-- none of the numbers that are tried has a sound end
abbrev pub HasNoTurn : Settings → List RawKind → ℕ → List ℤ → Type 0
HasNoTurn settings kinds kind delays = (n : ℕ) (leaves : TurnEnd) → IsTried delays n → EndsSoundly settings kinds kind delays n leaves → ⊥
