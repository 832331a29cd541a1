-- Tables of turns: by what a turn is looked up, and the turns with a key.
use Rattle.std.specs.Prelude.{◌≡◌, ℕ, ℤ, ◌<◌, ◌≤◌, List}
use Rattle.std.specs.List.{slice_get}
use Rattle.std.specs.declared.option.Option.{Option}
use Rattle.std.specs.declared.option.Option.TheVariants.{Some, None}
use Rattle.book_parts.specs.declared.turn.TurnEnd.{TurnEnd}
use Rattle.book_parts.specs.declared.turn.TurnEnd.TheVariants.{Close, Move, Emit}
use Rattle.elbow_graph.specs.declared.elbow.Elbow.{Elbow}
use Rattle.elbow_graph.specs.declared.exit.Exit.{Exit}
use Rattle.elbow_graph.specs.declared.goal.Goal.{Goal}
use Rattle.elbow_graph.specs.declared.goal.Goal.TheVariants as goals
use Rattle.elbow_graph.specs.declared.table.Table.{Table}
use Rattle.elbow_graph.specs.declared.table.Table.TheVariants.{Moves, Leading, Closing, Throws}
use Rattle.elbow_graph.specs.declared.table.TurnKey.{TurnKey}
use Rattle.elbow_graph.specs.Elbows.{Leads}
use Rattle.elbow_graph.specs.Numbered.{IsNumbered}

abbrev pub turn_key : ℕ → Option ℤ → TurnKey
turn_key kind lane = record { kind = kind; lane = lane }

-- by what a turn of this kind and end is looked up, if the table has it: moves, turns that lead on and closing turns by their kinds, and
-- throws by their lanes too
abbrev pub key_of_end : Table → ℕ → TurnEnd → Option TurnKey
key_of_end Moves kind Close = None
key_of_end Moves kind (Move next advance) = Some (turn_key kind None)
key_of_end Moves kind (Emit next advance lane j) = None
key_of_end Leading kind Close = None
key_of_end Leading kind (Move next advance) = Some (turn_key kind None)
key_of_end Leading kind (Emit next advance lane j) = Some (turn_key kind None)
key_of_end Closing kind Close = Some (turn_key kind None)
key_of_end Closing kind (Move next advance) = None
key_of_end Closing kind (Emit next advance lane j) = None
key_of_end Throws kind Close = None
key_of_end Throws kind (Move next advance) = None
key_of_end Throws kind (Emit next advance lane j) = Some (turn_key kind (Some lane))

abbrev pub key_in : Table → Exit → Option TurnKey
key_in table exit = key_of_end table exit.kind exit.end

-- the turn at a place, counted from 0, has this key in the table
pub record IsKeyed (table : Table) (exits : List Exit) (key : TurnKey) (place : ℕ) : Type 0 where
  pub exit : Exit
  pub at : slice_get exits place ≡ Some exit
  pub keyed : key_in table exit ≡ Some key

-- the least place from one on that has this property, if there is one
abbrev pub IsLeastFrom : (ℕ → Type 0) → ℕ → Option ℕ → Type 0
IsLeastFrom Has from None = (k : ℕ) → from ≤ k → Has k → ⊥
IsLeastFrom Has from (Some k) = (from ≤ k) × (Has k × ((j : ℕ) → from ≤ j → j < k → Has j → ⊥))

-- the turn with this number, counted from 1, has the key in the table, and leads from an elbow to another
pub record LeadsBy (table : Table) (exits : List Exit) (span : ℤ) (key : TurnKey) (number : ℕ) (from to : Elbow) : Type 0 where
  pub exit : Exit
  pub numbered : IsNumbered exits number exit
  pub keyed : key_in table exit ≡ Some key
  pub leads : Leads span exit from to

-- the turn with this number has the key in the table
pub record IsTurnOf (table : Table) (exits : List Exit) (key : TurnKey) (number : ℕ) : Type 0 where
  pub exit : Exit
  pub numbered : IsNumbered exits number exit
  pub keyed : key_in table exit ≡ Some key

-- the place past a turn: numbers count from 1, and places from 0
abbrev pub place_past : Option ℕ → ℕ
place_past None = 0
place_past (Some number) = number

-- the table of the turns that may stand before the last of a list
abbrev pub passing_in : Goal → Table
passing_in goals.Anywhere = Leading
passing_in goals.Closed = Moves
passing_in (goals.Lane wanted) = Moves

-- what contracts see of a table: which it is, and over which turns
pub record Listed : Type 0 where
  pub table : Table
  pub exits : List Exit

abbrev pub listed : Table → List Exit → Listed
listed table exits = record { table = table; exits = exits }
