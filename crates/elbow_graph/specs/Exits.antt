-- What turns do to the elbow, without the rest of them.
use Rattle.std.specs.Prelude.{List, map}
use Rattle.book_parts.specs.declared.turn.RawTurn.{RawTurn}
use Rattle.elbow_graph.specs.declared.exit.Exit.{Exit}

-- the kind that a turn begins at, and what it leaves
abbrev pub exit_of : RawTurn → Exit
exit_of turn = record { kind = turn.kind; end = turn.end }

abbrev pub exits_of : List RawTurn → List Exit
exits_of turns = map exit_of turns
