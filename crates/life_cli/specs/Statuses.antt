-- The numbers of the statuses.
use Rattle.std.specs.Prelude.{ℕ}
use Rattle.life_cli.specs.declared.status.Status.{Status}
use Rattle.life_cli.specs.declared.status.Status.TheVariants.{Done, Words, ReadFault, TooLong, BadRle, BadBookText, BadTarget, BadBook, NoPlan, StreamLong, BookFull, WriteFault, Memory}

abbrev pub number_of : Status → ℕ
number_of Done = 0
number_of (Words e) = 1
number_of ReadFault = 2
number_of (TooLong which) = 3
number_of (BadRle which fault) = 4
number_of (BadBookText e) = 4
number_of (BadTarget e) = 5
number_of (BadBook e) = 6
number_of (NoPlan e) = 7
number_of (StreamLong count) = 8
number_of (BookFull what count) = 10
number_of WriteFault = 11
number_of Memory = 12
