-- Lists of salvos, by their numbers from 1 on, that lead the hand; the least of them.
use Rattle.std.specs.Prelude.{ℕ, List}
use Rattle.life_cells.specs.declared.cell.Cell.{Cell}
use Rattle.breadth_search.specs.Walks.{LeadOn, EndsWith, IsLeastTo, IsLeastEnding}
use Rattle.hand_route.specs.Moves.{Site, Carries, TakesAway}

-- a hand list: its salvos carry the hand from a place to another, each from where the one before it leaves the hand
abbrev pub IsHandList : Site → Cell → List ℕ → Cell → Type 0
IsHandList site from list to = LeadOn (Carries site) from list to

-- a farewell: a hand list, and a last salvo that takes the hand away
abbrev pub IsFarewell : Site → Cell → List ℕ → Type 0
IsFarewell site from list = EndsWith (Carries site) (TakesAway site) from list

-- the least hand list: the shortest, and of these the first number by number
abbrev pub IsLeastHandList : Site → Cell → List ℕ → Cell → Type 0
IsLeastHandList site from list to = IsLeastTo (Carries site) from to list

-- the least farewell
abbrev pub IsLeastFarewell : Site → Cell → List ℕ → Type 0
IsLeastFarewell site from list = IsLeastEnding (Carries site) (TakesAway site) from list
