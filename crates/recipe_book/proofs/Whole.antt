-- From what is kept of each entry to the lists of entries.
use Rattle.std.specs.Prelude.{List, [], ◌∷◌}
use Rattle.std.specs.List.{AllByRecursion}
use Rattle.life_cells.specs.Cells.{Cells}
use Rattle.book_parts.specs.declared.settings.Settings.{Settings}
use Rattle.book_parts.specs.declared.kind.RawKind.{RawKind}
use Rattle.recipe_turn.specs.Checked.{Checked, IsChecked, IsOf}
use Rattle.recipe_hit.specs.Checked as hit
use Rattle.recipe_hit.specs.Checked.{Struck}
use Rattle.recipe_book.specs.Checked.{IsAt}
use Rattle.recipe_book.specs.Accepting.{IsKeptTurn, IsKeptSalvo}

pub turns_checked : (settings : Settings) (kinds : List RawKind) (turns : List Checked) → AllByRecursion (IsKeptTurn settings kinds) turns → AllByRecursion IsChecked turns
turns_checked settings kinds [] h = tt
turns_checked settings kinds (turn ∷ turns) h = (h.0.checked, turns_checked settings kinds turns h.1)

pub turns_own : (settings : Settings) (kinds : List RawKind) (turns : List Checked) → AllByRecursion (IsKeptTurn settings kinds) turns → AllByRecursion (IsOf settings kinds) turns
turns_own settings kinds [] h = tt
turns_own settings kinds (turn ∷ turns) h = (h.0.own, turns_own settings kinds turns h.1)

pub salvos_checked : (hand : Cells) (salvos : List Struck) → AllByRecursion (IsKeptSalvo hand) salvos → AllByRecursion hit.IsChecked salvos
salvos_checked hand [] h = tt
salvos_checked hand (salvo ∷ salvos) h = (h.0.checked, salvos_checked hand salvos h.1)

pub salvos_own : (hand : Cells) (salvos : List Struck) → AllByRecursion (IsKeptSalvo hand) salvos → AllByRecursion (IsAt hand) salvos
salvos_own hand [] h = tt
salvos_own hand (salvo ∷ salvos) h = (h.0.own, salvos_own hand salvos h.1)
