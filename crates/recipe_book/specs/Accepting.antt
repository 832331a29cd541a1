-- What is known of one entry that was judged: it is accepted where it is sound, and else there is a cause.
use Rattle.std.specs.Prelude.{◌≡◌, List, ◌++◌}
use Rattle.std.specs.List.{AllZip}
use Rattle.std.specs.declared.result.Result.{Result}
use Rattle.std.specs.declared.result.Result.TheVariants.{Ok, Err}
use Rattle.life_cells.specs.Cells.{Cells, alive}
use Rattle.book_parts.specs.declared.settings.Settings.{Settings}
use Rattle.book_parts.specs.declared.kind.RawKind.{RawKind}
use Rattle.book_parts.specs.declared.turn.RawTurn.{RawTurn}
use Rattle.book_parts.specs.declared.salvo.RawSalvo.{RawSalvo}
use Rattle.recipe_turn.specs.Checked.{Checked, IsChecked, IsOf}
use Rattle.recipe_turn.specs.declared.refusal.TurnRefusal.{TurnRefusal}
use Rattle.recipe_hit.specs.Checked as hit
use Rattle.recipe_hit.specs.Checked.{Struck}
use Rattle.recipe_hit.specs.declared.refusal.SalvoRefusal.{SalvoRefusal}
use Rattle.recipe_book.specs.Checked.{IsAt}
use Rattle.recipe_book.specs.Verdicts.{TurnFails, SalvoFails}
use Rattle.recipe_book.specs.declared.verdict.Verdict.{Verdict}

-- what is kept of an accepted turn
pub record IsKeptTurn (settings : Settings) (kinds : List RawKind) (turn : Checked) : Type 0 where
  pub own : IsOf settings kinds turn
  pub checked : IsChecked turn

-- what is kept of an accepted salvo
pub record IsKeptSalvo (hand : Cells) (salvo : Struck) : Type 0 where
  pub own : IsAt hand salvo
  pub checked : hit.IsChecked salvo

-- a turn is kept as it is, or it fails for a cause
abbrev pub IsJudgedTurn : Settings → List RawKind → RawTurn → Result Checked TurnRefusal → Type 0
IsJudgedTurn settings kinds turn (Ok checked) = (checked.raw ≡ turn) × IsKeptTurn settings kinds checked
IsJudgedTurn settings kinds turn (Err refusal) = TurnFails settings kinds turn refusal

-- a salvo is kept as it is, or it fails for a cause
abbrev pub IsJudgedSalvo : Cells → RawSalvo → Result Struck SalvoRefusal → Type 0
IsJudgedSalvo hand salvo (Ok checked) = (checked.raw ≡ salvo) × IsKeptSalvo hand checked
IsJudgedSalvo hand salvo (Err refusal) = SalvoFails (alive hand) salvo refusal

-- one verdict on each entry was added, in their order
pub record AddsVerdicts {A : Type 0} (Judges : A → Verdict → Type 0) (entries : List A) (before after : List Verdict) : Type 0 where
  pub added : List Verdict
  pub grown : after ≡ before ++ added
  pub are : AllZip Judges entries added
