-- What is known of a book that was checked.
use Rattle.std.specs.Prelude.{◌≡◌, ℕ, List, map}
use Rattle.std.specs.List.{AllByRecursion}
use Rattle.std.specs.Coded.{Coded, code_by, coded×, coded_ℕ, coded_list}
use Rattle.std.proofs.Common.{refl}
use Rattle.life_cells.specs.Cells.{Cells, alive, coded_cells}
use Rattle.life_plane.specs.Plane.{IsStill}
use Rattle.book_parts.specs.Said.{Said}
use Rattle.book_parts.specs.Proper.{IsProperBook}
use Rattle.book_parts.specs.declared.settings.Settings.{Settings}
use Rattle.book_parts.specs.contracts.settings.Settings as settings_row
use Rattle.book_parts.specs.declared.kind.RawKind.{RawKind}
use Rattle.book_parts.specs.declared.salvo.RawSalvo.{RawSalvo}
use Rattle.book_parts.specs.declared.limits.TheConstants.{MOST_STATES}
use Rattle.recipe_turn.specs.Checked.{Checked, coded_kind, coded_checked, AreValid, IsChecked, IsOf}
use Rattle.recipe_turn.specs.Checked.{raws}
use Rattle.elbow_graph.specs.States.{HasStates}
use Rattle.recipe_hit.specs.Checked as hit
use Rattle.recipe_hit.specs.Checked.{Struck, coded_struck}

-- a book with its sound turns and salvos
pub record CheckedEntries : Type 0 where
  pub settings : Settings
  pub kinds : List RawKind
  pub start : ℕ
  pub hand : Cells
  pub turns : List Checked
  pub salvos : List Struck

abbrev pub coded_entries : Coded CheckedEntries
coded_entries = code_by (Settings × (List RawKind × (ℕ × (Cells × (List Checked × List Struck)))))
    (coded× settings_row.the_row.coded (coded× (coded_list coded_kind) (coded× coded_ℕ (coded× coded_cells (coded× (coded_list coded_checked) (coded_list coded_struck))))))
    (λ b. (b.settings, (b.kinds, (b.start, (b.hand, (b.turns, b.salvos))))))
    (λ p. record { settings = p.0; kinds = p.1.0; start = p.1.1.0; hand = p.1.1.1.0; turns = p.1.1.1.1.0; salvos = p.1.1.1.1.1 }) (λ _. refl)

-- salvos as their book states them
abbrev pub raw_salvos : List Struck → List RawSalvo
raw_salvos salvos = map (λ (salvo : Struck). salvo.raw) salvos

-- a salvo was checked at this hand
abbrev pub IsAt : Cells → Struck → Type 0
IsAt hand salvo = salvo.hand ≡ hand

-- what a checked book says: its settings, kinds and hand, and its accepted entries as they were stated
abbrev pub said_of : CheckedEntries → Said
said_of book = record { settings = book.settings; hand = book.hand; kinds = book.kinds; start = book.start; turns = raws book.turns; salvos = raw_salvos book.salvos }

-- what a checked book says is proper, its kinds and its hand keep still, its turns are sound under its own settings and kinds, its salvos
-- are sound at its own hand, and its elbow has few states
pub record IsCheckedBook (book : CheckedEntries) : Type 0 where
  pub proper : IsProperBook (said_of book)
  pub valid : AreValid book.settings book.kinds
  pub still : IsStill (alive book.hand)
  pub turns : AllByRecursion IsChecked book.turns
  pub own : AllByRecursion (IsOf book.settings book.kinds) book.turns
  pub salvos : AllByRecursion hit.IsChecked book.salvos
  pub own_salvos : AllByRecursion (IsAt book.hand) book.salvos
  pub states : (count : ℕ) × HasStates (raws book.turns) book.start book.settings.span MOST_STATES count
