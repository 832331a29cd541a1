-- What is known of kinds and of a turn that were checked.
use Rattle.std.specs.Prelude.{◌≡◌, ℕ, List, length, map}
use Rattle.std.specs.List.{AllByRecursion}
use Rattle.std.specs.Coded.{Coded, code_by, coded×, coded_ℕ, coded_list}
use Rattle.std.proofs.Common.{refl}
use Rattle.life_cells.specs.Cells.{Cells, alive, coded_cells}
use Rattle.book_parts.specs.declared.settings.Settings.{Settings}
use Rattle.book_parts.specs.declared.kind.RawKind.{RawKind}
use Rattle.book_parts.specs.declared.turn.RawTurn.{RawTurn}
use Rattle.book_parts.specs.Kinds.{kind_plane, next_plane}
use Rattle.book_parts.specs.Proper.{IsProperKind, IsProperTurn}
use Rattle.book_parts.specs.contracts.turn.RawTurn as raw_turn
use Rattle.book_parts.specs.contracts.settings.Settings as settings_row
use Rattle.recipe_turn.specs.Kind.{IsValidKind}
use Rattle.recipe_turn.specs.Turn.{IsSound}

-- kinds, with the settings under which they were checked
pub record CheckedKinds : Type 0 where
  pub raw : List RawKind
  pub settings : Settings

-- a kind as the pair of its fields
abbrev pub coded_kind : Coded RawKind
coded_kind = code_by (List ℕ × Cells) (coded× (coded_list coded_ℕ) coded_cells) (λ k. (k.name, k.cells)) (λ p. record { name = p.0; cells = p.1 }) (λ _. refl)

abbrev pub coded_kinds : Coded CheckedKinds
coded_kinds = code_by (List RawKind × Settings) (coded× (coded_list coded_kind) settings_row.the_row.coded) (λ k. (k.raw, k.settings)) (λ p. record { raw = p.0; settings = p.1 }) (λ _. refl)

-- each kind is valid under these settings
abbrev pub AreValid : Settings → List RawKind → Type 0
AreValid settings kinds = AllByRecursion (λ (kind : RawKind). IsValidKind settings (alive kind.cells)) kinds

-- checked kinds are proper, and valid under their settings
pub record AreChecked (kinds : CheckedKinds) : Type 0 where
  pub proper : AllByRecursion IsProperKind kinds.raw
  pub valid : AreValid kinds.settings kinds.raw

-- A turn, with what it was checked under: the settings, how many kinds there were, the cells of its kind, and those of the kind that
-- it leads to (none where it closes).
pub record Checked : Type 0 where
  pub raw : RawTurn
  pub settings : Settings
  pub kinds : ℕ
  pub kind : Cells
  pub next : Cells

abbrev pub coded_checked : Coded Checked
coded_checked = code_by (RawTurn × (Settings × (ℕ × (Cells × Cells))))
    (coded× raw_turn.the_row.coded (coded× settings_row.the_row.coded (coded× coded_ℕ (coded× coded_cells coded_cells))))
    (λ t. (t.raw, (t.settings, (t.kinds, (t.kind, t.next)))))
    (λ p. record { raw = p.0; settings = p.1.0; kinds = p.1.1.0; kind = p.1.1.1.0; next = p.1.1.1.1 }) (λ _. refl)

-- a turn of such a book is sound, and its numbers are within the limits
pub record IsChecked (turn : Checked) : Type 0 where
  pub sound : IsSound turn.settings (alive turn.kind) (alive turn.next) turn.raw
  pub proper : IsProperTurn turn.kinds turn.raw

-- a turn was checked under these settings and kinds
pub record IsOf (settings : Settings) (kinds : List RawKind) (turn : Checked) : Type 0 where
  pub settings_are : turn.settings ≡ settings
  pub kinds_are : turn.kinds ≡ length kinds
  pub kind_is : alive turn.kind ≡ kind_plane kinds turn.raw.kind
  pub next_is : alive turn.next ≡ next_plane kinds turn.raw.end

-- turns as their book states them
abbrev pub raws : List Checked → List RawTurn
raws turns = map (λ (turn : Checked). turn.raw) turns
