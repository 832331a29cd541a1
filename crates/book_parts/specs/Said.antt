-- What a book says.
use Rattle.std.specs.Prelude.{ℕ, List, refl}
use Rattle.std.specs.Coded.{Coded, code_by, coded×, coded_ℕ, coded_list}
use Rattle.life_cells.specs.Cells.{Cells, coded_cells}
use Rattle.book_parts.specs.declared.settings.Settings.{Settings}
use Rattle.book_parts.specs.declared.kind.RawKind.{RawKind}
use Rattle.book_parts.specs.declared.turn.RawTurn.{RawTurn}
use Rattle.book_parts.specs.declared.salvo.RawSalvo.{RawSalvo}
use Rattle.book_parts.specs.contracts.settings.Settings as settings_row
use Rattle.book_parts.specs.contracts.kind.RawKind as kind_row
use Rattle.book_parts.specs.contracts.turn.RawTurn as turn_row
use Rattle.book_parts.specs.contracts.salvo.RawSalvo as salvo_row

-- what a book says: what holds for all of it, the hand, and its entries in order
pub record Said : Type 0 where
  pub settings : Settings
  pub hand : Cells
  pub kinds : List RawKind
  -- the number of the kind that the stream begins at, counted from 1
  pub start : ℕ
  pub turns : List RawTurn
  pub salvos : List RawSalvo

-- a book as the tuple of its fields
abbrev pub coded_said : Coded Said
coded_said = code_by (Settings × (Cells × (List RawKind × (ℕ × (List RawTurn × List RawSalvo)))))
    (coded× settings_row.the_row.coded (coded× coded_cells (coded× (coded_list kind_row.the_row.coded) (coded× coded_ℕ (coded× (coded_list turn_row.the_row.coded) (coded_list salvo_row.the_row.coded))))))
    (λ b. (b.settings, (b.hand, (b.kinds, (b.start, (b.turns, b.salvos))))))
    (λ p. record { settings = p.0; hand = p.1.0; kinds = p.1.1.0; start = p.1.1.1.0; turns = p.1.1.1.1.0; salvos = p.1.1.1.1.1 }) (λ _. refl)
