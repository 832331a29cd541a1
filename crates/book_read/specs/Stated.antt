-- What lines have stated together.
use Rattle.std.specs.Prelude.{ℕ, ℤ, pos, nat_abs, List, [], ◌∷◌, ◌++◌, Option}
use Rattle.std.specs.declared.option.Option.TheVariants.{Some, None}
use Rattle.std.specs.Map.{update}
use denote.Enum.Bare.{sameb}
use Rattle.life_cells.specs.Cells.{Cells, empty}
use Rattle.life_cells.specs.declared.cell.Cell.{Cell}
use Rattle.book_parts.specs.declared.settings.Settings.{Settings}
use Rattle.book_parts.specs.declared.settings.Range.{Range}
use Rattle.book_parts.specs.declared.kind.RawKind.{RawKind}
use Rattle.book_parts.specs.declared.turn.RawTurn.{RawTurn}
use Rattle.book_parts.specs.declared.turn.TurnEnd.{TurnEnd}
use Rattle.book_parts.specs.declared.turn.TurnEnd.TheVariants as ending
use Rattle.book_parts.specs.declared.salvo.RawSalvo.{RawSalvo}
use Rattle.book_lines.specs.declared.book_word.BookWord.{BookWord}
use Rattle.book_lines.specs.declared.book_word.BookWord.TheVariants as word
use Rattle.book_lines.specs.contracts.book_word.BookWord.{the_type}
use Rattle.book_lines.specs.declared.statement.Body.{Body}
use Rattle.book_lines.specs.declared.statement.Body.TheVariants.{Drawn, TooMany}
use Rattle.book_lines.specs.declared.statement.Placed.{Placed}
use Rattle.book_lines.specs.declared.statement.NamedEnd.{NamedEnd}
use Rattle.book_lines.specs.declared.statement.NamedEnd.TheVariants.{Close, Move, Emit}
use Rattle.book_lines.specs.declared.statement.ElbowLine.{ElbowLine}
use Rattle.book_lines.specs.declared.statement.TurnLine.{TurnLine}
use Rattle.book_lines.specs.declared.statement.SalvoLine.{SalvoLine}
use Rattle.book_lines.specs.declared.statement.Statement.{Statement}
use Rattle.book_lines.specs.declared.statement.Statement.TheVariants.{Setting, Hand, Elbow, Start, Turn, Salvo}
use Rattle.book_read.specs.Names.{known_number}

-- the numbers of each setting, the hand and the start kind, each where a line has stated it; the kinds, turns and salvos in the order of their lines
pub record Stated : Type 0 where
  pub settings : BookWord → Option (List ℤ)
  pub hand : Option Cells
  pub kinds : List RawKind
  pub start : Option ℕ
  pub turns : List RawTurn
  pub salvos : List RawSalvo

-- before the first line
abbrev pub nothing_stated : Stated
nothing_stated = record {
  settings = λ word. None;
  hand = None;
  kinds = [];
  start = None;
  turns = [];
  salvos = [];
}

-- `X Y`
abbrev pub coordinates : Cell → List ℤ
coordinates place = place.x ∷ (place.y ∷ [])

-- `LOW HIGH LEN`
abbrev pub range_numbers : Range → List ℤ
range_numbers range = range.low ∷ (range.high ∷ (pos range.len ∷ []))

-- the numbers of each setting; a word that is no setting has none
abbrev pub setting_numbers : Settings → BookWord → Option (List ℤ)
setting_numbers s word.Approach = Some (s.approach ∷ [])
setting_numbers s word.Wall = Some (s.wall ∷ [])
setting_numbers s word.Reach = Some (s.reach ∷ [])
setting_numbers s word.Corner = Some (coordinates s.corner)
setting_numbers s word.Room = Some (s.room ∷ [])
setting_numbers s word.Span = Some (s.span ∷ [])
setting_numbers s word.Lanes = Some (range_numbers s.lanes)
setting_numbers s word.Delays = Some (range_numbers s.delays)
setting_numbers s other = None

-- the live cells of a body; of too many none is looked at
abbrev pub cells_of : Body → Cells
cells_of (Drawn cells) = cells
cells_of (TooMany count) = empty

abbrev pub kind_of : ElbowLine → RawKind
kind_of elbow = record { name = elbow.name; cells = cells_of elbow.placed.body }

-- what a turn leaves, kinds by their numbers
abbrev pub end_of : List RawKind → NamedEnd → TurnEnd
end_of kinds Close = ending.Close
end_of kinds (Move kind shift) = ending.Move (known_number kinds kind) shift
end_of kinds (Emit kind shift lane j) = ending.Emit (known_number kinds kind) shift lane j

abbrev pub turn_of : List RawKind → TurnLine → RawTurn
turn_of kinds turn = record {
  name = turn.name;
  kind = known_number kinds turn.kind;
  end = end_of kinds turn.end;
  n = nat_abs turn.n;
  delays = turn.delays;
}

abbrev pub product_of : Option Placed → Cells
product_of None = empty
product_of (Some placed) = cells_of placed.body

abbrev pub salvo_of : SalvoLine → RawSalvo
salvo_of salvo = record { name = salvo.name; lanes = salvo.lanes; product = product_of salvo.product; hand = salvo.hand }

-- what is stated with one statement more
abbrev pub joined : Stated → Statement → Stated
joined stated (Setting setting) = record stated { settings = update (sameb the_type) stated.settings setting.word (Some setting.numbers) }
joined stated (Hand body) = record stated { hand = Some (cells_of body) }
joined stated (Elbow elbow) = record stated { kinds = stated.kinds ++ (kind_of elbow ∷ []) }
joined stated (Start name) = record stated { start = Some (known_number stated.kinds name) }
joined stated (Turn turn) = record stated { turns = stated.turns ++ (turn_of stated.kinds turn ∷ []) }
joined stated (Salvo salvo) = record stated { salvos = stated.salvos ++ (salvo_of salvo ∷ []) }
