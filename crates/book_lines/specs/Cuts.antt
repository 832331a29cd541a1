-- Lines cut into the parts of their forms.
use Rattle.std.specs.Prelude.{◌≡◌, ℕ, ℤ, List, [], ◌∷◌, ◌++◌, codes, Option}
use Rattle.life_cells.specs.Cells.{cell}
use Rattle.life_cells.specs.declared.cell.Cell.{Cell}
use Rattle.book_parts.specs.Limits.{IsName}
use Rattle.book_lines.specs.declared.keyword.Keyword.{Keyword}
use Rattle.book_lines.specs.declared.statement.NamedEnd.{NamedEnd}
use Rattle.book_lines.specs.declared.statement.NamedEnd.TheVariants.{Move, Emit}
use Rattle.book_lines.specs.declared.statement.Statement.{Statement}
use Rattle.book_lines.specs.declared.statement.Placed.{Placed}
use Rattle.book_lines.specs.declared.fault.LineError.{LineError}
use Rattle.book_lines.specs.declared.fault.LineError.TheVariants.{Fault, Memory}
use Rattle.book_lines.specs.Values.{Level, AreNumbersAt}
use Rattle.book_lines.specs.Values.Level.{Form}
use Rattle.book_lines.specs.Forms.{IsNextKind, IsPair, IsEnding, IsProduct, IsHand}
use Rattle.book_lines.specs.Statements.{keyword, ItemsState}
use Rattle.book_lines.specs.Faults.{IsLineFault}

-- `KIND SHIFT N`, and nothing behind
abbrev pub IsMove : Level → NamedEnd → ℤ → List (List ℕ) → Type 0
IsMove level (Move kind shift) n items = IsNextKind level kind shift n items []
IsMove level other n items = ⊥

-- `KIND SHIFT N LANE J`
abbrev pub IsEmit : Level → NamedEnd → ℤ → List (List ℕ) → Type 0
IsEmit level (Emit kind shift lane j) n items = (more : List (List ℕ)) × (IsNextKind level kind shift n items more × IsPair level (cell lane j) more)
IsEmit level other n items = ⊥

-- the parts of a turn's line have their forms
pub record IsTurnCut (items : List (List ℕ)) (name kind : List ℕ) (ending delays : List (List ℕ)) : Type 0 where
  pub items_are : items ≡ name ∷ (kind ∷ (ending ++ (codes ":" ∷ delays)))
  pub name_is : IsName name
  pub kind_is : IsName kind
  pub ending_is : (end : NamedEnd) × ((n : ℤ) × IsEnding Form end n ending)
  pub delays_are : (zs : List ℤ) × AreNumbersAt Form delays zs

-- the parts of a salvo's line have their forms
pub record IsSalvoCut (items : List (List ℕ)) (name : List ℕ) (lanes product hand : List (List ℕ)) : Type 0 where
  pub items_are : items ≡ name ∷ (codes ":" ∷ (lanes ++ (codes ":" ∷ (product ++ (codes ":" ∷ hand)))))
  pub name_is : IsName name
  pub lanes_are : (zs : List ℤ) × AreNumbersAt Form lanes zs
  pub product_is : (p : Option Placed) × IsProduct Form p product
  pub hand_is : (h : Option Cell) × IsHand Form h hand

-- the items behind this word state this
abbrev pub StatesAs : Keyword → List (List ℕ) → Level → Statement → Type 0
StatesAs word items level s = (keyword s ≡ word) × ItemsState level s items

-- a line states nothing, or memory was wanting
abbrev pub IsLineError : List ℕ → LineError → Type 0
IsLineError line (Fault why) = IsLineFault line why
IsLineError line Memory = Unit {0}
