-- The sample: a recipe book of any size from two numbers, how many kinds it has and how far apart its blocks stand. Numbers of kinds and turns count from 1.
use Rattle.std.specs.Prelude.{◌≡◌, ℕ, zero, suc, ◌+◌, ◌-◌, ◌*◌, ◌==◌, if◌then◌else◌, ℤ, pos, neg_ℤ, ◌+ℤ◌, List, [], ◌∷◌, ◌++◌, codes}
use Rattle.std.specs.Fmt.{decimal}
use Rattle.life_cells.specs.Cells.{cell, from_list}
use Rattle.life_cells.specs.declared.cell.Cell.{Cell}
use Rattle.book_parts.specs.declared.settings.Settings.{Settings}
use Rattle.book_parts.specs.declared.kind.RawKind.{RawKind}
use Rattle.book_parts.specs.declared.turn.RawTurn.{RawTurn}
use Rattle.book_parts.specs.declared.turn.TurnEnd.{TurnEnd}
use Rattle.book_parts.specs.declared.turn.TurnEnd.TheVariants.{Close, Move}
use Rattle.book_parts.specs.Said.{Said}

-- a book's settings, all given but for the span
abbrev pub settings : ℤ → Settings
settings span = record {
  approach = pos 40;
  wall = pos 4;
  reach = pos 40;
  corner = cell (pos 60) (neg_ℤ (pos 60));
  room = pos 40;
  span = span;
  lanes = record { low = pos 0; high = pos 3; len = 1 };
  delays = record { low = pos 50; high = pos 52; len = 2 };
}

-- the cells of the block with its top left at (corner,corner)
abbrev pub block : ℤ → List Cell
block corner =
    let far = corner +ℤ pos 1 in
    cell corner corner ∷ (cell far corner ∷ (cell corner far ∷ (cell far far ∷ [])))

-- so many blocks: block m, counted from 0, has its top left at (m*gap,m*gap)
abbrev pub blocks : ℕ → ℕ → List Cell
blocks gap zero = []
blocks gap (suc m) = blocks gap m ++ block (pos (m * gap))

-- kind number i is called k and its number, and has i blocks
abbrev pub kind : ℕ → ℕ → RawKind
kind gap i = record { name = codes "k" ++ decimal i; cells = from_list (blocks gap i) }

-- the kinds from number 1 to this one
abbrev pub kinds : ℕ → ℕ → List RawKind
kinds gap zero = []
kinds gap (suc i) = kinds gap i ++ kind gap (i + 1) ∷ []

-- the first turn leaves nothing, each other one the kind before its own, moved by the gap
abbrev pub ending : ℕ → ℕ → TurnEnd
ending gap i = if i == 1 then Close else Move (i - 1) (pos gap)

-- turn number i is called t and its number, begins at kind number i, and takes 30 generations with one glider
abbrev pub turn : ℕ → ℕ → RawTurn
turn gap i = record { name = codes "t" ++ decimal i; kind = i; end = ending gap i; n = 30; delays = pos 0 ∷ [] }

-- the turns from number 1 to this one
abbrev pub turns : ℕ → ℕ → List RawTurn
turns gap zero = []
turns gap (suc i) = turns gap i ++ turn gap (i + 1) ∷ []

-- The book is the sample with so many kinds, and blocks so far apart.
pub record IsSample (count gap : ℕ) (book : Said) : Type 0 where
  pub settings_are : book.settings ≡ settings (pos (count * gap))
  -- one block
  pub hand_is : book.hand ≡ from_list (block (pos 0))
  pub kinds_are : book.kinds ≡ kinds gap count
  -- the last kind
  pub start_is : book.start ≡ count
  pub turns_are : book.turns ≡ turns gap count
  pub salvos_are : book.salvos ≡ []
