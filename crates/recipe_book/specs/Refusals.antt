-- Why a book is refused, the first cause in order: its kinds, its hand, the number of its elbow states.
use Rattle.std.specs.Prelude.{◌≡◌, ℕ, ℤ, List, ◌+◌, ◌*◌, length, sum_by}
use Rattle.life_cells.specs.Cells.{Cells, alive}
use Rattle.book_parts.specs.declared.settings.Settings.{Settings}
use Rattle.life_plane.specs.Plane.{IsStill}
use Rattle.book_parts.specs.declared.kind.RawKind.{RawKind}
use Rattle.book_parts.specs.declared.turn.RawTurn.{RawTurn}
use Rattle.book_parts.specs.declared.salvo.RawSalvo.{RawSalvo}
use Rattle.life_cells.specs.Firsts.{IsFirstChange}
use Rattle.recipe_turn.specs.Checked.{AreValid}
use Rattle.recipe_turn.specs.Refusals.{KindsAreRefused}
use Rattle.elbow_graph.specs.States.{HasMoreStates}
use Rattle.recipe_turn.specs.declared.refusal.KindsError.TheVariants as kinds
use Rattle.recipe_book.specs.Entries.{AreTheSound}
use Rattle.book_parts.specs.declared.limits.TheConstants.{MOST_STATES}
use Rattle.recipe_book.specs.declared.refusal.BookRefusal.{BookRefusal}
use Rattle.recipe_book.specs.declared.refusal.BookRefusal.TheVariants.{KindPlace, KindNotStill, HandNotStill, ElbowMany, Memory}
use Rattle.recipe_hit.specs.declared.limits.TheConstants.{MOST_COUNTED}

-- the sound ones of these turns lead the elbow from its start to more states than a book may have
pub record HasManyStates (settings : Settings) (kinds : List RawKind) (start : ℕ) (turns : List RawTurn) : Type 0 where
  pub sound : List RawTurn
  pub are : AreTheSound settings kinds turns sound
  pub more : HasMoreStates sound start settings.span MOST_STATES

-- a book of these parts is refused so
abbrev pub BookIsRefused : Settings → Cells → List RawKind → ℕ → List RawTurn → BookRefusal → Type 0
BookIsRefused settings hand list start turns (KindPlace kind cell) = KindsAreRefused settings list (kinds.Place kind cell)
BookIsRefused settings hand list start turns (KindNotStill kind cell) = KindsAreRefused settings list (kinds.NotStill kind cell)
BookIsRefused settings hand list start turns (HandNotStill cell) = AreValid settings list × IsFirstChange (alive hand) cell
BookIsRefused settings hand list start turns (ElbowMany count) =
    AreValid settings list × (IsStill (alive hand) × ((count ≡ MOST_STATES + 1) × HasManyStates settings list start turns))
BookIsRefused settings hand list start turns Memory = Unit {0}

-- the test of the kinds refuses so
abbrev pub KindsRefuse : Settings → List RawKind → BookRefusal → Type 0
KindsRefuse settings list (KindPlace kind cell) = KindsAreRefused settings list (kinds.Place kind cell)
KindsRefuse settings list (KindNotStill kind cell) = KindsAreRefused settings list (kinds.NotStill kind cell)
KindsRefuse settings list Memory = Unit {0}
KindsRefuse settings list other = ⊥

-- the test of the hand refuses so
abbrev pub HandRefuses : Cells → BookRefusal → Type 0
HandRefuses hand (HandNotStill cell) = IsFirstChange (alive hand) cell
HandRefuses hand Memory = Unit {0}
HandRefuses hand other = ⊥

-- the count of the elbow's states refuses so
abbrev pub StatesRefuse : List RawTurn → ℕ → ℤ → BookRefusal → Type 0
StatesRefuse turns start span (ElbowMany count) = (count ≡ MOST_STATES + 1) × HasMoreStates turns start span MOST_STATES
StatesRefuse turns start span Memory = Unit {0}
StatesRefuse turns start span other = ⊥

-- the generations of all turns
abbrev pub generations : List RawTurn → ℕ
generations turns = sum_by (λ (turn : RawTurn). turn.n) turns

-- the most generations that the hits of all salvos take: 4,097 for each lane
abbrev pub most_hit_generations : List RawSalvo → ℕ
most_hit_generations salvos = sum_by (λ (salvo : RawSalvo). MOST_COUNTED * length salvo.lanes) salvos
