-- The places to which the hand is carried, found by breadth.
use Rattle.std.specs.Prelude.{ℕ, zero, suc, ◌<◌, ◌+ℤ◌, List, refl}
use Rattle.std.specs.List.{Contains, IsDistinct}
use Rattle.std.specs.Coded.{Coded, code_by, coded×}
use Rattle.life_cells.specs.declared.cell.Cell.{Cell}
use Rattle.life_cells.specs.declared.bounds.Bounds.{Bounds}
use Rattle.life_cells.specs.contracts.bounds.Bounds as bounds_row
use Rattle.life_cells.specs.Cells.{Cells, cell, alive, coded_cells}
use Rattle.life_cells.specs.Listed.{same_cell}
use Rattle.breadth_search.specs.declared.found.Label.{Label}
use Rattle.breadth_search.specs.Labels.{lists_of}
use Rattle.breadth_search.specs.Search.{IsSearched}
use Rattle.hand_route.specs.Carriers.{Means, coded_means, IsCarrier}
use Rattle.hand_route.specs.Moves.{Site, Carries, TakesAway}
use Rattle.hand_route.specs.declared.salvos.Carrier.{Carrier}

-- among what the hand moves
pub record Ground : Type 0 where
  pub means : Means
  pub built : Cells
  pub room : Bounds

abbrev pub ground : Means → Cells → Bounds → Ground
ground means built room = record { means = means; built = built; room = room }

abbrev pub coded_ground : Coded Ground
coded_ground = code_by (Means × (Cells × Bounds)) (coded× coded_means (coded× coded_cells bounds_row.the_row.coded)) (λ g. (g.means, (g.built, g.room))) (λ p. record { means = p.0; built = p.1.0; room = p.1.1 }) (λ _. refl)

abbrev pub site_of : Ground → Site
site_of g = record { settings = g.means.settings; salvos = g.means.salvos; room = g.room; built = alive g.built }

-- the salvo with a number carries the hand on
abbrev pub carries : Ground → ℕ → Cell → Cell → Type 0
carries g = Carries (site_of g)

-- the salvo with a number takes the hand away
abbrev pub takes : Ground → ℕ → Cell → Type 0
takes g = TakesAway (site_of g)

-- where a carrier leaves the hand that stood at a place before it
abbrev pub carried : Cell → Carrier → Cell
carried at c = cell (at.x +ℤ c.by.x) (at.y +ℤ c.by.y)

-- a carrier carries the hand to a place that was not found
pub record CarriesOn (g : Ground) (cells : List Cell) (at : Cell) (c : Carrier) : Type 0 where
  pub carries_it : carries g c.number at (carried at c)
  pub new : Contains cells (carried at c) → ⊥

-- where the salvo with a number carries the hand, the place was found
abbrev pub CarriesBack : Ground → List Cell → Cell → ℕ → Type 0
CarriesBack g cells at number = (to : Cell) → carries g number at to → Contains cells to

-- a carrier past a number carries the hand to a place that was not found, and no salvo between does
pub record IsNextCarrier (g : Ground) (cells : List Cell) (at : Cell) (tried : ℕ) (c : Carrier) : Type 0 where
  pub up : tried < c.number
  pub carrier_is : IsCarrier g.means.salvos c
  pub on : CarriesOn g cells at c
  pub passed : (number : ℕ) → tried < number → number < c.number → CarriesBack g cells at number

-- no salvo past a number carries the hand to a place that was not found
abbrev pub NoCarrierPast : Ground → List Cell → Cell → ℕ → Type 0
NoCarrierPast g cells at tried = (number : ℕ) → tried < number → CarriesBack g cells at number

-- past a number that was tried, where one was
abbrev pub past : ℕ → ℕ
past zero = zero
past (suc number) = suc (suc number)

-- the salvos up to a number were tried at a place of those that were found
pub record IsKept (g : Ground) (from : Cell) (place tried : ℕ) (cells : List Cell) (labels : List Label) : Type 0 where
  pub searched : IsSearched (carries g) from place (past tried) cells labels (lists_of labels)
  pub distinct : IsDistinct same_cell cells
