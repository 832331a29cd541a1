-- The salvos of a book that build nothing, sorted: those that carry the hand and those that take it away.
use Rattle.std.specs.Prelude.{◌≡◌, ℕ, ◌<◌, List, refl}
use Rattle.std.specs.List.{AllByRecursion, slice_get}
use Rattle.std.specs.declared.option.Option.TheVariants.{Some, None}
use Rattle.std.specs.Coded.{Coded, code_by, coded×, coded_list}
use Rattle.book_parts.specs.declared.settings.Settings.{Settings}
use Rattle.book_parts.specs.contracts.settings.Settings as settings_row
use Rattle.book_parts.specs.Limits.{IsCoordinate}
use Rattle.elbow_graph.specs.Numbered.{IsNumbered}
use Rattle.recipe_hit.specs.Checked.{Struck, coded_struck}
use Rattle.hand_route.specs.Moves.{BuildsNothing}
use Rattle.hand_route.specs.declared.salvos.Carrier.{Carrier}

-- a book's settings and salvos
pub record Means : Type 0 where
  pub settings : Settings
  pub salvos : List Struck

abbrev pub coded_means : Coded Means
coded_means = code_by (Settings × List Struck) (coded× settings_row.the_row.coded (coded_list coded_struck)) (λ m. (m.settings, m.salvos)) (λ p. record { settings = p.0; salvos = p.1 }) (λ _. refl)

-- ---- items of salvos

-- an item has the number of a salvo that it is of
pub record HasSalvo {X : Type 0} (number : X → ℕ) (Of : Struck → X → Type 0) (salvos : List Struck) (x : X) : Type 0 where
  pub salvo : Struck
  pub numbered : IsNumbered salvos (number x) salvo
  pub of : Of salvo x

-- these are all items of the salvos, in the order of their numbers
pub record AreItems {X : Type 0} (number : X → ℕ) (Of : Struck → X → Type 0) (salvos : List Struck) (items : List X) : Type 0 where
  pub each : (k : ℕ) (x : X) → slice_get items k ≡ Some x → HasSalvo number Of salvos x
  pub rising : (j k : ℕ) (x y : X) → j < k → slice_get items j ≡ Some x → slice_get items k ≡ Some y → number x < number y
  pub all : (salvo : Struck) (x : X) → IsNumbered salvos (number x) salvo → Of salvo x → (k : ℕ) × (slice_get items k ≡ Some x)

-- ---- those that carry the hand

abbrev pub number_of : Carrier → ℕ
number_of c = c.number

-- the salvo builds nothing, and carries the hand so far
pub record CarriesBy (salvo : Struck) (c : Carrier) : Type 0 where
  pub builds_nothing : BuildsNothing salvo
  pub carries : salvo.raw.hand ≡ Some c.by

-- it carries it no farther than a book may say
pub record IsNear (c : Carrier) : Type 0 where
  pub x : IsCoordinate c.by.x
  pub y : IsCoordinate c.by.y

abbrev pub IsCarrier : List Struck → Carrier → Type 0
IsCarrier salvos c = HasSalvo number_of CarriesBy salvos c × IsNear c

pub record AreCarriers (salvos : List Struck) (carriers : List Carrier) : Type 0 where
  pub items : AreItems number_of CarriesBy salvos carriers
  pub near : AllByRecursion IsNear carriers

-- ---- those that take it away

-- the salvo builds nothing, and takes the hand away
pub record TakesHand (salvo : Struck) : Type 0 where
  pub builds_nothing : BuildsNothing salvo
  pub takes : salvo.raw.hand ≡ None

-- the salvo with a number does
abbrev pub TakesAt : Struck → ℕ → Type 0
TakesAt salvo number = TakesHand salvo

abbrev pub AreTakers : List Struck → List ℕ → Type 0
AreTakers salvos takers = AreItems (λ number. number) TakesAt salvos takers

-- ---- both

pub record AreSorted (salvos : List Struck) (carriers : List Carrier) (takers : List ℕ) : Type 0 where
  pub carriers_are : AreCarriers salvos carriers
  pub takers_are : AreTakers salvos takers
