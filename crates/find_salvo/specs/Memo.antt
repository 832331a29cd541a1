-- What is remembered of hits.
use Rattle.std.specs.Prelude.{◌≡◌, ℤ, List, [], Contains, refl}
use Rattle.std.specs.declared.option.Option.{Option}
use Rattle.std.specs.declared.option.Option.TheVariants.{Some, None}
use Rattle.std.specs.Coded.{Coded, code_by, coded×, coded_ℤ, coded_list, coded_option}
use Rattle.life_plane.specs.Plane.{Plane}
use Rattle.life_cells.specs.Cells.{Cells, alive, coded_cells}
use Rattle.lru.specs.LruCache.{LruCache}
use Rattle.recipe_hit.specs.declared.frame.Hit.{Hit}
use Rattle.recipe_hit.specs.Strike.{IsHit}
use Rattle.recipe_hit.specs.Refusals.{HasNoHit}
use Rattle.recipe_hit.specs.Checked.{coded_hit}
use Rattle.find_salvo.specs.declared.strike.Strike.{Strike}
use Rattle.find_salvo.specs.declared.memo.TheConstants.{MOST_REMEMBERED}

-- a strike, and its hit, if it has one
abbrev pub Entry : Type 0
Entry = Strike × Option Hit

abbrev pub coded_strike : Coded Strike
coded_strike = code_by (Cells × ℤ) (coded× coded_cells coded_ℤ) (λ s. (s.left, s.lane)) (λ p. record { left = p.0; lane = p.1 }) (λ _. refl)

abbrev pub coded_entries : Coded (List Entry)
coded_entries = coded_list (coded× coded_strike (coded_option coded_hit))

-- it is the hit of a glider of this lane; with none the lane has none
abbrev pub IsAnswer : Plane → ℤ → Option Hit → Type 0
IsAnswer struck lane None = HasNoHit struck lane
IsAnswer struck lane (Some hit) = IsHit struck lane hit

-- each entry has the hit of its lane with what it strikes, or says that there is none
abbrev pub AreAnswers : List Entry → Type 0
AreAnswers entries = (entry : Entry) → Contains entries entry → IsAnswer (alive entry.0.left) entry.0.lane entry.1

abbrev pub entries_of : Option (LruCache Strike (Option Hit)) → List Entry
entries_of None = []
entries_of (Some cache) = cache.entries

-- a cache of so many entries at most, and what they say is true
pub record IsCache (cache : LruCache Strike (Option Hit)) : Type 0 where
  pub answers : AreAnswers cache.entries
  pub cap : cache.cap ≡ MOST_REMEMBERED

abbrev pub IsMemo : Option (LruCache Strike (Option Hit)) → Type 0
IsMemo None = Unit {0}
IsMemo (Some cache) = IsCache cache
