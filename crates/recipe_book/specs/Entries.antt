-- The sound entries of a book.
use Rattle.std.specs.Prelude.{◌≡◌, ◌⊎◌, List, [], ◌∷◌}
use Rattle.life_plane.specs.Plane.{Plane}
use Rattle.book_parts.specs.declared.settings.Settings.{Settings}
use Rattle.book_parts.specs.declared.kind.RawKind.{RawKind}
use Rattle.book_parts.specs.declared.turn.RawTurn.{RawTurn}
use Rattle.book_parts.specs.declared.salvo.RawSalvo.{RawSalvo}
use Rattle.book_parts.specs.Kinds.{kind_plane, next_plane}
use Rattle.recipe_turn.specs.Turn.{IsSound}
use Rattle.recipe_hit.specs.Sound.{IsSoundSalvo}

-- these are exactly those of the list for which this holds, in their order
abbrev pub AreThose : {A : Type 0} → (A → Type 0) → List A → List A → Type 0
AreThose P [] those = those ≡ []
AreThose {A} P (x ∷ xs) those =
    (P x × ((rest : List A) × ((those ≡ x ∷ rest) × AreThose P xs rest)))
    ⊎ ((P x → ⊥) × AreThose P xs those)

-- a turn is sound between the kinds that it names
abbrev pub IsSoundIn : Settings → List RawKind → RawTurn → Type 0
IsSoundIn settings kinds turn = IsSound settings (kind_plane kinds turn.kind) (next_plane kinds turn.end) turn

-- these are exactly the sound ones among the turns, in their order
abbrev pub AreTheSound : Settings → List RawKind → List RawTurn → List RawTurn → Type 0
AreTheSound settings kinds turns sound = AreThose (IsSoundIn settings kinds) turns sound

-- these are exactly the salvos that are sound at this hand, in their order
abbrev pub AreTheSoundSalvos : Plane → List RawSalvo → List RawSalvo → Type 0
AreTheSoundSalvos hand salvos sound = AreThose (IsSoundSalvo hand) salvos sound
