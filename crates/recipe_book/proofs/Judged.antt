-- What is sound of an entry that was judged, and what isn't.
use Rattle.std.specs.Prelude.{◌≡◌, ℕ, List, length, ◌*◌}
use Rattle.std.proofs.Common.{subst}
use Rattle.life_plane.specs.Plane.{Plane}
use Rattle.life_cells.specs.Cells.{Cells, alive}
use Rattle.book_parts.specs.declared.settings.Settings.{Settings}
use Rattle.book_parts.specs.declared.kind.RawKind.{RawKind}
use Rattle.book_parts.specs.declared.turn.RawTurn.{RawTurn}
use Rattle.book_parts.specs.declared.salvo.RawSalvo.{RawSalvo}
use Rattle.book_parts.specs.Kinds.{kind_plane, next_plane}
use Rattle.book_parts.specs.Proper.{IsProperTurn, IsProperSalvo}
use Rattle.recipe_turn.specs.Turn.{IsSound}
use Rattle.recipe_turn.specs.Checked.{Checked}
use Rattle.recipe_turn.specs.Refusals.{TurnIsRefused}
use Rattle.recipe_turn.specs.declared.refusal.TurnRefusal.{TurnRefusal}
use Rattle.recipe_turn.specs.declared.refusal.TurnRefusal.TheVariants as turns
use Rattle.recipe_hit.specs.Sound as hit
use Rattle.recipe_hit.specs.Sound.{IsSoundSalvo}
use Rattle.recipe_hit.specs.Checked.{Struck}
use Rattle.recipe_hit.specs.declared.frame.Hit.{Hit}
use Rattle.recipe_hit.specs.SalvoRefusals.{SalvoIsRefused}
use Rattle.recipe_hit.specs.declared.refusal.SalvoRefusal.{SalvoRefusal}
use Rattle.recipe_hit.specs.declared.refusal.SalvoRefusal.TheVariants as salvos
use Rattle.recipe_book.specs.Entries.{IsSoundIn}
use Rattle.recipe_book.specs.Verdicts.{TurnFails, SalvoFails, IsTurnVerdict, IsSalvoVerdict}
use Rattle.recipe_book.specs.Accepting.{IsKeptTurn, IsKeptSalvo}
use Rattle.recipe_book.specs.declared.verdict.Verdict.{Verdict}
use Rattle.recipe_book.proofs.JudgedEntries.{IsSoFar}
use Rattle.recipe_hit.specs.declared.limits.TheConstants.{MOST_COUNTED}

-- the turns so far
abbrev pub TurnsSoFar : Settings → List RawKind → List RawTurn → List RawTurn → List Checked → List Verdict → List Verdict → ℕ → ℕ → Type 0
TurnsSoFar settings kinds all rest found old now before after =
    IsSoFar (λ (c : Checked). c.raw) (IsSoundIn settings kinds) (IsKeptTurn settings kinds) (IsTurnVerdict settings kinds) (IsProperTurn (length kinds)) (λ (turn : RawTurn). turn.n)
    all rest found old now before after

-- the salvos so far
abbrev pub SalvosSoFar : Cells → List RawSalvo → List RawSalvo → List Struck → List Verdict → List Verdict → ℕ → ℕ → Type 0
SalvosSoFar hand all rest found old now before after =
    IsSoFar (λ (c : Struck). c.raw) (IsSoundSalvo (alive hand)) (IsKeptSalvo hand) (IsSalvoVerdict (alive hand)) IsProperSalvo (λ (salvo : RawSalvo). MOST_COUNTED * length salvo.lanes)
    all rest found old now before after

-- what is kept of a turn is sound
pub sound_turn : (settings : Settings) (kinds : List RawKind) (turn : RawTurn) (c : Checked) → c.raw ≡ turn → IsKeptTurn settings kinds c → IsSoundIn settings kinds turn
sound_turn settings kinds turn c raw kept =
    subst (λ (t : RawTurn). IsSoundIn settings kinds t) raw
    (subst (λ (s : Settings). IsSound s (kind_plane kinds c.raw.kind) (next_plane kinds c.raw.end) c.raw) kept.own.settings_are
    (subst (λ p. IsSound c.settings p (next_plane kinds c.raw.end) c.raw) kept.own.kind_is
    (subst (λ p. IsSound c.settings (alive c.kind) p c.raw) kept.own.next_is kept.checked.sound)))

-- what is kept of a salvo is sound
pub sound_salvo : (hand : Cells) (salvo : RawSalvo) (c : Struck) → c.raw ≡ salvo → IsKeptSalvo hand c → IsSoundSalvo (alive hand) salvo
sound_salvo hand salvo c raw kept =
    subst (λ (s : RawSalvo). IsSoundSalvo (alive hand) s) raw
    (c.hits, subst (λ (h : Cells). hit.IsSound (alive h) c.raw c.hits) kept.own kept.checked.sound)

-- a turn that fails isn't sound
pub unsound_turn : ((settings : Settings) (kind next : Plane) (turn : RawTurn) (e : TurnRefusal) → IsSound settings kind next turn → TurnIsRefused settings kind next turn e → e ≡ turns.Memory) →
    (settings : Settings) (kinds : List RawKind) (turn : RawTurn) (e : TurnRefusal) → TurnFails settings kinds turn e → IsSoundIn settings kinds turn → ⊥
unsound_turn law settings kinds turn e fails sound = fails.not_memory (law settings (kind_plane kinds turn.kind) (next_plane kinds turn.end) turn e sound fails.refused)

-- a salvo that fails isn't sound
pub unsound_salvo : ((hand : Plane) (salvo : RawSalvo) (hits : List Hit) (e : SalvoRefusal) → hit.IsSound hand salvo hits → SalvoIsRefused hand salvo e → e ≡ salvos.Memory) →
    (hand : Plane) (salvo : RawSalvo) (e : SalvoRefusal) → SalvoFails hand salvo e → IsSoundSalvo hand salvo → ⊥
unsound_salvo law hand salvo e fails sound = fails.not_memory (law hand salvo sound.0 e sound.1 fails.refused)
