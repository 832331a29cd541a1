-- The verdicts on the entries of a book.
use Rattle.std.specs.Prelude.{◌≡◌, ◌≢◌, List, ◌++◌}
use Rattle.std.specs.List.{AllZip}
use Rattle.life_plane.specs.Plane.{Plane}
use Rattle.book_parts.specs.declared.settings.Settings.{Settings}
use Rattle.book_parts.specs.declared.kind.RawKind.{RawKind}
use Rattle.book_parts.specs.declared.turn.RawTurn.{RawTurn}
use Rattle.book_parts.specs.declared.salvo.RawSalvo.{RawSalvo}
use Rattle.book_parts.specs.Kinds.{kind_plane, next_plane}
use Rattle.recipe_turn.specs.Refusals.{TurnIsRefused}
use Rattle.recipe_turn.specs.declared.refusal.TurnRefusal.{TurnRefusal}
use Rattle.recipe_turn.specs.declared.refusal.TurnRefusal.TheVariants as turns
use Rattle.recipe_hit.specs.Sound.{IsSoundSalvo}
use Rattle.recipe_hit.specs.SalvoRefusals.{SalvoIsRefused}
use Rattle.recipe_hit.specs.declared.refusal.SalvoRefusal.{SalvoRefusal}
use Rattle.recipe_hit.specs.declared.refusal.SalvoRefusal.TheVariants as salvos
use Rattle.recipe_book.specs.Entries.{IsSoundIn}
use Rattle.recipe_book.specs.declared.verdict.Verdict.{Verdict}
use Rattle.recipe_book.specs.declared.verdict.Verdict.TheVariants.{Accepted, Turn, Salvo}

-- a turn isn't sound for this cause, which isn't want of memory
pub record TurnFails (settings : Settings) (kinds : List RawKind) (turn : RawTurn) (refusal : TurnRefusal) : Type 0 where
  pub refused : TurnIsRefused settings (kind_plane kinds turn.kind) (next_plane kinds turn.end) turn refusal
  pub not_memory : refusal ≢ turns.Memory

-- a salvo isn't sound at this hand for this cause, which isn't want of memory
pub record SalvoFails (hand : Plane) (salvo : RawSalvo) (refusal : SalvoRefusal) : Type 0 where
  pub refused : SalvoIsRefused hand salvo refusal
  pub not_memory : refusal ≢ salvos.Memory

-- the verdict on a turn: it is sound, or the first part of it that fails
abbrev pub IsTurnVerdict : Settings → List RawKind → RawTurn → Verdict → Type 0
IsTurnVerdict settings kinds turn Accepted = IsSoundIn settings kinds turn
IsTurnVerdict settings kinds turn (Turn refusal) = TurnFails settings kinds turn refusal
IsTurnVerdict settings kinds turn (Salvo refusal) = ⊥

-- the verdict on a salvo: it is sound, or the first part of it that fails
abbrev pub IsSalvoVerdict : Plane → RawSalvo → Verdict → Type 0
IsSalvoVerdict hand salvo Accepted = IsSoundSalvo hand salvo
IsSalvoVerdict hand salvo (Turn refusal) = ⊥
IsSalvoVerdict hand salvo (Salvo refusal) = SalvoFails hand salvo refusal

-- one verdict for each entry of a book, in book order: those on its turns, and then those on its salvos
pub record AreVerdicts (settings : Settings) (kinds : List RawKind) (hand : Plane) (turns : List RawTurn) (salvos : List RawSalvo) (verdicts : List Verdict) : Type 0 where
  pub on_turns : List Verdict
  pub on_salvos : List Verdict
  pub split : verdicts ≡ on_turns ++ on_salvos
  pub turns_are : AllZip (IsTurnVerdict settings kinds) turns on_turns
  pub salvos_are : AllZip (IsSalvoVerdict hand) salvos on_salvos
