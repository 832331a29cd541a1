-- Laws of the turn that is found.
use Rattle.std.specs.Prelude.{ℕ, ℤ, List}
use Rattle.book_parts.specs.Kinds.{kind_plane, next_plane}
use Rattle.book_parts.specs.declared.kind.RawKind.{RawKind}
use Rattle.book_parts.specs.declared.settings.Settings.{Settings}
use Rattle.book_parts.specs.declared.turn.TurnEnd.{TurnEnd}
use Rattle.recipe_turn.specs.Turn.{IsSound}
use Rattle.find_turn.specs.Found.{EndsSoundly}

-- a turn that ends soundly is sound under any name
pub sound_by_any_name : (settings : Settings) (kinds : List RawKind) (kind : ℕ) (delays : List ℤ) (n : ℕ) (leaves : TurnEnd) (name : List ℕ) → EndsSoundly settings kinds kind delays n leaves →
    IsSound settings (kind_plane kinds kind) (next_plane kinds leaves) (record { name = name; kind = kind; end = leaves; n = n; delays = delays })
sound_by_any_name settings kinds kind delays n leaves name h = record { gaps = h.sound.gaps; ends = h.sound.ends; bounds = h.sound.bounds; front = h.sound.front }
