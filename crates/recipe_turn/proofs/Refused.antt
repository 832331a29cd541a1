-- Kinds, one after the other.
use Rattle.std.proofs.Common.{◌≡◌, ℕ, ◌+◌, ◌<◌, List, ◌++◌, length, get_or, take, drop, sym, ap, ◌∙◌, arith}
use Rattle.std.proofs.lemmas.List.{at_drop_more, take-append-drop, length-take-le}
use Rattle.life_plane.specs.Plane.{Plane}
use Rattle.life_cells.specs.Cells.{alive}
use Rattle.book_parts.specs.declared.settings.Settings.{Settings}
use Rattle.book_parts.specs.declared.kind.RawKind.{RawKind}
use Rattle.recipe_turn.specs.Checked.{AreValid}
use Rattle.recipe_turn.specs.Refusals.{IsFirstInvalid, KindIsRefused, KindsAreRefused}
use Rattle.recipe_turn.specs.declared.refusal.KindsError.{KindsError}
use Rattle.recipe_turn.specs.declared.refusal.KindsError.TheVariants as kinds

invalid_here : (settings : Settings) (list : List RawKind) (place number : ℕ) (d : RawKind) (Fails : Plane → Type 0) → place < length list → AreValid settings (take place list) → number ≡ place + 1 →
    Fails (alive (get_or list place d).cells) → IsFirstInvalid settings list number Fails
invalid_here settings list place number d Fails lt before is fails = record {
  front = take place list;
  here = get_or list place d;
  back = drop (place + 1) list;
  split = sym (take-append-drop place list) ∙ ap (λ rest. take place list ++ rest) (at_drop_more (λ xs. xs) list place d lt);
  number_is = is ∙ ap (λ k. k + 1) (sym (length-take-le place list (omega arith)));
  before = before;
  fails = fails;
}

-- a kind that is refused after valid ones
pub refused_here : (settings : Settings) (list : List RawKind) (place : ℕ) (d : RawKind) → place < length list → AreValid settings (take place list) → (e : KindsError) →
    KindIsRefused settings (place + 1) (alive (get_or list place d).cells) e → KindsAreRefused settings list e
refused_here settings list place d lt before (kinds.Place number cell) h = invalid_here settings list place number d _ lt before h.0 h.1
refused_here settings list place d lt before (kinds.NotStill number cell) h = invalid_here settings list place number d _ lt before h.0 h.1
refused_here settings list place d lt before kinds.Memory h = tt
