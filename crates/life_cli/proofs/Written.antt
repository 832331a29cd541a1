-- From a checked book to what is said of the book that was read.
use Rattle.std.specs.Prelude.{◌≡◌, ℕ, List, [], ◌∷◌}
use Rattle.std.specs.List.{AllByRecursion}
use Rattle.std.proofs.Common.{subst, ◌∙◌}
use Rattle.life_plane.specs.Plane.{IsStill}
use Rattle.life_cells.specs.Cells.{Cells, alive}
use Rattle.book_parts.specs.declared.settings.Settings.{Settings}
use Rattle.book_parts.specs.declared.kind.RawKind.{RawKind}
use Rattle.book_text.specs.Book.{Said}
use Rattle.recipe_turn.specs.Checked.{AreValid, IsOf, raws}
use Rattle.recipe_hit.specs.Checked.{Struck}
use Rattle.recipe_hit.specs.Checked as salvo
use Rattle.recipe_hit.specs.Sound.{AreHits}
use Rattle.elbow_graph.specs.States.{HasStates}
use Rattle.recipe_book.specs.Checked.{CheckedEntries, IsCheckedBook, IsAt, raw_salvos}
use Rattle.book_parts.specs.declared.limits.TheConstants.{MOST_STATES}
use Rattle.recipe_book.specs.Entries.{AreTheSound, AreTheSoundSalvos}
use Rattle.life_cli.specs.Book.{IsStruckAt, PassesTests}

-- salvos that were checked at a hand were struck there
struck_at : (hand own : Cells) (salvos : List Struck) → hand ≡ own → AllByRecursion salvo.IsChecked salvos → AllByRecursion (IsAt hand) salvos → AllByRecursion (IsStruckAt own) salvos
struck_at hand own [] same h k = tt
struck_at hand own (s ∷ salvos) same h k =
    (record { hand_is = k.0 ∙ same; hits_are = subst (λ (c : Cells). AreHits (alive c) s.raw.lanes s.hits) (k.0 ∙ same) h.0.sound.hits_are }, struck_at hand own salvos same h.1 k.1)

pub tests_passed : (said : Said) (book : CheckedEntries) → IsCheckedBook book → book.settings ≡ said.settings → book.kinds ≡ said.kinds → book.start ≡ said.start → book.hand ≡ said.hand →
    AreTheSound said.settings said.kinds said.turns (raws book.turns) → AreTheSoundSalvos (alive said.hand) said.salvos (raw_salvos book.salvos) → PassesTests said book
tests_passed said book is settings kinds start hand turns salvos = record {
  settings = settings;
  kinds = kinds;
  start = start;
  hand = hand;
  valid = subst (λ (s : Settings). AreValid s said.kinds) settings (subst (λ (ks : List RawKind). AreValid book.settings ks) kinds is.valid);
  still = subst (λ (c : Cells). IsStill (alive c)) hand is.still;
  turns = turns;
  own_turns = subst (λ (s : Settings). AllByRecursion (IsOf s said.kinds) book.turns) settings (subst (λ (ks : List RawKind). AllByRecursion (IsOf book.settings ks) book.turns) kinds is.own);
  salvos = salvos;
  own_salvos = struck_at book.hand said.hand book.salvos hand is.salvos is.own_salvos;
  count = is.states.0;
  states =
      subst (λ (s : Settings). HasStates (raws book.turns) said.start s.span MOST_STATES is.states.0) settings
      (subst (λ (n : ℕ). HasStates (raws book.turns) n book.settings.span MOST_STATES is.states.0) start is.states.1);
}
