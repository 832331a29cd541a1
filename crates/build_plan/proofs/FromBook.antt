-- What a checked book gives a planner: its turns are sound at each shift, and its salvos with their hits at its hand.
use Rattle.std.specs.Prelude.{ℕ, zero, suc, ◌≤◌, ◌<◌, ℤ, List, [], ◌∷◌, length}
use Rattle.std.specs.List.{AllByRecursion}
use Rattle.std.proofs.Common.{sym, subst, arith}
use Rattle.life_plane.specs.Plane.{Plane}
use Rattle.life_cells.specs.Cells.{Cells, alive}
use Rattle.book_parts.specs.Kinds.{kind_plane}
use Rattle.book_parts.specs.declared.settings.Settings.{Settings}
use Rattle.book_parts.specs.declared.kind.RawKind.{RawKind}
use Rattle.book_parts.specs.declared.turn.RawTurn.{RawTurn}
use Rattle.elbow_graph.specs.Numbered.{IsNumbered}
use Rattle.elbow_graph.specs.NumberedLaws.{of_number}
use Rattle.recipe_turn.specs.Checked.{Checked, AreValid, IsChecked, IsOf, raws}
use Rattle.recipe_turn.specs.Kind.{IsValidKind}
use Rattle.recipe_turn.specs.Turn.{IsSound}
use Rattle.recipe_hit.specs.Checked as hit
use Rattle.recipe_hit.specs.Checked.{Struck}
use Rattle.recipe_hit.specs.Sound as salvo
use Rattle.recipe_hit.specs.declared.frame.Hit.{Hit}
use Rattle.recipe_book.specs.Checked.{CheckedEntries, IsCheckedBook, IsAt}
use Rattle.plan_facts.specs.MayTurn.{IsSoundHere}
use Rattle.build_plan.proofs.Goes.{AreSoundTurns}

-- the kind with a number is valid
valid_at : (settings : Settings) (kinds : List RawKind) (k : ℕ) → AreValid settings kinds → 1 ≤ k → k ≤ length kinds → IsValidKind settings (kind_plane kinds k)
valid_at settings [] zero valid some most = absurd (omega arith)
valid_at settings [] (suc k) valid some most = absurd (omega arith)
valid_at settings (kind ∷ kinds) zero valid some most = absurd (omega arith)
valid_at settings (kind ∷ kinds) (suc zero) valid some most = valid.0
valid_at settings (kind ∷ kinds) (suc (suc k)) valid some most = valid_at settings kinds (suc k) valid.1 (omega arith) (omega arith)

sound_one : (settings : Settings) (kinds : List RawKind) (turn : Checked) → AreValid settings kinds → IsChecked turn → IsOf settings kinds turn → (shift : ℤ) (start : ℕ) →
    IsSoundHere settings kinds (record { turn = turn.raw; shift = shift; start = start })
sound_one settings kinds turn valid checked own shift start =
    let some = checked.proper.kind.some in
    let most = checked.proper.kind.most in
    let kinds_are = own.kinds_are in
    record {
      valid = valid_at settings kinds turn.raw.kind valid some (omega arith);
      sound = subst (λ (n : Plane). IsSound settings (kind_plane kinds turn.raw.kind) n turn.raw) own.next_is
          (subst (λ (s : Plane). IsSound settings s (alive turn.next) turn.raw) own.kind_is
          (subst (λ (e : Settings). IsSound e (alive turn.kind) (alive turn.next) turn.raw) own.settings_are checked.sound));
    }

sound_each : (settings : Settings) (kinds : List RawKind) (turns : List Checked) → AreValid settings kinds → AllByRecursion IsChecked turns → AllByRecursion (IsOf settings kinds) turns →
    (k : ℕ) (turn : RawTurn) → IsNumbered (raws turns) k turn → (shift : ℤ) (start : ℕ) → IsSoundHere settings kinds (record { turn = turn; shift = shift; start = start })
sound_each settings kinds [] valid checked own k t n shift start = absurd n
sound_each settings kinds (turn ∷ turns) valid checked own zero t n shift start = absurd n
sound_each settings kinds (turn ∷ turns) valid checked own (suc zero) t n shift start =
    subst (λ (x : RawTurn). IsSoundHere settings kinds (record { turn = x; shift = shift; start = start })) (sym n) (sound_one settings kinds turn valid checked.0 own.0 shift start)
sound_each settings kinds (turn ∷ turns) valid checked own (suc (suc k)) t n shift start = sound_each settings kinds turns valid checked.1 own.1 (suc k) t n shift start

pub sound_turns : (book : CheckedEntries) → IsCheckedBook book → AreSoundTurns book
sound_turns book checked = sound_each book.settings book.kinds book.turns checked.valid checked.turns checked.own

-- a salvo at a hand, sound with its hits, of which there is one
pub record IsSoundAt (hand : Plane) (s : Struck) : Type 0 where
  pub sound : salvo.IsSound hand s.raw s.hits
  pub some : 0 < length s.hits

some_hit : (struck : Plane) (lanes : List ℤ) (hits : List Hit) → 0 < length lanes → salvo.AreHits struck lanes hits → 0 < length hits
some_hit struck [] hits some are = absurd (omega arith)
some_hit struck (lane ∷ lanes) [] some are = absurd are
some_hit struck (lane ∷ lanes) (first ∷ hits) some are = omega arith

sound_salvo : (hand : Cells) (s : Struck) → hit.IsChecked s → IsAt hand s → IsSoundAt (alive hand) s
sound_salvo hand s checked at =
    let here : salvo.IsSound (alive hand) s.raw s.hits = subst (λ (h : Cells). salvo.IsSound (alive h) s.raw s.hits) at checked.sound in
    record { sound = here; some = some_hit (alive hand) s.raw.lanes s.hits checked.proper.some here.hits_are }

pub sound_salvos : (book : CheckedEntries) → IsCheckedBook book → (k : ℕ) (s : Struck) → IsNumbered book.salvos k s → IsSoundAt (alive book.hand) s
sound_salvos book checked k s n = sound_salvo book.hand s (of_number hit.IsChecked book.salvos k s checked.salvos n) (of_number (IsAt book.hand) book.salvos k s checked.own_salvos n)
