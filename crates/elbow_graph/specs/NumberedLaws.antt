-- A number names one item, the one at the place before it; and an exit is that of the turn with its number.
use Rattle.std.specs.Prelude.{◌≡◌, ℕ, zero, suc, List, [], ◌∷◌}
use Rattle.std.specs.List.{AllByRecursion, slice_get}
use Rattle.std.specs.declared.option.Option.TheVariants.{Some}
use Rattle.std.proofs.Common.{refl, sym, ap, subst, ◌∙◌}
use Rattle.life_plane.specs.ListLaws.{same_item}
use Rattle.book_parts.specs.declared.turn.RawTurn.{RawTurn}
use Rattle.elbow_graph.specs.declared.exit.Exit.{Exit}
use Rattle.elbow_graph.specs.Exits.{exit_of, exits_of}
use Rattle.elbow_graph.specs.Numbered.{IsNumbered}

pub numbered_once : {X : Type 0} (xs : List X) (k : ℕ) (a b : X) → IsNumbered xs k a → IsNumbered xs k b → a ≡ b
numbered_once [] k a b h l = absurd h
numbered_once (x ∷ xs) zero a b h l = absurd h
numbered_once (x ∷ xs) (suc zero) a b h l = h ∙ sym l
numbered_once (x ∷ xs) (suc (suc k)) a b h l = numbered_once xs (suc k) a b h l

-- the item at a place has the number behind it
pub numbered_from_at : {X : Type 0} (xs : List X) (i : ℕ) (x : X) → slice_get xs i ≡ Some x → IsNumbered xs (suc i) x
numbered_from_at [] i x h = absurd (cc)
numbered_from_at (y ∷ xs) zero x h = same_item h refl
numbered_from_at (y ∷ xs) (suc i) x h = numbered_from_at xs i x h

-- and the item with a number stands at the place before it
pub at_from_numbered : {X : Type 0} (xs : List X) (k : ℕ) (x : X) → IsNumbered xs k x → (i : ℕ) × ((k ≡ suc i) × (slice_get xs i ≡ Some x))
at_from_numbered [] k x h = absurd h
at_from_numbered (y ∷ xs) zero x h = absurd h
at_from_numbered (y ∷ xs) (suc zero) x h = (0, (refl, ap Some (sym h)))
at_from_numbered (y ∷ xs) (suc (suc k)) x h = let there = at_from_numbered xs (suc k) x h in (suc there.0, (ap suc there.1.0, there.1.1))

-- what holds of each item holds of the one with a number
pub of_number : {X : Type 0} (P : X → Type 0) (xs : List X) (k : ℕ) (x : X) → AllByRecursion P xs → IsNumbered xs k x → P x
of_number P [] k x all n = absurd n
of_number P (first ∷ xs) zero x all n = absurd n
of_number P (first ∷ xs) (suc zero) x all n = subst P (sym n) all.0
of_number P (first ∷ xs) (suc (suc k)) x all n = of_number P xs (suc k) x all.1 n

-- the turn with a number, of which an exit is
pub turn_numbered : (turns : List RawTurn) (k : ℕ) (exit : Exit) → IsNumbered (exits_of turns) k exit → (turn : RawTurn) × (IsNumbered turns k turn × (exit_of turn ≡ exit))
turn_numbered [] k exit h = absurd h
turn_numbered (turn ∷ turns) zero exit h = absurd h
turn_numbered (turn ∷ turns) (suc zero) exit h = (turn, (refl, sym h))
turn_numbered (turn ∷ turns) (suc (suc k)) exit h = turn_numbered turns (suc k) exit h
