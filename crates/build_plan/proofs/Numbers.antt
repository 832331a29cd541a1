-- Where items with a number stand.
use Rattle.std.specs.Prelude.{◌≡◌, ℕ, zero, suc, ◌-◌, ◌<◌, ◌≤◌, List, [], ◌∷◌, length, get_or}
use Rattle.std.proofs.Common.{arith, refl, sym, subst}
use Rattle.book_parts.specs.declared.turn.RawTurn.{RawTurn}
use Rattle.elbow_graph.specs.Numbered.{IsNumbered}
use Rattle.recipe_turn.specs.Checked.{Checked, raws}

-- a number is from 1 to how many there are
pub record IsWithin (most number : ℕ) : Type 0 where
  pub low : 1 ≤ number
  pub high : number ≤ most

pub turn_within : (turns : List Checked) (number : ℕ) (turn : RawTurn) → IsNumbered (raws turns) number turn → IsWithin (length turns) number
turn_within [] number turn h = absurd h
turn_within (c ∷ turns) zero turn h = absurd h
turn_within (c ∷ turns) (suc zero) turn h = record { low = omega arith; high = omega arith }
turn_within (c ∷ turns) (suc (suc k)) turn h = let rest = turn_within turns (suc k) turn h in record { low = omega arith; high = omega arith }

pub item_within : {X : Type 0} (xs : List X) (number : ℕ) (x : X) → IsNumbered xs number x → IsWithin (length xs) number
item_within [] number x h = absurd h
item_within (y ∷ xs) zero x h = absurd h
item_within (y ∷ xs) (suc zero) x h = record { low = omega arith; high = omega arith }
item_within (y ∷ xs) (suc (suc k)) x h = let rest = item_within xs (suc k) x h in record { low = omega arith; high = omega arith }

-- the item that stands at a number less one has it
turn_at_place : (turns : List Checked) (place : ℕ) (d : Checked) → place < length turns → IsNumbered (raws turns) (suc place) (get_or turns place d).raw
turn_at_place [] place d lt = absurd (omega arith)
turn_at_place (c ∷ turns) zero d lt = refl
turn_at_place (c ∷ turns) (suc place) d lt = turn_at_place turns place d (omega arith)

item_at_place : {X : Type 0} (xs : List X) (place : ℕ) (d : X) → place < length xs → IsNumbered xs (suc place) (get_or xs place d)
item_at_place [] place d lt = absurd (omega arith)
item_at_place (y ∷ xs) zero d lt = refl
item_at_place (y ∷ xs) (suc place) d lt = item_at_place xs place d (omega arith)

pub turn_there : (turns : List Checked) (number : ℕ) (d : Checked) → IsWithin (length turns) number → IsNumbered (raws turns) number (get_or turns (number - 1) d).raw
turn_there turns number d w =
    let low = w.low in
    let high = w.high in
    let next : number ≡ suc (number - 1) = omega arith in
    subst (λ (n : ℕ). IsNumbered (raws turns) n (get_or turns (number - 1) d).raw) (sym next) (turn_at_place turns (number - 1) d (omega arith))

pub item_there : {X : Type 0} (xs : List X) (number : ℕ) (d : X) → IsWithin (length xs) number → IsNumbered xs number (get_or xs (number - 1) d)
item_there xs number d w =
    let low = w.low in
    let high = w.high in
    let next : number ≡ suc (number - 1) = omega arith in
    subst (λ (n : ℕ). IsNumbered xs n (get_or xs (number - 1) d)) (sym next) (item_at_place xs (number - 1) d (omega arith))
