-- One turn at most is found.
use Rattle.std.proofs.Common.{◌≡◌, ℕ, zero, suc, ◌≤◌, ℤ, pos, ◌+ℤ◌, ◌-ℤ◌, List, [], ◌∷◌, length, get_or, map, refl, sym, ap, subst, ◌∙◌, arith}
use Rattle.std.specs.List.{AllByRecursion}
use Rattle.std.proofs.lemmas.Int.{ints}
use Rattle.life_plane.specs.Plane.{Plane, shift, same_plane}
use Rattle.life_cells.specs.Cells.{Cells, alive, cell, in_order}
use Rattle.life_cells.specs.Laws.{alive-in_order_at, rising-in_order, same_rising}
use Rattle.life_cells.specs.Listed.{listed}
use Rattle.life_cells.specs.Moved.{moved}
use Rattle.life_cells.specs.MovedLaws.{listed-moved, rising-moved}
use Rattle.life_cells.specs.declared.cell.Cell.{Cell}
use Rattle.life_gliders.specs.GliderLaws.{one_salvo_glider}
use Rattle.book_parts.specs.Kinds.{kind_plane}
use Rattle.book_parts.specs.Proper.{HasLife, IsKindNumber, IsProperKind}
use Rattle.book_parts.specs.declared.kind.RawKind.{RawKind}
use Rattle.book_parts.specs.declared.settings.Settings.{Settings}
use Rattle.book_parts.specs.declared.turn.TurnEnd.{TurnEnd}
use Rattle.book_parts.specs.declared.turn.TurnEnd.TheVariants.{Close, Move, Emit}
use Rattle.recipe_turn.specs.Checked.{AreValid}
use Rattle.find_turn.specs.Found.{EndsSoundly, IsLeastTurn}
use Rattle.find_turn.specs.Standing.{IsEnd, Stands, next_kind}
use Rattle.find_turn.specs.declared.found_turn.FoundTurn.{FoundTurn}
use Rattle.find_turn.proofs.Ends.{emit_beyond, emit_behind, move_unthrown}
use Rattle.find_turn.proofs.Moving.{moved_at, some_cell}

-- ---- how far a kind is moved

listed_moved : (s : Cells) (a x y : ℤ) → listed (map (moved a a) (in_order s)) x y ≡ shift a a (alive s) x y
listed_moved s a x y = listed-moved a a (in_order s) x y ∙ sym (alive-in_order_at s (x -ℤ a) (y -ℤ a))

-- a set that lives is moved in one way
one_way : (s : Cells) (a b : ℤ) → HasLife (alive s) → shift a a (alive s) ≡ shift b b (alive s) → a ≡ b
one_way s a b lives same =
    let cs = in_order s in
    let z = cell (pos 0) (pos 0) in
    let lists : map (moved a a) cs ≡ map (moved b b) cs =
    same_rising (map (moved a a) cs) (map (moved b b) cs) (rising-moved a a cs (rising-in_order s)) (rising-moved b b cs (rising-in_order s))
    (same_plane _ _ (λ x y. listed_moved s a x y ∙ ap (λ (p : Plane). p x y) same ∙ sym (listed_moved s b x y))) in
    let some = some_cell s cs refl lives in
    let first : moved a a (get_or cs 0 z) ≡ moved b b (get_or cs 0 z) = sym (moved_at cs (map (moved a a) cs) a 0 z z refl some) ∙ moved_at cs (map (moved a a) cs) b 0 z z lists some in
    let down : (get_or cs 0 z).y +ℤ a ≡ (get_or cs 0 z).y +ℤ b = ap (λ (c : Cell). c.y) first in
    omega (arith, ints, down)

one_advance : (kinds : List RawKind) → AllByRecursion IsProperKind kinds → (number : ℕ) → IsKindNumber (length kinds) number → (a b : ℤ) →
    shift a a (kind_plane kinds number) ≡ shift b b (kind_plane kinds number) → a ≡ b
one_advance [] proper number is a b same = let some = is.some in let most = is.most in absurd (omega arith)
one_advance (kind ∷ kinds) proper zero is a b same = let some = is.some in absurd (omega arith)
one_advance (kind ∷ kinds) proper (suc zero) is a b same = one_way kind.cells a b proper.0.lives same
one_advance (kind ∷ kinds) proper (suc (suc k)) is a b same = let most = is.most in one_advance kinds proper.1 (suc k) (record { some = omega arith; most = omega arith }) a b same

-- ---- ends

-- no kind has the number 0
not_zero : {A : Type 0} (kinds number : ℕ) → IsKindNumber kinds number → 0 ≡ number → A
not_zero kinds number is same = let some = is.some in absurd (omega arith)

same_move : (kinds : List RawKind) → AllByRecursion IsProperKind kinds → (s : Plane) (k l : ℕ) (a b : ℤ) → k ≡ l → Stands kinds s k a → Stands kinds s l b → a ≡ b
same_move kinds proper s k l a b same h g =
    one_advance kinds proper k h.number_is a b (sym h.moved ∙ g.moved ∙ ap (λ n. shift b b (kind_plane kinds n)) (sym same))

-- ends with the same cells that lead to the same kind are one
one_end : (settings : Settings) (kinds : List RawKind) → AllByRecursion IsProperKind kinds → AreValid settings kinds → (s : Plane) (e f : TurnEnd) → IsEnd settings kinds s e → IsEnd settings kinds s f →
    next_kind e ≡ next_kind f → e ≡ f
one_end settings kinds proper valid s Close Close h g same = refl
one_end settings kinds proper valid s Close (Move l b) h g same = not_zero _ l g.leads same
one_end settings kinds proper valid s Close (Emit l b m i) h g same = not_zero _ l g.leads same
one_end settings kinds proper valid s (Move k a) Close h g same = not_zero _ k h.leads (sym same)
one_end settings kinds proper valid s (Move k a) (Move l b) h g same =
    let along = same_move kinds proper s k l a b same (record { number_is = h.leads; moved = h.stands }) (record { number_is = g.leads; moved = g.stands }) in
    λ i. Move (same i) (along i)
one_end settings kinds proper valid s (Move k a) (Emit l b m i) h g same = absurd (move_unthrown settings kinds valid s k a m i (emit_beyond settings kinds valid s l b m i g) h)
one_end settings kinds proper valid s (Emit k a n j) Close h g same = not_zero _ k h.leads (sym same)
one_end settings kinds proper valid s (Emit k a n j) (Move l b) h g same = absurd (move_unthrown settings kinds valid s l b n j (emit_beyond settings kinds valid s k a n j h) g)
one_end settings kinds proper valid s (Emit k a n j) (Emit l b m i) h g same =
    let along = same_move kinds proper _ k l a b same (emit_behind settings kinds valid s k a n j h) (emit_behind settings kinds valid s l b m i g) in
    let glider = one_salvo_glider n j m i (sym (emit_beyond settings kinds valid s k a n j h) ∙ emit_beyond settings kinds valid s l b m i g) in
    λ t. Emit (same t) (along t) (glider.0 t) (glider.1 t)

-- ---- turns

level : (a b : ℕ) → a ≤ b → b ≤ a → a ≡ b
level a b h k = omega arith

-- of two turns that are found, the ends are one where the numbers of generations are
same_end : (settings : Settings) (kinds : List RawKind) → AllByRecursion IsProperKind kinds → AreValid settings kinds → (kind : ℕ) (delays : List ℤ) (n : ℕ) (e f : TurnEnd) →
    EndsSoundly settings kinds kind delays n e → EndsSoundly settings kinds kind delays n f → next_kind e ≡ next_kind f → e ≡ f
same_end settings kinds proper valid kind delays n e f h g same =
    one_end settings kinds proper valid _ e f (record { leads = h.leads; stands = h.sound.ends; front = h.sound.front }) (record { leads = g.leads; stands = g.sound.ends; front = g.sound.front }) same

-- one turn is the least
pub one_least_turn : (settings : Settings) (kinds : List RawKind) → AllByRecursion IsProperKind kinds → AreValid settings kinds → (kind : ℕ) (delays : List ℤ) (a b : FoundTurn) →
    IsLeastTurn settings kinds kind delays a → IsLeastTurn settings kinds kind delays b → a ≡ b
one_least_turn settings kinds proper valid kind delays a b h g =
    let n = level a.n b.n (h.least b.n b.end g.tried g.sound) (g.least a.n a.end h.tried h.sound) in
    let g_sound : EndsSoundly settings kinds kind delays a.n b.end = subst (λ k. EndsSoundly settings kinds kind delays k b.end) (sym n) g.sound in
    let h_sound : EndsSoundly settings kinds kind delays b.n a.end = subst (λ k. EndsSoundly settings kinds kind delays k a.end) n h.sound in
    let e = same_end settings kinds proper valid kind delays a.n a.end b.end h.sound g_sound (level _ _ (h.first b.end g_sound) (g.first a.end h_sound)) in
    λ i. record { n = n i; end = e i }
