-- A sound turn has no refusal, and a turn has one at most; and so with kinds.
use Rattle.std.proofs.Common.{◌≡◌, ◌≢◌, ℕ, ◌+◌, ◌<◌, ◌≤◌, true, ℤ, pos, List, [], ◌∷◌, ◌++◌, length, get_or, take, refl, sym, ap, subst, ◌∙◌, inl, inr, arith}
use Rattle.std.specs.List.{AllByRecursion}
use Rattle.std.proofs.lemmas.Bool.{cases_lt}
use Rattle.std.proofs.lemmas.List.{take-append-le, get_or_append_left}
use Rattle.std.proofs.Math.Seq.{get_or-append_seam}
use Rattle.life_plane.specs.Plane.{Plane, run}
use Rattle.life_cells.specs.declared.cell.Cell.{Cell}
use Rattle.life_cells.specs.Cells.{alive}
use Rattle.book_parts.specs.declared.settings.Settings.{Settings}
use Rattle.book_parts.specs.declared.kind.RawKind.{RawKind}
use Rattle.book_parts.specs.declared.turn.RawTurn.{RawTurn}
use Rattle.book_parts.specs.declared.turn.TurnEnd.{TurnEnd}
use Rattle.book_parts.specs.declared.turn.TurnEnd.TheVariants.{Close, Move, Emit}
use Rattle.life_cells.specs.Firsts.{IsFirstOf, IsFirstChange}
use Rattle.life_cells.specs.FirstLaws.{one_first}
use Rattle.recipe_turn.specs.Kind.{IsValidKind, IsFirstOutOfPlace, AreInPlace}
use Rattle.recipe_turn.specs.Turn.{IsSound}
use Rattle.recipe_turn.specs.Gaps.{AreApart, IsFirstNarrow}
use Rattle.recipe_turn.specs.Breaches.{KeepsBefore, IsFirstBreach}
use Rattle.recipe_turn.specs.Checked.{AreValid}
use Rattle.recipe_turn.specs.Refusals.{IsFirstInvalid, KindsAreRefused, TurnIsRefused, IsFrontOf}
use Rattle.recipe_turn.specs.declared.refusal.KindsError.{KindsError}
use Rattle.recipe_turn.specs.declared.refusal.KindsError.TheVariants as kinds
use Rattle.recipe_turn.specs.declared.refusal.TurnRefusal.{TurnRefusal}
use Rattle.recipe_turn.specs.declared.refusal.TurnRefusal.TheVariants.{Gap, Short, EndDiffers, Reach, Tail, Wall, Memory}
use Rattle.life_plane.specs.ListLaws.{each_at}
use Rattle.recipe_turn.specs.GapLaws.{spaced_apart, apart_take, take_narrow, narrow_not_apart}

-- ---- one first narrow gap

narrow_not_later : (ds : List ℤ) (place other : ℕ) (n : IsFirstNarrow ds place) (m : IsFirstNarrow ds other) → length n.front < length m.front → ⊥
narrow_not_later ds place other n m lt =
    let within : length n.front + 1 ≤ length m.front = omega arith in
    let same : take (length n.front + 1) ds ≡ take (length n.front + 1) m.front = ap (take (length n.front + 1)) m.split ∙ take-append-le (length n.front + 1) m.front (m.here ∷ m.back) within in
    n.narrow (subst AreApart (sym same ∙ take_narrow ds n.front n.back n.here n.split) (apart_take m.front (length n.front + 1) m.before))

same_or_less : (a b : ℕ) → (a < b → ⊥) → (b < a → ⊥) → a ≡ b
same_or_less a b f g = elim (cases_lt a b) [ inl lt ↦ absurd (f lt) | inr ge ↦ elim (cases_lt b a) [ inl lt ↦ absurd (g lt) | inr ge2 ↦ let both : a ≡ b = omega arith in both ] ]

one_narrow : (ds : List ℤ) (place other : ℕ) → IsFirstNarrow ds place → IsFirstNarrow ds other → place ≡ other
one_narrow ds place other n m =
    n.place_is ∙ ap (λ k. k + 1) (same_or_less (length n.front) (length m.front) (narrow_not_later ds place other n m) (narrow_not_later ds other place m n)) ∙ sym m.place_is

-- ---- one first breach

breach_not_kept : (Keeps : ℕ → ℤ → ℤ → Type 0) (start : Plane) (n t : ℕ) (c : Cell) → t ≤ n → IsFirstBreach Keeps start t c → KeepsBefore Keeps start (n + 1) → ⊥
breach_not_kept Keeps start n t c le b kept = b.first.is.1 (kept t (omega arith) c.x c.y b.first.is.0)

breach_not_later : (Keeps : ℕ → ℤ → ℤ → Type 0) (start : Plane) (t u : ℕ) (c d : Cell) → IsFirstBreach Keeps start t c → IsFirstBreach Keeps start u d → t < u → ⊥
breach_not_later Keeps start t u c d b e lt = b.first.is.1 (e.before t lt c.x c.y b.first.is.0)

one_breach : (Keeps : ℕ → ℤ → ℤ → Type 0) (start : Plane) (t u : ℕ) (c d : Cell) → IsFirstBreach Keeps start t c → IsFirstBreach Keeps start u d → (t ≡ u) × (c ≡ d)
one_breach Keeps start t u c d b e =
    let same : t ≡ u = same_or_less t u (breach_not_later Keeps start t u c d b e) (breach_not_later Keeps start u t d c e b) in
    (same, one_first _ c d (subst (λ k. IsFirstOf (λ x y. (run k start x y ≡ true) × (Keeps k x y → ⊥)) c) same b.first) e.first)

one_front : (stated : TurnEnd) (u v : ℤ) → IsFrontOf stated u → IsFrontOf stated v → u ≡ v
one_front Close u v h k = absurd h
one_front (Move kind advance) u v h k = absurd h
one_front (Emit kind advance lane j) u v h k = h ∙ sym k

-- ---- turns

-- a sound turn has no refusal
pub no_turn_refusal : (settings : Settings) (kind next : Plane) (turn : RawTurn) (e : TurnRefusal) → IsSound settings kind next turn → TurnIsRefused settings kind next turn e → e ≡ Memory
no_turn_refusal settings kind next turn (Gap place) sound h = absurd (narrow_not_apart turn.delays place h (spaced_apart turn.delays (pos turn.n) sound.gaps))
no_turn_refusal settings kind next turn (Short n) sound h = absurd (h.1.1 sound.gaps)
no_turn_refusal settings kind next turn (EndDiffers c) sound h = absurd (h.1.is (ap (λ (p : Plane). p c.x c.y) sound.ends))
no_turn_refusal settings kind next turn (Reach t c) sound h = absurd (h.1.1.first.is.1 (sound.bounds.reach t c.x c.y h.1.0 h.1.1.first.is.0))
no_turn_refusal settings kind next turn (Tail t c) sound h = absurd (h.1.1.1.first.is.1 (sound.bounds.tail t c.x c.y h.1.1.0 h.1.1.1.first.is.0))
no_turn_refusal settings kind next turn (Wall u) sound h = absurd (h.1.1.1 sound.front)
no_turn_refusal settings kind next turn Memory sound h = refl

-- a turn has one refusal at most
pub one_turn_refusal : (settings : Settings) (kind next : Plane) (turn : RawTurn) (e f : TurnRefusal) → TurnIsRefused settings kind next turn e → TurnIsRefused settings kind next turn f →
    e ≢ Memory → f ≢ Memory → e ≡ f
one_turn_refusal settings kind next turn (Gap place1) (Gap place2) h k other another = ap Gap (one_narrow turn.delays place1 place2 h k)
one_turn_refusal settings kind next turn (Gap place1) (Short n2) h k other another = absurd (narrow_not_apart turn.delays place1 h k.1.0)
one_turn_refusal settings kind next turn (Gap place1) (EndDiffers c2) h k other another = absurd (narrow_not_apart turn.delays place1 h (spaced_apart turn.delays (pos turn.n) k.0))
one_turn_refusal settings kind next turn (Gap place1) (Reach t2 c2) h k other another = absurd (narrow_not_apart turn.delays place1 h (spaced_apart turn.delays (pos turn.n) k.0.gaps))
one_turn_refusal settings kind next turn (Gap place1) (Tail t2 c2) h k other another = absurd (narrow_not_apart turn.delays place1 h (spaced_apart turn.delays (pos turn.n) k.0.gaps))
one_turn_refusal settings kind next turn (Gap place1) (Wall u2) h k other another = absurd (narrow_not_apart turn.delays place1 h (spaced_apart turn.delays (pos turn.n) k.0.gaps))
one_turn_refusal settings kind next turn (Gap place1) Memory h k other another = absurd (another refl)
one_turn_refusal settings kind next turn (Short n1) (Gap place2) h k other another = absurd (narrow_not_apart turn.delays place2 k h.1.0)
one_turn_refusal settings kind next turn (Short n1) (Short n2) h k other another = ap Short (h.0 ∙ sym k.0)
one_turn_refusal settings kind next turn (Short n1) (EndDiffers c2) h k other another = absurd (h.1.1 k.0)
one_turn_refusal settings kind next turn (Short n1) (Reach t2 c2) h k other another = absurd (h.1.1 k.0.gaps)
one_turn_refusal settings kind next turn (Short n1) (Tail t2 c2) h k other another = absurd (h.1.1 k.0.gaps)
one_turn_refusal settings kind next turn (Short n1) (Wall u2) h k other another = absurd (h.1.1 k.0.gaps)
one_turn_refusal settings kind next turn (Short n1) Memory h k other another = absurd (another refl)
one_turn_refusal settings kind next turn (EndDiffers c1) (Gap place2) h k other another = absurd (narrow_not_apart turn.delays place2 k (spaced_apart turn.delays (pos turn.n) h.0))
one_turn_refusal settings kind next turn (EndDiffers c1) (Short n2) h k other another = absurd (k.1.1 h.0)
one_turn_refusal settings kind next turn (EndDiffers c1) (EndDiffers c2) h k other another = ap EndDiffers (one_first _ c1 c2 h.1 k.1)
one_turn_refusal settings kind next turn (EndDiffers c1) (Reach t2 c2) h k other another = absurd (h.1.is (ap (λ (p : Plane). p c1.x c1.y) k.0.ends))
one_turn_refusal settings kind next turn (EndDiffers c1) (Tail t2 c2) h k other another = absurd (h.1.is (ap (λ (p : Plane). p c1.x c1.y) k.0.ends))
one_turn_refusal settings kind next turn (EndDiffers c1) (Wall u2) h k other another = absurd (h.1.is (ap (λ (p : Plane). p c1.x c1.y) k.0.ends))
one_turn_refusal settings kind next turn (EndDiffers c1) Memory h k other another = absurd (another refl)
one_turn_refusal settings kind next turn (Reach t1 c1) (Gap place2) h k other another = absurd (narrow_not_apart turn.delays place2 k (spaced_apart turn.delays (pos turn.n) h.0.gaps))
one_turn_refusal settings kind next turn (Reach t1 c1) (Short n2) h k other another = absurd (k.1.1 h.0.gaps)
one_turn_refusal settings kind next turn (Reach t1 c1) (EndDiffers c2) h k other another = absurd (k.1.is (ap (λ (p : Plane). p c2.x c2.y) h.0.ends))
one_turn_refusal settings kind next turn (Reach t1 c1) (Reach t2 c2) h k other another = let one = one_breach _ _ t1 t2 c1 c2 h.1.1 k.1.1 in λ i. Reach (one.0 i) (one.1 i)
one_turn_refusal settings kind next turn (Reach t1 c1) (Tail t2 c2) h k other another = absurd (breach_not_kept _ _ turn.n t1 c1 h.1.0 h.1.1 k.1.0)
one_turn_refusal settings kind next turn (Reach t1 c1) (Wall u2) h k other another = absurd (h.1.1.first.is.1 (k.1.0.reach t1 c1.x c1.y h.1.0 h.1.1.first.is.0))
one_turn_refusal settings kind next turn (Reach t1 c1) Memory h k other another = absurd (another refl)
one_turn_refusal settings kind next turn (Tail t1 c1) (Gap place2) h k other another = absurd (narrow_not_apart turn.delays place2 k (spaced_apart turn.delays (pos turn.n) h.0.gaps))
one_turn_refusal settings kind next turn (Tail t1 c1) (Short n2) h k other another = absurd (k.1.1 h.0.gaps)
one_turn_refusal settings kind next turn (Tail t1 c1) (EndDiffers c2) h k other another = absurd (k.1.is (ap (λ (p : Plane). p c2.x c2.y) h.0.ends))
one_turn_refusal settings kind next turn (Tail t1 c1) (Reach t2 c2) h k other another = absurd (breach_not_kept _ _ turn.n t2 c2 k.1.0 k.1.1 h.1.0)
one_turn_refusal settings kind next turn (Tail t1 c1) (Tail t2 c2) h k other another = let one = one_breach _ _ t1 t2 c1 c2 h.1.1.1 k.1.1.1 in λ i. Tail (one.0 i) (one.1 i)
one_turn_refusal settings kind next turn (Tail t1 c1) (Wall u2) h k other another = absurd (h.1.1.1.first.is.1 (k.1.0.tail t1 c1.x c1.y h.1.1.0 h.1.1.1.first.is.0))
one_turn_refusal settings kind next turn (Tail t1 c1) Memory h k other another = absurd (another refl)
one_turn_refusal settings kind next turn (Wall u1) (Gap place2) h k other another = absurd (narrow_not_apart turn.delays place2 k (spaced_apart turn.delays (pos turn.n) h.0.gaps))
one_turn_refusal settings kind next turn (Wall u1) (Short n2) h k other another = absurd (k.1.1 h.0.gaps)
one_turn_refusal settings kind next turn (Wall u1) (EndDiffers c2) h k other another = absurd (k.1.is (ap (λ (p : Plane). p c2.x c2.y) h.0.ends))
one_turn_refusal settings kind next turn (Wall u1) (Reach t2 c2) h k other another = absurd (k.1.1.first.is.1 (h.1.0.reach t2 c2.x c2.y k.1.0 k.1.1.first.is.0))
one_turn_refusal settings kind next turn (Wall u1) (Tail t2 c2) h k other another = absurd (k.1.1.1.first.is.1 (h.1.0.tail t2 c2.x c2.y k.1.1.0 k.1.1.1.first.is.0))
one_turn_refusal settings kind next turn (Wall u1) (Wall u2) h k other another = ap Wall (one_front turn.end u1 u2 h.1.1.0 k.1.1.0)
one_turn_refusal settings kind next turn (Wall u1) Memory h k other another = absurd (another refl)
one_turn_refusal settings kind next turn Memory (Gap place2) h k other another = absurd (other refl)
one_turn_refusal settings kind next turn Memory (Short n2) h k other another = absurd (other refl)
one_turn_refusal settings kind next turn Memory (EndDiffers c2) h k other another = absurd (other refl)
one_turn_refusal settings kind next turn Memory (Reach t2 c2) h k other another = absurd (other refl)
one_turn_refusal settings kind next turn Memory (Tail t2 c2) h k other another = absurd (other refl)
one_turn_refusal settings kind next turn Memory (Wall u2) h k other another = absurd (other refl)
one_turn_refusal settings kind next turn Memory Memory h k other another = absurd (other refl)

-- ---- kinds

here_holds : {X : Type 0} (P : X → Type 0) (front : List X) (here : X) (back : List X) → AllByRecursion P (front ++ (here ∷ back)) → P here
here_holds P [] here back h = h.0
here_holds P (x ∷ front) here back h = here_holds P front here back h.1

-- where all kinds are valid none is the first that is not
no_invalid : (settings : Settings) (list : List RawKind) (number : ℕ) (Fails : Plane → Type 0) → ((s : Plane) → IsValidKind settings s → Fails s → ⊥) → AreValid settings list →
    IsFirstInvalid settings list number Fails → ⊥
no_invalid settings list number Fails clash all f =
    clash (alive f.here.cells) (here_holds (λ (kind : RawKind). IsValidKind settings (alive kind.cells)) f.front f.here f.back (subst (AreValid settings) f.split all)) f.fails

out_of_place_clash : (settings : Settings) (c : Cell) (s : Plane) → IsValidKind settings s → IsFirstOutOfPlace settings s c → ⊥
out_of_place_clash settings c s valid out = out.is.1 (valid.place.each c.x c.y out.is.0)

change_clash : (settings : Settings) (c : Cell) (s : Plane) → IsValidKind settings s → AreInPlace settings s × IsFirstChange s c → ⊥
change_clash settings c s valid h = h.1.is (ap (λ (p : Plane). p c.x c.y) valid.still)

-- valid kinds have no refusal
pub no_kinds_refusal : (settings : Settings) (list : List RawKind) (e : KindsError) → AreValid settings list → KindsAreRefused settings list e → e ≡ kinds.Memory
no_kinds_refusal settings list (kinds.Place number c) all h = absurd (no_invalid settings list number _ (out_of_place_clash settings c) all h)
no_kinds_refusal settings list (kinds.NotStill number c) all h = absurd (no_invalid settings list number _ (change_clash settings c) all h)
no_kinds_refusal settings list kinds.Memory all h = refl

place_of_here : (list front back : List RawKind) (here : RawKind) → list ≡ front ++ (here ∷ back) → get_or list (length front) here ≡ here
place_of_here list front back here split = ap (λ ks. get_or ks (length front) here) split ∙ get_or-append_seam front here back here

invalid_not_later : (settings : Settings) (list : List RawKind) (number other : ℕ) (Fails Others : Plane → Type 0) → ((s : Plane) → IsValidKind settings s → Fails s → ⊥) →
    (f : IsFirstInvalid settings list number Fails) (g : IsFirstInvalid settings list other Others) → length f.front < length g.front → ⊥
invalid_not_later settings list number other Fails Others clash f g lt =
    let P : RawKind → Type 0 = λ kind. IsValidKind settings (alive kind.cells) in
    let same : get_or g.front (length f.front) f.here ≡ f.here =
    sym (get_or_append_left g.front (g.here ∷ g.back) f.here (length f.front) lt) ∙ ap (λ ks. get_or ks (length f.front) f.here) (sym g.split) ∙ place_of_here list f.front f.back f.here f.split in
    clash (alive f.here.cells) (subst P same (each_at P g.front g.before (length f.front) f.here lt)) f.fails

one_place : (settings : Settings) (list : List RawKind) (number other : ℕ) (Fails Others : Plane → Type 0) → ((s : Plane) → IsValidKind settings s → Fails s → ⊥) →
    ((s : Plane) → IsValidKind settings s → Others s → ⊥) → (f : IsFirstInvalid settings list number Fails) (g : IsFirstInvalid settings list other Others) → (number ≡ other) × (f.here ≡ g.here)
one_place settings list number other Fails Others clash_f clash_g f g =
    let level : length f.front ≡ length g.front = same_or_less (length f.front) (length g.front) (invalid_not_later settings list number other Fails Others clash_f f g)
    (invalid_not_later settings list other number Others Fails clash_g g f) in (
      f.number_is ∙ ap (λ k. k + 1) level ∙ sym g.number_is,
      sym (place_of_here list f.front f.back f.here f.split) ∙ ap (λ k. get_or list k f.here) level ∙ ap (λ ks. get_or ks (length g.front) f.here) g.split
          ∙ get_or-append_seam g.front g.here g.back f.here,
    )

-- kinds have one refusal at most
pub one_kinds_refusal : (settings : Settings) (list : List RawKind) (e f : KindsError) → KindsAreRefused settings list e → KindsAreRefused settings list f → e ≢ kinds.Memory → f ≢ kinds.Memory → e ≡ f
one_kinds_refusal settings list (kinds.Place n c) (kinds.Place m d) h k other another =
    let one = one_place settings list n m _ _ (out_of_place_clash settings c) (out_of_place_clash settings d) h k in
    let cells : c ≡ d = one_first _ c d (subst (λ (kind : RawKind). IsFirstOutOfPlace settings (alive kind.cells) c) one.1 h.fails) k.fails in
    λ i. kinds.Place (one.0 i) (cells i)
one_kinds_refusal settings list (kinds.Place n c) (kinds.NotStill m d) h k other another =
    let one = one_place settings list n m _ _ (out_of_place_clash settings c) (change_clash settings d) h k in
    let out = subst (λ (kind : RawKind). IsFirstOutOfPlace settings (alive kind.cells) c) one.1 h.fails in
    absurd (out.is.1 (k.fails.0.each c.x c.y out.is.0))
one_kinds_refusal settings list (kinds.Place n c) kinds.Memory h k other another = absurd (another refl)
one_kinds_refusal settings list (kinds.NotStill n c) (kinds.Place m d) h k other another =
    let one = one_place settings list n m _ _ (change_clash settings c) (out_of_place_clash settings d) h k in
    let placed = subst (λ (kind : RawKind). AreInPlace settings (alive kind.cells)) one.1 h.fails.0 in
    absurd (k.fails.is.1 (placed.each d.x d.y k.fails.is.0))
one_kinds_refusal settings list (kinds.NotStill n c) (kinds.NotStill m d) h k other another =
    let one = one_place settings list n m _ _ (change_clash settings c) (change_clash settings d) h k in
    let cells : c ≡ d = one_first _ c d (subst (λ (kind : RawKind). IsFirstChange (alive kind.cells) c) one.1 h.fails.1) k.fails.1 in
    λ i. kinds.NotStill (one.0 i) (cells i)
one_kinds_refusal settings list (kinds.NotStill n c) kinds.Memory h k other another = absurd (another refl)
one_kinds_refusal settings list kinds.Memory (kinds.Place m d) h k other another = absurd (other refl)
one_kinds_refusal settings list kinds.Memory (kinds.NotStill m d) h k other another = absurd (other refl)
one_kinds_refusal settings list kinds.Memory kinds.Memory h k other another = absurd (other refl)
