-- The end of a turn lasts: what stands goes on standing, and what is thrown flies on.
use Rattle.std.proofs.Common.{◌≡◌, ℕ, zero, suc, true, ℤ, pos, ◌+ℤ◌, ◌≤ℤ◌, List, [], ◌∷◌, refl, inl, inr, sym, ap, subst, ◌∙◌, arith}
use Rattle.std.proofs.lemmas.Int.{ints}
use Rattle.std.proofs.lemmas.Bool.{or_cases, or_left, or_right, true≢false}
use Rattle.life_plane.specs.Apart.{Apart}
use Rattle.life_plane.specs.EvolveLaws.{run_union, still_run}
use Rattle.life_plane.specs.Plane.{Plane, run, step, union, shift, nothing, IsStill, same_plane}
use Rattle.life_plane.specs.Salvo.{salvo_glider}
use Rattle.life_plane.specs.SalvoLaws.{run_salvo, salvo_range, salvo_front}
use Rattle.life_plane.specs.StillLaws.{still_moved}
use Rattle.life_plane.specs.StripLaws.{apart_by_u}
use Rattle.life_cells.specs.Boxes.{IsInRange}
use Rattle.book_parts.specs.Kinds.{kind_plane}
use Rattle.book_parts.specs.declared.kind.RawKind.{RawKind}
use Rattle.book_parts.specs.declared.settings.Settings.{Settings}
use Rattle.book_parts.specs.declared.turn.TurnEnd.{TurnEnd}
use Rattle.book_parts.specs.declared.turn.TurnEnd.TheVariants.{Close, Move, Emit}
use Rattle.recipe_turn.specs.Checked.{AreValid}
use Rattle.recipe_turn.specs.QuarterLaws.{quarters_above, quarters_below}
use Rattle.find_turn.specs.Standing.{IsEnd}
use Rattle.find_turn.proofs.Ends.{IsFront}
use Rattle.find_turn.proofs.Throwing.{moved_behind, thrown_beyond}

still_nothing : IsStill nothing
unfolding step
still_nothing = same_plane _ _ (λ x y. refl)

-- a kind is still
kind_still : (settings : Settings) (kinds : List RawKind) → AreValid settings kinds → (number : ℕ) → IsStill (kind_plane kinds number)
kind_still settings [] valid number = still_nothing
kind_still settings (kind ∷ kinds) valid zero = still_nothing
kind_still settings (kind ∷ kinds) valid (suc zero) = valid.0.still
kind_still settings (kind ∷ kinds) valid (suc (suc k)) = kind_still settings kinds valid.1 (suc k)

stays : (settings : Settings) (kinds : List RawKind) → AreValid settings kinds → (number : ℕ) (a : ℤ) (t : ℕ) → run t (shift a a (kind_plane kinds number)) ≡ shift a a (kind_plane kinds number)
stays settings kinds valid number a t = still_run (shift a a (kind_plane kinds number)) (still_moved a a (kind_plane kinds number) (kind_still settings kinds valid number)) t

-- ---- what is thrown

-- it is in front of the wall later too
front_later : (settings : Settings) (lane j : ℤ) (t : ℕ) → IsFront settings lane j → IsFront settings lane (j +ℤ pos t)
front_later settings lane j t front =
    let low = quarters_below j in
    let high = quarters_above (j +ℤ pos t) in
    omega (arith, ints, low, high, front)

emit_runs : (settings : Settings) (kinds : List RawKind) → AreValid settings kinds → (number : ℕ) (a lane j : ℤ) → IsFront settings lane j → (t : ℕ) →
    run t (union (shift a a (kind_plane kinds number)) (salvo_glider lane j)) ≡ union (shift a a (kind_plane kinds number)) (salvo_glider lane (j +ℤ pos t))
emit_runs settings kinds valid number a lane j front t =
    let elbow = shift a a (kind_plane kinds number) in
    run_union t elbow (salvo_glider lane j) (record {
      each = λ k lt. subst (λ p. Apart p (run k (salvo_glider lane j))) (sym (stays settings kinds valid number a k)) (subst (Apart elbow) (sym (run_salvo k lane j))
          (apart_by_u settings.wall elbow (salvo_glider lane (j +ℤ pos k)) (λ x y live. record { u = moved_behind settings kinds valid number a x y live })
          (λ x y live. record { u = thrown_beyond settings.wall lane (j +ℤ pos k) x y (front_later settings lane j k front) live })));
    })
    ∙ (λ i. union (stays settings kinds valid number a t i) (run_salvo t lane j i))

-- ---- ends

-- a later generation is the end of a turn too
pub end_lasts : (settings : Settings) (kinds : List RawKind) → AreValid settings kinds → (s : Plane) (leaves : TurnEnd) → IsEnd settings kinds s leaves → (t : ℕ) → (later : TurnEnd) × IsEnd settings kinds (run t s) later
end_lasts settings kinds valid s Close h t = (Close, record { leads = tt; stands = ap (run t) h.stands ∙ still_run nothing still_nothing t; front = tt })
end_lasts settings kinds valid s (Move kind a) h t = (Move kind a, record { leads = h.leads; stands = ap (run t) h.stands ∙ stays settings kinds valid kind a t; front = tt })
end_lasts settings kinds valid s (Emit kind a lane j) h t =
    (Emit kind a lane (j +ℤ pos t), record { leads = h.leads; stands = ap (run t) h.stands ∙ emit_runs settings kinds valid kind a lane j h.front t; front = front_later settings lane j t h.front })

-- and no cell of one has a v that grows without limit
pub end_stays_near : (settings : Settings) (kinds : List RawKind) → AreValid settings kinds → (n : ℕ) (s : Plane) → IsInRange n s → (leaves : TurnEnd) → IsEnd settings kinds s leaves → (t : ℕ) (x y : ℤ) →
    run t s x y ≡ true → (x +ℤ y) ≤ℤ (pos n +ℤ pos n +ℤ pos 3)
end_stays_near settings kinds valid n s range Close h t x y live = absurd (true≢false (sym live ∙ ap (λ (p : Plane). p x y) (ap (run t) h.stands ∙ still_run nothing still_nothing t)))
end_stays_near settings kinds valid n s range (Move kind a) h t x y live =
    let there : s x y ≡ true = ap (λ (p : Plane). p x y) (h.stands ∙ sym (stays settings kinds valid kind a t) ∙ ap (run t) (sym h.stands)) ∙ live in
    let right = range.x_high x y there in let down = range.y_high x y there in
    omega (arith, ints, right, down)
end_stays_near settings kinds valid n s range (Emit kind a lane j) h t x y live =
    let elbow = shift a a (kind_plane kinds kind) in
    let now : union elbow (salvo_glider lane (j +ℤ pos t)) x y ≡ true = ap (λ (p : Plane). p x y) (sym (ap (run t) h.stands ∙ emit_runs settings kinds valid kind a lane j h.front t)) ∙ live in
    elim (or_cases (elbow x y) (salvo_glider lane (j +ℤ pos t) x y) now) [
      | inl l ↦
          let there : s x y ≡ true = ap (λ (p : Plane). p x y) h.stands ∙ or_left (elbow x y) (salvo_glider lane j x y) l in
          let right = range.x_high x y there in let down = range.y_high x y there in
          omega (arith, ints, right, down)
      | inr r ↦
          let f = salvo_front lane j in
          let there : s f.x f.y ≡ true = ap (λ (p : Plane). p f.x f.y) h.stands ∙ or_right (elbow f.x f.y) (salvo_glider lane j f.x f.y) f.lives in
          let right = range.x_high f.x f.y there in let down = range.y_high f.x f.y there in
          let low = (salvo_range lane j f.x f.y f.lives).low in
          let high = (salvo_range lane (j +ℤ pos t) x y r).high in
          omega (arith, ints, right, down, low, high)
    ]
