-- The least u of a thrown glider.
use Rattle.std.proofs.Common.{◌≡◌, ℕ, ◌/◌, ◌≤◌, ℤ, pos, negsuc, neg_ℤ, ◌+ℤ◌, ◌*ℤ◌, ◌≤ℤ◌, ◌<ℤ◌, sym, subst, ◌∙◌, arith}
use Rattle.std.specs.Int.{int_div_euclid}
use Rattle.std.proofs.lemmas.Int.{ints}
use Rattle.book_parts.specs.Limits.{IsFrom, IsCoordinate}
use Rattle.book_parts.specs.Proper.{IsIndex}
use Rattle.book_parts.specs.declared.settings.Settings.{Settings}
use Rattle.book_parts.specs.declared.turn.TurnEnd.{TurnEnd}
use Rattle.book_parts.specs.declared.turn.TurnEnd.TheVariants.{Emit}
use Rattle.recipe_turn.specs.Turn.{IsInFront}
use Rattle.recipe_turn.specs.Range.{IsWithinLimits}
use Rattle.recipe_turn.specs.Refusals.{FrontIsRefused}
use Rattle.recipe_turn.specs.declared.refusal.TurnRefusal.TheVariants.{Wall}

-- an index has no more quarters than it has units
pub quarters_within : (n : ℕ) (j : ℤ) → neg_ℤ (pos n) ≤ℤ j → j ≤ℤ pos n → IsFrom (neg_ℤ (pos n)) (pos n) (int_div_euclid j (pos 4))
quarters_within n (pos a) low high =
    let less : a / 4 ≤ a = omega arith in
    record { low = omega (arith, ints); high = omega (arith, ints) }
quarters_within n (negsuc a) low high =
    let less : a / 4 ≤ a = omega arith in
    record { low = omega (arith, ints); high = omega (arith, ints) }

-- the least u, from numbers that were read
least_read : (lane j u lane_read j_read : ℤ) → lane_read ≡ lane → j_read ≡ j → u ≡ (lane_read +ℤ pos 2 *ℤ int_div_euclid j_read (pos 4)) +ℤ pos 1 →
    u ≡ (lane +ℤ pos 2 *ℤ int_div_euclid j (pos 4)) +ℤ pos 1
least_read lane j u lane_read j_read same_lane same_j is = is ∙ (λ i. (same_lane i +ℤ pos 2 *ℤ int_div_euclid (same_j i) (pos 4)) +ℤ pos 1)

pub front_fails : (settings : Settings) (stated : TurnEnd) (kind : ℕ) (advance lane j u u_read lane_read j_read : ℤ) → stated ≡ Emit kind advance lane j → lane_read ≡ lane → j_read ≡ j → u_read ≡ u →
    u ≡ (lane_read +ℤ pos 2 *ℤ int_div_euclid j_read (pos 4)) +ℤ pos 1 → u <ℤ (settings.wall +ℤ pos 5) → FrontIsRefused settings stated (Wall u_read)
front_fails settings stated kind advance lane j u u_read lane_read j_read is same_lane same_j same_u least short =
    let here = least_read lane j u lane_read j_read same_lane same_j least in
    subst (λ e. FrontIsRefused settings e (Wall u_read)) (sym is) (same_u ∙ here, λ far. omega (arith, ints, far, here, short))

pub front_holds : (settings : Settings) (stated : TurnEnd) (kind : ℕ) (advance lane j u lane_read j_read : ℤ) → stated ≡ Emit kind advance lane j → lane_read ≡ lane → j_read ≡ j →
    u ≡ (lane_read +ℤ pos 2 *ℤ int_div_euclid j_read (pos 4)) +ℤ pos 1 → (settings.wall +ℤ pos 5) ≤ℤ u → IsInFront settings stated
front_holds settings stated kind advance lane j u lane_read j_read is same_lane same_j least far =
    let here = least_read lane j u lane_read j_read same_lane same_j least in
    subst (IsInFront settings) (sym is) (omega (arith, ints, far, here))

-- the numbers of a throw
pub throw_limits : (stated : TurnEnd) (kind : ℕ) (advance lane j : ℤ) → stated ≡ Emit kind advance lane j → IsWithinLimits stated → IsCoordinate advance × (IsCoordinate lane × IsIndex j)
throw_limits stated kind advance lane j is h = subst IsWithinLimits is h
