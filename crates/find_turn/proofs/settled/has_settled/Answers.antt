use Rattle.std.proofs.Common.{◌≡◌, ◌∙◌, ◌^◌, pos, ◌-ℤ◌, inl, sym, ap, subst, w64, to_z, of_z, arith}
use Rattle.std.proofs.lemmas.Int.{ints}
use Rattle.std.proofs.lemmas.Bool.{and_parts, true≢false}
use Rattle.life_plane.specs.Plane.{Plane, union, shift}
use Rattle.life_plane.specs.Strips.{Each, VAtMost}
use Rattle.life_plane.specs.LookUpLaws.{not_if_false}
use Rattle.life_cells.specs.BoxLaws.{can_move}
use Rattle.life_cells.specs.Cells.{alive}
use Rattle.life_cells.specs.Laws.{same_cells}
use Rattle.find_turn.specs.Settled.{ahead, back, IsLeastGone}
use Rattle.find_turn.proofs.Gone.{settled_when_none, not_settled, settled_when_flown, flown_when_settled}
use Rattle.find_turn.proofs.Numbers.{read_near}
use Rattle.find_turn.proofs.Throwing.{part_range}
use Rattle.find_turn.proofs.settled.has_settled.Goals as goal
use Rattle.find_turn.specs.declared.settled.TheConstants.{FLIGHT_MARGIN}

pub returns-in_default : goal.returns-in_default
returns-in_default c = (
  λ yes. inl (sym c.in_ok-later.ensures ∙ ap alive (sym (c.equal.ensures.0 yes))),
  λ settled. c.equal.ensures.1 (same_cells _ _ (settled_when_none (alive c.args.cells.now) (alive c.in_ok-later.later) c.in_ok-later.ensures c.in_default.ensures.least settled)),
)

pub is_parted-requires-clause-range : goal.is_parted-requires-clause-range
is_parted-requires-clause-range c = part_range _ _ (alive c.args.cells.now) (λ x y live. (and_parts _ _ (ap (λ (p : Plane). p x y) (sym c.in_ok-rest.ensures) ∙ live)).0) c.requires.range

pub returns-then-not-is_parted : goal.returns-then-not-is_parted
returns-then-not-is_parted c =
    let limit = to_z w64 (of_z w64 c.in-Some.limit) in
    let gone = subst (IsLeastGone (alive c.args.cells.now) (alive c.in_ok-later.later)) (sym (read_near c.in-Some.limit c.in-Some.ensures.near)) c.in-Some.ensures.least in (
      λ no. absurd (true≢false (sym no)),
      λ settled. absurd (not_settled (alive c.args.cells.now) (alive c.in_ok-later.later) limit c.in_ok-later.ensures gone
          (λ gap. not_if_false _ _ c.if-not-is_parted.true c.is_parted.ensures (subst (Each (VAtMost (limit -ℤ FLIGHT_MARGIN))) (sym c.in_ok-rest.ensures) gap)) settled),
    )

pub shift-requires : goal.shift-requires
shift-requires c =
    can_move (2 ^ 41) 1 (pos 1) (pos 1) _ (part_range _ _ (alive c.args.cells.now) (λ x y live. (and_parts _ _ (ap (λ (p : Plane). p x y) (sym c.in_ok-cells_ahead.ensures) ∙ live)).0) c.requires.range)
    (omega arith) (omega (arith, ints)) (omega (arith, ints)) (omega (arith, ints)) (omega (arith, ints))

pub returns : goal.returns
returns c =
    let s = alive c.args.cells.now in
    let limit = to_z w64 (of_z w64 c.in-Some.limit) in
    let later = alive c.in_ok-later.later in
    let gone = subst (IsLeastGone s later) (sym (read_near c.in-Some.limit c.in-Some.ensures.near)) c.in-Some.ensures.least in
    let flown : alive c.in_ok-flown.flown ≡ union (back limit s) (shift (pos 1) (pos 1) (ahead limit s)) =
    c.in_ok-flown.ensures ∙ (λ i. union (c.in_ok-rest.ensures i) ((c.in_ok-flying.ensures ∙ ap (shift (pos 1) (pos 1)) c.in_ok-cells_ahead.ensures) i)) in
    let gap = subst (Each (VAtMost (limit -ℤ FLIGHT_MARGIN))) c.in_ok-rest.ensures (c.is_parted.ensures.0 c.if-not-is_parted.false) in (
      λ yes. settled_when_flown s later limit c.in_ok-later.ensures gone gap (sym flown ∙ ap alive (c.equal-2.ensures.0 yes)),
      λ settled. c.equal-2.ensures.1 (same_cells _ _ (flown ∙ flown_when_settled s later limit c.in_ok-later.ensures gone settled)),
    )
