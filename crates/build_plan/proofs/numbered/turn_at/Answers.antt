use Rattle.std.proofs.Common.{arith, ap, sym, subst, ◌∙◌, length, ◌≤◌}
use Rattle.book_parts.specs.declared.turn.RawTurn.{RawTurn}
use Rattle.book_parts.specs.declared.limits.TheConstants.{MOST_DELAYS}
use Rattle.recipe_turn.specs.Checked.{Checked, raws}
use Rattle.elbow_graph.specs.Numbered.{IsNumbered}
use Rattle.build_plan.proofs.Numbers.{turn_within, turn_there}
use Rattle.build_plan.proofs.numbered.turn_at.Goals as goal

pub overflow_sub-turn : goal.overflow_sub-turn
overflow_sub-turn c = (turn_within c.args.turns.now c.args.number c.requires.numbered.0 c.requires.numbered.1).low

pub bounds-turns-number : goal.bounds-turns-number
bounds-turns-number c = let within = turn_within c.args.turns.now c.args.number c.requires.numbered.0 c.requires.numbered.1 in omega arith

pub offset_bounds-turns-number : goal.offset_bounds-turns-number
offset_bounds-turns-number c =
    let within = turn_within c.args.turns.now c.args.number c.requires.numbered.0 c.requires.numbered.1 in
    let few = c.requires.few in
    record { fits = omega arith }

pub returns : goal.returns
returns c = record {
  turn = subst (IsNumbered (raws c.args.turns.now) c.args.number) (sym (c.raw.ensures.raw ∙ ap (λ (t : Checked). t.raw) c.index-turns-number.is))
      (turn_there c.args.turns.now c.args.number _ (turn_within c.args.turns.now c.args.number c.requires.numbered.0 c.requires.numbered.1));
  proper = (c.index-turns-number.result.kinds, rw c.raw.ensures.raw c.raw.ensures.checked.proper);
}
