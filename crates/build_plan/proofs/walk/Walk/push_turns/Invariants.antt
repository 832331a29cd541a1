use Rattle.recipe_turn.specs.Checked.{raws}
use Rattle.build_plan.proofs.Pushing.{IsPushed}
use Rattle.build_plan.proofs.walk.Walk.push_turns.Given as goal

abbrev pub invariant-loop-number : goal.invariant-loop-number
invariant-loop-number l = IsPushed (raws l.turns) l.book.settings.span l.list l.fn.self.elbow l.fn.self.events.items l.number-index l.self.elbow l.self.events.items
