use Rattle.recipe_turn.specs.Checked.{raws}
use Rattle.build_plan.proofs.OneByOne.{IsServedUpTo}
use Rattle.build_plan.proofs.serving.serve.Given as goal

abbrev pub invariant-loop-throw : goal.invariant-loop-throw
invariant-loop-throw l = IsServedUpTo (raws l.book.turns) l.book.settings.span l.throws l.fn.walk.elbow l.fn.walk.events.items l.throw-index l.walk.elbow l.walk.events.items
