use Rattle.std.proofs.Common.{arith}
use Rattle.std.proofs.lemmas.Int.{ints}
use Rattle.recipe_turn.proofs.own_gliders.past_glider.Goals as goal

pub returns : goal.returns
returns c =
    let range = c.requires.settings.approach.range in
    omega (arith, ints, c.ahead_of_tail.ensures, c.from.ensures)
