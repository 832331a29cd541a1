use Rattle.std.proofs.Common.{rules}
use Rattle.life_cells.proofs.Casts.{min_is, max_is}
use Rattle.life_cells.proofs.bounds.Bounds.joined.Goals as goal

pub returns : goal.returns
returns c =
    let left = min_is c.args.self.left c.args.other.left c.min.result (search rules) (search rules) (search rules) c.min.ensures.value in
    let top = min_is c.args.self.top c.args.other.top c.min-2.result (search rules) (search rules) (search rules) c.min-2.ensures.value in
    let right = max_is c.args.self.right c.args.other.right c.max.result (search rules) (search rules) (search rules) c.max.ensures.value in
    let bottom = max_is c.args.self.bottom c.args.other.bottom c.max-2.result (search rules) (search rules) (search rules) c.max-2.ensures.value in
    λ i. record { left = left i; top = top i; right = right i; bottom = bottom i }
