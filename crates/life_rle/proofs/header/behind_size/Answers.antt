use Rattle.life_rle.proofs.Headers.{none_by, width_at, comma_at, y_at, height_at}
use Rattle.life_rle.proofs.header.behind_size.Goals as goal

pub returns-in_err-behind_width-clause-none : goal.returns-in_err-behind_width-clause-none
returns-in_err-behind_width-clause-none c = rw c.from_residual-in_err-behind_width.ensures (λ rest h.
    c.in_err-behind_width.ensures.none h.behind_width (width_at c.args.line.now rest h c.in_ok-behind_x.behind_x.now c.in_ok-behind_x.ensures.some))

pub returns-in_err-behind_comma-clause-none : goal.returns-in_err-behind_comma-clause-none
returns-in_err-behind_comma-clause-none c = rw c.from_residual-in_err-behind_comma.ensures (λ rest h.
    c.in_err-behind_comma.ensures.none h.behind_comma
    (comma_at c.args.line.now rest h c.in_ok-behind_x.behind_x.now c.in_ok-behind_width.behind_width.now c.in_ok-behind_x.ensures.some c.in_ok-behind_width.ensures.some))

pub returns-in_err-behind_y-clause-none : goal.returns-in_err-behind_y-clause-none
returns-in_err-behind_y-clause-none c = rw c.from_residual-in_err-behind_y.ensures (λ rest h.
    c.in_err-behind_y.ensures.none h.behind_y
    (y_at c.args.line.now rest h c.in_ok-behind_x.behind_x.now c.in_ok-behind_width.behind_width.now c.in_ok-behind_comma.behind_comma.now c.in_ok-behind_x.ensures.some c.in_ok-behind_width.ensures.some c.in_ok-behind_comma.ensures.some))

pub returns-clause-none : goal.returns-clause-none
returns-clause-none c = none_by _ _ c.skip_value-2.result
    (λ none rest h. none rest
    (height_at c.args.line.now rest h c.in_ok-behind_x.behind_x.now c.in_ok-behind_width.behind_width.now c.in_ok-behind_comma.behind_comma.now c.in_ok-behind_y.behind_y.now
    c.in_ok-behind_x.ensures.some c.in_ok-behind_width.ensures.some c.in_ok-behind_comma.ensures.some c.in_ok-behind_y.ensures.some))
    c.skip_value-2.ensures.none
