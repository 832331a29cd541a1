use Rattle.std.proofs.Common.{◌≡◌, ◌+◌, ◌-◌, ◌<◌, ◌≤◌, ◌++◌, [], ◌∷◌, cond, w64, sym, ap, ap₂, ◌∙◌, arith}
use Rattle.std.specs.Int.{leading_zeros}
use Rattle.life_cells.specs.declared.cell.Cell.{Cell}
use Rattle.life_tiles.proofs.Lists.{appended, nothing_appended, bit_read, word_more, empty_word, first_cells, first_before_end, last_cells}
use Rattle.life_tiles.proofs.reading.push_word.Goals as goal

pub returns-then-word-eq0 : goal.returns-then-word-eq0
returns-then-word-eq0 c = nothing_appended _ ∙ ap (λ xs. c.args.cells.now.items ++ xs) (sym (empty_word _ _ _ c.if-word-eq0.true))

pub columns-init : goal.columns-init
columns-init c =
    let some : 0 < c.args.word = (let other = c.if-word-eq0.false in omega arith) in
    nothing_appended _ ∙ ap (λ xs. c.args.cells.now.items ++ xs) (sym (first_cells c.args.place c.args.down c.args.word some c.ranges.word.fits))

pub columns-preserved : goal.columns-preserved
columns-preserved c =
    appended _ _ _ _ _
    (c.in_ok-push_if.ensures ∙ ap₂ (λ b (d : Cell). c.columns.cells.items ++ cond b (d ∷ []) []) (bit_read c.args.word c.columns.right) c.cell_at.ensures)
    c.columns.invariant
    ∙ ap (λ xs. c.args.cells.now.items ++ xs) (sym (word_more _ _ _ _))

pub returns : goal.returns
returns c =
    let some : 0 < c.args.word = (let other = c.if-word-eq0.false in omega arith) in
    let order = first_before_end c.args.word some c.ranges.word.fits in
    let end : c.columns.right ≤ 64 - leading_zeros w64 c.args.word = c.columns.auto.right-end (omega arith) in
    let past = c.columns-test.false in
    let is : c.columns.right + leading_zeros w64 c.args.word ≡ 64 = omega arith in
    c.columns.invariant ∙ ap (λ xs. c.args.cells.now.items ++ xs) (sym (last_cells c.args.place c.args.down c.args.word c.columns.right some c.ranges.word.fits is))
