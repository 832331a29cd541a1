use Rattle.std.proofs.Common.{◌≡◌, ◌^◌, arith, subst}
use Rattle.book_lines.proofs.body.body_at.Goals as goal
use mir.Syntax.{w64}
use Rattle.std.proofs.lemmas.Int.{to_z-of_z}
use Rattle.life_cells.specs.Cells.{alive, empty}
use Rattle.life_cells.specs.BoxLaws.{can_move}
use Rattle.book_lines.proofs.Drawing.{empty_body, refused_body, many_few, moved_lives, small_fits}
use Rattle.rle_items.specs.Faults.{StopsWith}
use Rattle.rle_items.specs.declared.error.BodyError.{BodyError}
use Rattle.book_lines.proofs.Shifted.{shifted_length}

pub returns-then-is_empty-clause-body : goal.returns-then-is_empty-clause-body
returns-then-is_empty-clause-body c =
    empty_body c.args.word.now c.args.at c.in-Ok.drawn (c.is_empty.ensures.0 c.if-is_empty.true) c.in-Ok.ensures.fine c.in-Ok.ensures.cells c.words_mean_one_plane.ensures c.fine_words_have_no_refusal.ensures

pub shift-requires : goal.shift-requires
shift-requires c =
    rw (to_z-of_z w64 c.args.at.x (small_fits c.args.at.x c.requires.x), to_z-of_z w64 c.args.at.y (small_fits c.args.at.y c.requires.y))
    (can_move (2 ^ 40) (10 ^ 18) c.args.at.x c.args.at.y (alive c.in-Ok.drawn) c.in-Ok.ensures.near (omega arith) c.requires.x.low c.requires.x.high c.requires.y.low c.requires.y.high)

pub returns-in_ok-shift-in-Ok-clause-body : goal.returns-in_ok-shift-in-Ok-clause-body
returns-in_ok-shift-in-Ok-clause-body c =
    let moved = rw (to_z-of_z w64 c.args.at.x (small_fits c.args.at.x c.requires.x), to_z-of_z w64 c.args.at.y (small_fits c.args.at.y c.requires.y)) at c.in_ok-shift-in-Ok.ensures in
    let other : c.in-Ok.drawn ≡ empty → ⊥ = λ e. let yes = c.is_empty.ensures.1 e in cc (yes, c.if-is_empty.false) in
    ((c.in-Ok.ensures.fine, (alive c.in-Ok.drawn, (c.in-Ok.ensures.cells, moved))), moved_lives c.in-Ok.drawn c.in_ok-shift-in-Ok.field-0 c.args.at.x c.args.at.y other moved)

pub returns-in_ok-shift-in-Ok-clause-few : goal.returns-in_ok-shift-in-Ok-clause-few
returns-in_ok-shift-in-Ok-clause-few c =
    let same = shifted_length c.in_ok-shift-in-Ok.field-0 c.in-Ok.drawn _ _ c.in_ok-shift-in-Ok.ensures in
    let few = c.in-Ok.ensures.few in
    omega arith

pub returns-in-TooMany-clause-few : goal.returns-in-TooMany-clause-few
returns-in-TooMany-clause-few c = many_few c.args.word.now c.in-TooMany.count (subst (λ (e : BodyError). StopsWith c.args.word.now e) c.in-TooMany.is c.in-Err.ensures.refusal)

pub returns-in_default : goal.returns-in_default
returns-in_default c = record {
  body = refused_body c.args.word.now c.args.at c.in-Err.refusal c.in-Err.ensures.refusal c.in_default.not-Memory c.in_default.not-TooMany c.requires.word c.words_have_one_refusal.ensures c.fine_words_have_no_refusal.ensures;
  few = tt;
}
