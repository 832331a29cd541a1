use Rattle.std.proofs.Common.{sym, ◌∙◌, subst, arith, ◌<◌, ◌^◌, ℕ, List}
use Rattle.std.specs.List.{AllByRecursion}
use Rattle.std.specs.Prelude.{◌≢◌}
use Rattle.life_cli.proofs.Notes.{note_has_no_break}
use Rattle.life_cli.proofs.writing.text_of_built.Goals as goal

pub write_rle-requires-clause-note : goal.write_rle-requires-clause-note
write_rle-requires-clause-note c =
    let P : List ℕ → Type 0 = λ bs. AllByRecursion (λ (b : ℕ). b ≢ 10) bs in
    let small : c.args.built.n < 2 ^ 64 = omega arith in
    subst P (sym (c.as_str.ensures.value ∙ c.in-Ok.ensures.ok)) (note_has_no_break c.args.built.n small)
