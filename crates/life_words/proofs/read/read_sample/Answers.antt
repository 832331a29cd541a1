use Rattle.std.proofs.Common.{refl, [], ◌∷◌, ◌∙◌, ap, sym, map, List, ℕ, Bor}
use Rattle.life_words.specs.declared.command.Command.TheVariants.{Sample}
use Rattle.life_words.specs.Words.{sample_counts, sample_gaps}
use Rattle.life_words.specs.Words.Saying.{number}
use Rattle.life_words.proofs.Misnumbered.{misnumbered, first_misplaced, second_misplaced}
use Rattle.life_words.proofs.read.read_sample.Goals as goal

pub values_behind-requires-clause-takes : goal.values_behind-requires-clause-takes
values_behind-requires-clause-takes c = (Sample 1 64, (refl, refl))

pub returns-in_err-count-clause-err : goal.returns-in_err-count-clause-err
returns-in_err-count-clause-err c =
    let rest = c.requires.0 in
    let behind = c.in_ok-values.ensures.ok rest c.requires.1 in
    let texts_are = ap (map (λ (v : Bor (List ℕ)). v.now)) c.deref.ensures.value ∙ behind.1 in
    misnumbered c.args.words.now (Sample 1 64) rest 0 c.from_residual-in_err-count.result c.in_err-count.field-0.0 c.requires.1 behind.0
    (first_misplaced _ rest sample_counts 1 (number sample_gaps 64 ∷ []) texts_are behind.0 c.in_err-count.ensures.err.1)
    c.in_err-count.ensures.err.0 c.from_residual-in_err-count.ensures.1

pub returns-in_err-gap-clause-err : goal.returns-in_err-gap-clause-err
returns-in_err-gap-clause-err c =
    let rest = c.requires.0 in
    let behind = c.in_ok-values.ensures.ok rest c.requires.1 in
    let texts_are = ap (map (λ (v : Bor (List ℕ)). v.now)) c.deref-2.ensures.value ∙ behind.1 in
    misnumbered c.args.words.now (Sample 1 64) rest 1 c.from_residual-in_err-gap.result c.in_err-gap.field-0.0 c.requires.1 behind.0
    (second_misplaced _ rest (number sample_counts 1) sample_gaps 64 texts_are behind.0 (c.in_ok-count.count, rw (c.deref-2.ensures.value, sym c.deref.ensures.value) c.in_ok-count.ensures.ok) c.in_err-gap.ensures.err.1)
    c.in_err-gap.ensures.err.0 c.from_residual-in_err-gap.ensures.1
