use Rattle.std.proofs.Common.{refl, [], ◌∙◌, ap, map, List, ℕ, Bor}
use Rattle.life_words.specs.declared.command.Command.TheVariants.{Replay}
use Rattle.life_words.specs.Words.{any_number}
use Rattle.life_words.specs.Words.Saying.{text}
use Rattle.life_words.proofs.Misnumbered.{misnumbered, second_misplaced}
use Rattle.life_words.proofs.read.read_replay.Goals as goal

pub values_behind-requires-clause-takes : goal.values_behind-requires-clause-takes
values_behind-requires-clause-takes c = (Replay [] 0, (refl, refl))

pub returns-in_err-generations-clause-err : goal.returns-in_err-generations-clause-err
returns-in_err-generations-clause-err c =
    let rest = c.requires.0 in
    let behind = c.in_ok-values.ensures.ok rest c.requires.1 in
    let texts_are = ap (map (λ (v : Bor (List ℕ)). v.now)) c.deref.ensures.value ∙ behind.1 in
    misnumbered c.args.words.now (Replay [] 0) rest 1 c.from_residual-in_err-generations.result c.in_err-generations.field-0.0 c.requires.1 behind.0
    (second_misplaced _ rest (text []) any_number 0 texts_are behind.0 tt c.in_err-generations.ensures.err.1)
    c.in_err-generations.ensures.err.0 c.from_residual-in_err-generations.ensures.1
