use Rattle.std.proofs.Common.{inl, inr}
use Rattle.life_rle.proofs.Headers.{named_by, words_of}
use Rattle.life_rle.proofs.header.names_life.Goals.{then-is_word, else-is_word}
use Rattle.life_rle.proofs.header.names_life.Goals as goal

pub returns-else-is_word-2 : goal.returns-else-is_word-2
returns-else-is_word-2 c =
    let rule = c.args.rule.now in
    let bytes = c.skip_blanks-name.result.now in
    let past = c.skip_blanks-name.ensures in (
      (λ h. let w = c.is_word-else-is_word-2.ensures.0 h in named_by rule bytes past w.0 w.1.0 w.1.1.0 w.1.1.1.1 (inr (inr w.1.1.1.0))),
      λ h. elim c.if-is_word.branch [
        | then-is_word w ↦ absurd (let other = c.if-is_word-2.false in let is = w.value-is in cc)
        | else-is_word w ↦ elim (words_of rule bytes past h) [
          | inl first ↦ absurd (let yes = c.is_word.ensures.1 first in let no = w.if-is_word.false in cc)
          | inr others ↦ elim others [
            | inl second ↦ absurd (let yes = w.is_word-else-is_word.ensures.1 second in let no = c.if-is_word-2.false in let is = w.value-is in cc)
            | inr third ↦ c.is_word-else-is_word-2.ensures.1 third
          ]
        ]
      ],
    )
