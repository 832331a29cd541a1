-- What stands at the front of a rest.
use Rattle.std.proofs.Common.{◌≡◌, ℕ, List, [], ◌∷◌, ◌++◌, sym, ap, ◌∙◌, subst}
use Rattle.std.proofs.lemmas.List.{append_assoc}
use Rattle.rle_items.specs.Spelling.{IsWhite, is_white}
use Rattle.rle_items.specs.SpellingLaws.{IsGapKind}
use Rattle.rle_items.specs.Gaps.{IsPast, IsAtTag, IsAtEnd}
use Rattle.rle_items.specs.FirstLaws.{IsRun}

pub past_white : (rest gap more : List ℕ) → IsRun is_white rest gap more → IsPast IsWhite rest more
past_white rest gap more h = record { gap = gap; split = h.split; gap_is = h.each; ended = λ b bs k white. let other = h.ended b bs k in let yes = white.0 in cc }

-- a `!` where a tag should stand, and no count before it
pub end_there : (Gap : List ℕ → Type 0) → IsGapKind Gap → (rest from digits at_tag : List ℕ) → IsAtTag Gap rest from digits at_tag → (byte : ℕ) (after : List ℕ) → at_tag ≡ byte ∷ after → byte ≡ 33 → digits ≡ [] → IsAtEnd Gap rest
end_there Gap kind rest from digits at_tag a byte after split is none =
    let from_is : from ≡ a.more = a.count.split ∙ ap (λ (bs : List ℕ). bs ++ a.more) none in
    let tag_is : at_tag ≡ 33 ∷ after = split ∙ ap (λ (b : ℕ). b ∷ after) is in
    subst (λ (bs : List ℕ). IsPast Gap rest bs → IsAtEnd Gap rest) (sym tag_is) (λ past. record { ignored = after; past = past }) (record {
      gap = a.past.gap ++ a.next.gap;
      split = a.past.split ∙ ap (λ (bs : List ℕ). a.past.gap ++ bs) (from_is ∙ a.next.split) ∙ sym (append_assoc a.past.gap a.next.gap at_tag);
      gap_is = kind.join a.past.gap a.next.gap a.past.gap_is a.next.gap_is;
      ended = a.next.ended;
    })
