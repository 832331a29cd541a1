-- A line that is cut off at the first line feed, or is all of the text.
use Rattle.std.proofs.Common.{◌≡◌, ℕ, ◌+◌, ◌<◌, List, ◌∷◌, length, take, drop, refl, sym, ap, ◌∙◌, arith, Some, None, cond, ltb, inl, inr}
use Rattle.std.specs.List.{position, position_or_len}
use Rattle.std.specs.Str.Lines.{lines, strip_carriage_return}
use Rattle.std.proofs.lemmas.Bool.{cases_lt, lt-ltb, le-ltb}
use Rattle.std.proofs.lemmas.List.{nil_from_length}
use Rattle.std.proofs.lemmas.List.Quantifiers.{position-Some}
use Rattle.text_lines.specs.Lines.{is_line_feed}
use Rattle.text_lines.specs.LineLaws.{has_feed, feed_or_not, lines_step}

place_is : (p len n : ℕ) → cond (ltb p len) (Some p) None ≡ Some n → n ≡ p
place_is p len n e = elim (cases_lt p len) [
  | inl h ↦ (let both : Some n ≡ Some p = sym e ∙ rw (lt-ltb _ _ h) refl in cc)
  | inr h ↦ absurd (let none : None ≡ Some n = sym (rw (le-ltb _ _ h) refl) ∙ e in cc)
]

pub cut_at_feed : (text line : List ℕ) (n : ℕ) → position is_line_feed text ≡ Some n → line ≡ strip_carriage_return (take n text) → 0 < length text → lines text ≡ line ∷ lines (drop (n + 1) text)
cut_at_feed text line n e is some =
    let place : n ≡ position_or_len is_line_feed text = place_is _ _ n e in
    let within = (position-Some is_line_feed text n 0 e).0 in
    let feed = has_feed text (omega (arith, place)) in
    let same : line ≡ strip_carriage_return (take (position_or_len is_line_feed text) text) = is ∙ ap (λ (k : ℕ). strip_carriage_return (take k text)) place in
    lines_step text some ∙ (λ k. (feed.line_is ∙ sym same) k ∷ lines (drop (sym place k + 1) text))

pub cut_at_end : (text line rest : List ℕ) → position is_line_feed text ≡ None → line ≡ text → length rest ≡ 0 → 0 < length text → lines text ≡ line ∷ lines rest
cut_at_end text line rest e is none some = elim (feed_or_not text) [
  | inl feed ↦ absurd (cc (e, lt-ltb _ _ feed.within))
  | inr feed ↦ lines_step text some ∙ (λ k. (feed.line_is ∙ sym is) k ∷ lines ((feed.behind_is ∙ sym (nil_from_length rest none)) k))
]
