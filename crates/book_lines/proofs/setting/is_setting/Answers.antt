use Rattle.std.proofs.Common.{refl, sym, ap, ◌∙◌, length}
use Rattle.std.proofs.lemmas.List.{length-map}
use Rattle.book_lines.proofs.setting.is_setting.Goals as goal
use Rattle.book_lines.specs.declared.book_word.BookWord.{BookWord}
use Rattle.book_lines.specs.Limits.{limits}

pub returns-then-are_numbers : goal.returns-then-are_numbers
returns-then-are_numbers c = (
  (λ h.
      let numbers = c.are_numbers.ensures.0 c.if-are_numbers.true in
      let count = length-map c.args.items.now _ ∙ c.if-items-limits.false ∙ ap (λ (ls : _). length ls) c.limits.ensures in
      (record { word = c.args.word; numbers = numbers.0 }, (refl, record { numbers_are = numbers.1; count = count; order = c.keeps_order.ensures.0 h }))),
  (λ h. c.keeps_order.ensures.1 h.1.1.order),
)

pub returns-else-are_numbers : goal.returns-else-are_numbers
returns-else-are_numbers c = ((λ h. absurd (cc (h, c.if-are_numbers.false))), (λ h. c.are_numbers.ensures.1 (h.0.numbers, h.1.1.numbers_are)))

pub returns-then-items-limits : goal.returns-then-items-limits
returns-then-items-limits c = (
  (λ h. absurd (cc h)),
  (λ h. absurd (c.if-items-limits.true (sym (length-map c.args.items.now _) ∙ h.1.1.count ∙ ap (λ (w : BookWord). length (limits w)) h.1.0 ∙ sym (ap (λ (ls : _). length ls) c.limits.ensures)))),
)
