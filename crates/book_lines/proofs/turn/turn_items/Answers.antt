use Rattle.std.proofs.Common.{◌≡◌, ℕ, List, codes, ◌∷◌, ◌++◌, ap, subst, sym, ◌∙◌}
use Rattle.std.proofs.lemmas.Bool.{false≢true}
use Rattle.book_lines.specs.Lines.{texts}
use Rattle.book_lines.proofs.turn.turn_items.Goals as goal
use Rattle.book_lines.specs.Values.{Level}
use Rattle.book_lines.specs.Forms.{IsEnding}
use Rattle.book_lines.specs.Values.{AreNumbersAt}
use Rattle.book_lines.proofs.Cutting.{turn_parts}

pub returns-then-not-is_ending-clause-none : goal.returns-then-not-is_ending-clause-none
returns-then-not-is_ending-clause-none c = λ turn h.
    let own = c.in_ok-own.own.now in
    let kind = c.in_ok-kind.kind.now in
    let cut = c.in_ok-ending.ensures.some in
    let whole : texts c.args.items.now ≡ own ∷ (kind ∷ (texts c.in_ok-ending.ending.now ++ (codes ":" ∷ texts c.in_ok-ending.delays.now))) =
    c.in_ok-own.ensures ∙ ap (λ (ts : List (List ℕ)). own ∷ ts) (c.in_ok-kind.ensures ∙ ap (λ (ts : List (List ℕ)). kind ∷ ts) cut.0) in
    let p = turn_parts turn _ own kind (texts c.in_ok-ending.ending.now) (texts c.in_ok-ending.delays.now) h whole cut.1 in
    let yes = c.is_ending.ensures.1 (turn.end, (turn.n, subst (λ (ts : List (List ℕ)). IsEnding Level.Form turn.end turn.n ts) p.ending_is h.ending_is)) in
    false≢true (sym c.if-not-is_ending.true ∙ yes)

pub returns-then-not-are_numbers-clause-none : goal.returns-then-not-are_numbers-clause-none
returns-then-not-are_numbers-clause-none c = λ turn h.
    let own = c.in_ok-own.own.now in
    let kind = c.in_ok-kind.kind.now in
    let cut = c.in_ok-ending.ensures.some in
    let whole : texts c.args.items.now ≡ own ∷ (kind ∷ (texts c.in_ok-ending.ending.now ++ (codes ":" ∷ texts c.in_ok-ending.delays.now))) =
    c.in_ok-own.ensures ∙ ap (λ (ts : List (List ℕ)). own ∷ ts) (c.in_ok-kind.ensures ∙ ap (λ (ts : List (List ℕ)). kind ∷ ts) cut.0) in
    let p = turn_parts turn _ own kind (texts c.in_ok-ending.ending.now) (texts c.in_ok-ending.delays.now) h whole cut.1 in
    let yes = c.are_numbers.ensures.1 (turn.delays, subst (λ (ts : List (List ℕ)). AreNumbersAt Level.Form ts turn.delays) p.delays_are h.delays_are) in
    false≢true (sym c.if-not-are_numbers.true ∙ yes)
