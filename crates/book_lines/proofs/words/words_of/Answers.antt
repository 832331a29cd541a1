use Rattle.std.proofs.Common.{rules, ◌≡◌, ℕ, List, length, subst, tests}
use Rattle.book_lines.specs.Lines.{texts}
use Rattle.book_lines.proofs.words.words_of.Goals as goal
use Rattle.std.proofs.Common.{◌==◌, not, Vec, Global, Bor, Result, IfOk}
use Rattle.std.proofs.lemmas.Iterator.Consumers.{map_from_collect, YieldsList-at, YieldsList-from_filter}
use Rattle.std.proofs.lemmas.Iterator.Splits.{YieldsList-from_slice_split}
use Rattle.text_lines.specs.Blanks.{is_blank_byte, words}

pub returns : goal.returns
returns c =
    subst (λ (r : Result (Vec (Bor (List ℕ)) Global) _). IfOk r (λ found. texts found.items ≡ words c.args.line.now)) c.in_ok-words.was
    (map_from_collect c.collect.result c.collect.ensures.ran
    (YieldsList-from_filter _ (λ (w : List ℕ). not (length w == 0))
    (YieldsList-at c.filter.ensures.source (YieldsList-from_slice_split _ is_blank_byte c.args.line.now c.split.ensures.rest c.split.ensures.done c.split.ensures.closure (λ x r q k. search (rules, tests))))
    c.filter.ensures.closure (λ x r q k. search (rules, tests))))
