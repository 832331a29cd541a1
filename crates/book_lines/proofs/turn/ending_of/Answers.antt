use Rattle.std.proofs.Common.{◌≡◌, ℕ, List, codes, ◌∷◌, ap, ◌∙◌}
use Rattle.book_lines.specs.Lines.{texts}
use Rattle.book_lines.proofs.turn.ending_of.Goals as goal
use Rattle.book_lines.specs.Values.{Level}
use Rattle.book_lines.proofs.Lifting.{ok_reads_pass}
use Rattle.book_lines.proofs.Cutting.{close_down, move_down, move_up, emit_down, emit_up, no_ending}

pub returns-in_default-one_number : goal.returns-in_default-one_number
returns-in_default-one_number c = λ e h.
    let items : texts c.args.items.now ≡ codes "close" ∷ texts c.in-Some.behind.now = c.in-Some.ensures ∙ ap (λ (w : List ℕ). w ∷ texts c.in-Some.behind.now) (c.is_word.ensures.0 c.if-is_word.true) in
    c.in_default-one_number.ensures e.n (close_down Level.Numbers _ (texts c.in-Some.behind.now) items e.end e.n h)

pub returns-then-is_word-2 : goal.returns-then-is_word-2
returns-then-is_word-2 c =
    let items : texts c.args.items.now ≡ codes "move" ∷ texts c.in-Some.behind.now = c.in-Some.ensures ∙ ap (λ (w : List ℕ). w ∷ texts c.in-Some.behind.now) (c.is_word-2.ensures.0 c.if-is_word-2.true) in
    ok_reads_pass _ _ (λ e h. move_up Level.Numbers _ (texts c.in-Some.behind.now) items e.end e.n h) (λ e h. move_down Level.Numbers _ (texts c.in-Some.behind.now) items e.end e.n h) c.move_ending.result c.move_ending.ensures

pub returns-then-is_word-3 : goal.returns-then-is_word-3
returns-then-is_word-3 c =
    let items : texts c.args.items.now ≡ codes "emit" ∷ texts c.in-Some.behind.now = c.in-Some.ensures ∙ ap (λ (w : List ℕ). w ∷ texts c.in-Some.behind.now) (c.is_word-3.ensures.0 c.if-is_word-3.true) in
    ok_reads_pass _ _ (λ e h. emit_up Level.Numbers _ (texts c.in-Some.behind.now) items e.end e.n h) (λ e h. emit_down Level.Numbers _ (texts c.in-Some.behind.now) items e.end e.n h) c.emit_ending.result c.emit_ending.ensures

pub returns : goal.returns
returns c = λ e h. no_ending Level.Numbers _ c.in-Some.word.now (texts c.in-Some.behind.now) c.in-Some.ensures
    (λ w. let yes = c.is_word.ensures.1 w in cc (yes, c.if-is_word.false))
    (λ w. let yes = c.is_word-2.ensures.1 w in cc (yes, c.if-is_word-2.false))
    (λ w. let yes = c.is_word-3.ensures.1 w in cc (yes, c.if-is_word-3.false)) e.end e.n h
