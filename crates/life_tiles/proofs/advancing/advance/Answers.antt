use Rattle.std.proofs.Common.{◌≡◌, ◌≢◌, ◌*◌, sym, subst, ◌∙◌, arith, List, ℕ}
use Rattle.std.specs.Bool.{MatchBool}
use Rattle.std.specs.Option.{MatchOption}
use Rattle.std.proofs.lemmas.List.{with_items_is}
use Rattle.life_kernel.specs.Words.{plane_of_words}
use Rattle.life_tiles.specs.declared.span.Span.{Span}
use Rattle.life_tiles.specs.Spans.{IsAwake}
use Rattle.life_tiles.specs.Tiling.{word_at, Differ, AreSame}
use Rattle.life_tiles.proofs.Differing.{changed_is}
use Rattle.life_tiles.proofs.advancing.advance.Goals as goal

pub returns-clause-fresh : goal.returns-clause-fresh
returns-clause-fresh c e i row lt below =
    let now : c.swap-2.new.x.items ≡ c.wake_unless.new.spans = rw c.swap-2.ensures.x_after (with_items_is c.args.tiles.now.waking c.wake_unless.new.spans (c.wake_unless.auto.spans ∙ c.deref_mut.ensures.len)) in
    subst (λ (spans : List Span). IsAwake spans i row) (sym now) (c.wake_unless.ensures.unknown e i row (omega (arith, c.len-count.ensures.len)) below)

pub returns-clause-changed : goal.returns-clause-changed
returns-clause-changed c =
    let places = c.args.tiles.now.places.keys in
    let found = c.changed_tile-found.result in
    subst (λ b. MatchBool b (plane_of_words (word_at places c.swap.new.x.items) ≢ plane_of_words (word_at places c.args.tiles.now.rows.items)) (plane_of_words (word_at places c.swap.new.x.items) ≡ plane_of_words (word_at places c.args.tiles.now.rows.items)))
    (sym c.is_some.ensures)
    (rw c.swap.ensures.x_after
    (changed_is places c.args.tiles.now.rows.items c.args.tiles.now.next.items c.requires.distinct c.requires.rows c.requires.next c.changed_tile-found.result
    (subst (λ (n : ℕ). MatchOption found (AreSame c.args.tiles.now.rows.items c.args.tiles.now.next.items 0 (64 * n)) (λ index. Differ c.args.tiles.now.rows.items c.args.tiles.now.next.items 0 (64 * n))) c.len-count.ensures.len
    (subst (λ (xs : List ℕ). MatchOption found (AreSame xs c.args.tiles.now.next.items 0 (64 * c.len-count.result)) (λ index. Differ xs c.args.tiles.now.next.items 0 (64 * c.len-count.result))) c.deref.ensures.value
    (subst (λ (xs : List ℕ). MatchOption found (AreSame c.deref.result.now xs 0 (64 * c.len-count.result)) (λ index. Differ c.deref.result.now xs 0 (64 * c.len-count.result))) c.deref-2.ensures.value c.changed_tile-found.ensures)))))
