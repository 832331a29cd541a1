use Rattle.std.proofs.Common.{ℕ, List, codes, ◌∷◌, ◌++◌, ap, subst, sym, ◌∙◌}
use Rattle.book_lines.specs.Lines.{texts}
use Rattle.book_lines.proofs.salvo.salvo_items.Goals as goal
use Rattle.std.proofs.lemmas.Bool.{false≢true}
use Rattle.book_lines.specs.Values.{Level, AreNumbersAt}
use Rattle.book_parts.specs.Limits.{IsName}
use Rattle.book_lines.specs.Forms.{IsProduct, IsHand}
use Rattle.book_lines.proofs.Cutting.{salvo_parts}
use Rattle.book_lines.proofs.Stating.{salvo_behind, salvo_rest, salvo_whole}

pub returns-then-not-is_word-clause-none : goal.returns-then-not-is_word-clause-none
returns-then-not-is_word-clause-none c = λ salvo h.
    false≢true (sym c.if-not-is_word.true ∙ c.is_word.ensures.1 (salvo_behind _ c.in_ok-own.own.now c.in_ok-colon.colon.now _ _ c.in_ok-own.ensures c.in_ok-colon.ensures salvo h).0)

pub returns-in_err-lanes-clause-none : goal.returns-in_err-lanes-clause-none
returns-in_err-lanes-clause-none c = rw (c.from_residual-in_err-lanes.ensures) (λ salvo h.
    c.in_err-lanes.ensures.some h.lanes _ (salvo_behind _ c.in_ok-own.own.now c.in_ok-colon.colon.now _ _ c.in_ok-own.ensures c.in_ok-colon.ensures salvo h).1)

pub returns-in_err-product-clause-none : goal.returns-in_err-product-clause-none
returns-in_err-product-clause-none c = rw (c.from_residual-in_err-product.ensures) (λ salvo h.
    c.in_err-product.ensures.some h.product h.hand (salvo_rest _ c.in_ok-own.own.now c.in_ok-colon.colon.now _ _ (texts c.in_ok-lanes.lanes.now) (texts c.in_ok-lanes.behind.now) c.in_ok-own.ensures c.in_ok-colon.ensures c.in_ok-lanes.ensures.some.0 c.in_ok-lanes.ensures.some.1 salvo h))

pub returns-then-not-are_numbers-clause-none : goal.returns-then-not-are_numbers-clause-none
returns-then-not-are_numbers-clause-none c = λ salvo h.
    let lanes = texts c.in_ok-lanes.lanes.now in
    let product = texts c.in_ok-product.product.now in
    let hand = texts c.in_ok-product.hand.now in
    let whole = salvo_whole _ c.in_ok-own.own.now c.in_ok-colon.colon.now _ _ lanes (texts c.in_ok-lanes.behind.now) product hand c.in_ok-own.ensures c.in_ok-colon.ensures (c.is_word.ensures.0 c.if-not-is_word.false) c.in_ok-lanes.ensures.some.0 c.in_ok-product.ensures.some.0 in
    let p = salvo_parts salvo _ c.in_ok-own.own.now lanes product hand h whole c.in_ok-lanes.ensures.some.1 c.in_ok-product.ensures.some.1 in
    false≢true (sym c.if-not-are_numbers.true ∙ c.are_numbers.ensures.1 (salvo.lanes, subst (λ (ts : List (List ℕ)). AreNumbersAt Level.Form ts salvo.lanes) p.lanes_are h.lanes_are))

pub returns-then-not-is_product-clause-none : goal.returns-then-not-is_product-clause-none
returns-then-not-is_product-clause-none c = λ salvo h.
    let lanes = texts c.in_ok-lanes.lanes.now in
    let product = texts c.in_ok-product.product.now in
    let hand = texts c.in_ok-product.hand.now in
    let whole = salvo_whole _ c.in_ok-own.own.now c.in_ok-colon.colon.now _ _ lanes (texts c.in_ok-lanes.behind.now) product hand c.in_ok-own.ensures c.in_ok-colon.ensures (c.is_word.ensures.0 c.if-not-is_word.false) c.in_ok-lanes.ensures.some.0 c.in_ok-product.ensures.some.0 in
    let p = salvo_parts salvo _ c.in_ok-own.own.now lanes product hand h whole c.in_ok-lanes.ensures.some.1 c.in_ok-product.ensures.some.1 in
    false≢true (sym c.if-not-is_product.true ∙ c.is_product.ensures.1 (salvo.product, subst (λ (ts : List (List ℕ)). IsProduct Level.Form salvo.product ts) p.product_is h.product_is))

pub returns-then-not-is_hand-clause-none : goal.returns-then-not-is_hand-clause-none
returns-then-not-is_hand-clause-none c = λ salvo h.
    let lanes = texts c.in_ok-lanes.lanes.now in
    let product = texts c.in_ok-product.product.now in
    let hand = texts c.in_ok-product.hand.now in
    let whole = salvo_whole _ c.in_ok-own.own.now c.in_ok-colon.colon.now _ _ lanes (texts c.in_ok-lanes.behind.now) product hand c.in_ok-own.ensures c.in_ok-colon.ensures (c.is_word.ensures.0 c.if-not-is_word.false) c.in_ok-lanes.ensures.some.0 c.in_ok-product.ensures.some.0 in
    let p = salvo_parts salvo _ c.in_ok-own.own.now lanes product hand h whole c.in_ok-lanes.ensures.some.1 c.in_ok-product.ensures.some.1 in
    false≢true (sym c.if-not-is_hand.true ∙ c.is_hand.ensures.1 (salvo.hand, subst (λ (ts : List (List ℕ)). IsHand Level.Form salvo.hand ts) p.hand_is h.hand_is))

pub returns-clause-some : goal.returns-clause-some
returns-clause-some c =
    let lanes = texts c.in_ok-lanes.lanes.now in
    let product = texts c.in_ok-product.product.now in
    let hand = texts c.in_ok-product.hand.now in
    let named = c.in_ok-own-2.ensures.some in
    record {
      items_are = salvo_whole _ c.in_ok-own.own.now c.in_ok-colon.colon.now _ _ lanes (texts c.in_ok-lanes.behind.now) product hand c.in_ok-own.ensures c.in_ok-colon.ensures (c.is_word.ensures.0 c.if-not-is_word.false) c.in_ok-lanes.ensures.some.0 c.in_ok-product.ensures.some.0
          ∙ ap (λ (w : List ℕ). w ∷ (codes ":" ∷ (lanes ++ (codes ":" ∷ (product ++ (codes ":" ∷ hand)))))) (sym named.0);
      name_is = subst IsName (sym named.0) named.1;
      lanes_are = c.are_numbers.ensures.0 c.if-not-are_numbers.false;
      product_is = c.is_product.ensures.0 c.if-not-is_product.false;
      hand_is = c.is_hand.ensures.0 c.if-not-is_hand.false;
    }
