use Rattle.std.proofs.Common.{sym, subst, ◌∙◌, ap, arith, ◌≤◌, ◌<◌, ◌^◌, ◌++◌, length}
use Rattle.std.proofs.lemmas.Bool.{false≢true}
use Rattle.std.specs.String.{string_bytes}
use Rattle.book_parts.specs.Limits.{IsName}
use Rattle.book_parts.specs.Proper.{IsNoneOf, entry_names}
use Rattle.recipe_book.specs.Checked.{said_of}
use Rattle.recipe_find.specs.Names.{IsNewName}
use Rattle.recipe_find.proofs.Naming.{next_tried, none_is_short, tried_is_new, tried_is_name}
use Rattle.recipe_find.proofs.names.new_name.Goals as goal

pub returns-then-is_new : goal.returns-then-is_new
returns-then-is_new c =
    let others = entry_names (said_of c.args.book.now) in
    let bytes = string_bytes c.longer.text in
    let is = c.in_ok-name.ensures ∙ c.as_str-then-is_new.ensures.value in
    let none = subst (IsNoneOf others) c.as_str.ensures.value (c.is_new.ensures.0 c.if-is_new.true) in
    let long = c.len.ensures in
    let fits = c.ranges.number in
    let small : c.args.number < 2 ^ 64 = omega arith in
    let short : length bytes ≤ 32 = omega arith in
    (subst (IsNewName others c.args.number) (sym is) (tried_is_new others c.args.number bytes c.longer.invariant none), subst IsName (sym is) (tried_is_name others c.args.number bytes small c.longer.invariant short))

pub longer-preserved : goal.longer-preserved
longer-preserved c =
    let others = entry_names (said_of c.args.book.now) in
    next_tried others c.args.number (string_bytes c.longer.text) _ c.longer.invariant
    (λ none. false≢true (c.if-is_new.ensures.1 (subst (IsNoneOf others) (sym c.as_str.ensures.value) none)))
    (c.in_ok-push.ensures.bytes ∙ ap (λ l. string_bytes c.longer.text ++ l) (c.in_ok-push.ensures.ascii (omega arith)))

pub returns : goal.returns
returns c = none_is_short (entry_names (said_of c.args.book.now)) c.args.number _ c.longer.invariant (let e = c.len.ensures in omega arith)
