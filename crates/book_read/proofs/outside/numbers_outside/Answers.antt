use Rattle.std.proofs.Common.{rules, inl, inr, ℤ, List, [], ◌∷◌, refl, ap, subst, sym, ◌∙◌, Some, None, flat_map}
use Rattle.book_read.proofs.outside.numbers_outside.Goals as goal
use mir.Syntax.{w64}
use Rattle.std.proofs.Common.{FitsSigned, get_or, pos}
use Rattle.std.proofs.lemmas.Int.{to_z-of_z}
use Rattle.std.proofs.lemmas.Bool.{false≢true}
use Rattle.book_lines.specs.Limits.{IsWithin}
use Rattle.book_read.specs.Limited.{held, IsFirstOutside}
use Rattle.book_read.proofs.FirstOutside.{first_more, first_found_at, one_each}
use Rattle.std.proofs.lemmas.List.{take_all}

pub loop-item-preserved : goal.loop-item-preserved
loop-item-preserved c =
    let z = get_or c.args.items.now c.loop-item.item-index (pos 0) in
    let fits : FitsSigned w64 z = search rules in
    first_more (λ y. held c.args.limit y ∷ []) c.args.items.now c.loop-item.item-index (pos 0) c.loop-item-test.true c.loop-item.invariant
    (inl (rw (to_z-of_z w64 z fits) at (c.holds.ensures.0 c.if-not-holds.false), refl))

pub returns-then-not-holds : goal.returns-then-not-holds
returns-then-not-holds c =
    let z = get_or c.args.items.now c.loop-item.item-index (pos 0) in
    let fits : FitsSigned w64 z = search rules in
    let same = to_z-of_z w64 z fits in
    rw (same) (subst (λ (ns : List _). IsFirstOutside ns (Some z)) (one_each c.args.limit c.args.items.now)
    (first_found_at (λ y. held c.args.limit y ∷ []) c.args.items.now c.loop-item.item-index (pos 0) z c.loop-item-test.true c.loop-item.invariant
    (inr ((λ w. let yes = c.holds.ensures.1 (subst (λ (y : ℤ). IsWithin c.args.limit y) (sym same) w) in false≢true (sym c.if-not-holds.true ∙ yes)), refl))))

pub returns : goal.returns
returns c =
    subst (λ (ns : List _). IsFirstOutside ns None) (ap (λ (xs : List ℤ). flat_map (λ y. held c.args.limit y ∷ []) xs) (take_all c.loop-item.item-index c.args.items.now c.loop-item-test.false) ∙ one_each c.args.limit c.args.items.now) c.loop-item.invariant
