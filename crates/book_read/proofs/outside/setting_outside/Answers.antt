use Rattle.std.proofs.Common.{ℤ, ap, Some, None, FitsSigned, rules, subst, sym, ◌∙◌}
use mir.Syntax.{w64}
use Rattle.std.proofs.lemmas.Int.{to_z-of_z}
use Rattle.std.proofs.lemmas.Bool.{false≢true}
use Rattle.std.proofs.lemmas.Slice.Zip.{Zip-more, either_empty_from_Zip}
use Rattle.std.specs.Iterator.Adapters.{zip_first, zip_second}
use Rattle.std.specs.Slice.Iter.{iter_rest}
use Rattle.book_lines.specs.Limits.{IsWithin}
use Rattle.book_read.proofs.FirstOutside.{each_same, each_within, each_outside, each_none}
use Rattle.book_read.proofs.outside.setting_outside.Goals as goal

pub loop-limit-init : goal.loop-limit-init
loop-limit-init c =
    let same = c.into_iter-limit-iterator.ensures.into_iter_gives in
    let ls = ap (λ (z : _). iter_rest (zip_first z)) same ∙ ap iter_rest c.zip-limit-items.ensures.first ∙ c.iter.ensures.rest ∙ c.limits-limits.ensures in
    let zs = ap (λ (z : _). iter_rest (zip_second z)) same ∙ c.zip-limit-items.ensures.second.0 ∙ c.items.ensures in
    λ found h. each_same _ _ _ _ found ls zs h

pub loop-limit-preserved : goal.loop-limit-preserved
loop-limit-preserved c =
    let more = Zip-more c.loop-limit.limit-iterator c.next.new.self c.next.result (c.in-Some.limit, c.in-Some.number) c.in-Some.is c.next.ensures.steps in
    let fits : FitsSigned w64 c.in-Some.number.now = search rules in
    let within = rw (to_z-of_z w64 c.in-Some.number.now fits) at (c.holds.ensures.0 c.if-not-holds.false) in
    λ found h. c.loop-limit.invariant found (each_within _ _ _ _ c.in-Some.limit.now c.in-Some.number.now found more.0 more.1 within h)

pub returns-then-not-holds : goal.returns-then-not-holds
returns-then-not-holds c =
    let more = Zip-more c.loop-limit.limit-iterator c.next.new.self c.next.result (c.in-Some.limit, c.in-Some.number) c.in-Some.is c.next.ensures.steps in
    let fits : FitsSigned w64 c.in-Some.number.now = search rules in
    let same = to_z-of_z w64 c.in-Some.number.now fits in
    rw same (c.loop-limit.invariant (Some c.in-Some.number.now) (each_outside _ _ _ _ c.in-Some.limit.now c.in-Some.number.now more.0 more.1
    (λ within. false≢true (sym c.if-not-holds.true ∙ c.holds.ensures.1 (subst (λ (z : ℤ). IsWithin c.in-Some.limit.now z) (sym same) within)))))

pub returns : goal.returns
returns c = c.loop-limit.invariant None (each_none _ _ (either_empty_from_Zip c.loop-limit.limit-iterator c.next.new.self c.next.result c.in-None.is c.next.ensures.steps))
