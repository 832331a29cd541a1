use Rattle.std.proofs.Common.{◌^◌, IfOk, sym, subst, arith}
use Rattle.std.specs.Prelude.{MatchOption}
use Rattle.std.proofs.lemmas.Int.{ints}
use Rattle.life_cells.specs.Boxes.{IsInRange}
use Rattle.life_cells.specs.Cells.{alive}
use Rattle.book_parts.specs.KindLaws.{kind_placed}
use Rattle.book_parts.specs.Kinds.{kind_plane}
use Rattle.recipe_turn.specs.Bounds.{KeepsBoth}
use Rattle.recipe_turn.specs.StartLaws.{start_in_range, start_keeps}
use Rattle.recipe_turn.specs.Checked.{AreValid}
use Rattle.find_turn.specs.Search.{IsFirstEndAt, NeverEnds}
use Rattle.find_turn.proofs.Soundness.{start_is, last_from_zero, narrow_found, none_narrow, narrow_none, tried_from_one, answer_is}
use Rattle.find_turn.proofs.Throwing.{kind_is_placed}
use Rattle.find_turn.proofs.finding.find_turn.Goals as goal

pub returns-then-is_some-clause-found : goal.returns-then-is_some-clause-found
returns-then-is_some-clause-found g c =
    let narrow = narrow_found c.args.delays.now c.first_narrow.result c.if-is_some.ensures c.first_narrow.ensures in
    narrow_none c.args.settings.now c.args.kinds.now.raw c.args.kind c.args.delays.now narrow.0 narrow.1

pub returns-then-is_some-clause-most : goal.returns-then-is_some-clause-most
returns-then-is_some-clause-most g c = let last = last_from_zero c.args.delays.now c.requires.some c.requires.delays in omega (arith, ints, last)

pub returns-in_err-gliders-clause-most : goal.returns-in_err-gliders-clause-most
returns-in_err-gliders-clause-most g c = let last = last_from_zero c.args.delays.now c.requires.some c.requires.delays in omega (arith, ints, last)

pub returns-in_err-start-clause-most : goal.returns-in_err-start-clause-most
returns-in_err-start-clause-most g c = let last = last_from_zero c.args.delays.now c.requires.some c.requires.delays in omega (arith, ints, last)

pub first_end-requires-clause-range : goal.first_end-requires-clause-range
first_end-requires-clause-range g c =
    let is = start_is c.args.settings.now c.args.kinds.now.raw _ c.args.kind c.args.delays.now _ _ _ c.raw.ensures.raw c.kind_cells.ensures c.in_ok-gliders.ensures c.in_ok-start.ensures in
    let placed = kind_placed c.args.kinds.now.raw c.raw.ensures.checked.proper c.args.kind in
    subst (IsInRange (2 ^ 40)) (sym is) (start_in_range c.args.settings.now c.requires.settings (kind_plane c.args.kinds.now.raw c.args.kind) placed c.args.delays.now c.requires.delays)

pub first_end-requires-clause-begins : goal.first_end-requires-clause-begins
first_end-requires-clause-begins g c =
    let is = start_is c.args.settings.now c.args.kinds.now.raw _ c.args.kind c.args.delays.now _ _ _ c.raw.ensures.raw c.kind_cells.ensures c.in_ok-gliders.ensures c.in_ok-start.ensures in
    let valid = subst (λ s. AreValid s c.args.kinds.now.raw) c.requires.same c.raw.ensures.checked.valid in
    let placed = kind_is_placed c.args.settings.now c.args.kinds.now.raw valid c.args.kind in
    subst (KeepsBoth c.args.settings.now c.args.delays.now 0) (sym is) (start_keeps c.args.settings.now c.requires.settings (kind_plane c.args.kinds.now.raw c.args.kind) placed c.args.delays.now)

pub first_end-requires-clause-some : goal.first_end-requires-clause-some
first_end-requires-clause-some g c = tried_from_one c.args.delays.now c.tried_numbers.result (last_from_zero c.args.delays.now c.requires.some c.requires.delays) c.tried_numbers.ensures.tried

pub returns-clause-found : goal.returns-clause-found
returns-clause-found g c =
    let is = start_is c.args.settings.now c.args.kinds.now.raw _ c.args.kind c.args.delays.now _ _ _ c.raw.ensures.raw c.kind_cells.ensures c.in_ok-gliders.ensures c.in_ok-start.ensures in
    let apart = none_narrow c.args.delays.now c.first_narrow.result c.if-is_some.ensures c.first_narrow.ensures in
    answer_is c.args.settings.now c.args.kinds.now.raw c.args.kind c.args.delays.now (alive c.in_ok-start.start) c.tried_numbers.result is c.requires.some apart c.tried_numbers.ensures.tried c.first_end.result
    (subst (λ ks. IfOk c.first_end.result (λ found. MatchOption found (NeverEnds c.args.settings.now ks c.args.delays.now (alive c.in_ok-start.start) c.tried_numbers.result) (IsFirstEndAt c.args.settings.now ks c.args.delays.now (alive c.in_ok-start.start) c.tried_numbers.result)))
    c.raw-2.ensures.raw c.first_end.ensures.found)

pub returns-clause-most : goal.returns-clause-most
returns-clause-most g c = let most = c.first_end.ensures.most in omega (arith, ints, most, c.tried_numbers.ensures.most)
