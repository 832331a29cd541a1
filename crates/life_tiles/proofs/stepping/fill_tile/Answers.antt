use Rattle.std.proofs.Common.{◌≡◌, ◌<◌, length, pos, refl, sym, subst, ◌∙◌, arith}
use Rattle.std.proofs.lemmas.List.{get_or_default}
use Rattle.std.proofs.lemmas.Option.{slice_get-get_or}
use Rattle.life_tiles.specs.declared.place.Place.{Place}
use Rattle.life_tiles.specs.declared.span.Span.{Span}
use Rattle.life_tiles.specs.Spans.{InSpan, no_rows, span_of}
use Rattle.life_tiles.specs.Tiling.{place, AreAbout}
use Rattle.life_tiles.proofs.Filled.{are_about, has_about, fills_rested, fills_stepped}
use Rattle.life_tiles.proofs.Woken.{in_none, in_empty}
use Rattle.life_tiles.proofs.stepping.fill_tile.Goals as goal

abbrev none : Place
none = place (pos 0) (pos 0)

pub fill_rows-requires-clause-about : goal.fill_rows-requires-clause-about
fill_rows-requires-clause-about c =
    let grid = c.requires.grid in
    let at = slice_get-get_or c.args.places.now.keys c.args.index none c.requires.within in
    has_about c.args.places.now.keys c.args.rows.now c.args.next.now c.args.beside.now c.about-about.result c.args.index _ grid c.requires.next at (are_about _ _ _ _ _ grid.links c.len.ensures.len c.about-about.ensures)

pub returns-then-is_empty : goal.returns-then-is_empty
returns-then-is_empty c =
    let room = c.requires.awake in
    let lt = c.requires.within in
    let within : c.args.index < length c.args.awake.now = omega arith in
    let span : c.index-awake-index.result ≡ span_of c.args.awake.now c.args.index = c.index-awake-index.is ∙ get_or_default _ _ _ no_rows within in
    fills_rested c.args.places.now.keys c.args.rows.now c.args.next.now c.args.awake.now c.args.waking.now c.args.index _ within (in_empty _ refl refl)
    (λ row awake. in_none _ (c.is_empty.ensures.0 c.if-is_empty.true) row (subst (λ (s : Span). InSpan s row) (sym span) awake)) c.requires.rested

pub returns : goal.returns
returns c =
    let grid = c.requires.grid in
    let at = slice_get-get_or c.args.places.now.keys c.args.index none c.requires.within in
    let room = c.requires.awake in
    let lt = c.requires.within in
    let within : c.args.index < length c.args.awake.now = omega arith in
    let span : c.index-awake-index.result ≡ span_of c.args.awake.now c.args.index = c.index-awake-index.is ∙ get_or_default _ _ _ no_rows within in
    let are : AreAbout c.args.places.now.keys c.args.index c.about-about.result = are_about _ _ _ _ _ grid.links c.len.ensures.len c.about-about.ensures in
    fills_stepped c.args.places.now.keys c.args.rows.now c.about-about.result c.args.next.now c.fill_rows.new.next _ c.fill_rows.new.changes c.args.index _ c.index-awake-index.result grid.distinct at are c.fill_rows.ensures
    c.args.awake.now c.args.waking.now c.wake_about.new.waking _ _ _ c.fill_rows.auto.next within (in_empty _ refl refl) (sym span) c.requires.rested c.requires.waking c.wake_about.ensures c.change_of.ensures.rows c.change_of.ensures.columns
