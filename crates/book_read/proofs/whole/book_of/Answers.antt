use Rattle.std.proofs.Common.{rules, FitsSigned, w64, sym}
use Rattle.std.proofs.lemmas.Int.{to_z-of_z}
use Rattle.book_lines.specs.declared.book_word.BookWord.TheVariants as word
use Rattle.book_read.proofs.Settings.{has_settings}
use Rattle.book_read.proofs.Wholly.{said_of, all_stated, some_of, is_some_of, wall_from, margin_fits, reach_near, reach_far}
use Rattle.book_read.proofs.whole.book_of.Goals as goal

pub settings_of-settings-requires : goal.settings_of-settings-requires
settings_of-settings-requires c = has_settings c.args.draft c.requires c.in_default.ensures

pub overflow_add-wall : goal.overflow_add-wall
overflow_add-wall c = margin_fits c.settings_of-settings.result.wall (wall_from c.args.draft c.settings_of-settings.result c.requires c.settings_of-settings.ensures)

pub returns-then-reach-wall-clause-err : goal.returns-then-reach-wall-clause-err
returns-then-reach-wall-clause-err c =
    let there = c.in_default.ensures in
    let hand = some_of c.args.draft.hand (there word.Hand) in
    let start = some_of c.args.draft.start (there word.Start) in
    let settings = c.settings_of-settings.result in
    let wall = wall_from c.args.draft settings c.requires c.settings_of-settings.ensures in
    let fits_wall : FitsSigned w64 settings.wall = search rules in
    let fits_reach : FitsSigned w64 settings.reach = search rules in (
      said_of c.args.draft settings hand.0 start.0,
      (
        all_stated c.args.draft settings hand.0 start.0 c.settings_of-settings.ensures hand.1 start.1,
        (
          there word.Elbow,
          (
            sym (to_z-of_z w64 settings.wall fits_wall),
            (sym (to_z-of_z w64 settings.reach fits_reach), rw (to_z-of_z w64 settings.wall fits_wall, to_z-of_z w64 settings.reach fits_reach) (reach_near settings.wall settings.reach wall fits_reach c.if-reach-wall.true)),
          ),
        ),
      ),
    )

pub unwrap-requires : goal.unwrap-requires
unwrap-requires c = is_some_of c.args.draft.hand (c.in_default.ensures word.Hand)

pub unwrap-requires-2 : goal.unwrap-requires-2
unwrap-requires-2 c = is_some_of c.args.draft.start (c.in_default.ensures word.Start)

pub returns-clause-ok : goal.returns-clause-ok
returns-clause-ok c = (
  all_stated c.args.draft c.settings_of-settings.result c.unwrap.result c.unwrap-2.result c.settings_of-settings.ensures c.unwrap.ensures c.unwrap-2.ensures,
  c.in_default.ensures word.Elbow,
)

pub returns-clause-far : goal.returns-clause-far
returns-clause-far c =
    let settings = c.settings_of-settings.result in
    let fits_reach : FitsSigned w64 settings.reach = search rules in
    reach_far settings.wall settings.reach (wall_from c.args.draft settings c.requires c.settings_of-settings.ensures) fits_reach c.if-reach-wall.false
