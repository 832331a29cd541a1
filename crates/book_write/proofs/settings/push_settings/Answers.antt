-- The lines, one after the other.
use Rattle.std.proofs.Common.{refl, rules, w64, FitsSigned}
use Rattle.std.proofs.lemmas.Int.{to_z-of_z}
use Rattle.book_write.specs.Laid.{ended_line}
use Rattle.book_write.specs.Parts.{settings_words}
use Rattle.book_write.proofs.Laying.{laid}
use Rattle.book_write.proofs.settings.push_settings.Goals as goal

pub returns : goal.returns
returns c =
    let f0 : FitsSigned w64 c.args.settings.now.approach = search rules in
    let f1 : FitsSigned w64 c.args.settings.now.wall = search rules in
    let f2 : FitsSigned w64 c.args.settings.now.reach = search rules in
    let f3 : FitsSigned w64 c.args.settings.now.corner.x = search rules in
    let f4 : FitsSigned w64 c.args.settings.now.corner.y = search rules in
    let f5 : FitsSigned w64 c.args.settings.now.room = search rules in
    let f6 : FitsSigned w64 c.args.settings.now.span = search rules in
    laid ended_line _ _ (settings_words c.args.settings.now) (_, (simp to_z-of_z at c.in_ok-push_setting.ensures, (_, (simp to_z-of_z at c.in_ok-push_setting-2.ensures, (_, (simp to_z-of_z at c.in_ok-push_setting-3.ensures, (_, (simp to_z-of_z at c.in_ok-push_setting-4.ensures, (_, (simp to_z-of_z at c.in_ok-push_setting-5.ensures, (_, (simp to_z-of_z at c.in_ok-push_setting-6.ensures, (_, (c.in_ok-push_range.ensures, (_, (c.in_ok-push_range-2.ensures, refl))))))))))))))))
