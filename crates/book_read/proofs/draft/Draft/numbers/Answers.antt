use Rattle.std.proofs.Common.{Some, sym, ap, ◌∙◌}
use denote.Enum.Bare.{sameb}
use Rattle.std.proofs.lemmas.List.{at_drop_all}
use Rattle.book_lines.specs.declared.statement.SettingLine.{SettingLine}
use Rattle.book_lines.specs.contracts.book_word.BookWord.{the_type}
use Rattle.book_read.specs.Drafted.{numbers_of}
use Rattle.book_read.proofs.Settings.{not_here, here_found}
use Rattle.book_read.proofs.draft.Draft.numbers.Goals as goal

pub loop-setting-init : goal.loop-setting-init
loop-setting-init c = ap (λ (ss : _). numbers_of ss c.args.word) (sym c.deref-setting-items.ensures.value)

pub loop-setting-preserved : goal.loop-setting-preserved
loop-setting-preserved c =
    let items = c.deref-setting-items.result.now in
    let other = ap (λ (s : SettingLine). sameb the_type s.word c.args.word) (sym c.setting-item.is) ∙ sym c.eq.ensures ∙ c.if-eq.false in
    c.loop-setting.invariant ∙ not_here items c.loop-setting.setting-index c.setting-item.result c.args.word c.loop-setting-test.true other

pub returns-then-eq : goal.returns-then-eq
returns-then-eq c =
    let items = c.deref-setting-items.result.now in
    let same = ap (λ (s : SettingLine). sameb the_type s.word c.args.word) (sym c.setting-item.is) ∙ sym c.eq.ensures ∙ c.if-eq.true in
    c.loop-setting.invariant
    ∙ here_found items c.loop-setting.setting-index c.setting-item.result c.args.word c.loop-setting-test.true same
    ∙ ap (λ (s : SettingLine). Some s.numbers) (sym c.setting-item.is)
    ∙ ap Some (sym c.items.ensures)

pub returns : goal.returns
returns c = c.loop-setting.invariant ∙ at_drop_all (λ (ss : _). numbers_of ss c.args.word) c.deref-setting-items.result.now c.loop-setting.setting-index c.loop-setting-test.false
