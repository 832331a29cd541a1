use Rattle.std.proofs.Common.{◌≡◌, rules, ℕ, List, refl, ap, tests}
use Rattle.book_lines.specs.Lines.{texts}
use Rattle.book_lines.proofs.line.book_statement.Goals as goal
use Rattle.book_lines.specs.declared.keyword.Keyword.TheVariants as first
use Rattle.book_lines.specs.declared.book_word.BookWord.TheVariants as word
use Rattle.book_lines.specs.declared.statement.Body.{Body}
use Rattle.book_lines.specs.declared.statement.SettingLine.{SettingLine}
use Rattle.book_lines.specs.declared.statement.ElbowLine.{ElbowLine}
use Rattle.book_lines.specs.declared.statement.Statement.{Statement}
use Rattle.book_lines.specs.declared.statement.Statement.TheVariants.{Setting, Hand, Elbow, Start}
use Rattle.book_lines.specs.Values.{Level}
use Rattle.book_lines.specs.Forms.{IsSettingLine, IsBody, IsElbowLine, IsOneName}
use Rattle.book_lines.specs.Cuts.{StatesAs}
use Rattle.book_lines.proofs.Lifting.{carry_map}
use Rattle.book_lines.proofs.Worded.{as_setting, as_hand, as_elbow, as_start}

pub returns-in-Hand-clause-statement : goal.returns-in-Hand-clause-statement
returns-in-Hand-clause-statement c = rw (c.in-Hand.is)
    (carry_map (λ (l : Level) (v : Body). IsBody l v (texts c.args.items.now)) (λ (l : Level) (s : Statement). StatesAs (first.Book word.Hand) (texts c.args.items.now) l s) (λ v. Hand v) (λ l v h. (refl, h)) (as_hand (texts c.args.items.now)) _ c.hand.result c.map.result c.map.ensures.cases (λ x y h. search (rules, tests)) c.hand.ensures.body)

pub returns-in-Elbow-clause-statement : goal.returns-in-Elbow-clause-statement
returns-in-Elbow-clause-statement c = rw (c.in-Elbow.is)
    (carry_map (λ (l : Level) (v : ElbowLine). IsElbowLine l v (texts c.args.items.now)) (λ (l : Level) (s : Statement). StatesAs (first.Book word.Elbow) (texts c.args.items.now) l s) (λ v. Elbow v) (λ l v h. (refl, h)) (as_elbow (texts c.args.items.now)) _ c.elbow.result c.map-in-Elbow.result c.map-in-Elbow.ensures.cases (λ x y h. search (rules, tests)) c.elbow.ensures.elbow)

pub returns-in-Start-clause-statement : goal.returns-in-Start-clause-statement
returns-in-Start-clause-statement c = rw (c.in-Start.is)
    (carry_map (λ (l : Level) (v : List ℕ). IsOneName v (texts c.args.items.now)) (λ (l : Level) (s : Statement). StatesAs (first.Book word.Start) (texts c.args.items.now) l s) (λ v. Start v) (λ l v h. (refl, h)) (as_start (texts c.args.items.now)) _ c.name_line.result c.map-in-Start.result c.map-in-Start.ensures.cases (λ x y h. search (rules, tests)) c.name_line.ensures)

pub returns-in_default-clause-statement : goal.returns-in_default-clause-statement
returns-in_default-clause-statement c =
    let items = texts c.args.items.now in
    carry_map (λ (l : Level) (v : SettingLine). (v.word ≡ c.args.word) × IsSettingLine l v items) (λ (l : Level) (s : Statement). StatesAs (first.Book c.args.word) items l s) (λ v. Setting v) (λ l v h. (ap first.Book h.0, h.1))
    (as_setting items c.args.word c.in_default.not-Hand c.in_default.not-Elbow c.in_default.not-Start) _ c.setting.result c.map-in_default.result c.map-in_default.ensures.cases (λ x y h. search (rules, tests)) c.setting.ensures
