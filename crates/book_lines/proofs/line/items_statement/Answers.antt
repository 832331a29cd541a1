use Rattle.std.proofs.Common.{rules, refl, tests}
use Rattle.book_lines.specs.Lines.{texts}
use Rattle.book_lines.proofs.line.items_statement.Goals as goal
use Rattle.book_lines.specs.declared.keyword.Keyword.TheVariants as first
use Rattle.book_lines.specs.declared.statement.TurnLine.{TurnLine}
use Rattle.book_lines.specs.declared.statement.SalvoLine.{SalvoLine}
use Rattle.book_lines.specs.declared.statement.Statement.{Statement}
use Rattle.book_lines.specs.declared.statement.Statement.TheVariants.{Turn, Salvo}
use Rattle.book_lines.specs.Values.{Level}
use Rattle.book_lines.specs.Forms.{IsTurnLine, IsSalvoLine}
use Rattle.book_lines.specs.Cuts.{StatesAs}
use Rattle.book_lines.proofs.Lifting.{carry_map}
use Rattle.book_lines.proofs.Worded.{as_turn, as_salvo}

pub returns-in-Turn-clause-statement : goal.returns-in-Turn-clause-statement
returns-in-Turn-clause-statement c = rw (c.in-Turn.is)
    (carry_map (λ (l : Level) (v : TurnLine). IsTurnLine l v (texts c.args.items.now)) (λ (l : Level) (s : Statement). StatesAs first.Turn (texts c.args.items.now) l s) (λ v. Turn v) (λ l v h. (refl, h)) (as_turn (texts c.args.items.now)) _ c.turn.result c.map.result c.map.ensures.cases (λ x y h. search (rules, tests)) c.turn.ensures.turn)

pub returns-in-Salvo-clause-statement : goal.returns-in-Salvo-clause-statement
returns-in-Salvo-clause-statement c = rw (c.in-Salvo.is)
    (carry_map (λ (l : Level) (v : SalvoLine). IsSalvoLine l v (texts c.args.items.now)) (λ (l : Level) (s : Statement). StatesAs first.Salvo (texts c.args.items.now) l s) (λ v. Salvo v) (λ l v h. (refl, h)) (as_salvo (texts c.args.items.now)) _ c.salvo.result c.map-in-Salvo.result c.map-in-Salvo.ensures.cases (λ x y h. search (rules, tests)) c.salvo.ensures.salvo)
