use Rattle.std.proofs.Common.{◌≡◌, ◌∷◌, ap, sym, ◌∙◌}
use Rattle.book_lines.specs.Lines.{texts}
use Rattle.book_lines.proofs.line.statement_of.Goals as goal
use Rattle.text_lines.specs.Blanks.{words}
use Rattle.book_lines.proofs.Saying.{line_ok, line_err, no_first, no_keyword}

pub returns-in_default-clause-err : goal.returns-in_default-clause-err
returns-in_default-clause-err c = no_first c.args.line.now (texts c.deref.result.now) (ap texts c.deref.ensures.value ∙ c.in_ok-words.ensures) c.in_default.ensures

pub returns-in_default-keyword_of-clause-err : goal.returns-in_default-keyword_of-clause-err
returns-in_default-keyword_of-clause-err c =
    let whole : words c.args.line.now ≡ c.in-Some.word.now ∷ texts c.in-Some.items.now = sym c.in_ok-words.ensures ∙ ap texts (sym c.deref.ensures.value) ∙ c.in-Some.ensures in
    no_keyword c.args.line.now c.in-Some.word.now (texts c.in-Some.items.now) whole c.in_default-keyword_of.ensures

pub returns : goal.returns
returns c =
    let whole : words c.args.line.now ≡ c.in-Some.word.now ∷ texts c.in-Some.items.now = sym c.in_ok-words.ensures ∙ ap texts (sym c.deref.ensures.value) ∙ c.in-Some.ensures in
    record {
      ok = line_ok c.args.line.now c.in-Some.word.now (texts c.in-Some.items.now) c.in-Some-keyword_of.keyword whole c.in-Some-keyword_of.ensures c.items_statement.result c.items_statement.ensures.statement;
      err = line_err c.args.line.now c.in-Some.word.now (texts c.in-Some.items.now) c.in-Some-keyword_of.keyword whole c.in-Some-keyword_of.ensures c.items_statement.result c.items_statement.ensures.statement;
      few = c.items_statement.ensures.few;
    }
