use Rattle.std.proofs.Common.{rules, ◌≡◌, ◌∙◌, ap, map, List, ℕ, Bor}
use Rattle.life_words.proofs.Reading.{texts_found, some_texts, these_texts}
use Rattle.life_words.proofs.values.values_behind.Goals as goal

pub unwrap-values-requires : goal.unwrap-values-requires
unwrap-values-requires c =
    let rest = c.requires.begin.0 in
    let ok = c.in_ok-matches.ensures.ok rest c.requires.begin.1 in
    some_texts c.get_strs.result rest
    (c.get_strs.ensures ∙ texts_found _ c.args.name.now rest _ c.subcommand.result c.unwrap.result (λ p. p.1.now) ok.1 c.subcommand.ensures.rows c.unwrap.ensures)

pub returns-clause-ok : goal.returns-clause-ok
returns-clause-ok c = λ rest begin.
    let ok = c.in_ok-matches.ensures.ok rest begin in
    let found = texts_found _ c.args.name.now rest _ c.subcommand.result c.unwrap.result (λ p. p.1.now) ok.1 c.subcommand.ensures.rows c.unwrap.ensures in
    let items : c.in_ok-values.values.items ≡ c.unwrap-values.result.now = search rules in
    (ok.0, ap (map (λ (v : Bor (List ℕ)). v.now)) items ∙ these_texts c.get_strs.result c.unwrap-values.result rest (c.get_strs.ensures ∙ found) c.unwrap-values.ensures)
