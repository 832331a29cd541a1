use Rattle.std.proofs.Common.{rules, ◌≡◌, ◌∙◌, ap, ap₂, true, ℕ, Option, Some, None}
use Rattle.std.specs.Prelude.{IsSomeAnd}
use Rattle.std.proofs.lemmas.Result.{IfOk-weaker}
use Rattle.clap.specs.Words.{App, Rule, app_of, rule_of, with_rule, with_subcommand}
use Rattle.clap.specs.declared.builder.arg.Arg.{Arg}
use Rattle.clap.specs.declared.builder.action.ArgAction.TheVariants.{Set}
use Rattle.clap.specs.declared.builder.range.ValueRange.{ValueRange}
use Rattle.life_words.specs.CommandLine.{just, values_rule, top_line}
use Rattle.life_words.proofs.values.command_line.Goals as goal

range_is : (range : Option ValueRange) (count : ℕ) → IsSomeAnd range (λ (r : ValueRange). r ≡ just count) → range ≡ Some (just count)
range_is None count h = absurd h
range_is (Some r) count h = ap Some h

pub returns : goal.returns
returns c =
    let count = c.args.count in
    let values_is : rule_of c.action-values.result ≡ values_rule count =
    ap rule_of c.action-values.ensures
    ∙ (ap (λ (a : Arg). record (rule_of a) { action = Some Set }) c.num_args.ensures.0
    ∙ (ap (λ (r : Option ValueRange). record (rule_of c.required.result) { action = Some Set; range = r }) (range_is _ count c.num_args.ensures.1)
    ∙ (ap (λ (a : Arg). record (rule_of a) { action = Some Set; range = Some (just count) }) c.required.ensures
    ∙ ap (λ (r : Rule). record r { action = Some Set; range = Some (just count); required = true }) c.new.ensures.rule))) in
    let command_is : app_of c.in_ok-command.command ≡ _ = c.in_ok-command.ensures.shape (search rules) ∙ ap₂ with_rule c.new-2.ensures.app values_is in
    let top_is : app_of c.disable_help_subcommand.result ≡ top_line = search rules in
    IfOk-weaker c.subcommand.result _ _ (λ line h. h.shape (search rules) ∙ ap₂ with_subcommand top_is (ap (λ (a : App). a.top) command_is)) c.subcommand.ensures
