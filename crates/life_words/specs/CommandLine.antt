-- The command line that `clap` is given: one subcommand, which takes so many texts.
use Rattle.std.specs.Prelude.{ℕ, true, List, [], Some, None, codes}
use Rattle.clap.specs.declared.builder.value_parser.Reading.TheVariants.{AsWritten}
use Rattle.clap.specs.declared.parser.matches.ValueSource.TheVariants.{CommandLine}
use Rattle.clap.specs.Walk.{Row, Rule, Text}
use Rattle.clap.specs.Simple.{App, new_app, new_rule, new_shape, with_rule, with_subcommand}
use Rattle.clap.specs.declared.builder.range.ValueRange.{ValueRange}
use Rattle.clap.specs.declared.builder.action.ArgAction.TheVariants.{Set}

-- just so many
abbrev pub just : ℕ → ValueRange
just count = record { start_inclusive = count; end_inclusive = count }

-- the argument that takes the texts
abbrev pub values_rule : ℕ → Rule
values_rule count = record (new_rule (codes "values")) {
  required = true;
  range = Some (just count);
  action = Some Set;
}

-- the program itself, without help
abbrev pub top_line : App
top_line = record {
  top = record (new_shape (codes "life")) {
    no_binary_name = true;
    disable_help_flag = true;
    disable_help_subcommand = true;
  };
  subs = [];
}

-- the command line of the command of this name
abbrev pub line_of : Text → ℕ → App
line_of name count = with_subcommand top_line (with_rule (new_app name) (values_rule count)).top

-- what is found for the argument, where it is given these texts
abbrev pub values_row : List Text → Row
values_row texts = record { id = codes "values"; values = texts; count = None; source = Some CommandLine; reading = AsWritten }
