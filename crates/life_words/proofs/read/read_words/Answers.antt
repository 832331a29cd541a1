use Rattle.std.proofs.Common.{◌∙◌, sym}
use Rattle.life_words.proofs.Beginning.{begin_with_first}
use Rattle.life_words.proofs.read.read_words.Goals as goal

pub read_command-requires : goal.read_command-requires
read_command-requires c = begin_with_first c.args.words.now _ c.as_str.result.now c.in-len1-up.len_at_least c.first-item.is c.as_str.ensures.value (sym c.first_dash.ensures ∙ c.in_default-first_dash.is)
