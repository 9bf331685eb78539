use Rattle.mr_inline.proofs.QuotedLines.{quoted_is_read}
use Rattle.mr_inline.specs.Limits.{line_limit}
use Rattle.mr_world_script.proofs.laws.quoted_words_say.Goals as goal

pub returns : goal.returns
returns c words said h fits = record { words = words; line = quoted_is_read line_limit words fits; says = h }
