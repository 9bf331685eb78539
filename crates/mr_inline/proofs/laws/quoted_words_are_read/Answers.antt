use Rattle.mr_inline.proofs.QuotedLines.{quoted_is_read}
use Rattle.mr_inline.proofs.laws.quoted_words_are_read.Goals as goal

pub returns : goal.returns
returns c = quoted_is_read
