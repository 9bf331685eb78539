use Rattle.std.proofs.Common.{lit<}
use Rattle.mr_inline.specs.Limits.{word_limit, words_limit}
use Rattle.mr_resp.specs.Usual.{commands, commands-room}
use Rattle.mr_resp.proofs.LimitsLemmas.{same_limits}
use Rattle.mr_resp.proofs.limits.Limits.commands.Goals as goal

pub invariant_of-result : goal.invariant_of-result
invariant_of-result c = record { some_word = lit< tt; some_words = lit< tt; room = commands-room; small = lit< tt; small_word = lit< tt }

pub returns : goal.returns
unfolding commands
returns c = same_limits word_limit words_limit 18446744073709551615 _ _ _ _ _ _ _ _ _ _
