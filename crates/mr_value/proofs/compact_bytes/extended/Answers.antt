use Rattle.std.proofs.Common.{◌∙◌}
use Rattle.mr_value.proofs.Written.{overwritten_end}
use Rattle.mr_value.proofs.compact_bytes.extended.Goals as goal

pub returns-in-Some : goal.returns-in-Some
returns-in-Some c = c.of_short.ensures ∙ (c.in-Some.ensures ∙ overwritten_end c.args.bytes.now c.args.more.now)
