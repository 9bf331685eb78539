use Rattle.std.proofs.Common.{bytes_eq, ap, ◌∙◌}
use Rattle.mr_node.proofs.Linking.{beat_is, ping_bytes}
use Rattle.mr_node.proofs.node.following.is_beat.Goals as goal

pub returns : goal.returns
returns c = c.eq.ensures ∙ ap (bytes_eq c.args.text.now) (ping_bytes ∙ beat_is)
