use Rattle.mr_cmd_zset.proofs.Adds.{adds_made}
use Rattle.mr_cmd_zset.proofs.adding.zadd.Goals as goal

pub returns : goal.returns
returns c = adds_made c.args.key.now c.args.set.now _ c.in_ok-scores.scores _ _ _ _ _ c.count.ensures c.in_ok-scores.ensures.count c.in_ok-scores.ensures.scores c.in_ok-push_changed.ensures
