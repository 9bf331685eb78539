use Rattle.std.proofs.Common.{sym}
use Rattle.mr_zset.specs.Pairs.{range_of}
use Rattle.mr_cmd_zset.proofs.Removals.{pairs_made, range_in}
use Rattle.mr_cmd_zset.proofs.removing.zremrangebyscore.Goals as goal

pub returns : goal.returns
returns c =
    let s = c.args.set.now in
    pairs_made c.args.key.now (range_of c.args.min c.args.max s) _ s _ _ _ (sym c.places-first.ensures.range) (range_in s c.args.min c.args.max) c.in_ok-reply.ensures.reply c.in_ok-reply.ensures.effects
