use Rattle.std.proofs.Common.{◌∙◌, ap, map}
use Rattle.mr_zset.specs.Pairs.{pair_cmp}
use Rattle.mr_zset.specs.Stored.{stored}
use Rattle.mr_zset.proofs.Cuts.{put_shown}
use Rattle.mr_zset.proofs.stored.put_in.Goals as goal

pub returns-clause-ok : goal.returns-clause-ok
returns-clause-ok c = ap (map stored) c.in_ok-insert.ensures.ok ∙ put_shown stored pair_cmp c.args.entry c.args.pairs.now
