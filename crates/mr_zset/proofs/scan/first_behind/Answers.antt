use Rattle.std.proofs.Common.{arith}
use Rattle.std.specs.Prelude.{option_copied, option_map}
use Rattle.mr_zset.specs.Stored.{stored}
use Rattle.mr_zset.proofs.ScanLemmas.{none_nearer, one_nearer}
use Rattle.mr_zset.proofs.scan.first_behind.Goals as goal

pub loop-left-init : goal.loop-left-init
loop-left-init c = (omega (arith, c.len-left.ensures.len), none_nearer (option_copied c.args.last) c.args.pairs.now c.len-left.result c.len-left.ensures.len)

pub loop-left-preserved : goal.loop-left-preserved
loop-left-preserved c = (
  omega (arith, c.loop-left.invariant.0),
  one_nearer c.args.pairs.now c.loop-left.left c.item.result.now c.loop-left-test.true c.loop-left.invariant.0 c.item.ensures (option_copied c.args.last)
      (option_map stored (option_copied c.loop-left.first)) (option_map stored (option_copied c.nearer-first.result)) c.loop-left.invariant.1 c.nearer-first.ensures,
)
