use Rattle.std.proofs.Common.{arith}
use Rattle.mr_glob.proofs.PlaceLemmas.{plain_before}
use Rattle.mr_glob.proofs.pattern.place.plain_segment.Goals as goal

pub returns-in-42 : goal.returns-in-42
returns-in-42 c = plain_before c.args.pattern.now c.loop-place.place (omega arith) c.loop-place.invariant
