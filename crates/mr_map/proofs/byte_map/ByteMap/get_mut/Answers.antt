use Rattle.std.proofs.Common.{inr}
use Rattle.mr_map.proofs.Parted.{none_got}
use Rattle.mr_map.proofs.byte_map.ByteMap.get_mut.Goals as goal

pub returns-in-None : goal.returns-in-None
returns-in-None g c = (
  (λ i. inr (c.self.view_is i)),
  record { writes_back = tt; value = none_got c.self.inside.trees c.args.self.now c.self.view_is c.in-None.is c.args.key.now },
)
