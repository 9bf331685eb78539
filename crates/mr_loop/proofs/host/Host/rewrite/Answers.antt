use Rattle.std.proofs.Common.{[], refl}
use Rattle.mr_loop.specs.Hosts.{stage_in}
use Rattle.mr_loop.proofs.host.Host.rewrite.Goals as goal

pub returns-in-Ok-clause-carried : goal.returns-in-Ok-clause-carried
returns-in-Ok-clause-carried g c = (_, record { written = c.in-Ok.ensures.ok; synced = c.in-Ok.ensures.synced; own = c.clear_batch.ensures; node = refl; wire = refl; failed = refl }, refl)

-- nothing was carried out before
pub returns-in-Err-clause-carried : goal.returns-in-Err-clause-carried
returns-in-Err-clause-carried g c = record {
  done = [];
  bytes = c.args.whole.now;
  rest = [];
  are = refl;
  before = stage_in g.W.Wire.links g.W.Wire.failures g.F.LogFile.told g.F.LogFile.synced c.args.self.now;
  carried = refl;
  written = c.in-Err.ensures.err;
  own = refl;
  node = refl;
  wire = refl;
  failed = refl;
}
