use Rattle.std.proofs.Common.{rules}
use Rattle.mr_loop.proofs.Writes.{still_then}
use Rattle.mr_loop.proofs.host.Host.finish.Goals as goal

pub returns-clause-went : goal.returns-clause-went
returns-clause-went g c = still_then c.send_all.ensures.same.mode c.in_ok-send_all.ensures.went (search rules)
