use Rattle.mr_loop.proofs.Writes.{still_then}
use Rattle.mr_loop.proofs.host.Host.send_all.Goals as goal

pub returns-clause-went : goal.returns-clause-went
returns-clause-went g c = still_then c.commit.ensures.same.mode c.in_ok-commit.ensures.went c.write_all.ensures.went
