use Rattle.std.proofs.Common.{ap}
use Rattle.mr_node_spec.specs.State.{NodeState}
use Rattle.mr_loop.specs.Hosts.{stage_in}
use Rattle.mr_loop.proofs.Living.{went_up}
use Rattle.mr_loop.proofs.Runs.{breaks_down}
use Rattle.mr_loop.proofs.host.Host.run.Goals as goal

pub returns-in-Ok-clause-up : goal.returns-in-Ok-clause-up
returns-in-Ok-clause-up g c = λ up. went_up c.in-Ok.ensures.went.went up

pub returns-in-Err-clause-went : goal.returns-in-Err-clause-went
returns-in-Err-clause-went g c = breaks_down c.in-Err.fault c.in-Err.ensures.went
    (record { is = ap (λ (n : NodeState). record (stage_in g.W.Wire.links g.W.Wire.failures g.F.LogFile.told g.F.LogFile.synced c.go_on.new.self) { node = n }) c.file_failed.ensures.stops })
