use Rattle.std.proofs.Common.{◌≡◌}
use Rattle.mr_node_output.specs.Outs.{outs_of}
use Rattle.mr_loop.specs.Hosts.{IsSame, moment_in, stage_in}
use Rattle.mr_loop.specs.Carrying.{SoFar}
use Rattle.mr_loop.proofs.host.Host.carry_out.Given as goal

-- some outs are carried out, and the others are left
abbrev pub invariant-loop-out : goal.invariant-loop-out
invariant-loop-out g l =
    let on = stage_in g.W.Wire.links g.W.Wire.failures g.F.LogFile.told g.F.LogFile.synced in
    SoFar (outs_of l.fn.outs) l.out-iterator (on l.fn.self) (on l.self) × (moment_in g.S.Source.drawn l.self ≡ moment_in g.S.Source.drawn l.fn.self) × IsSame g.W.Wire.waited g.F.LogFile.failures l.fn.self l.self
