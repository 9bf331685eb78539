use Rattle.mr_loop.proofs.Writes.{written_first, written_on}
use Rattle.mr_loop.proofs.host.Host.write_pieces.Goals as goal

pub loop-init : goal.loop-init
loop-init g c = written_first g.W.Wire.tells g.W.Wire.links g.W.Wire.failures g.W.Wire.waited g.F.LogFile.failures g.F.LogFile.told g.F.LogFile.synced g.S.Source.drawn c.args.self.now c.requires

pub loop-preserved : goal.loop-preserved
loop-preserved g c =
    let wrote = c.write_once.ensures in
    written_on g.W.Wire.tells g.W.Wire.links g.W.Wire.failures g.W.Wire.waited g.F.LogFile.failures g.F.LogFile.told g.F.LogFile.synced g.S.Source.drawn c.args.self.now c.loop.self c.write_once.new.self c.loop.invariant
    (record { went = wrote.went; same = wrote.same; batch = wrote.batch; moment = wrote.moment; core = wrote.core; quiet = wrote.quiet })

pub returns-in-Some : goal.returns-in-Some
returns-in-Some g c =
    let wrote = c.write_once.ensures in
    let all = written_on g.W.Wire.tells g.W.Wire.links g.W.Wire.failures g.W.Wire.waited g.F.LogFile.failures g.F.LogFile.told g.F.LogFile.synced g.S.Source.drawn c.args.self.now c.loop.self c.write_once.new.self c.loop.invariant
    (record { went = wrote.went; same = wrote.same; batch = wrote.batch; moment = wrote.moment; core = wrote.core; quiet = wrote.quiet }) in
    record { went = all.went; same = all.same; batch = all.batch; moment = all.moment; core = all.core; quiet = all.quiet }
