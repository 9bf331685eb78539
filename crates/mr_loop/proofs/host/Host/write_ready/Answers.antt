use Rattle.std.proofs.Common.{ap, ◌∙◌}
use Rattle.mr_node_spec.specs.LinkRows.{closed_at}
use Rattle.mr_loop.proofs.Writes.{moved_on, still_then, writes_first, writes_on}
use Rattle.mr_loop.proofs.Same.{same_on}
use Rattle.mr_loop.proofs.host.Host.write_ready.Goals as goal

pub loop-init : goal.loop-init
loop-init g c = writes_first g.W.Wire.tells g.W.Wire.links g.W.Wire.failures g.W.Wire.waited g.F.LogFile.failures g.F.LogFile.told g.F.LogFile.synced g.S.Source.drawn c.args.socket c.args.link c.args.self.now c.requires.filed c.requires.has

pub write_once-requires : goal.write_once-requires
write_once-requires g c = c.loop.invariant.batch

pub returns-in-Nothing-clause-went : goal.returns-in-Nothing-clause-went
returns-in-Nothing-clause-went g c = still_then c.loop.invariant.same.mode c.loop.invariant.went c.write_once.ensures.went

pub returns-in-Nothing-clause-same : goal.returns-in-Nothing-clause-same
returns-in-Nothing-clause-same g c = same_on c.args.self.now c.loop.self c.write_once.new.self c.loop.invariant.same c.write_once.ensures.same

pub returns-in-Nothing-clause-moment : goal.returns-in-Nothing-clause-moment
returns-in-Nothing-clause-moment g c = c.write_once.ensures.moment ∙ c.loop.invariant.moment

pub returns-in-Nothing-clause-there : goal.returns-in-Nothing-clause-there
returns-in-Nothing-clause-there g c = λ there. let wrote = c.in-Nothing.ensures.wrote c.args.link c.loop.invariant.has in (wrote.0 ∙ c.loop.invariant.node, wrote.1)

pub returns-in-Gone-clause-went : goal.returns-in-Gone-clause-went
returns-in-Gone-clause-went g c = still_then c.loop.invariant.same.mode c.loop.invariant.went c.write_once.ensures.went

pub returns-in-Gone-clause-same : goal.returns-in-Gone-clause-same
returns-in-Gone-clause-same g c = same_on c.args.self.now c.loop.self c.write_once.new.self c.loop.invariant.same c.write_once.ensures.same

pub returns-in-Gone-clause-moment : goal.returns-in-Gone-clause-moment
returns-in-Gone-clause-moment g c = c.write_once.ensures.moment ∙ c.loop.invariant.moment

pub returns-in-Gone-clause-gone : goal.returns-in-Gone-clause-gone
returns-in-Gone-clause-gone g c = λ gone. c.in-Gone.ensures.wrote c.args.link c.loop.invariant.has ∙ ap (closed_at c.args.link) c.loop.invariant.node

pub loop-preserved : goal.loop-preserved
loop-preserved g c =
    let wrote = (moved_on g.W.Wire.tells c.write_once.result (g.W.Wire.links c.write_once.new.self.wire.now) c.args.socket c.args.link c.loop.self.node.now c.write_once.new.self.node.now c.loop.self.own.now c.write_once.new.self.own.now c.in-Whole.is (c.write_once.ensures.wrote c.args.link c.loop.invariant.has)) in
    writes_on g.W.Wire.tells g.W.Wire.links g.W.Wire.failures g.W.Wire.waited g.F.LogFile.failures g.F.LogFile.told g.F.LogFile.synced g.S.Source.drawn c.args.socket c.args.link c.args.self.now c.loop.self c.write_once.new.self c.loop.invariant (record {
      went = c.write_once.ensures.went;
      same = c.write_once.ensures.same;
      batch = c.write_once.ensures.batch;
      moment = c.write_once.ensures.moment;
      node = wrote.0;
      has = wrote.1;
    })

-- each write that goes on leaves less
pub loop-smaller : goal.loop-smaller
loop-smaller g c = (moved_on g.W.Wire.tells c.write_once.result (g.W.Wire.links c.write_once.new.self.wire.now) c.args.socket c.args.link c.loop.self.node.now c.write_once.new.self.node.now c.loop.self.own.now c.write_once.new.self.own.now c.in-Whole.is (c.write_once.ensures.wrote c.args.link c.loop.invariant.has)).2
