use Rattle.std.proofs.Common.{ap, subst, sym, ◌∙◌}
use Rattle.mr_loop.specs.Stage.{LoopState}
use Rattle.mr_loop.proofs.Writes.{HasWritten, written_first, written_on, written_own}
use Rattle.mr_loop.proofs.host.Host.write_all.Goals as goal
use Rattle.mr_loop.proofs.host.Host.write_all.Goals.{in-Some, in_default}

pub loop-index-init : goal.loop-index-init
loop-index-init g c = written_first g.W.Wire.tells g.W.Wire.links g.W.Wire.failures g.W.Wire.waited g.F.LogFile.failures g.F.LogFile.told g.F.LogFile.synced g.S.Source.drawn c.args.self.now c.requires

pub write_pieces-requires : goal.write_pieces-requires
write_pieces-requires g c = c.loop-index.invariant.batch

pub loop-index-preserved : goal.loop-index-preserved
loop-index-preserved g c = elim c.match-noted_at.branch [
  | in-Some w ↦ subst (HasWritten g.W.Wire.tells g.W.Wire.links g.W.Wire.failures g.W.Wire.waited g.F.LogFile.failures g.F.LogFile.told g.F.LogFile.synced g.S.Source.drawn c.args.self.now) (sym w.self-is)
      (written_on g.W.Wire.tells g.W.Wire.links g.W.Wire.failures g.W.Wire.waited g.F.LogFile.failures g.F.LogFile.told g.F.LogFile.synced g.S.Source.drawn c.args.self.now c.loop-index.self w.write_pieces.new.self c.loop-index.invariant (record {
        went = w.write_pieces.ensures.went;
        same = w.write_pieces.ensures.same;
        batch = w.write_pieces.ensures.batch;
        moment = w.write_pieces.ensures.moment;
        core = w.write_pieces.ensures.core;
        quiet = w.write_pieces.ensures.quiet;
      }))
  | in_default w ↦ subst (HasWritten g.W.Wire.tells g.W.Wire.links g.W.Wire.failures g.W.Wire.waited g.F.LogFile.failures g.F.LogFile.told g.F.LogFile.synced g.S.Source.drawn c.args.self.now) (sym w.self-is) c.loop-index.invariant
]

pub returns-clause-went : goal.returns-clause-went
returns-clause-went g c = (written_own g.W.Wire.tells g.W.Wire.links g.W.Wire.failures g.W.Wire.waited g.F.LogFile.failures g.F.LogFile.told g.F.LogFile.synced g.S.Source.drawn c.args.self.now c.loop-index.self c.forget_noted.new.self c.forget_noted.ensures c.loop-index.invariant).went

pub returns-clause-same : goal.returns-clause-same
returns-clause-same g c = (written_own g.W.Wire.tells g.W.Wire.links g.W.Wire.failures g.W.Wire.waited g.F.LogFile.failures g.F.LogFile.told g.F.LogFile.synced g.S.Source.drawn c.args.self.now c.loop-index.self c.forget_noted.new.self c.forget_noted.ensures c.loop-index.invariant).same

pub returns-clause-batch : goal.returns-clause-batch
returns-clause-batch g c = ap (λ (o : LoopState). o.batch) c.forget_noted.ensures ∙ c.loop-index.invariant.batch

pub returns-clause-moment : goal.returns-clause-moment
returns-clause-moment g c = c.loop-index.invariant.moment

pub returns-clause-quiet : goal.returns-clause-quiet
returns-clause-quiet g c = c.loop-index.invariant.quiet

pub returns-clause-core : goal.returns-clause-core
returns-clause-core g c = c.loop-index.invariant.core
