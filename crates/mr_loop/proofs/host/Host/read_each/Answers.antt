use Rattle.std.proofs.Common.{rules, ◌≡◌, Bool, ◌||◌, Err, subst}
use Rattle.mr_loop.proofs.Rounds.{InReads, reads_begin, reads_broke, reads_on}
use Rattle.mr_loop.proofs.host.Host.read_each.Goals as goal

pub loop-index-init : goal.loop-index-init
loop-index-init g c = reads_begin g.W.Wire.tells g.W.Wire.links g.W.Wire.failures g.W.Wire.waited g.F.LogFile.failures g.F.LogFile.told g.F.LogFile.synced g.S.Source.drawn c.args.self.now

pub returns-in_err-left-clause-went : goal.returns-in_err-left-clause-went
returns-in_err-left-clause-went g c =
    let why = c.in_err-left.field-0.0 in
    let told : c.from_residual.result ≡ Err why = search rules in
    reads_broke g.W.Wire.tells g.W.Wire.links g.W.Wire.failures g.W.Wire.waited g.F.LogFile.failures g.F.LogFile.told g.F.LogFile.synced g.S.Source.drawn c.loop-index.more c.args.self.now c.loop-index.self c.read_at.new.self c.from_residual.result why told c.loop-index.invariant c.in_err-left.ensures.went

pub loop-index-preserved : goal.loop-index-preserved
loop-index-preserved g c =
    let went = reads_on g.W.Wire.tells g.W.Wire.links g.W.Wire.failures g.W.Wire.waited g.F.LogFile.failures g.F.LogFile.told g.F.LogFile.synced g.S.Source.drawn c.loop-index.more c.in_ok-left.left c.args.self.now c.loop-index.self c.read_at.new.self c.loop-index.invariant c.in_ok-left.ensures.went c.read_at.ensures.same c.in_ok-left.ensures.quiet in
    let either : c.loop-index.more || c.in_ok-left.left ≡ c.if-more.more = search rules in
    subst (λ (more : Bool). InReads g.W.Wire.tells g.W.Wire.links g.W.Wire.failures g.W.Wire.waited g.F.LogFile.failures g.F.LogFile.told g.F.LogFile.synced g.S.Source.drawn more c.args.self.now c.read_at.new.self) either went
