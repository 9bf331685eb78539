use Rattle.std.proofs.Common.{rules, ◌≡◌, ap, refl}
use Rattle.mr_wire.specs.Wire.{WireState}
use Rattle.mr_loop.specs.Stage.{stage}
use Rattle.mr_loop.specs.Rows.{turns_away, waits}
use Rattle.mr_loop.specs.Hosts.{moment_in}
use Rattle.mr_loop.proofs.Arrivals.{failed_row}
use Rattle.mr_loop.specs.Counting.{accepts_by}
use Rattle.mr_loop.proofs.Runs.{reaches_still, still_one}
use Rattle.mr_loop.proofs.host.Host.accept_next.Goals as goal

pub returns-in-Ok-None-clause-went : goal.returns-in-Ok-None-clause-went
returns-in-Ok-None-clause-went g c =
    let s = c.args.self.now in
    let same : g.W.Wire.links c.accept.new.self ≡ g.W.Wire.links s.wire.now = search rules in
    let moment = moment_in g.S.Source.drawn s in
    reaches_still accepts_by 1 (still_one waits moment moment refl refl refl refl refl refl refl refl (λ ids. refl) (record {
      later = c.accept.ensures.later;
      is = ap (λ (w : WireState). stage s.node.now s.own.now w (g.W.Wire.failures c.accept.new.self) (g.F.LogFile.told s.log.now.file) (g.F.LogFile.synced s.log.now.file)) same;
    }) refl)

pub returns-in-Err-clause-went : goal.returns-in-Err-clause-went
returns-in-Err-clause-went g c =
    let moment = moment_in g.S.Source.drawn c.args.self.now in
    reaches_still accepts_by 1 (still_one turns_away moment moment refl refl refl refl refl refl refl refl (λ ids. refl) (failed_row c.in-Err.ensures.err c.in-Err.ensures.cause c.in-Err.ensures.later refl refl (refl, refl)) refl)
