use Rattle.std.proofs.Common.{rules, ◌≡◌, ap, refl, subst, sym}
use Rattle.mr_loop.specs.Hosts.{moment_in, stage_in}
use Rattle.mr_loop.specs.Rows.{misses_dial}
use Rattle.mr_loop.specs.Stage.{LoopState, stage}
use Rattle.mr_wire.specs.Wire.{Connects}
use Rattle.mr_loop.proofs.Arrivals.{failed_row, from_own}
use Rattle.mr_loop.proofs.Runs.{stays_still, still_here, still_one}
use Rattle.mr_loop.proofs.host.Host.dial.Goals as goal

pub returns-then-not-waits-clause-went : goal.returns-then-not-waits-clause-went
returns-then-not-waits-clause-went g c =
    let s = c.args.self.now in
    stays_still (moment_in g.S.Source.drawn s) (moment_in g.S.Source.drawn s) _ _ (ap (λ (o : LoopState). stage s.node.now o (g.W.Wire.links s.wire.now) (g.W.Wire.failures s.wire.now) (g.F.LogFile.told s.log.now.file) (g.F.LogFile.synced s.log.now.file)) c.note_role.ensures) refl

pub returns-then-not-may_dial-clause-went : goal.returns-then-not-may_dial-clause-went
returns-then-not-may_dial-clause-went g c = still_here _ _

pub returns-in_default-clause-went : goal.returns-in_default-clause-went
returns-in_default-clause-went g c = still_here _ _

pub returns-in-Ok-clause-went : goal.returns-in-Ok-clause-went
returns-in-Ok-clause-went g c =
    let s = c.args.self.now in
    let host : c.host.result.now ≡ c.in-Some.address.now.host = search rules in
    let port : c.port.result ≡ c.in-Some.address.now.port = search rules in
    let before = g.W.Wire.links s.wire.now in
    let after = g.W.Wire.links c.connect.new.self in
    let came = subst (λ h. Connects before h c.in-Some.address.now.port c.in-Ok.socket after) host (subst (λ p. Connects before c.host.result.now p c.in-Ok.socket after) port c.in-Ok.ensures.ok) in
    from_own g.W.Wire.tells s.log.now.mode c.dial_on.result (moment_in g.S.Source.drawn s) (moment_in g.S.Source.drawn c.dial_on.new.self) (stage_in g.W.Wire.links g.W.Wire.failures g.F.LogFile.told g.F.LogFile.synced s) _ c.note_dial.new.self c.note_dial.ensures
    (c.dial_on.ensures.went before (g.W.Wire.failures s.wire.now) c.in-Some.address.now (sym c.in-Some.ensures) came c.in-Ok.ensures.later)

pub returns-in-Err-clause-went : goal.returns-in-Err-clause-went
returns-in-Err-clause-went g c =
    let moment = moment_in g.S.Source.drawn c.args.self.now in
    still_one misses_dial moment moment refl refl refl refl refl refl refl refl (λ ids. refl) (failed_row c.in-Err.ensures.err c.in-Err.ensures.cause c.in-Err.ensures.later refl c.note_dial.ensures (refl, refl)) refl
