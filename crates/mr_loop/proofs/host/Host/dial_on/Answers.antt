use Rattle.std.proofs.Common.{rules, ◌≡◌, ◌≤◌, [], ◌∷◌, Err, ap, refl, sym, subst, ◌∙◌}
use Rattle.mr_node.specs.Calls.{DialRow}
use Rattle.mr_wire.specs.Wire.{asked_link}
use Rattle.mr_loop.specs.declared.fault.LoopFault.TheVariants as fault
use Rattle.mr_loop.specs.declared.lacking.Asked.TheVariants as asked
use Rattle.mr_loop.specs.Stage.{LoopState, losing, stage}
use Rattle.mr_loop.specs.Causes.{dials_and_closes, stays, stops_at_open}
use Rattle.mr_loop.specs.Rows.{misses_dial, stops}
use Rattle.mr_loop.specs.Hosts.{moment_in}
use Rattle.mr_loop.proofs.Same.{goes_still}
use Rattle.mr_loop.proofs.Arrivals.{closed_again, dialled_as, dialled_waits, full_row, lacks_row, ok_no_err}
use Rattle.mr_loop.proofs.Runs.{broke_one, still_broke, still_one}
use Rattle.mr_loop.proofs.Supplying.{tells_none}
use Rattle.mr_loop.proofs.Waiting.{all_is, closed_all, dialled_all}
use Rattle.mr_loop.proofs.host.Host.dial_on.Goals as goal

pub returns-in-Ok-join-clause-went : goal.returns-in-Ok-join-clause-went
returns-in-Ok-join-clause-went g c = λ before failed address told came later.
    let s = c.args.self.now in
    dialled_as g.W.Wire.tells s.log.now.mode c.take.result (moment_in g.S.Source.drawn s) (moment_in g.S.Source.drawn c.take.new.self) c.in-Ok.outs c.args.socket c.in-Ok.link
    (stage s.node.now s.own.now before failed (g.F.LogFile.told s.log.now.file) (g.F.LogFile.synced s.log.now.file))
    (stage c.dial.new.self c.join.new.self (g.W.Wire.links s.wire.now) (g.W.Wire.failures s.wire.now) (g.F.LogFile.told s.log.now.file) (g.F.LogFile.synced s.log.now.file)) _
    (record {
      address = address;
      told = told;
      connects = came;
      later = later;
      dials = c.in-Ok.ensures.1;
      sound = c.sound.ensures;
      fresh = c.in-Ok-join.ensures.fresh;
      connections = ap (λ (o : LoopState). o.connections) c.in-Ok-join.ensures.joined;
      batch = ap (λ (o : LoopState). o.batch) c.in-Ok-join.ensures.joined;
      halted = ap (λ (o : LoopState). o.halted) c.in-Ok-join.ensures.joined;
      hurries = ap (λ (o : LoopState). o.hurries) c.in-Ok-join.ensures.joined;
      lacked = ap (λ (o : LoopState). o.lacked) c.in-Ok-join.ensures.joined;
      file = (refl, refl);
    })
    c.take.ensures.carried c.take.ensures.moment c.take.ensures.kept

pub returns-in-Ok-join-clause-quiet : goal.returns-in-Ok-join-clause-quiet
returns-in-Ok-join-clause-quiet g c = λ q.
    let s = c.args.self.now in
    dialled_waits c.take.result c.in-Ok.outs c.in-Ok.link s.node.now
    (stage c.dial.new.self c.join.new.self (g.W.Wire.links s.wire.now) (g.W.Wire.failures s.wire.now) (g.F.LogFile.told s.log.now.file) (g.F.LogFile.synced s.log.now.file)) _
    c.in-Ok.ensures.1 c.take.ensures.carried q

pub returns-in-Err-join-clause-went : goal.returns-in-Err-join-clause-went
returns-in-Err-join-clause-went g c = λ before failed address told came later.
    let moment = moment_in g.S.Source.drawn c.args.self.now in
    still_one misses_dial moment moment refl refl refl refl refl refl refl refl (λ ids. refl)
    (lacks_row
    (closed_again before (g.W.Wire.links c.args.self.now.wire.now) (g.W.Wire.links c.close-in-Err-join.new.self) c.args.socket (asked_link came.0) came.2 c.close-in-Err-join.ensures.closed c.close-in-Err-join.ensures.opened c.close-in-Err-join.ensures.sent)
    (subst (λ k. failed ≤ k) (sym c.close-in-Err-join.ensures.failures) later) (dials_and_closes c.dial.new.self c.in-Ok.link c.in-Ok.outs c.in-Ok.ensures.1 c.sound.ensures c.close.ensures) (c.lose.ensures ∙ ap (losing asked.Dial) c.in-Err-join.ensures.err) (refl, refl)) refl

pub returns-in-Err-join-clause-quiet : goal.returns-in-Err-join-clause-quiet
returns-in-Err-join-clause-quiet g c = λ q. all_is c.close.ensures (closed_all c.in-Ok.link c.dial.new.self (dialled_all c.in-Ok.ensures.1 q))

pub returns-in-Err-Stopped-clause-went : goal.returns-in-Err-Stopped-clause-went
returns-in-Err-Stopped-clause-went g c = λ before failed address told came later.
    let moment = moment_in g.S.Source.drawn c.args.self.now in
    let is = c.in-Err-Stopped.is ∙ ap Err c.in-Err-Stopped.field-0-is in
    let row = subst (DialRow c.args.self.now.node.now c.dial.new.self) is c.dial.ensures in
    still_broke (still_one misses_dial moment moment refl refl refl refl refl refl refl refl (λ ids. refl)
    (full_row c.dial.new.self
    (closed_again before (g.W.Wire.links c.args.self.now.wire.now) (g.W.Wire.links c.close-in-Err-Stopped.new.self) c.args.socket (asked_link came.0) came.2 c.close-in-Err-Stopped.ensures.closed c.close-in-Err-Stopped.ensures.opened c.close-in-Err-Stopped.ensures.sent)
    (subst (λ k. failed ≤ k) (sym c.close-in-Err-Stopped.ensures.failures) later) row refl refl (refl, refl)) refl)
    (broke_one (stops stops_at_open) (c.args.self.now.moment.fresh ∷ []) refl refl (tells_none refl) (record { why = row; own = refl; wire = refl; failed = refl; file = (refl, refl) }))

pub returns-in-Err : goal.returns-in-Err
returns-in-Err g c =
    let moment = moment_in g.S.Source.drawn c.args.self.now in
    let same : c.dial.new.self ≡ c.args.self.now.node.now = search rules in
    record {
      went = λ before failed address told came later. still_one misses_dial moment moment refl refl refl refl refl refl refl refl (λ ids. refl)
          (lacks_row
          (closed_again before (g.W.Wire.links c.args.self.now.wire.now) (g.W.Wire.links c.close-in-Err.new.self) c.args.socket (asked_link came.0) came.2 c.close-in-Err.ensures.closed c.close-in-Err.ensures.opened c.close-in-Err.ensures.sent)
          (subst (λ k. failed ≤ k) (sym c.close-in-Err.ensures.failures) later) (stays same) c.lose-in-Err.ensures (refl, refl)) refl;
      same = record { node = refl; own = refl; wire = refl; log = refl; source = refl; mode = refl; goes = goes_still _; wait_stays = c.close-in-Err.ensures.waited };
      device = λ wrong. absurd (ok_no_err tt fault.File wrong);
      quiet = λ q. all_is same q;
    }
