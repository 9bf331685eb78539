use Rattle.std.proofs.Common.{rules, ◌≡◌, ◌≤◌, [], ◌∷◌, Bool, true, Result, Ok, Err, arith, ap, refl, sym, subst, ◌∙◌}
use Rattle.mr_node.specs.Calls.{OpenRow}
use Rattle.mr_wire.specs.Wire.{new_link}
use Rattle.mr_loop.specs.declared.fault.LoopFault.{LoopFault}
use Rattle.mr_loop.specs.declared.fault.LoopFault.TheVariants as fault
use Rattle.mr_loop.specs.declared.lacking.Asked.TheVariants as asked
use Rattle.mr_loop.specs.Stage.{LoopState, losing}
use Rattle.mr_loop.specs.Causes.{opens_and_closes, stays, stops_at_open}
use Rattle.mr_loop.specs.Rows.{joins, stops, turns_away}
use Rattle.mr_loop.specs.Hosts.{moment_in}
use Rattle.mr_loop.proofs.Same.{goes_still}
use Rattle.mr_loop.proofs.Arrivals.{closed_again, full_row, lacks_row}
use Rattle.mr_loop.specs.Counting.{accepts_by}
use Rattle.mr_loop.proofs.Runs.{broke_one, reaches_one, still_broke, still_one}
use Rattle.mr_loop.proofs.Supplying.{tells_none}
use Rattle.mr_loop.proofs.Waiting.{all_is, closed_all, opened_all}
use Rattle.mr_loop.proofs.host.Host.join.Goals as goal

pub returns-in-Ok-join-clause-went : goal.returns-in-Ok-join-clause-went
returns-in-Ok-join-clause-went g c = λ before failed came later.
    let moment = moment_in g.S.Source.drawn c.args.self.now in
    reaches_one accepts_by true (joins c.args.socket c.in-Ok.link) moment moment refl refl refl refl refl refl refl refl (λ ids. refl) (record {
      wire = came;
      later = later;
      node = c.in-Ok.ensures.1;
      fresh = c.in-Ok-join.ensures.fresh;
      connections = ap (λ (o : LoopState). o.connections) c.in-Ok-join.ensures.joined;
      batch = ap (λ (o : LoopState). o.batch) c.in-Ok-join.ensures.joined;
      halted = ap (λ (o : LoopState). o.halted) c.in-Ok-join.ensures.joined;
      hurries = ap (λ (o : LoopState). o.hurries) c.in-Ok-join.ensures.joined;
      lacked = ap (λ (o : LoopState). o.lacked) c.in-Ok-join.ensures.joined;
      file = (refl, refl);
    }) refl (omega arith)

pub returns-in-Ok-join-clause-quiet : goal.returns-in-Ok-join-clause-quiet
returns-in-Ok-join-clause-quiet g c = λ q. opened_all c.in-Ok.ensures.1 q

pub returns-in-Err-join-clause-went : goal.returns-in-Err-join-clause-went
returns-in-Err-join-clause-went g c = λ before failed came later.
    let moment = moment_in g.S.Source.drawn c.args.self.now in
    reaches_one accepts_by true turns_away moment moment refl refl refl refl refl refl refl refl (λ ids. refl)
    (lacks_row
    (closed_again before (g.W.Wire.links c.args.self.now.wire.now) (g.W.Wire.links c.close-in-Err-join.new.self) c.args.socket new_link came c.close-in-Err-join.ensures.closed c.close-in-Err-join.ensures.opened c.close-in-Err-join.ensures.sent)
    (subst (λ k. failed ≤ k) (sym c.close-in-Err-join.ensures.failures) later) (opens_and_closes c.open.new.self c.in-Ok.link c.in-Ok.ensures.1 c.close.ensures) (c.lose.ensures ∙ ap (losing asked.Accept) c.in-Err-join.ensures.err) (refl, refl)) refl (omega arith)

pub returns-in-Err-join-clause-quiet : goal.returns-in-Err-join-clause-quiet
returns-in-Err-join-clause-quiet g c = λ q. all_is c.close.ensures (closed_all c.in-Ok.link c.open.new.self (opened_all c.in-Ok.ensures.1 q))

pub returns-in-Err-Stopped-clause-went : goal.returns-in-Err-Stopped-clause-went
returns-in-Err-Stopped-clause-went g c = λ before failed came later.
    let moment = moment_in g.S.Source.drawn c.args.self.now in
    let is = c.in-Err-Stopped.is ∙ ap Err c.in-Err-Stopped.field-0-is in
    let row = subst (OpenRow c.args.self.now.node.now c.open.new.self) is c.open.ensures in
    still_broke (still_one turns_away moment moment refl refl refl refl refl refl refl refl (λ ids. refl)
    (full_row c.open.new.self
    (closed_again before (g.W.Wire.links c.args.self.now.wire.now) (g.W.Wire.links c.close-in-Err-Stopped.new.self) c.args.socket new_link came c.close-in-Err-Stopped.ensures.closed c.close-in-Err-Stopped.ensures.opened c.close-in-Err-Stopped.ensures.sent)
    (subst (λ k. failed ≤ k) (sym c.close-in-Err-Stopped.ensures.failures) later) row refl refl (refl, refl)) refl)
    (broke_one (stops stops_at_open) (c.args.self.now.moment.fresh ∷ []) refl refl (tells_none refl) (record { why = row; own = refl; wire = refl; failed = refl; file = (refl, refl) }))

no_fault : ◌≡◌ {A = Result Bool LoopFault} (Ok true) (Err fault.File) → ⊥
no_fault e = cc

pub returns-in-Err : goal.returns-in-Err
returns-in-Err g c =
    let moment = moment_in g.S.Source.drawn c.args.self.now in
    let same : c.open.new.self ≡ c.args.self.now.node.now = search rules in
    record {
      went = λ before failed came later. reaches_one accepts_by true turns_away moment moment refl refl refl refl refl refl refl refl (λ ids. refl)
          (lacks_row
          (closed_again before (g.W.Wire.links c.args.self.now.wire.now) (g.W.Wire.links c.close-in-Err.new.self) c.args.socket new_link came c.close-in-Err.ensures.closed c.close-in-Err.ensures.opened c.close-in-Err.ensures.sent)
          (subst (λ k. failed ≤ k) (sym c.close-in-Err.ensures.failures) later) (stays same) c.lose-in-Err.ensures (refl, refl)) refl (omega arith);
      same = record { node = refl; own = refl; wire = refl; log = refl; source = refl; mode = refl; goes = goes_still _; wait_stays = c.close-in-Err.ensures.waited };
      device = λ e. absurd (no_fault e);
      quiet = λ q. all_is same q;
    }
