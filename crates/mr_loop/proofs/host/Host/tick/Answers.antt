use Rattle.std.proofs.Common.{rules, ◌≡◌, ◌∙◌, [], ◌∷◌, Err, refl, sym, ap, subst, inl, inr, arith}
use Rattle.mr_node_output.specs.Outs.{outs_of}
use Rattle.mr_source.specs.Drawn.{with_moment}
use Rattle.mr_node.specs.Calls.{TickStep}
use Rattle.mr_node.specs.declared.fault.NodeFault.TheVariants as refusal
use Rattle.mr_loop.specs.Causes.{at_tick, stops_at_tick}
use Rattle.mr_loop.specs.Counting.{IsTickDue, MomentState}
use Rattle.mr_loop.specs.Going.{TicksAs}
use Rattle.mr_loop.specs.Hosts.{moment_in, stage_in}
use Rattle.mr_loop.specs.Rows.{stops}
use Rattle.mr_loop.specs.Stage.{LoopState}
use Rattle.mr_loop.proofs.Same.{goes_still}
use Rattle.mr_loop.proofs.Outs.{not_told}
use Rattle.mr_loop.proofs.Runs.{broke_one}
use Rattle.mr_loop.proofs.Supplying.{renewed_none, tells_one}
use Rattle.mr_loop.proofs.Taking.{tick_takes}
use Rattle.mr_loop.proofs.Ticks.{misses_once, missed_due, missed_same, missed_up, more_due, ticks_once}
use Rattle.mr_loop.proofs.Waiting.{all_is, carried_all, ticked_all}
use Rattle.mr_loop.proofs.host.Host.tick.Goals as goal

pub returns-in_err-take-in-Ok-clause-went : goal.returns-in_err-take-in-Ok-clause-went
returns-in_err-take-in-Ok-clause-went g c =
    let s = stage_in g.W.Wire.links g.W.Wire.failures g.F.LogFile.told g.F.LogFile.synced c.args.self.now in
    let t = stage_in g.W.Wire.links g.W.Wire.failures g.F.LogFile.told g.F.LogFile.synced c.take.new.self in
    let why = c.in_err-take-in-Ok.field-0.0 in
    let told : c.from_residual.result ≡ Err why = search rules in
    subst (λ r. TicksAs g.W.Wire.tells g.W.Wire.links g.W.Wire.failures g.F.LogFile.told g.F.LogFile.synced g.S.Source.drawn r c.args.self.now c.take.new.self) (sym told)
    (not_told (c.args.self.now.moment.fresh ∷ []) (c.args.self.now.moment.fresh ∷ []) (at_tick c.given-given.result) s (record s { node = c.tick.new.self }) t c.in-Ok.outs why
    (tick_takes s.node c.tick.new.self c.given-given.result.now c.in-Ok.outs c.in-Ok.ensures, refl)
    (tells_one c.given-given.ensures.forward (ap (λ (m : MomentState). m.drawn) c.in_err-take-in-Ok.ensures.kept ∙ c.given-given.ensures.drawn))
    (record { row = c.in-Ok.ensures; sound = c.sound.ensures; same = refl }) c.in_err-take-in-Ok.ensures.carried)

pub returns-in_ok-take-in-Ok-clause-went : goal.returns-in_ok-take-in-Ok-clause-went
returns-in_ok-take-in-Ok-clause-went g c =
    let s = stage_in g.W.Wire.links g.W.Wire.failures g.F.LogFile.told g.F.LogFile.synced c.args.self.now in
    let t = stage_in g.W.Wire.links g.W.Wire.failures g.F.LogFile.told g.F.LogFile.synced c.take.new.self in
    let now = c.given-given.result.now in
    let old = moment_in g.S.Source.drawn c.args.self.now in
    let mid : MomentState = record old { drawn = g.S.Source.drawn c.given-given.new.source } in
    let new = moment_in g.S.Source.drawn c.take.new.self in
    let one : mid ≡ record old { drawn = with_moment now old.drawn } = ap (λ d. record old { drawn = d }) c.given-given.ensures.drawn in
    let still = renewed_none c.in-Ok.outs.used mid new (tick_takes s.node c.tick.new.self now c.in-Ok.outs c.in-Ok.ensures) c.in_ok-take-in-Ok.ensures.moment in
    let clock : new.drawn.clock ≡ now = ap (λ (m : MomentState). m.drawn.clock) (still ∙ one) in record {
      missed = 0;
      went = ticks_once s t c.tick.new.self c.given-given.result c.in-Ok.outs old mid new c.in-Ok.ensures c.sound.ensures c.in_ok-take-in-Ok.ensures.carried c.given-given.ensures.forward one c.in_ok-take-in-Ok.ensures.moment;
      keeps_up = λ due. inl (more_due s t c.tick.new.self now c.in-Ok.outs c.has_deleted-more.result c.in-Ok.ensures c.in_ok-take-in-Ok.ensures.carried c.has_deleted-more.ensures (subst (λ x. IsTickDue x t.node) clock due));
      goes_on = λ more. refl;
    }

pub returns-in_ok-take-in-Ok-clause-quiet : goal.returns-in_ok-take-in-Ok-clause-quiet
returns-in_ok-take-in-Ok-clause-quiet g c = λ q.
    let s = stage_in g.W.Wire.links g.W.Wire.failures g.F.LogFile.told g.F.LogFile.synced c.args.self.now in
    let t = stage_in g.W.Wire.links g.W.Wire.failures g.F.LogFile.told g.F.LogFile.synced c.take.new.self in
    carried_all (outs_of c.in-Ok.outs) (record s { node = c.tick.new.self }) t c.in_ok-take-in-Ok.ensures.carried (ticked_all c.in-Ok.ensures q)

pub returns-in-Err-Stopped-clause-went : goal.returns-in-Err-Stopped-clause-went
returns-in-Err-Stopped-clause-went g c =
    let row = subst (λ e. TickStep c.args.self.now.node.now c.given-given.result.now c.tick.new.self (Err e)) c.in-Err-Stopped.field-0-is c.in-Err-Stopped.ensures in
    broke_one (stops (stops_at_tick c.given-given.result)) (c.args.self.now.moment.fresh ∷ []) refl refl (tells_one c.given-given.ensures.forward c.given-given.ensures.drawn) (record { why = (row.0, row.1); own = refl; wire = refl; failed = refl; file = (refl, refl) })

pub returns-in-Err : goal.returns-in-Err
returns-in-Err g c =
    let s = stage_in g.W.Wire.links g.W.Wire.failures g.F.LogFile.told g.F.LogFile.synced c.args.self.now in
    let old = moment_in g.S.Source.drawn c.args.self.now in
    let other : c.in-Err._refused ≡ refusal.Stopped → ⊥ = search rules in
    let same : c.tick.new.self ≡ c.args.self.now.node.now = missed_same c.args.self.now.node.now c.tick.new.self c.given-given.result.now c.in-Err._refused other c.in-Err.ensures in
    record {
      went = record {
        missed = 1;
        went = misses_once s (record s { node = c.tick.new.self; own = c.lack.new.self }) c.given-given.result old (record old { drawn = g.S.Source.drawn c.given-given.new.source }) c.given-given.ensures.forward
            (ap (λ d. record old { drawn = d }) c.given-given.ensures.drawn) (record {
              up = missed_up c.args.self.now.node.now c.tick.new.self c.given-given.result.now c.in-Err._refused other c.in-Err.ensures;
              due = missed_due c.args.self.now.node.now c.tick.new.self c.given-given.result.now c.in-Err._refused other c.in-Err.ensures;
              is = ap (λ n. record s { node = n; own = c.lack.new.self }) same ∙ ap (λ (o : LoopState). record s { own = o }) c.lack.ensures;
            });
        keeps_up = λ due. inr (omega arith);
        goes_on = λ e. cc;
      };
      same = record { node = refl; own = refl; wire = refl; log = refl; source = refl; mode = refl; goes = goes_still _; wait_stays = refl };
      device = λ e. cc;
      quiet = λ q. all_is same q;
    }
