use Rattle.std.proofs.Common.{rules, ◌≡◌, [], ◌∷◌, Ok, Err, refl, ap, subst, ◌∙◌}
use Rattle.mr_node_output.specs.Outs.{OutsState, outs_of}
use Rattle.mr_node.specs.Steps.{Steps}
use Rattle.mr_node.specs.declared.fault.NodeFault.TheVariants as refusal
use Rattle.mr_node.specs.declared.step.Step.TheVariants as step
use Rattle.mr_loop.specs.Causes.{Stepped, at_step, has, stops_at_step}
use Rattle.mr_loop.specs.Carrying.{Carried, CarriesAs}
use Rattle.mr_loop.specs.Counting.{MomentState, Renewed}
use Rattle.mr_loop.specs.Hosts.{moment_in, stage_in}
use Rattle.mr_loop.specs.Lacking.{asked_at}
use Rattle.mr_loop.specs.Stage.{losing}
use Rattle.mr_loop.specs.Rows.{idles, is_refused, stops}
use Rattle.mr_loop.proofs.Arrivals.{dropped_from}
use Rattle.mr_loop.proofs.Linked.{carried_linked}
use Rattle.mr_loop.proofs.Outs.{acts_less, counts_call, lacks_memory, never_closed, news_at, not_told, refused_all, steps_at, steps_once}
use Rattle.mr_loop.proofs.Same.{goes_still, same_on}
use Rattle.mr_loop.proofs.Runs.{breaks, broke_one}
use Rattle.mr_loop.proofs.Stepped.{done_others, idle_all}
use Rattle.mr_loop.proofs.Supplying.{given_none, gives_step, tells_one}
use Rattle.mr_loop.proofs.Taking.{step_takes}
use Rattle.mr_loop.proofs.Waiting.{carried_others}
use Rattle.mr_loop.proofs.host.Host.step.Goals as goal

pub returns-in_err-take-in-Ok-Done-clause-went : goal.returns-in_err-take-in-Ok-Done-clause-went
returns-in_err-take-in-Ok-Done-clause-went g c =
    let s = stage_in g.W.Wire.links g.W.Wire.failures g.F.LogFile.told g.F.LogFile.synced c.args.self.now in
    let t = stage_in g.W.Wire.links g.W.Wire.failures g.F.LogFile.told g.F.LogFile.synced c.take.new.self in
    let given = c.given-given.result in
    let fresh = c.fresh-fresh.result in
    let outs = c.in-Ok-Done.outs in
    let row = subst (λ r. Steps s.node c.args.link given fresh c.step.new.self r) (ap Ok c.in-Ok-Done.field-0-is) c.in-Ok-Done.ensures in
    let stepped : Stepped s.node c.args.link given fresh c.step.new.self (Ok (step.Done outs)) = record { input = c.requires.input; row = row; sound = c.sound.ensures } in
    let why = c.in_err-take-in-Ok-Done.field-0.0 in
    let told : c.from_residual.result ≡ Err why = search rules in
    let a = c.args.self.now in
    let takes = gives_step fresh a.moment.fresh outs.used [] c.fresh-fresh.ensures (step_takes s.node c.step.new.self c.args.link given fresh outs stepped) in
    breaks (moment_in g.S.Source.drawn a) (moment_in g.S.Source.drawn c.take.new.self) c.from_residual.result why told
    (not_told (a.moment.fresh ∷ []) takes.0 (at_step c.args.socket c.args.link given fresh c.news_of-news.result) s (record s { node = c.step.new.self }) t outs why takes.1 (tells_one c.given-given.ensures.forward (ap (λ (m : MomentState). m.drawn) c.in_err-take-in-Ok-Done.ensures.kept ∙ c.given-given.ensures.drawn)) (steps_at s c.args.socket c.args.link given fresh c.news_of-news.result c.step.new.self outs c.requires.has c.requires.light stepped
    (news_at s.node c.step.new.self c.args.link c.place-place.result c.role.result outs _ c.news_of-news.result c.place-place.ensures c.role.ensures c.in-Ok-Done.outs-is c.news_of-news.ensures))
    (subst (λ (o : OutsState). CarriesAs (Err why) (outs_of o) (record s { node = c.step.new.self }) t) c.in-Ok-Done.outs-is c.in_err-take-in-Ok-Done.ensures.carried))

pub returns-in_ok-take-in-Ok-Done-clause-went : goal.returns-in_ok-take-in-Ok-Done-clause-went
returns-in_ok-take-in-Ok-Done-clause-went g c =
    let s = stage_in g.W.Wire.links g.W.Wire.failures g.F.LogFile.told g.F.LogFile.synced c.args.self.now in
    let t = stage_in g.W.Wire.links g.W.Wire.failures g.F.LogFile.told g.F.LogFile.synced c.take.new.self in
    let given = c.given-given.result in
    let fresh = c.fresh-fresh.result in
    let outs = c.in-Ok-Done.outs in
    let row = subst (λ r. Steps s.node c.args.link given fresh c.step.new.self r) (ap Ok c.in-Ok-Done.field-0-is) c.in-Ok-Done.ensures in
    let stepped : Stepped s.node c.args.link given fresh c.step.new.self (Ok (step.Done outs)) = record { input = c.requires.input; row = row; sound = c.sound.ensures } in
    let old = moment_in g.S.Source.drawn c.args.self.now in
    let new = moment_in g.S.Source.drawn c.take.new.self in
    let mid : MomentState = record { fresh = c.hear.new.self.fresh; drawn = g.S.Source.drawn c.given-given.new.source; turn = c.hear.new.self.turn } in
    let first : mid.fresh ≡ old.fresh = c.hear.ensures.fresh ∙ (c.count_use.ensures.fresh ∙ c.count_step.ensures.fresh) in
    steps_once s t c.args.socket c.args.link given fresh c.news_of-news.result c.step.new.self outs old mid new c.count_step.new.self.turn c.count_use.new.self.turn
    (steps_at s c.args.socket c.args.link given fresh c.news_of-news.result c.step.new.self outs c.requires.has c.requires.light stepped
    (news_at s.node c.step.new.self c.args.link c.place-place.result c.role.result outs _ c.news_of-news.result c.place-place.ensures c.role.ensures c.in-Ok-Done.outs-is c.news_of-news.ensures))
    (subst (λ (o : OutsState). Carried (outs_of o) (record s { node = c.step.new.self }) t) c.in-Ok-Done.outs-is c.in_ok-take-in-Ok-Done.ensures.carried) c.fresh-fresh.ensures first c.given-given.ensures.forward c.given-given.ensures.drawn c.count_step.ensures.turn c.count_use.ensures.turn c.hear.ensures.turn
    (subst (λ (o : OutsState). Renewed o.used mid new) c.in-Ok-Done.outs-is c.in_ok-take-in-Ok-Done.ensures.moment)

pub returns-in_ok-take-in-Ok-Done-clause-quiet : goal.returns-in_ok-take-in-Ok-Done-clause-quiet
returns-in_ok-take-in-Ok-Done-clause-quiet g c = λ q.
    let s = stage_in g.W.Wire.links g.W.Wire.failures g.F.LogFile.told g.F.LogFile.synced c.args.self.now in
    let t = stage_in g.W.Wire.links g.W.Wire.failures g.F.LogFile.told g.F.LogFile.synced c.take.new.self in
    let given = c.given-given.result in
    let fresh = c.fresh-fresh.result in
    let outs = c.in-Ok-Done.outs in
    let row = subst (λ r. Steps s.node c.args.link given fresh c.step.new.self r) (ap Ok c.in-Ok-Done.field-0-is) c.in-Ok-Done.ensures in
    let stepped : Stepped s.node c.args.link given fresh c.step.new.self (Ok (step.Done outs)) = record { input = c.requires.input; row = row; sound = c.sound.ensures } in
    carried_others c.args.link (outs_of outs) (record s { node = c.step.new.self }) t
    (subst (λ (o : OutsState). Carried (outs_of o) (record s { node = c.step.new.self }) t) c.in-Ok-Done.outs-is c.in_ok-take-in-Ok-Done.ensures.carried) (done_others s.node c.step.new.self c.args.link given fresh outs stepped q)

pub returns-in_ok-take-in-Ok-Done-clause-linked : goal.returns-in_ok-take-in-Ok-Done-clause-linked
returns-in_ok-take-in-Ok-Done-clause-linked g c = λ used.
    let s = stage_in g.W.Wire.links g.W.Wire.failures g.F.LogFile.told g.F.LogFile.synced c.args.self.now in
    let t = stage_in g.W.Wire.links g.W.Wire.failures g.F.LogFile.told g.F.LogFile.synced c.take.new.self in
    carried_linked c.args.socket c.args.link (outs_of c.in-Ok-Done.outs) (record s { node = c.step.new.self }) t
    (subst (λ (o : OutsState). Carried (outs_of o) (record s { node = c.step.new.self }) t) c.in-Ok-Done.outs-is c.in_ok-take-in-Ok-Done.ensures.carried) (has c.requires.has)

pub returns-in_ok-take-in-Ok-Done-clause-uses : goal.returns-in_ok-take-in-Ok-Done-clause-uses
returns-in_ok-take-in-Ok-Done-clause-uses g c = λ used.
    let s = stage_in g.W.Wire.links g.W.Wire.failures g.F.LogFile.told g.F.LogFile.synced c.args.self.now in
    let t = stage_in g.W.Wire.links g.W.Wire.failures g.F.LogFile.told g.F.LogFile.synced c.take.new.self in
    let given = c.given-given.result in
    let fresh = c.fresh-fresh.result in
    let outs = c.in-Ok-Done.outs in
    let row = subst (λ r. Steps s.node c.args.link given fresh c.step.new.self r) (ap Ok c.in-Ok-Done.field-0-is) c.in-Ok-Done.ensures in
    let stepped : Stepped s.node c.args.link given fresh c.step.new.self (Ok (step.Done outs)) = record { input = c.requires.input; row = row; sound = c.sound.ensures } in
    acts_less s t c.step.new.self c.args.link given fresh outs stepped
    (subst (λ (o : OutsState). Carried (outs_of o) (record s { node = c.step.new.self }) t) c.in-Ok-Done.outs-is c.in_ok-take-in-Ok-Done.ensures.carried)

pub returns-in-Ok-Idle-clause-went : goal.returns-in-Ok-Idle-clause-went
returns-in-Ok-Idle-clause-went g c =
    let a = c.args.self.now.node.now in
    let given = c.given-given.result in
    let fresh = c.fresh-fresh.result in
    let row = subst (λ r. Steps a c.args.link given fresh c.step.new.self r) (ap Ok c.in-Ok-Idle.field-0-is) c.in-Ok-Idle.ensures in
    let old = moment_in g.S.Source.drawn c.args.self.now in
    let new : MomentState = record { fresh = c.count_step.new.self.fresh; drawn = g.S.Source.drawn c.given-given.new.source; turn = c.count_step.new.self.turn } in
    counts_call (idles c.args.socket c.args.link given fresh) old new refl refl refl refl refl refl refl
    (record { has = c.requires.has; node = record { input = c.requires.input; row = row; sound = c.sound-in-Ok-Idle.ensures }; same = refl }) (given_none fresh old.fresh c.fresh-fresh.ensures)
    (tells_one c.given-given.ensures.forward c.given-given.ensures.drawn) c.count_step.ensures.fresh c.count_step.ensures.turn

pub returns-in-Ok-Idle-clause-quiet : goal.returns-in-Ok-Idle-clause-quiet
returns-in-Ok-Idle-clause-quiet g c = λ q.
    let a = c.args.self.now.node.now in
    let given = c.given-given.result in
    let fresh = c.fresh-fresh.result in
    let row = subst (λ r. Steps a c.args.link given fresh c.step.new.self r) (ap Ok c.in-Ok-Idle.field-0-is) c.in-Ok-Idle.ensures in
    idle_all a c.step.new.self c.args.link given fresh (record { input = c.requires.input; row = row; sound = c.sound-in-Ok-Idle.ensures }) q

-- something is unread
pub returns-in-Ok-Closed-clause-went : goal.returns-in-Ok-Closed-clause-went
returns-in-Ok-Closed-clause-went g c =
    let a = c.args.self.now.node.now in
    let given = c.given-given.result in
    let fresh = c.fresh-fresh.result in
    let row = subst (λ r. Steps a c.args.link given fresh c.step.new.self r) (ap Ok c.in-Ok-Closed.field-0-is) c.in-Ok-Closed.ensures in
    absurd (never_closed a c.step.new.self c.args.link given fresh c.requires.input row)

pub returns-in-Ok-Closed-clause-quiet : goal.returns-in-Ok-Closed-clause-quiet
returns-in-Ok-Closed-clause-quiet g c = λ q.
    let a = c.args.self.now.node.now in
    let given = c.given-given.result in
    let fresh = c.fresh-fresh.result in
    let row = subst (λ r. Steps a c.args.link given fresh c.step.new.self r) (ap Ok c.in-Ok-Closed.field-0-is) c.in-Ok-Closed.ensures in
    absurd (never_closed a c.step.new.self c.args.link given fresh c.requires.input row)

pub returns-in-Err-Stopped-clause-went : goal.returns-in-Err-Stopped-clause-went
returns-in-Err-Stopped-clause-went g c =
    let a = c.args.self.now.node.now in
    let given = c.given-given.result in
    let fresh = c.fresh-fresh.result in
    let row = subst (λ r. Steps a c.args.link given fresh c.step.new.self r) (ap Err c.in-Err-Stopped.field-0-is) c.in-Err-Stopped.ensures in
    let old = moment_in g.S.Source.drawn c.args.self.now in
    broke_one (stops (stops_at_step c.args.link given fresh)) (old.fresh ∷ []) refl (given_none fresh old.fresh c.fresh-fresh.ensures) (tells_one c.given-given.ensures.forward c.given-given.ensures.drawn)
    (record { why = record { input = c.requires.input; row = row; sound = c.sound-in-Err-Stopped.ensures }; own = refl; wire = refl; failed = refl; file = (refl, refl) })

pub returns-in-Err : goal.returns-in-Err
returns-in-Err g c =
    let a = c.args.self.now.node.now in
    let given = c.given-given.result in
    let fresh = c.fresh-fresh.result in
    let other : c.in-Err._refused ≡ refusal.Stopped → ⊥ = search rules in
    let memory = lacks_memory a c.step.new.self c.args.link given fresh c.in-Err._refused c.requires.input other c.in-Err.ensures in
    let row = subst (λ e. Steps a c.args.link given fresh c.step.new.self (Err e)) memory c.in-Err.ensures in
    let old = moment_in g.S.Source.drawn c.args.self.now in
    record {
      went = counts_call (is_refused c.args.socket c.args.link given fresh) old (moment_in g.S.Source.drawn c.drop_connection.new.self) refl refl refl refl refl refl refl
          (record { has = c.requires.has; node = c.step.new.self; refused = record { input = c.requires.input; row = row; sound = c.sound-in-Err.ensures }; unread = c.unread.result; counted = c.unread.ensures.count; dropped = dropped_from (record (stage_in g.W.Wire.links g.W.Wire.failures g.F.LogFile.told g.F.LogFile.synced c.args.self.now) { node = c.step.new.self }) _ c.step.new.self c.lose.new.self _ refl (c.lose.ensures ∙ ap (λ w. losing w c.args.self.now.own.now) (c.asked_at.ensures ∙ (ap (λ p. asked_at p c.told_or_none-unread.result) c.place-place.ensures ∙ ap (asked_at _) c.told_or_none-unread.ensures))) c.drop_connection.ensures.dropped })
          (given_none fresh old.fresh c.fresh-fresh.ensures) (tells_one c.given-given.ensures.forward (ap (λ (m : MomentState). m.drawn) c.drop_connection.ensures.moment ∙ c.given-given.ensures.drawn))
          (ap (λ (m : MomentState). m.fresh) c.drop_connection.ensures.moment ∙ c.count_step.ensures.fresh) (ap (λ (m : MomentState). m.turn) c.drop_connection.ensures.moment ∙ c.count_step.ensures.turn);
      same = same_on c.args.self.now _ c.drop_connection.new.self (record { node = refl; own = refl; wire = refl; log = refl; source = refl; mode = refl; goes = goes_still _; wait_stays = refl }) c.drop_connection.ensures.same;
      device = λ e. cc;
      quiet = refused_all a c.step.new.self c.drop_connection.new.self.node.now c.args.link given fresh c.requires.input row c.drop_connection.ensures.dropped.node;
      linked = λ e. cc;
      uses = λ e. cc;
    }
