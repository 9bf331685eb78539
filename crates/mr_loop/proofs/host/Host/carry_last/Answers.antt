use Rattle.std.proofs.Common.{rules, ◌≡◌, [], ◌∷◌, Err, ap, refl, sym, subst}
use Rattle.mr_node_output.specs.Outs.{outs_of, send}
use Rattle.mr_loop.specs.Carrying.{CarriesAs}
use Rattle.mr_loop.specs.Hosts.{stage_in}
use Rattle.mr_loop.proofs.Outs.{fails_so_far, last_sent, left_as, none_so_far, rest_so_far}
use Rattle.mr_loop.proofs.host.Host.carry_last.Goals as goal

pub returns-in_err-carry_out-in-Some-clause-carried : goal.returns-in_err-carry_out-in-Some-clause-carried
returns-in_err-carry_out-in-Some-clause-carried g c =
    let on = stage_in g.W.Wire.links g.W.Wire.failures g.F.LogFile.told g.F.LogFile.synced in
    let why = c.in_err-carry_out-in-Some.field-0.0 in
    let told : c.from_residual.result ≡ Err why = search rules in
    subst (λ r. CarriesAs r (outs_of c.args.outs.now) (on c.args.self.now) (on c.carry_out.new.self)) (sym told)
    (fails_so_far why (outs_of c.args.outs.now) (outs_of c.args.outs.now) (send c.in-Some.link c.in-Some.reply.items ∷ []) (outs_of c.take_last.new.self) (on c.args.self.now) (on c.args.self.now) (on c.carry_out.new.self)
    c.in-Some.ensures.some (none_so_far (outs_of c.args.outs.now) (outs_of c.args.outs.now) (on c.args.self.now) refl) c.in_err-carry_out-in-Some.ensures.carried)

pub returns-in_ok-carry_out-in-Some-clause-carried : goal.returns-in_ok-carry_out-in-Some-clause-carried
returns-in_ok-carry_out-in-Some-clause-carried g c =
    let on = stage_in g.W.Wire.links g.W.Wire.failures g.F.LogFile.told g.F.LogFile.synced in
    last_sent (outs_of c.args.outs.now) (outs_of c.args.outs.now) (outs_of c.take_last.new.self) c.in-Some.link c.in-Some.reply.items (on c.args.self.now) (on c.args.self.now) (on c.carry_out.new.self)
    c.send_whole-queued.new.self c.send_whole-queued.result c.kept.result c.in-Some.ensures.some (none_so_far (outs_of c.args.outs.now) (outs_of c.args.outs.now) (on c.args.self.now) refl) c.in_ok-carry_out-in-Some.ensures.carried
    c.send_whole-queued.ensures.ok c.send_whole-queued.ensures.err c.kept.ensures.ok c.kept.ensures.err c.kept.ensures.fault

pub returns-in-None-clause-carried : goal.returns-in-None-clause-carried
returns-in-None-clause-carried g c =
    let on = stage_in g.W.Wire.links g.W.Wire.failures g.F.LogFile.told g.F.LogFile.synced in
    rest_so_far c.carry_out-in-None.result (outs_of c.args.outs.now) (outs_of c.take_last.new.self) (on c.args.self.now) (on c.args.self.now) (on c.carry_out-in-None.new.self)
    (left_as (outs_of c.args.outs.now) (outs_of c.args.outs.now) (outs_of c.take_last.new.self) (on c.args.self.now) (on c.args.self.now) (ap outs_of c.in-None.ensures.none) (none_so_far (outs_of c.args.outs.now) (outs_of c.args.outs.now) (on c.args.self.now) refl)) c.carry_out-in-None.ensures.carried
