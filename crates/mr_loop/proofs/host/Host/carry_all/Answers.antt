use Rattle.std.proofs.Common.{rules, ◌≡◌, [], ◌∷◌, Err, ap, sym, subst}
use Rattle.mr_node_output.specs.Outs.{outs_of, send}
use Rattle.mr_loop.specs.Carrying.{CarriesAs}
use Rattle.mr_loop.specs.Hosts.{stage_in}
use Rattle.mr_loop.proofs.Outs.{fails_so_far, last_sent, left_as, rest_so_far}
use Rattle.mr_loop.proofs.host.Host.carry_all.Goals as goal

pub returns-in_err-carry_out-in-Some-clause-carried : goal.returns-in_err-carry_out-in-Some-clause-carried
returns-in_err-carry_out-in-Some-clause-carried g c =
    let on = stage_in g.W.Wire.links g.W.Wire.failures g.F.LogFile.told g.F.LogFile.synced in
    let why = c.in_err-carry_out-in-Some.field-0.0 in
    let told : c.from_residual-in_err-carry_out-in-Some.result ≡ Err why = search rules in
    subst (λ r. CarriesAs r (outs_of c.args.outs.now) (on c.args.self.now) (on c.carry_out.new.self)) (sym told)
    (fails_so_far why (outs_of c.args.outs.now) (outs_of c.carry_first.new.outs) (send c.in-Some.link c.in-Some.text.value.items ∷ []) (outs_of c.take_shared.new.self) (on c.args.self.now) (on c.carry_first.new.self) (on c.carry_out.new.self)
    c.in-Some.ensures.some c.in_ok-carry_first.ensures.ok c.in_err-carry_out-in-Some.ensures.carried)

pub returns-in_ok-carry_out-in-Some-clause-carried : goal.returns-in_ok-carry_out-in-Some-clause-carried
returns-in_ok-carry_out-in-Some-clause-carried g c =
    let on = stage_in g.W.Wire.links g.W.Wire.failures g.F.LogFile.told g.F.LogFile.synced in
    last_sent (outs_of c.args.outs.now) (outs_of c.carry_first.new.outs) (outs_of c.take_shared.new.self) c.in-Some.link c.in-Some.text.value.items (on c.args.self.now) (on c.carry_first.new.self) (on c.carry_out.new.self)
    c.send_shared.new.self c.send_shared.result c.kept.result c.in-Some.ensures.some c.in_ok-carry_first.ensures.ok c.in_ok-carry_out-in-Some.ensures.carried
    c.send_shared.ensures.ok c.send_shared.ensures.err c.kept.ensures.ok c.kept.ensures.err c.kept.ensures.fault

pub returns-in-None-clause-carried : goal.returns-in-None-clause-carried
returns-in-None-clause-carried g c =
    let on = stage_in g.W.Wire.links g.W.Wire.failures g.F.LogFile.told g.F.LogFile.synced in
    rest_so_far c.carry_last.result (outs_of c.args.outs.now) (outs_of c.take_shared.new.self) (on c.args.self.now) (on c.carry_first.new.self) (on c.carry_last.new.self)
    (left_as (outs_of c.args.outs.now) (outs_of c.carry_first.new.outs) (outs_of c.take_shared.new.self) (on c.args.self.now) (on c.carry_first.new.self) (ap outs_of c.in-None.ensures.none) c.in_ok-carry_first.ensures.ok) c.carry_last.ensures.carried
