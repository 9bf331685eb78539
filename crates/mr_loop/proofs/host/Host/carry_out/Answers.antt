use Rattle.std.proofs.Common.{rules, ◌≡◌, ◌∙◌, Err, refl}
use Rattle.mr_node_output.specs.Outs.{outs_of}
use Rattle.mr_node_output.specs.Listing.{out_view}
use Rattle.mr_loop.specs.Hosts.{stage_in}
use Rattle.mr_loop.proofs.Outs.{all_so_far, answers_so_far, none_so_far, one_so_far}
use Rattle.mr_loop.proofs.Same.{same_here, same_on}
use Rattle.mr_loop.proofs.host.Host.carry_out.Goals as goal

pub loop-out-init : goal.loop-out-init
loop-out-init g c = (
  none_so_far (outs_of c.args.outs.now) c.into_iter-out-iterator.result (stage_in g.W.Wire.links g.W.Wire.failures g.F.LogFile.told g.F.LogFile.synced c.args.self.now) (c.into_iter-out-iterator.ensures.into_iter_gives ∙ c.iter-out-items.ensures),
  refl,
  same_here c.args.self.now,
)

pub loop-out-preserved : goal.loop-out-preserved
loop-out-preserved g c =
    let on = stage_in g.W.Wire.links g.W.Wire.failures g.F.LogFile.told g.F.LogFile.synced in (
      one_so_far (outs_of c.args.outs.now) c.loop-out.out-iterator c.next.new.self (out_view c.in-Some.out) (on c.args.self.now) (on c.loop-out.self) (on c.carry.new.self) c.in-Some.ensures.steps c.loop-out.invariant.0 c.in_ok-carry.ensures.carried,
      c.carry.ensures.moment ∙ c.loop-out.invariant.1,
      same_on c.args.self.now c.loop-out.self c.carry.new.self c.loop-out.invariant.2 c.carry.ensures.same,
    )

pub returns-in_err-carry-clause-carried : goal.returns-in_err-carry-clause-carried
returns-in_err-carry-clause-carried g c =
    let why = c.in_err-carry.field-0.0 in
    let told : c.from_residual.result ≡ Err why = search rules in
    let on = stage_in g.W.Wire.links g.W.Wire.failures g.F.LogFile.told g.F.LogFile.synced in
    answers_so_far c.from_residual.result why (outs_of c.args.outs.now) c.loop-out.out-iterator c.next.new.self (out_view c.in-Some.out) (on c.args.self.now) (on c.loop-out.self) (on c.carry.new.self) told c.in-Some.ensures.steps c.loop-out.invariant.0 c.in_err-carry.ensures.carried

pub returns-in_err-carry-clause-moment : goal.returns-in_err-carry-clause-moment
returns-in_err-carry-clause-moment g c = c.carry.ensures.moment ∙ c.loop-out.invariant.1

pub returns-in_err-carry-clause-same : goal.returns-in_err-carry-clause-same
returns-in_err-carry-clause-same g c = same_on c.args.self.now c.loop-out.self c.carry.new.self c.loop-out.invariant.2 c.carry.ensures.same

pub returns-clause-carried : goal.returns-clause-carried
returns-clause-carried g c =
    let on = stage_in g.W.Wire.links g.W.Wire.failures g.F.LogFile.told g.F.LogFile.synced in
    all_so_far (outs_of c.args.outs.now) c.loop-out.out-iterator (on c.args.self.now) (on c.loop-out.self) c.in-None.ensures.steps.0 c.loop-out.invariant.0

pub returns-clause-moment : goal.returns-clause-moment
returns-clause-moment g c = c.loop-out.invariant.1

pub returns-clause-same : goal.returns-clause-same
returns-clause-same g c = c.loop-out.invariant.2
