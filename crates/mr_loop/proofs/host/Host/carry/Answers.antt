use Rattle.std.proofs.Common.{ap, refl}
use Rattle.mr_node_output.specs.Outs.{follow, grow, halt, use_id}
use Rattle.mr_node_output.specs.Listing.{out_view}
use Rattle.mr_loop.specs.Stage.{halting}
use Rattle.mr_loop.specs.Hosts.{stage_in}
use Rattle.mr_loop.proofs.Outs.{appended_as, closed_as, one_out, own_out, sent_as}
use Rattle.mr_loop.proofs.host.Host.carry.Goals as goal

pub returns-in-Grow-clause-carried : goal.returns-in-Grow-clause-carried
returns-in-Grow-clause-carried g c =
    let s = stage_in g.W.Wire.links g.W.Wire.failures g.F.LogFile.told g.F.LogFile.synced c.args.self.now in
    one_out (out_view c.args.out) (grow c.in-Grow.field-0.now) s s (ap out_view c.in-Grow.is) refl

pub returns-in-Append-clause-carried : goal.returns-in-Append-clause-carried
returns-in-Append-clause-carried g c =
    let s = stage_in g.W.Wire.links g.W.Wire.failures g.F.LogFile.told g.F.LogFile.synced c.args.self.now in
    appended_as (out_view c.args.out) c.in-Append.texts.now s c.file.new.self c.file.result c.kept.result (ap out_view c.in-Append.is) c.file.ensures.ok c.file.ensures.err c.kept.ensures.ok c.kept.ensures.err c.kept.ensures.fault

pub returns-in-Send-clause-carried : goal.returns-in-Send-clause-carried
returns-in-Send-clause-carried g c =
    let s = stage_in g.W.Wire.links g.W.Wire.failures g.F.LogFile.told g.F.LogFile.synced c.args.self.now in
    sent_as (out_view c.args.out) c.in-Send.link c.in-Send.bytes.now s c.send.new.self c.send.result c.kept-in-Send.result (ap out_view c.in-Send.is) c.send.ensures.ok c.send.ensures.err c.kept-in-Send.ensures.ok c.kept-in-Send.ensures.err c.kept-in-Send.ensures.fault

pub returns-in-Close-clause-carried : goal.returns-in-Close-clause-carried
returns-in-Close-clause-carried g c =
    let s = stage_in g.W.Wire.links g.W.Wire.failures g.F.LogFile.told g.F.LogFile.synced c.args.self.now in
    let t = stage_in g.W.Wire.links g.W.Wire.failures g.F.LogFile.told g.F.LogFile.synced c.part.new.self in
    closed_as (out_view c.args.out) c.in-Close.link s t (ap out_view c.in-Close.is) c.part.ensures.node c.part.ensures.own (ap g.W.Wire.links c.part.ensures.wire) (ap g.W.Wire.failures c.part.ensures.wire)
    (ap (λ log. g.F.LogFile.told log.file) c.part.ensures.log) (ap (λ log. g.F.LogFile.synced log.file) c.part.ensures.log)

pub returns-in-Used-clause-carried : goal.returns-in-Used-clause-carried
returns-in-Used-clause-carried g c =
    let s = stage_in g.W.Wire.links g.W.Wire.failures g.F.LogFile.told g.F.LogFile.synced c.args.self.now in
    one_out (out_view c.args.out) (use_id c.in-Used.field-0) s s (ap out_view c.in-Used.is) refl

pub returns-in-Follow-clause-carried : goal.returns-in-Follow-clause-carried
returns-in-Follow-clause-carried g c =
    let s = stage_in g.W.Wire.links g.W.Wire.failures g.F.LogFile.told g.F.LogFile.synced c.args.self.now in
    own_out (out_view c.args.out) (follow c.in-Follow.field-0.now) s s.own c.forget_dial.new.self (ap out_view c.in-Follow.is) refl c.forget_dial.ensures

pub returns-in-Halt-clause-carried : goal.returns-in-Halt-clause-carried
returns-in-Halt-clause-carried g c =
    let s = stage_in g.W.Wire.links g.W.Wire.failures g.F.LogFile.told g.F.LogFile.synced c.args.self.now in
    own_out (out_view c.args.out) halt s (halting s.own) c.halt.new.self (ap out_view c.in-Halt.is) refl c.halt.ensures
