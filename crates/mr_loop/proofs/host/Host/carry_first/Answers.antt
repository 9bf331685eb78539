use Rattle.std.proofs.Common.{[], ap, sym, ◌∙◌}
use Rattle.mr_node_output.specs.Outs.{OutsState, outs_of}
use Rattle.mr_loop.specs.Hosts.{stage_in}
use Rattle.mr_loop.proofs.Outs.{first_filed}
use Rattle.mr_loop.proofs.host.Host.carry_first.Goals as goal

pub returns-clause-ok : goal.returns-clause-ok
returns-clause-ok g c =
    let s = stage_in g.W.Wire.links g.W.Wire.failures g.F.LogFile.told g.F.LogFile.synced c.args.self.now in
    let kept = c.keep_texts.ensures ∙ (ap (λ (x : OutsState). record x { grown = []; appended = [] }) c.in-Some.ensures.rest ∙ sym c.in-Some.ensures.rest) in
    (first_filed (outs_of c.args.outs.now) (outs_of c.take_first.new.self) (outs_of c.keep_texts.new.self) c.args.outs.now.grown c.in-Some.texts.items s c.file_whole-queued.new.self c.file_whole-queued.result c.kept.result
    c.in-Some.ensures.some (ap outs_of kept) c.file_whole-queued.ensures.ok c.file_whole-queued.ensures.err c.kept.ensures.ok c.kept.ensures.err c.kept.ensures.fault).0

pub returns-clause-err : goal.returns-clause-err
returns-clause-err g c =
    let s = stage_in g.W.Wire.links g.W.Wire.failures g.F.LogFile.told g.F.LogFile.synced c.args.self.now in
    let kept = c.keep_texts.ensures ∙ (ap (λ (x : OutsState). record x { grown = []; appended = [] }) c.in-Some.ensures.rest ∙ sym c.in-Some.ensures.rest) in
    (first_filed (outs_of c.args.outs.now) (outs_of c.take_first.new.self) (outs_of c.keep_texts.new.self) c.args.outs.now.grown c.in-Some.texts.items s c.file_whole-queued.new.self c.file_whole-queued.result c.kept.result
    c.in-Some.ensures.some (ap outs_of kept) c.file_whole-queued.ensures.ok c.file_whole-queued.ensures.err c.kept.ensures.ok c.kept.ensures.err c.kept.ensures.fault).1
