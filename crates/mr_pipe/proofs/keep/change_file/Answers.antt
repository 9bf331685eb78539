use Rattle.mr_pipe.specs.Outside.{kept_of}
use Rattle.mr_pipe.proofs.Files.{torn_step}
use Rattle.mr_pipe.proofs.keep.change_file.Goals as goal

pub returns-clause-torn : goal.returns-clause-torn
returns-clause-torn g c =
    let kept = kept_of g.F.LogFile.told g.F.LogFile.synced g.F.LogFile.failures in
    let outs = c.args.outs.now in
    torn_step c.replace.result (kept c.args.log.now) (kept c.append.new.log) (kept c.replace.new.log) c.appended.result.now outs.appended _ outs.replaced c.appended.ensures c.replaced.ensures
    c.in_ok-append.ensures.filed c.replace.ensures.torn
