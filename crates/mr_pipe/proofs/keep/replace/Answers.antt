use Rattle.std.proofs.Common.{rules, ◌≡◌, true}
use Rattle.mr_pipe.specs.Outside.{kept_of}
use Rattle.mr_pipe.proofs.Files.{torn_whole, cause_of}
use Rattle.mr_pipe.proofs.keep.replace.Goals as goal

pub returns-in-Err-clause-torn : goal.returns-in-Err-clause-torn
returns-in-Err-clause-torn g c =
    let kept = kept_of g.F.LogFile.told g.F.LogFile.synced g.F.LogFile.failures in
    let broken : c.replace.new.self.broken ≡ true = search rules in
    torn_whole (kept c.args.log.now) (kept c.replace.new.self) _ c.in-Some.bytes.now (search rules)
    (record { told = c.in-Err.ensures.err; cause = cause_of c.in-Err._failed _ _ c.in-Err.ensures.broken.0 c.in-Err.ensures.device c.in-Err.ensures.no_other; broken = broken })
