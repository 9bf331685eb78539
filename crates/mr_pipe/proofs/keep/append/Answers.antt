use Rattle.std.proofs.Common.{rules, ◌≡◌, sym, true, ◌∙◌}
use Rattle.mr_pipe.specs.Outside.{kept_of}
use Rattle.mr_pipe.proofs.Files.{torn_texts, cause_of, not_empty}
use Rattle.mr_pipe.proofs.keep.append.Goals as goal

pub returns-in-Err-clause-torn : goal.returns-in-Err-clause-torn
returns-in-Err-clause-torn g c =
    let kept = kept_of g.F.LogFile.told g.F.LogFile.synced g.F.LogFile.failures in
    let broken : c.append.new.self.broken ≡ true = search rules in
    torn_texts (kept c.args.log.now) (kept c.append.new.self) c.args.texts.now (not_empty c.args.texts.now (sym c.is_empty.ensures ∙ c.if-is_empty.false))
    (record { told = c.in-Err.ensures.err; cause = cause_of c.in-Err._fault _ _ c.in-Err.ensures.broken.0 c.in-Err.ensures.device c.in-Err.ensures.no_other; broken = broken })
