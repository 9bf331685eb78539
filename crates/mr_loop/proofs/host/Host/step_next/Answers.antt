use Rattle.std.proofs.Common.{rules, ◌≡◌, ◌∙◌, [], ◌∷◌, Err, Some, ap, refl, sym}
use Rattle.mr_loop.specs.Causes.{was_down}
use Rattle.mr_loop.specs.Hosts.{moment_in, stage_in}
use Rattle.mr_loop.specs.Rows.{stops}
use Rattle.mr_loop.specs.Stage.{LoopState}
use Rattle.mr_loop.proofs.Linked.{linked_as}
use Rattle.mr_loop.proofs.Runs.{breaks, broke_moded, broke_one, still_broke, still_here, still_moded, still_on}
use Rattle.mr_loop.proofs.Supplying.{tells_none}
use Rattle.mr_loop.proofs.host.Host.step_next.Goals as goal

pub returns-in_err-has_unread-clause-went : goal.returns-in_err-has_unread-clause-went
returns-in_err-has_unread-clause-went g c =
    let moment = moment_in g.S.Source.drawn c.args.self.now in
    let why = c.in_err-has_unread.field-0.0 in
    let told : c.from_residual.result ≡ Err why = search rules in
    let fault = c.in_err-has_unread.ensures.fault in
    breaks moment moment c.from_residual.result why told (broke_one (stops was_down) (c.args.self.now.moment.fresh ∷ []) (ap Some (sym fault.0)) refl (tells_none refl) (record { why = (fault.1, refl); own = refl; wire = refl; failed = refl; file = (refl, refl) }))

pub returns-then-not-branch-clause-went : goal.returns-then-not-branch-clause-went
returns-then-not-branch-clause-went g c = still_here (moment_in g.S.Source.drawn c.args.self.now) (stage_in g.W.Wire.links g.W.Wire.failures g.F.LogFile.told g.F.LogFile.synced c.args.self.now)

pub returns-in_err-used-clause-went : goal.returns-in_err-used-clause-went
returns-in_err-used-clause-went g c =
    let a = c.args.self.now in
    let b = c.unburden.new.self in
    let why = c.in_err-used.field-0.0 in
    let told : c.from_residual-in_err-used.result ≡ Err why = search rules in
    breaks (moment_in g.S.Source.drawn a) (moment_in g.S.Source.drawn c.step.new.self) c.from_residual-in_err-used.result why told
    (still_broke c.in_ok-unburden.ensures.went (broke_moded b.log.now.mode a.log.now.mode c.unburden.ensures.same.mode c.in_err-used.ensures.went))

pub returns-in_err-commit-clause-went : goal.returns-in_err-commit-clause-went
returns-in_err-commit-clause-went g c =
    let a = c.args.self.now in
    let b = c.unburden.new.self in
    let d = c.step.new.self in
    let why = c.in_err-commit.field-0.0 in
    let told : c.from_residual-in_err-commit.result ≡ Err why = search rules in
    breaks (moment_in g.S.Source.drawn a) (moment_in g.S.Source.drawn c.commit.new.self) c.from_residual-in_err-commit.result why told
    (still_broke c.in_ok-unburden.ensures.went (still_broke (still_moded b.log.now.mode a.log.now.mode c.unburden.ensures.same.mode c.in_ok-used.ensures.went)
    (broke_moded d.log.now.mode a.log.now.mode (c.step.ensures.same.mode ∙ c.unburden.ensures.same.mode) c.in_err-commit.ensures.went)))

pub returns-in_ok-commit-clause-went : goal.returns-in_ok-commit-clause-went
returns-in_ok-commit-clause-went g c =
    let a = c.args.self.now in
    let b = c.unburden.new.self in
    let d = c.step.new.self in
    still_on c.in_ok-unburden.ensures.went (still_on (still_moded b.log.now.mode a.log.now.mode c.unburden.ensures.same.mode c.in_ok-used.ensures.went)
    (still_moded d.log.now.mode a.log.now.mode (c.step.ensures.same.mode ∙ c.unburden.ensures.same.mode) c.in_ok-commit.ensures.went))

pub returns-else-batch-gt-MOST_BATCH-clause-went :
    goal.returns-else-batch-gt-MOST_BATCH-clause-went
returns-else-batch-gt-MOST_BATCH-clause-went g c =
    still_on c.in_ok-unburden.ensures.went (still_moded c.unburden.new.self.log.now.mode c.args.self.now.log.now.mode c.unburden.ensures.same.mode c.in_ok-used.ensures.went)

pub returns-in_ok-commit-clause-linked : goal.returns-in_ok-commit-clause-linked
returns-in_ok-commit-clause-linked g c = λ used.
    let d = stage_in g.W.Wire.links g.W.Wire.failures g.F.LogFile.told g.F.LogFile.synced c.step.new.self in
    let e = stage_in g.W.Wire.links g.W.Wire.failures g.F.LogFile.told g.F.LogFile.synced c.commit.new.self in
    linked_as d e c.args.socket c.args.link c.commit.ensures.node (ap (λ (o : LoopState). o.connections) c.in_ok-commit.ensures.all) (c.in_ok-used.ensures.linked used)
