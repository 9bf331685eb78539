use Rattle.std.proofs.Common.{rules, ◌≡◌, ◌∙◌, Err, refl, sym, ap, subst}
use Rattle.mr_connections.specs.State.{NoneDone}
use Rattle.mr_loop.specs.declared.told.Turn.{Turn}
use Rattle.mr_loop.specs.Counting.{most_ticks}
use Rattle.mr_loop.specs.Hosts.{moment_in, stage_in}
use Rattle.mr_loop.specs.Lacking.{lacked_since}
use Rattle.mr_loop.specs.Stage.{LoopState}
use Rattle.mr_loop.proofs.Rounds.{goes_broke, goes_on}
use Rattle.mr_loop.proofs.Same.{goes_still, same_on}
use Rattle.mr_loop.proofs.Runs.{limited_of, limited_on, still_moded}
use Rattle.mr_loop.proofs.Ticks.{passes_moded}
use Rattle.mr_loop.proofs.Turned.{passes_broke, tells_broke, told_of}
use Rattle.mr_loop.proofs.host.Host.go_on.Goals as goal

pub returns-in_err-reads-clause-went : goal.returns-in_err-reads-clause-went
returns-in_err-reads-clause-went g c =
    let why = c.in_err-reads.field-0.0 in
    let told : c.from_residual-in_err-reads.result ≡ Err why = search rules in
    let same1 = c.accept_all.ensures.same in
    let went1 = c.in_ok-accepts.ensures.went.still in
    tells_broke (moment_in g.S.Source.drawn c.args.self.now) (moment_in g.S.Source.drawn c.read_all.new.self) c.from_residual-in_err-reads.result why told (goes_broke g.W.Wire.tells g.W.Wire.links g.W.Wire.failures g.W.Wire.waited g.F.LogFile.failures g.F.LogFile.told g.F.LogFile.synced g.S.Source.drawn c.args.self.now c.accept_all.new.self c.read_all.new.self why same1 went1 c.in_err-reads.ensures.went)

pub returns-in_err-send_all-clause-went : goal.returns-in_err-send_all-clause-went
returns-in_err-send_all-clause-went g c =
    let why = c.in_err-send_all.field-0.0 in
    let told : c.from_residual-in_err-send_all.result ≡ Err why = search rules in
    let same1 = c.accept_all.ensures.same in
    let went1 = c.in_ok-accepts.ensures.went.still in
    let went2 = goes_on g.W.Wire.tells g.W.Wire.links g.W.Wire.failures g.W.Wire.waited g.F.LogFile.failures g.F.LogFile.told g.F.LogFile.synced g.S.Source.drawn c.args.self.now c.accept_all.new.self c.read_all.new.self same1 went1 c.in_ok-reads.ensures.went.still in
    let same2 = same_on c.args.self.now c.accept_all.new.self c.read_all.new.self same1 c.read_all.ensures.same in
    tells_broke (moment_in g.S.Source.drawn c.args.self.now) (moment_in g.S.Source.drawn c.send_all.new.self) c.from_residual-in_err-send_all.result why told (goes_broke g.W.Wire.tells g.W.Wire.links g.W.Wire.failures g.W.Wire.waited g.F.LogFile.failures g.F.LogFile.told g.F.LogFile.synced g.S.Source.drawn c.args.self.now c.read_all.new.self c.send_all.new.self why same2 went2 c.in_err-send_all.ensures.went)

pub returns-in_err-dial-clause-went : goal.returns-in_err-dial-clause-went
returns-in_err-dial-clause-went g c =
    let why = c.in_err-dial.field-0.0 in
    let told : c.from_residual-in_err-dial.result ≡ Err why = search rules in
    let same1 = c.accept_all.ensures.same in
    let went1 = c.in_ok-accepts.ensures.went.still in
    let went2 = goes_on g.W.Wire.tells g.W.Wire.links g.W.Wire.failures g.W.Wire.waited g.F.LogFile.failures g.F.LogFile.told g.F.LogFile.synced g.S.Source.drawn c.args.self.now c.accept_all.new.self c.read_all.new.self same1 went1 c.in_ok-reads.ensures.went.still in
    let same2 = same_on c.args.self.now c.accept_all.new.self c.read_all.new.self same1 c.read_all.ensures.same in
    let went3 = goes_on g.W.Wire.tells g.W.Wire.links g.W.Wire.failures g.W.Wire.waited g.F.LogFile.failures g.F.LogFile.told g.F.LogFile.synced g.S.Source.drawn c.args.self.now c.read_all.new.self c.send_all.new.self same2 went2 c.in_ok-send_all.ensures.went in
    let same3 = same_on c.args.self.now c.read_all.new.self c.send_all.new.self same2 c.send_all.ensures.same in
    tells_broke (moment_in g.S.Source.drawn c.args.self.now) (moment_in g.S.Source.drawn c.dial.new.self) c.from_residual-in_err-dial.result why told (goes_broke g.W.Wire.tells g.W.Wire.links g.W.Wire.failures g.W.Wire.waited g.F.LogFile.failures g.F.LogFile.told g.F.LogFile.synced g.S.Source.drawn c.args.self.now c.send_all.new.self c.dial.new.self why same3 went3 c.in_err-dial.ensures.went)

pub returns-in_err-due-clause-went : goal.returns-in_err-due-clause-went
returns-in_err-due-clause-went g c =
    let why = c.in_err-due.field-0.0 in
    let told : c.from_residual-in_err-due.result ≡ Err why = search rules in
    let same1 = c.accept_all.ensures.same in
    let went1 = c.in_ok-accepts.ensures.went.still in
    let went2 = goes_on g.W.Wire.tells g.W.Wire.links g.W.Wire.failures g.W.Wire.waited g.F.LogFile.failures g.F.LogFile.told g.F.LogFile.synced g.S.Source.drawn c.args.self.now c.accept_all.new.self c.read_all.new.self same1 went1 c.in_ok-reads.ensures.went.still in
    let same2 = same_on c.args.self.now c.accept_all.new.self c.read_all.new.self same1 c.read_all.ensures.same in
    let went3 = goes_on g.W.Wire.tells g.W.Wire.links g.W.Wire.failures g.W.Wire.waited g.F.LogFile.failures g.F.LogFile.told g.F.LogFile.synced g.S.Source.drawn c.args.self.now c.read_all.new.self c.send_all.new.self same2 went2 c.in_ok-send_all.ensures.went in
    let same3 = same_on c.args.self.now c.read_all.new.self c.send_all.new.self same2 c.send_all.ensures.same in
    let went4 = goes_on g.W.Wire.tells g.W.Wire.links g.W.Wire.failures g.W.Wire.waited g.F.LogFile.failures g.F.LogFile.told g.F.LogFile.synced g.S.Source.drawn c.args.self.now c.send_all.new.self c.dial.new.self same3 went3 c.in_ok-dial.ensures.went in
    let same4 = same_on c.args.self.now c.send_all.new.self c.dial.new.self same3 c.dial.ensures.same in
    tells_broke (moment_in g.S.Source.drawn c.args.self.now) (moment_in g.S.Source.drawn c.tick_all.new.self) c.from_residual-in_err-due.result why told (goes_broke g.W.Wire.tells g.W.Wire.links g.W.Wire.failures g.W.Wire.waited g.F.LogFile.failures g.F.LogFile.told g.F.LogFile.synced g.S.Source.drawn c.args.self.now c.dial.new.self c.tick_all.new.self why same4 went4 c.in_err-due.ensures.went)

pub returns-in_err-finish-clause-went : goal.returns-in_err-finish-clause-went
returns-in_err-finish-clause-went g c =
    let why = c.in_err-finish.field-0.0 in
    let told : c.from_residual-in_err-finish.result ≡ Err why = search rules in
    let same1 = c.accept_all.ensures.same in
    let went1 = c.in_ok-accepts.ensures.went.still in
    let went2 = goes_on g.W.Wire.tells g.W.Wire.links g.W.Wire.failures g.W.Wire.waited g.F.LogFile.failures g.F.LogFile.told g.F.LogFile.synced g.S.Source.drawn c.args.self.now c.accept_all.new.self c.read_all.new.self same1 went1 c.in_ok-reads.ensures.went.still in
    let same2 = same_on c.args.self.now c.accept_all.new.self c.read_all.new.self same1 c.read_all.ensures.same in
    let went3 = goes_on g.W.Wire.tells g.W.Wire.links g.W.Wire.failures g.W.Wire.waited g.F.LogFile.failures g.F.LogFile.told g.F.LogFile.synced g.S.Source.drawn c.args.self.now c.read_all.new.self c.send_all.new.self same2 went2 c.in_ok-send_all.ensures.went in
    let same3 = same_on c.args.self.now c.read_all.new.self c.send_all.new.self same2 c.send_all.ensures.same in
    let went4 = goes_on g.W.Wire.tells g.W.Wire.links g.W.Wire.failures g.W.Wire.waited g.F.LogFile.failures g.F.LogFile.told g.F.LogFile.synced g.S.Source.drawn c.args.self.now c.send_all.new.self c.dial.new.self same3 went3 c.in_ok-dial.ensures.went in
    let same4 = same_on c.args.self.now c.send_all.new.self c.dial.new.self same3 c.dial.ensures.same in
    tells_broke (moment_in g.S.Source.drawn c.args.self.now) (moment_in g.S.Source.drawn c.finish.new.self) c.from_residual-in_err-finish.result why told (passes_broke g.W.Wire.tells g.W.Wire.links g.W.Wire.failures g.W.Wire.waited g.F.LogFile.failures g.F.LogFile.told g.F.LogFile.synced g.S.Source.drawn c.args.self.now c.dial.new.self c.tick_all.new.self c.finish.new.self why same4 went4 c.tick_all.ensures.same c.in_ok-due.ensures.went c.in_err-finish.ensures.went)

pub returns-clause-went : goal.returns-clause-went
returns-clause-went g c =
    let same1 = c.accept_all.ensures.same in
    let same2 = same_on c.args.self.now c.accept_all.new.self c.read_all.new.self same1 c.read_all.ensures.same in
    let same3 = same_on c.args.self.now c.read_all.new.self c.send_all.new.self same2 c.send_all.ensures.same in
    let same4 = same_on c.args.self.now c.send_all.new.self c.dial.new.self same3 c.dial.ensures.same in
    let before = same_on c.args.self.now c.dial.new.self c.tick_all.new.self same4 c.tick_all.ensures.same in
    let passes = c.in_ok-due.ensures.went in
    let limited2 = limited_of c.in_ok-accepts.accepts c.in_ok-reads.reads c.accept_all.new.self.log.now.mode same1.mode c.in_ok-accepts.ensures.went c.in_ok-reads.ensures.went in
    let limited3 = limited_on c.read_all.new.self.log.now.mode same2.mode limited2 c.in_ok-send_all.ensures.went in
    let limited4 = limited_on c.send_all.new.self.log.now.mode same3.mode limited3 c.in_ok-dial.ensures.went in
    told_of (moment_in g.S.Source.drawn c.args.self.now) (moment_in g.S.Source.drawn c.dial.new.self) (moment_in g.S.Source.drawn c.tick_all.new.self) (moment_in g.S.Source.drawn c.finish.new.self) c.ended.result passes.count passes.missed (most_ticks c.dial.new.self.moment.turn.done) c.in_ok-due.due c.in_ok-accepts.accepts c.in_ok-reads.reads c.is_limited.result
    c.requires.begun limited4 (passes_moded c.dial.new.self.log.now.mode c.args.self.now.log.now.mode same4.mode passes.went) (still_moded c.tick_all.new.self.log.now.mode c.args.self.now.log.now.mode before.mode c.in_ok-finish.ensures.went)
    c.in_ok-finish.ensures.moment
    (ap (λ (o : LoopState). record (stage_in g.W.Wire.links g.W.Wire.failures g.F.LogFile.told g.F.LogFile.synced c.finish.new.self) { own = o }) c.set_hurries.ensures)
    (c.ended.ensures ∙ (ap (λ (t : Turn). record t { halted = c.halted.result; lacked = c.since-lacked.result }) c.turn.ensures ∙ (ap (λ h. record c.finish.new.self.moment.turn { halted = h; lacked = c.since-lacked.result }) (c.halted.ensures ∙ ap (λ (o : LoopState). o.halted) c.set_hurries.ensures)
    ∙ ap (λ l. record c.finish.new.self.moment.turn { halted = c.finish.new.self.own.now.halted; lacked = l })
    (c.since-lacked.ensures ∙ (ap (λ l. lacked_since l c.lacked.result) c.lacked-before.ensures ∙ ap (lacked_since c.args.self.now.own.now.lacked) (c.lacked.ensures ∙ ap (λ (o : LoopState). o.lacked) c.set_hurries.ensures))))))
    c.finish.ensures.core passes.some passes.few refl passes.keeps_up passes.goes_on c.is_limited.ensures

pub returns-clause-closed : goal.returns-clause-closed
returns-clause-closed g c = subst (λ (o : LoopState). NoneDone o.connections) (sym c.set_hurries.ensures) c.in_ok-finish.ensures.closed

pub returns-in_err-dial-clause-same : goal.returns-in_err-dial-clause-same
returns-in_err-dial-clause-same g c =
    let same1 = c.accept_all.ensures.same in
    let same2 = same_on c.args.self.now c.accept_all.new.self c.read_all.new.self same1 c.read_all.ensures.same in
    let same3 = same_on c.args.self.now c.read_all.new.self c.send_all.new.self same2 c.send_all.ensures.same in
    same_on c.args.self.now c.send_all.new.self c.dial.new.self same3 c.dial.ensures.same

pub returns-in_err-due-clause-same : goal.returns-in_err-due-clause-same
returns-in_err-due-clause-same g c =
    let same1 = c.accept_all.ensures.same in
    let same2 = same_on c.args.self.now c.accept_all.new.self c.read_all.new.self same1 c.read_all.ensures.same in
    let same3 = same_on c.args.self.now c.read_all.new.self c.send_all.new.self same2 c.send_all.ensures.same in
    let same4 = same_on c.args.self.now c.send_all.new.self c.dial.new.self same3 c.dial.ensures.same in
    same_on c.args.self.now c.dial.new.self c.tick_all.new.self same4 c.tick_all.ensures.same

pub returns-in_err-finish-clause-same : goal.returns-in_err-finish-clause-same
returns-in_err-finish-clause-same g c =
    let same1 = c.accept_all.ensures.same in
    let same2 = same_on c.args.self.now c.accept_all.new.self c.read_all.new.self same1 c.read_all.ensures.same in
    let same3 = same_on c.args.self.now c.read_all.new.self c.send_all.new.self same2 c.send_all.ensures.same in
    let same4 = same_on c.args.self.now c.send_all.new.self c.dial.new.self same3 c.dial.ensures.same in
    let same5 = same_on c.args.self.now c.dial.new.self c.tick_all.new.self same4 c.tick_all.ensures.same in
    same_on c.args.self.now c.tick_all.new.self c.finish.new.self same5 c.finish.ensures.same

pub returns-clause-same : goal.returns-clause-same
returns-clause-same g c =
    let same1 = c.accept_all.ensures.same in
    let same2 = same_on c.args.self.now c.accept_all.new.self c.read_all.new.self same1 c.read_all.ensures.same in
    let same3 = same_on c.args.self.now c.read_all.new.self c.send_all.new.self same2 c.send_all.ensures.same in
    let same4 = same_on c.args.self.now c.send_all.new.self c.dial.new.self same3 c.dial.ensures.same in
    let same5 = same_on c.args.self.now c.dial.new.self c.tick_all.new.self same4 c.tick_all.ensures.same in
    let same6 = same_on c.args.self.now c.tick_all.new.self c.finish.new.self same5 c.finish.ensures.same in
    same_on c.args.self.now c.finish.new.self _ same6 (record { node = refl; own = refl; wire = refl; log = refl; source = refl; mode = refl; goes = goes_still _; wait_stays = refl })
