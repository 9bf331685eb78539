use Rattle.std.proofs.Common.{rules, ◌≡◌, [], Ok, Err, sym, subst}
use Rattle.mr_pipe.specs.Outside.{outside}
use Rattle.mr_pipe.specs.Piped.{Relays, IsRound, IsPiped}
use Rattle.mr_pipe.specs.declared.relay.Round.TheVariants as round
use Rattle.mr_pipe.proofs.Relaying.{after_round, no_round, session_end, session_close, session_break, session_stop}
use Rattle.mr_pipe.proofs.relay.relay.Goals as goal

pub loop-round-init : goal.loop-round-init
loop-round-init g c = λ s h.
    let out = outside g.W.Write.contents g.F.LogFile.told g.F.LogFile.synced g.F.LogFile.failures in
    no_round c.args.given s (out c.args.output.now c.args.log.now) (g.R.Read.remaining c.args.input.now) c.args.linked.now h

pub returns-in_err-serve_piece : goal.returns-in_err-serve_piece
returns-in_err-serve_piece g c = λ s h.
    let out = outside g.W.Write.contents g.F.LogFile.told g.F.LogFile.synced g.F.LogFile.failures in
    let left = g.R.Read.remaining in let p = c.loop-round.linked in let q = c.serve_piece.new.linked in
    let x = out c.args.output.now c.args.log.now in let y = out c.loop-round.output c.loop-round.log in let z = out c.serve_piece.new.output c.serve_piece.new.log in
    let b = left c.args.input.now in let m = left c.loop-round.input in let e = left c.serve_piece.new.input in
    let w : Relays c.args.given s [] x b m p y = c.loop-round.invariant s h in
    let why = c.in_err-serve_piece.field-0.0 in
    let told : c.from_residual.result ≡ Err why = search rules in
    subst (λ t. IsPiped c.args.given s b e x z t) (sym told)
    (session_break c.args.given s x b e why z (after_round c.args.given s x b m e p y q z (Err why) w (c.in_err-serve_piece.ensures s w.read x w.drained)))

pub returns-in-End : goal.returns-in-End
returns-in-End g c = λ s h.
    let out = outside g.W.Write.contents g.F.LogFile.told g.F.LogFile.synced g.F.LogFile.failures in
    let left = g.R.Read.remaining in let p = c.loop-round.linked in let q = c.serve_piece.new.linked in
    let x = out c.args.output.now c.args.log.now in let y = out c.loop-round.output c.loop-round.log in let z = out c.serve_piece.new.output c.serve_piece.new.log in
    let b = left c.args.input.now in let m = left c.loop-round.input in let e = left c.serve_piece.new.input in
    let w : Relays c.args.given s [] x b m p y = c.loop-round.invariant s h in
    session_end c.args.given s x b e q z
    (after_round c.args.given s x b m e p y q z (Ok round.End) w (subst (λ t. IsRound c.args.given s w.read x m e q z (Ok t)) c.in-End.is (c.in_ok-serve_piece.ensures s w.read x w.drained)))

pub returns-in-Shut : goal.returns-in-Shut
returns-in-Shut g c = λ s h.
    let out = outside g.W.Write.contents g.F.LogFile.told g.F.LogFile.synced g.F.LogFile.failures in
    let left = g.R.Read.remaining in let p = c.loop-round.linked in let q = c.serve_piece.new.linked in
    let x = out c.args.output.now c.args.log.now in let y = out c.loop-round.output c.loop-round.log in let z = out c.serve_piece.new.output c.serve_piece.new.log in
    let b = left c.args.input.now in let m = left c.loop-round.input in let e = left c.serve_piece.new.input in
    let w : Relays c.args.given s [] x b m p y = c.loop-round.invariant s h in
    session_close c.args.given s x b e z
    (after_round c.args.given s x b m e p y q z (Ok round.Shut) w (subst (λ t. IsRound c.args.given s w.read x m e q z (Ok t)) c.in-Shut.is (c.in_ok-serve_piece.ensures s w.read x w.drained)))

pub loop-round-preserved : goal.loop-round-preserved
loop-round-preserved g c = λ s h.
    let out = outside g.W.Write.contents g.F.LogFile.told g.F.LogFile.synced g.F.LogFile.failures in
    let left = g.R.Read.remaining in let p = c.loop-round.linked in let q = c.serve_piece.new.linked in
    let x = out c.args.output.now c.args.log.now in let y = out c.loop-round.output c.loop-round.log in let z = out c.serve_piece.new.output c.serve_piece.new.log in
    let b = left c.args.input.now in let m = left c.loop-round.input in let e = left c.serve_piece.new.input in
    let w : Relays c.args.given s [] x b m p y = c.loop-round.invariant s h in
    after_round c.args.given s x b m e p y q z (Ok round.On) w (subst (λ t. IsRound c.args.given s w.read x m e q z (Ok t)) c.in-On.is (c.in_ok-serve_piece.ensures s w.read x w.drained))

pub returns : goal.returns
returns g c = λ s h.
    let out = outside g.W.Write.contents g.F.LogFile.told g.F.LogFile.synced g.F.LogFile.failures in
    let left = g.R.Read.remaining in
    session_stop c.args.given s (out c.args.output.now c.args.log.now) (left c.args.input.now) (left c.loop-round.input) c.loop-round.linked (out c.loop-round.output c.loop-round.log) (c.loop-round.invariant s h)
