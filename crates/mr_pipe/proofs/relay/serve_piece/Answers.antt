use Rattle.std.proofs.Common.{rules, ◌≡◌, ◌++◌, Ok, Err, sym, subst, take, min, length}
use Rattle.std.specs.Prelude.{unwrap_or}
use Rattle.mr_node_spec.specs.State.{room_of}
use Rattle.mr_pipe.specs.Outside.{outside}
use Rattle.std.specs.Io.KnownBytes.{Keeps}
use Rattle.mr_pipe.specs.Reading.{IsRead}
use Rattle.mr_pipe.specs.Serving.{IsDrained}
use Rattle.mr_pipe.specs.Piped.{IsRound}
use Rattle.mr_pipe.proofs.Relaying.{no_more, no_room, read_failed, delivered, delivered_all, not_delivered, at_end_round}
use Rattle.mr_pipe.proofs.relay.serve_piece.Goals as goal

pub returns-then-most-eq0 : goal.returns-then-most-eq0
returns-then-most-eq0 g c = λ s u x d.
    let out = outside g.W.Write.contents g.F.LogFile.told g.F.LogFile.synced g.F.LogFile.failures in
    let y = out c.args.output.now c.args.log.now in let b = g.R.Read.remaining c.args.input.now in let p = c.args.linked.now in
    let none : min (unwrap_or (room_of p.node p.link) 0) (length c.args.buffer.now) ≡ 0 = search rules in
    no_room c.args.given s u x b p y d (length c.args.buffer.now) c.requires none

pub returns-in_err-count : goal.returns-in_err-count
returns-in_err-count g c = λ s u x d.
    let out = outside g.W.Write.contents g.F.LogFile.told g.F.LogFile.synced g.F.LogFile.failures in
    let y = out c.args.output.now c.args.log.now in let b = g.R.Read.remaining c.args.input.now in let p = c.args.linked.now in
    let e = g.R.Read.remaining c.read_piece.new.input in
    let why = c.in_err-count.field-0.0 in
    let told : c.from_residual.result ≡ Err why = search rules in
    subst (λ r. IsRound c.args.given s u x b e p y r) (sym told) (read_failed c.args.given s u x b e p y why c.in_err-count.ensures.fault d c.in_err-count.ensures.failed)

pub returns-in_default : goal.returns-in_default
returns-in_default g c = λ s u x d.
    let out = outside g.W.Write.contents g.F.LogFile.told g.F.LogFile.synced g.F.LogFile.failures in
    let y = out c.args.output.now c.args.log.now in let b = g.R.Read.remaining c.args.input.now in let p = c.args.linked.now in
    let e = g.R.Read.remaining c.read_piece.new.input in
    let kept : Keeps b e = subst (λ r. IsRead b e c.read_piece.new.buffer r) c.in_default.is c.in_ok-count.ensures.read in
    no_more c.args.given s u x b e p y d kept

pub returns-then-count-eq0 : goal.returns-then-count-eq0
returns-then-count-eq0 g c = λ s u x d.
    let out = outside g.W.Write.contents g.F.LogFile.told g.F.LogFile.synced g.F.LogFile.failures in
    let y = out c.args.output.now c.args.log.now in let b = g.R.Read.remaining c.args.input.now in let p = c.args.linked.now in
    let e = g.R.Read.remaining c.read_piece.new.input in
    let came = subst (λ r. IsRead b e c.read_piece.new.buffer r) c.in-Some.is c.in_ok-count.ensures.read in
    let none : c.in-Some.count ≡ 0 = search rules in
    at_end_round c.args.given s u x b e p y c.read_piece.new.buffer c.in-Some.count none came d

pub returns-in_err-goes_on : goal.returns-in_err-goes_on
returns-in_err-goes_on g c = λ s u x d.
    let out = outside g.W.Write.contents g.F.LogFile.told g.F.LogFile.synced g.F.LogFile.failures in
    let y = out c.args.output.now c.args.log.now in let b = g.R.Read.remaining c.args.input.now in let p = c.args.linked.now in
    let e = g.R.Read.remaining c.read_piece.new.input in
    let z = out c.deliver.new.output c.deliver.new.log in let q = c.deliver.new.linked in
    let bytes = take c.in-Some.count c.read_piece.new.buffer in
    let came = subst (λ r. IsRead b e c.read_piece.new.buffer r) c.in-Some.is c.in_ok-count.ensures.read in
    let why = c.in_err-goes_on.field-0.0 in
    let told : c.from_residual-in_err-goes_on.result ≡ Err why = search rules in
    subst (λ r. IsRound c.args.given s u x b e q z r) (sym told) (not_delivered c.args.given s u x b e bytes q z why came.1 (c.in_err-goes_on.ensures s u x d.going))

pub returns-then-goes_on : goal.returns-then-goes_on
returns-then-goes_on g c = λ s u x d.
    let out = outside g.W.Write.contents g.F.LogFile.told g.F.LogFile.synced g.F.LogFile.failures in
    let y = out c.args.output.now c.args.log.now in let b = g.R.Read.remaining c.args.input.now in let p = c.args.linked.now in
    let e = g.R.Read.remaining c.read_piece.new.input in
    let z = out c.deliver.new.output c.deliver.new.log in let q = c.deliver.new.linked in
    let bytes = take c.in-Some.count c.read_piece.new.buffer in
    let came = subst (λ r. IsRead b e c.read_piece.new.buffer r) c.in-Some.is c.in_ok-count.ensures.read in
    delivered c.args.given s u x b e bytes q z came.1 (subst (λ r. IsDrained c.args.given s (u ++ bytes) x q z (Ok r)) c.if-goes_on.true (c.in_ok-goes_on.ensures s u x d.going))

pub returns : goal.returns
returns g c = λ s u x d.
    let out = outside g.W.Write.contents g.F.LogFile.told g.F.LogFile.synced g.F.LogFile.failures in
    let y = out c.args.output.now c.args.log.now in let b = g.R.Read.remaining c.args.input.now in let p = c.args.linked.now in
    let e = g.R.Read.remaining c.read_piece.new.input in
    let z = out c.deliver.new.output c.deliver.new.log in let q = c.deliver.new.linked in
    let bytes = take c.in-Some.count c.read_piece.new.buffer in
    let came = subst (λ r. IsRead b e c.read_piece.new.buffer r) c.in-Some.is c.in_ok-count.ensures.read in
    delivered_all c.args.given s u x b e bytes q z came.1 (subst (λ r. IsDrained c.args.given s (u ++ bytes) x q z (Ok r)) c.if-goes_on.false (c.in_ok-goes_on.ensures s u x d.going))
