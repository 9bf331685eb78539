use Rattle.std.proofs.Common.{rules, ◌≡◌, Err, sym, subst, take}
use Rattle.std.specs.Io.KnownBytes.{Keeps}
use Rattle.mr_pipe.specs.Reading.{IsRead}
use Rattle.mr_world_player.specs.Staging.{IsRound}
use Rattle.mr_world_player.proofs.Rounds.{breaks_reading, reads_end, reads_fail, reads_more, reads_on}
use Rattle.mr_world_player.proofs.whole.play_piece.Goals as goal

pub returns-in_err-count : goal.returns-in_err-count
returns-in_err-count g c = λ size w before old q.
    let left = g.R.Read.remaining in let told = g.W.Write.contents in
    let m = left c.args.input.now in let e = left c.read_piece.new.input in
    let s = c.args.stage.now in let y = told c.args.output.now in
    let why = c.in_err-count.field-0.0 in
    let is : c.from_residual.result ≡ Err why = search rules in
    subst (λ r. IsRound size w before e old s y r) (sym is) (reads_fail size w before old m e s y why c.in_err-count.ensures.fault q c.in_err-count.ensures.failed)

pub returns-in_default : goal.returns-in_default
returns-in_default g c = λ size w before old q.
    let left = g.R.Read.remaining in let told = g.W.Write.contents in
    let m = left c.args.input.now in let e = left c.read_piece.new.input in
    let kept : Keeps m e = subst (λ r. IsRead m e c.read_piece.new.buffer r) c.in_default.is c.in_ok-count.ensures.read in
    reads_on size w before old m e c.args.stage.now (told c.args.output.now) q kept

pub returns-then-count-eq0 : goal.returns-then-count-eq0
returns-then-count-eq0 g c = λ size w before old q.
    let left = g.R.Read.remaining in let told = g.W.Write.contents in
    let m = left c.args.input.now in let e = left c.read_piece.new.input in
    let came = subst (λ r. IsRead m e c.read_piece.new.buffer r) c.in-Some.is c.in_ok-count.ensures.read in
    let none : c.in-Some.count ≡ 0 = search rules in
    reads_end size w before old m e c.args.stage.now (told c.args.output.now) c.read_piece.new.buffer c.in-Some.count none came q

pub returns-in_err-read_all : goal.returns-in_err-read_all
returns-in_err-read_all g c = λ size w before old q.
    let left = g.R.Read.remaining in let told = g.W.Write.contents in
    let m = left c.args.input.now in let e = left c.read_piece.new.input in
    let s = c.args.stage.now in let t = c.read_all.new.self in let y = told c.args.output.now in let z = told c.read_all.new.output in
    let bytes = take c.in-Some.count c.read_piece.new.buffer in
    let came = subst (λ r. IsRead m e c.read_piece.new.buffer r) c.in-Some.is c.in_ok-count.ensures.read in
    let why = c.in_err-read_all.field-0.0 in
    let is : c.from_residual-in_err-read_all.result ≡ Err why = search rules in
    subst (λ r. IsRound size w before e old t z r) (sym is)
    (breaks_reading size w before old m e s t y z bytes why q came.1 (c.in_err-read_all.ensures size w q.read old q.going.world q.going.rest q.going.stands q.going.goes))

pub returns : goal.returns
returns g c = λ size w before old q.
    let left = g.R.Read.remaining in let told = g.W.Write.contents in
    let m = left c.args.input.now in let e = left c.read_piece.new.input in
    let s = c.args.stage.now in let t = c.read_all.new.self in let y = told c.args.output.now in let z = told c.read_all.new.output in
    let bytes = take c.in-Some.count c.read_piece.new.buffer in
    let came = subst (λ r. IsRead m e c.read_piece.new.buffer r) c.in-Some.is c.in_ok-count.ensures.read in
    reads_more size w before old m e s t y z bytes q came.1 (c.in_ok-read_all.ensures size w q.read old q.going.world q.going.rest q.going.stands q.going.goes)
