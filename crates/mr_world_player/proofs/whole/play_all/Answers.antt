use Rattle.std.proofs.Common.{rules, ◌≡◌, Err, Ok, true, false, refl, sym, subst}
use Rattle.std.proofs.KnownBytes.{Keeps-refl}
use Rattle.mr_pipe.specs.declared.fault.PipeFault.TheVariants as fault
use Rattle.law_refinement.specs.Worlds.{no_world}
use Rattle.mr_world_player.specs.Scripts.{IsScript}
use Rattle.mr_world_player.specs.Staging.{IsRound}
use Rattle.mr_world_player.proofs.Rounds.{no_reads, reads_fail, script_breaks, script_ends}
use Rattle.mr_world_player.proofs.whole.play_all.Goals as goal

pub loop-round-init : goal.loop-round-init
loop-round-init g c = λ size st. no_reads size no_world (g.R.Read.remaining c.args.input.now) (g.W.Write.contents c.args.output.now) c.args.stage.now st

pub returns-in_err-play_piece : goal.returns-in_err-play_piece
returns-in_err-play_piece g c = λ size st.
    let left = g.R.Read.remaining in let told = g.W.Write.contents in
    let b = left c.args.input.now in let e = left c.play_piece.new.input in let y = told c.args.output.now in let z = told c.play_piece.new.output in
    let why = c.in_err-play_piece.field-0.0 in
    let is : c.from_residual.result ≡ Err why = search rules in
    subst (λ r. IsScript size b e y z r) (sym is) (script_breaks size b e y why z (c.in_err-play_piece.ensures size no_world b y (c.loop-round.invariant size st)))

pub returns-then-not-branch : goal.returns-then-not-branch
returns-then-not-branch g c = λ size st.
    let left = g.R.Read.remaining in let told = g.W.Write.contents in
    let b = left c.args.input.now in let e = left c.play_piece.new.input in let y = told c.args.output.now in let z = told c.play_piece.new.output in
    let ended : c.in_ok-play_piece.field-0 ≡ false = search rules in
    script_ends size b e y c.play_piece.new.stage z
    (subst (λ t. IsRound size no_world b e y c.play_piece.new.stage z (Ok t)) ended (c.in_ok-play_piece.ensures size no_world b y (c.loop-round.invariant size st)))

pub loop-round-preserved : goal.loop-round-preserved
loop-round-preserved g c = λ size st.
    let left = g.R.Read.remaining in let told = g.W.Write.contents in
    let b = left c.args.input.now in let e = left c.play_piece.new.input in let y = told c.args.output.now in let z = told c.play_piece.new.output in
    let goes_on : c.in_ok-play_piece.field-0 ≡ true = search rules in
    subst (λ t. IsRound size no_world b e y c.play_piece.new.stage z (Ok t)) goes_on (c.in_ok-play_piece.ensures size no_world b y (c.loop-round.invariant size st))

pub returns : goal.returns
returns g c = λ size st.
    let left = g.R.Read.remaining in let told = g.W.Write.contents in
    let b = left c.args.input.now in let e = left c.loop-round.input in let y = told c.args.output.now in let z = told c.loop-round.output in
    script_breaks size b e y fault.Read z (reads_fail size no_world b y e e c.loop-round.stage z fault.Read refl (c.loop-round.invariant size st) (Keeps-refl e))
