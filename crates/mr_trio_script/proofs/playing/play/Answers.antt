use Rattle.std.proofs.Common.{subst}
use Rattle.std.specs.Prelude.{Err}
use Rattle.mr_trio_script.specs.Scripts.{Plays}
use Rattle.mr_trio_script.specs.declared.fault.TrioFault.{TrioFault}
use Rattle.mr_trio_script.proofs.EndsTold.{late_cut, script_ends}
use Rattle.mr_trio_script.proofs.playing.play.Goals as goal

pub returns-in-Ok : goal.returns-in-Ok
returns-in-Ok g c = script_ends g.N.Nodes.conduct _ _ _ _ _ _ _ c.tell_ends.result c.in-Ok.ensures c.tell_ends.ensures

pub returns-in-Err-tell : goal.returns-in-Err-tell
returns-in-Err-tell g c =
    let P : TrioFault → Type 0 = λ f. Plays g.N.Nodes.conduct c.args.nodes.now (g.R.Read.remaining c.args.input.now) (g.R.Read.remaining c.play_all.new.input) (g.W.Write.contents c.args.output.now) (g.W.Write.contents c.play_all.new.output) c.play_all.new.nodes (Err f) in
    late_cut g.N.Nodes.conduct _ _ _ _ _ _ _ c.in-Err-tell.fault (subst P c.in-Err-Late.field-0-is c.in-Err-Late.ensures) c.in-Err-tell.ensures.begun c.in-Err-tell.ensures.fault
