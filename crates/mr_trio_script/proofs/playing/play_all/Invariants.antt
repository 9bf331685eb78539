use Rattle.mr_trio_script.specs.Scripts.{HasPlayed}
use Rattle.mr_trio_script.proofs.playing.play_all.Given as goal

abbrev pub invariant-loop-line : goal.invariant-loop-line
invariant-loop-line g l = HasPlayed g.N.Nodes.conduct l.fn.nodes (g.R.Read.remaining l.fn.input) (g.R.Read.remaining l.input) (g.W.Write.contents l.fn.output) (g.W.Write.contents l.output) l.nodes
