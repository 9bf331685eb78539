use Rattle.std.proofs.Common.{ℕ, []}
use Rattle.law_refinement.specs.Worlds.{no_world}
use Rattle.mr_world_player.specs.Staging.{IsOnStage, Reads}
use Rattle.mr_world_player.proofs.whole.play_all.Given as goal

abbrev pub invariant-loop-round : goal.invariant-loop-round
invariant-loop-round g l = (size : ℕ) → IsOnStage size no_world [] l.fn.stage
    → Reads size no_world (g.R.Read.remaining l.fn.input) (g.R.Read.remaining l.input) (g.W.Write.contents l.fn.output) l.stage (g.W.Write.contents l.output)
