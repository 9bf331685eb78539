use Rattle.std.proofs.Common.{ℕ, List, ◌++◌, Option, take}
use Rattle.law_refinement.specs.State.{WorldState}
use Rattle.mr_world_player.specs.Scripts.{Goes}
use Rattle.mr_world_player.specs.Staging.{Going, IsOnStage}
use Rattle.mr_world_player.proofs.stage.Stage.read_all.Given as goal

abbrev pub invariant-loop-byte : goal.invariant-loop-byte
invariant-loop-byte g l = (size : ℕ) (w : WorldState) (read : List ℕ) (old : Option (List ℕ)) (v : WorldState) (rest : List ℕ) → IsOnStage size v rest l.fn.self
    → Goes size w read old v rest (g.W.Write.contents l.fn.output) → Going size w (read ++ take l.byte-index l.bytes) old l.self (g.W.Write.contents l.output)
