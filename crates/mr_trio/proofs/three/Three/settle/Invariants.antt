use Rattle.mr_trio.specs.Asking.{MovesIf, end_at}
use Rattle.mr_trio.proofs.three.Three.settle.Given as goal

-- what the turns so far made of the end of the client's link to the node there
abbrev pub invariant-loop-turn : goal.invariant-loop-turn
invariant-loop-turn l = MovesIf (end_at l.place l.fn.self.desk) (end_at l.place l.self.desk)
