use Rattle.std.proofs.Common.{arith, ◌-◌, ◌∙◌, length, drop, length-drop, length-take}
use Rattle.mr_aof.proofs.Pieces.{more, some_more}
use Rattle.mr_aof.proofs.log.write_all.Goals as goal

pub loop-at-preserved : goal.loop-at-preserved
loop-at-preserved g c = record {
  within = omega (arith, c.in-Ok.ensures.within, length-take (length c.args.piece.now - c.loop-at.at) (drop c.loop-at.at c.args.piece.now), length-drop c.loop-at.at c.args.piece.now);
  appended = more _ _ _ c.args.piece.now c.loop-at.at c.in-Ok.count c.loop-at.invariant.appended c.in-Ok.ensures.written;
  covered = c.in-Ok.ensures.covered ∙ c.loop-at.invariant.covered;
  later = omega (arith, c.loop-at.invariant.later, c.in-Ok.ensures.later);
}

pub returns-in-Err-clause-failed : goal.returns-in-Err-clause-failed
returns-in-Err-clause-failed g c = some_more _ _ _ c.args.piece.now c.loop-at.at c.loop-at.invariant.within c.loop-at.invariant.appended c.in-Err.ensures.failed
