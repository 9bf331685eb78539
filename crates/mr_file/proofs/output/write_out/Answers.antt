use Rattle.std.proofs.Common.{arith, ◌-◌, length, drop, length-drop, length-take}
use Rattle.mr_file.proofs.Written.{some_more}
use Rattle.mr_file.proofs.output.write_out.Goals as goal

pub loop-write-preserved : goal.loop-write-preserved
loop-write-preserved g c = record {
  within = omega (arith, c.loop-write.invariant.within, c.in_ok-at.ensures.within, length-take (length c.args.bytes.now - c.loop-write.at) (drop c.loop-write.at c.args.bytes.now), length-drop c.loop-write.at c.args.bytes.now);
  written = some_more _ _ _ c.args.bytes.now c.loop-write.at c.in_ok-at.field-0 c.loop-write.invariant.written c.in_ok-at.ensures.written;
}
