use Rattle.std.proofs.Common.{arith}
use Rattle.mr_order.proofs.Changing.{counted_taken}
use Rattle.mr_order.proofs.level.LevelPart.take.Goals as goal

pub returns-clause-kept : goal.returns-clause-kept
returns-clause-kept g c = record {
  counted = counted_taken (g.Q.Query.compare c.args.query) g.P.Part.items g.P.Part.is_kept c.args.self.now.parts.items c.take_out.new.parts.items c.args.self.now.len c.requires.kept.counted c.take_out.ensures.sound c.in_ok-item.item c.in_ok-item.ensures.taken;
  few = omega (arith, c.requires.kept.few, c.take_out.ensures.parts);
}
