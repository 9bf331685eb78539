use Rattle.mr_replication.proofs.Kept.{fed_or_same}
use Rattle.mr_replication.proofs.course.Course.feed.Goals as goal

pub invariant_of-self : goal.invariant_of-self
invariant_of-self c = fed_or_same c.feed.result c.self.inside.parts c.feed.new.self c.args.bytes.now c.self.invariant c.feed.ensures.ok c.feed.ensures.err
