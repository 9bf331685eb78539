use Rattle.mr_replication.proofs.Kept.{listens_keeps}
use Rattle.mr_replication.proofs.course.Course.listen.Goals as goal

pub invariant_of-self : goal.invariant_of-self
invariant_of-self c = listens_keeps c.self.inside.parts c.args.held.now c.listen.result c.listen.new.self c.listen.new.held c.listen.new.out.items c.self.invariant c.listen.ensures
