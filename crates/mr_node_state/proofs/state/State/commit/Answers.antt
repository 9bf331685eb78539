use Rattle.mr_node_state.proofs.Changes.{commits_of}
use Rattle.mr_node_state.proofs.state.State.commit.Goals as goal

pub returns-clause-ok : goal.returns-clause-ok
returns-clause-ok c = commits_of c.args.self.now c.apply.new.self c.grow.new.self c.args.effects.items c.args.told.now c.in_ok-apply.ensures.ok c.requires.told c.grow.ensures
