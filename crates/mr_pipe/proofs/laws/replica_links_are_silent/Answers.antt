use Rattle.mr_pipe.proofs.Roles as roles
use Rattle.mr_pipe.proofs.laws.replica_links_are_silent.Goals as goal

pub returns-clause-steps : goal.returns-clause-steps
returns-clause-steps c = roles.links_are_silent

pub returns-clause-ends : goal.returns-clause-ends
returns-clause-ends c = roles.links_end_silently
