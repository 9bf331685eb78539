use Rattle.mr_pipe.proofs.Roles as roles
use Rattle.mr_pipe.proofs.laws.replicas_only_rewrite.Goals as goal

pub returns : goal.returns
returns c = roles.replicas_only_rewrite
