use Rattle.law_files.proofs.Clients.{replica_keeps, idle_keeps}
use Rattle.law_files.proofs.laws.other_steps_keep.Goals as goal

pub returns-clause-replicas : goal.returns-clause-replicas
returns-clause-replicas c = replica_keeps

pub returns-clause-idle : goal.returns-clause-idle
returns-clause-idle c = idle_keeps
