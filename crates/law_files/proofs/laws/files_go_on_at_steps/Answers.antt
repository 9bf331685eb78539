use Rattle.law_files.proofs.Worlds.{client_steps, within_steps, replica_steps, idle_steps, stops}
use Rattle.law_files.proofs.laws.files_go_on_at_steps.Goals as goal

pub returns-clause-clients : goal.returns-clause-clients
returns-clause-clients c = client_steps

pub returns-clause-within : goal.returns-clause-within
returns-clause-within c = within_steps

pub returns-clause-replicas : goal.returns-clause-replicas
returns-clause-replicas c = replica_steps

pub returns-clause-idle : goal.returns-clause-idle
returns-clause-idle c = idle_steps

pub returns-clause-stops : goal.returns-clause-stops
returns-clause-stops c = stops
