use Rattle.law_refinement.proofs.Turning.{clients_keep, within_keep, replicas_keep, stops_keep}
use Rattle.law_refinement.proofs.laws.steps_keep_worlds.Goals as goal

pub returns-clause-clients : goal.returns-clause-clients
returns-clause-clients c = clients_keep

pub returns-clause-within : goal.returns-clause-within
returns-clause-within c = within_keep

pub returns-clause-replicas : goal.returns-clause-replicas
returns-clause-replicas c = replicas_keep

pub returns-clause-stops : goal.returns-clause-stops
returns-clause-stops c = stops_keep
