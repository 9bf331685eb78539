use Rattle.mr_world.proofs.Connected.{accepted_is_event, connected_is_event}
use Rattle.mr_world.proofs.connecting_laws.connects_and_accepts_are_events.Goals as goal

pub returns-clause-connects : goal.returns-clause-connects
returns-clause-connects c = λ w book n v holds can d. connected_is_event w book holds n v can d

pub returns-clause-accepts : goal.returns-clause-accepts
returns-clause-accepts c = λ w book l m v holds can d. accepted_is_event w book holds l m v can d
