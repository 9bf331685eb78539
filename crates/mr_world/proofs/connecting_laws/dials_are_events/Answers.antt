use Rattle.mr_world.proofs.Connected.{dialled_is_event}
use Rattle.mr_world.proofs.connecting_laws.dials_are_events.Goals as goal

pub returns : goal.returns
returns c = λ w book n m v holds can d. dialled_is_event w book n m holds v can d
