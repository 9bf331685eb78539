use Rattle.law_servers.proofs.Moving.{calls_are_events}
use Rattle.law_servers.proofs.laws.calls_are_events.Goals as goal

pub returns : goal.returns
returns c = calls_are_events
