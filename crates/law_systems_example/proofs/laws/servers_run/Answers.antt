use Rattle.law_systems_example.proofs.Ending.{story}
use Rattle.law_systems_example.proofs.laws.servers_run.Goals as goal

pub returns : goal.returns
returns c = story
