use Rattle.law_protocol_example.proofs.StoryRun.{ends_level}
use Rattle.law_protocol_example.proofs.laws.a_return_ends_level.Goals as goal

pub returns : goal.returns
returns c = ends_level
