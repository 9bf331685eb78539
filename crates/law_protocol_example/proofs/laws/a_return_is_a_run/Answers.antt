use Rattle.law_protocol_example.proofs.StoryRun.{story_is_a_run}
use Rattle.law_protocol_example.proofs.laws.a_return_is_a_run.Goals as goal

pub returns : goal.returns
returns c = story_is_a_run
