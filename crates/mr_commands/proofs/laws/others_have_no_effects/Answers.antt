use Rattle.mr_commands.proofs.Silence.{others_are_silent}
use Rattle.mr_commands.proofs.laws.others_have_no_effects.Goals as goal

pub returns : goal.returns
returns c = others_are_silent
