use Rattle.mr_effect.proofs.Texts.{command_text}
use Rattle.mr_effect.proofs.laws.effects_are_command_texts.Goals as goal

pub returns : goal.returns
returns c = command_text
