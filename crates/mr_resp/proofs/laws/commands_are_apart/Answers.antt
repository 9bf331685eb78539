use Rattle.mr_resp.proofs.Commands.{commands_apart, command_wants_no_more, command_of}
use Rattle.mr_resp.proofs.laws.commands_are_apart.Goals as goal

pub returns-clause-apart : goal.returns-clause-apart
returns-clause-apart c = commands_apart

pub returns-clause-no_text : goal.returns-clause-no_text
returns-clause-no_text c = command_wants_no_more

pub returns-clause-requests : goal.returns-clause-requests
returns-clause-requests c = command_of
