use Rattle.mr_resp.proofs.Resuming.{fresh_agrees, agrees_more, fresh_command, command_more}
use Rattle.mr_resp.proofs.laws.progress_lasts.Goals as goal

pub returns-clause-fresh : goal.returns-clause-fresh
returns-clause-fresh c = fresh_agrees

pub returns-clause-more : goal.returns-clause-more
returns-clause-more c = agrees_more

pub returns-clause-fresh_command : goal.returns-clause-fresh_command
returns-clause-fresh_command c = fresh_command

pub returns-clause-more_of_command : goal.returns-clause-more_of_command
returns-clause-more_of_command c = command_more
