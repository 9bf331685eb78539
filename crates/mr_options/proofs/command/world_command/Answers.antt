use Rattle.std.specs.Prelude.{◌^◌, codes}
use Rattle.mr_options.specs.Lines.{number_rule}
use Rattle.mr_options.proofs.Commands.{with_last}
use Rattle.mr_options.proofs.command.world_command.Goals as goal

pub returns-clause-shape : goal.returns-clause-shape
returns-clause-shape c = with_last c.with_number.result (number_rule (codes "backlog") 1 (2 ^ 30)) c.new.ensures.app c.with_number.ensures.shape

pub returns-clause-local : goal.returns-clause-local
returns-clause-local c = c.with_number.ensures.local
