use Rattle.mr_commands.proofs.Written.{as_the_table_says}
use Rattle.mr_commands.proofs.laws.writes_are_the_tables.Goals as goal

pub returns : goal.returns
returns c = as_the_table_says
