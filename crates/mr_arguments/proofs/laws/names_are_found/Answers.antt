use Rattle.mr_arguments.proofs.NameLemmas.{named_itself}
use Rattle.mr_arguments.proofs.laws.names_are_found.Goals as goal

pub returns : goal.returns
returns c = named_itself
