use Rattle.mr_keyspace.proofs.Renaming.{renamed_onto_itself}
use Rattle.mr_data.proofs.laws.renaming_to_itself_changes_nothing.Goals as goal

pub returns : goal.returns
returns c = renamed_onto_itself
