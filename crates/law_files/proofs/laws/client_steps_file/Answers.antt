use Rattle.law_files.proofs.Clients.{client_files, within_files}
use Rattle.law_files.proofs.laws.client_steps_file.Goals as goal

pub returns-clause-alone : goal.returns-clause-alone
returns-clause-alone c = client_files

pub returns-clause-within : goal.returns-clause-within
returns-clause-within c = within_files
