use Rattle.mr_node_spec.proofs.Streams.{goes_on, goes_on_within}
use Rattle.mr_node_spec.proofs.laws.streams_only_grow.Goals as goal

pub returns-clause-alone : goal.returns-clause-alone
returns-clause-alone c = goes_on

pub returns-clause-within : goal.returns-clause-within
returns-clause-within c = goes_on_within
