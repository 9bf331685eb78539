use Rattle.mr_node_spec.proofs.Streams.{only_answers, only_answers_within}
use Rattle.mr_node_spec.proofs.laws.replicas_only_answer.Goals as goal

pub returns-clause-alone : goal.returns-clause-alone
returns-clause-alone c = only_answers

pub returns-clause-within : goal.returns-clause-within
returns-clause-within c = only_answers_within
