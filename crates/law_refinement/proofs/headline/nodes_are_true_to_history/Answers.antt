use Rattle.law_refinement.proofs.Histories.{gives_one}
use Rattle.law_refinement.proofs.Moments.{true_to_history}
use Rattle.law_refinement.proofs.headline.nodes_are_true_to_history.Goals as goal

pub returns-clause-nodes : goal.returns-clause-nodes
returns-clause-nodes c = true_to_history

pub returns-clause-one : goal.returns-clause-one
returns-clause-one c = gives_one
