use Rattle.mr_zset.proofs.BoundLemmas.{included_texts, excluded_texts, positive_texts, negative_texts}
use Rattle.mr_zset.proofs.laws.bound_texts.Goals as goal

pub returns-clause-included : goal.returns-clause-included
returns-clause-included c = included_texts

pub returns-clause-excluded : goal.returns-clause-excluded
returns-clause-excluded c = excluded_texts

pub returns-clause-positive : goal.returns-clause-positive
returns-clause-positive c = positive_texts

pub returns-clause-negative : goal.returns-clause-negative
returns-clause-negative c = negative_texts
