use Rattle.mr_inline.proofs.FaultReasons.{unbalanced_quotes, no_quote_balanced}
use Rattle.mr_inline.proofs.laws.faults_say_why.Goals as goal

pub returns-clause-unbalanced : goal.returns-clause-unbalanced
returns-clause-unbalanced c = λ limit bytes p none. unbalanced_quotes limit bytes none p

pub returns-clause-quoted : goal.returns-clause-quoted
returns-clause-quoted c = λ limit front b h none. no_quote_balanced limit front b none h

pub returns-clause-too_big : goal.returns-clause-too_big
returns-clause-too_big c = λ limit bytes p. p.fault
