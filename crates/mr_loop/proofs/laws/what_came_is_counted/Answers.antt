use Rattle.mr_loop.proofs.Hearing.{nothing_else, what_came}
use Rattle.mr_loop.proofs.laws.what_came_is_counted.Goals as goal

pub returns-clause-came : goal.returns-clause-came
returns-clause-came c = λ socket link given fresh told s t outs f calls found. what_came s.node t.node link given fresh outs told f calls.stepped found calls.news_are

pub returns-clause-nothing : goal.returns-clause-nothing
returns-clause-nothing c = λ socket link given fresh told s t outs calls other. nothing_else s.node t.node link given fresh outs told calls.stepped other calls.news_are
