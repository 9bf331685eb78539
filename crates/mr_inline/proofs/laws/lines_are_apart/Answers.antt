use Rattle.mr_inline.proofs.LinesByRuns.{apart, one_list, wants_no_more}
use Rattle.mr_inline.proofs.laws.lines_are_apart.Goals as goal

pub returns-clause-apart : goal.returns-clause-apart
returns-clause-apart c = apart

pub returns-clause-words : goal.returns-clause-words
returns-clause-words c = one_list

pub returns-clause-whole : goal.returns-clause-whole
returns-clause-whole c = wants_no_more
