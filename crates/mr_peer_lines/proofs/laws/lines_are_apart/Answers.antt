use Rattle.mr_peer_lines.proofs.Apart.{apart, one_line}
use Rattle.mr_peer_lines.proofs.laws.lines_are_apart.Goals as goal

pub returns-clause-apart : goal.returns-clause-apart
returns-clause-apart c = apart

pub returns-clause-says : goal.returns-clause-says
returns-clause-says c = one_line
