use Rattle.mr_peer_lines.proofs.Apart.{front_read, beginning_waits}
use Rattle.mr_peer_lines.proofs.laws.cuts_do_not_matter.Goals as goal

pub returns-clause-whole : goal.returns-clause-whole
returns-clause-whole c = front_read

pub returns-clause-begun : goal.returns-clause-begun
returns-clause-begun c = beginning_waits
