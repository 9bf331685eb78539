use Rattle.mr_peer_lines.proofs.Apart.{one_answer}
use Rattle.mr_peer_lines.proofs.laws.line_is_one.Goals as goal

pub returns : goal.returns
returns c = one_answer
