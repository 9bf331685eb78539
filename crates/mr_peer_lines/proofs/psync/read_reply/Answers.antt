use Rattle.mr_peer_lines.proofs.Places.{no_reply}
use Rattle.mr_peer_lines.proofs.psync.read_reply.Goals as goal

pub returns-in_err-place-in-None : goal.returns-in_err-place-in-None
returns-in_err-place-in-None c = rw c.from_residual-in_err-place-in-None.ensures (no_reply c.args.text.now c.in-None.ensures c.in_err-place-in-None.ensures)
