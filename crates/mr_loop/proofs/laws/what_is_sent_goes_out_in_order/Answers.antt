use Rattle.mr_loop.proofs.Sending.{goes_out_in_order}
use Rattle.mr_loop.proofs.laws.what_is_sent_goes_out_in_order.Goals as goal

pub returns : goal.returns
returns c = goes_out_in_order
