use Rattle.mr_node.proofs.Rows.{skip_row}
use Rattle.mr_node.proofs.node.Node.skip.Goals as goal

pub returns : goal.returns
returns c = λ u given fresh at p. skip_row c.args.self.now c.advance.new.self c.args.link u given fresh c.args.used at p c.advance.ensures
