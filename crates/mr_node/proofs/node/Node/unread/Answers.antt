use Rattle.std.proofs.Common.{◌≡◌, length, rules, Some, true}
use Rattle.mr_node_links.specs.State.{unread_in}
use Rattle.mr_node_spec.specs.State.{end_of}
use Rattle.mr_node.proofs.Ends.{served_unreads}
use Rattle.mr_node.proofs.node.Node.unread.Goals as goal

pub returns-in-Client-clause-there : goal.returns-in-Client-clause-there
returns-in-Client-clause-there c =
    let end = c.in_ok-end.end.now in
    let found : end_of c.args.self.now c.args.link ≡ Some end = search rules in
    let up : c.args.self.now.core.up ≡ true = search rules in
    let counted : length c.unread.result.now ≡ length (unread_in end) = search rules in
    served_unreads c.args.self.now c.args.link end c.kind.result (length c.unread.result.now) up found c.in-Client.is c.kind.ensures counted
