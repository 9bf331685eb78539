use Rattle.std.proofs.Common.{◌≡◌, refl, rules, Some}
use Rattle.mr_node_links.specs.Ending.{kind_of}
use Rattle.mr_node_links.specs.declared.kind.Kind.TheVariants as kind
use Rattle.mr_node_spec.specs.State.{end_of}
use Rattle.mr_node.proofs.Linking.{client_end}
use Rattle.mr_node.proofs.node.Node.is_client.Goals as goal

pub returns-in-Client : goal.returns-in-Client
returns-in-Client c =
    let end = c.in-Some.end.now in
    let found : end_of c.args.self.now c.args.link ≡ Some end = search rules in
    let of_client : kind_of end ≡ kind.Client = search rules in
    (λ yes. client_end c.args.self.now c.args.link end found of_client, λ is. refl)
