use Rattle.std.proofs.Common.{sym, ap, ◌∙◌}
use Rattle.mr_node.specs.Parts.{role_of}
use Rattle.mr_loop.specs.News.{place_of}
use Rattle.mr_loop.proofs.Outs.{at_client}
use Rattle.mr_loop.proofs.host.Host.place.Goals as goal

pub returns-in-Sync : goal.returns-in-Sync
returns-in-Sync g c =
    let a = c.args.self.now.node.now in
    c.place_of.ensures ∙ (ap (λ r. place_of r c.is_client.result) (sym c.in-Sync.is ∙ c.role.ensures) ∙ ap (λ x. place_of (role_of a) x) (at_client a c.args.link c.is_client.result c.is_client.ensures.0 c.is_client.ensures.1))

pub returns-in-Connected : goal.returns-in-Connected
returns-in-Connected g c =
    let a = c.args.self.now.node.now in
    c.place_of-in-Connected.ensures
    ∙ (ap (λ r. place_of r c.is_client-in-Connected.result) (sym c.in-Connected.is ∙ c.role.ensures) ∙ ap (λ x. place_of (role_of a) x) (at_client a c.args.link c.is_client-in-Connected.result c.is_client-in-Connected.ensures.0 c.is_client-in-Connected.ensures.1))
