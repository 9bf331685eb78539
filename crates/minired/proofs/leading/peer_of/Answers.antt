use Rattle.std.proofs.Common.{rules, ◌≡◌, ◌↔◌, Bool, true, false, Option, Some, IfSome, refl, sym, ap, subst, ◌∙◌}
use Rattle.mr_links.specs.declared.link_id.LinkId.{LinkId}
use Rattle.mr_node.specs.Calls.{IsClients}
use Rattle.mr_node_spec.specs.State.{NodeState}
use Rattle.mr_connections.specs.State.{ConnectionState}
use Rattle.mr_loop.specs.Stage.{LoopState, connection_at}
use Rattle.mr_silence.specs.declared.peer.Peer.{Peer}
use Rattle.mr_silence.specs.declared.peer.Peer.TheVariants as peer
use Rattle.minired.specs.Leading.{link_at, link_in}
use Rattle.minired.proofs.leading.peer_of.Goals as goal

-- the node's link, of a connection that has one
has_link : (own : LoopState) (socket link : LinkId) (c : ConnectionState) → connection_at own socket ≡ Some c → c.link ≡ Some link → link_at own socket ≡ Some link
has_link own socket link c is linked = ap link_in is ∙ linked

-- of the link that it is, this says it of the socket's
says : (a : NodeState) (p : Peer) (o : Option LinkId) (link : LinkId) → o ≡ Some link → (p ≡ peer.Client) ↔ IsClients a link → IfSome o (λ l. (p ≡ peer.Client) ↔ IsClients a l)
says a p o link is both = subst (λ (z : Option LinkId). IfSome z (λ l. (p ≡ peer.Client) ↔ IsClients a l)) (sym is) both

either : (b : Bool) → b ≡ true → b ≡ false → ⊥
either b is not = let wrong : true ≡ false = sym is ∙ not in cc

no_master : peer.Master ≡ peer.Client → ⊥
no_master e = cc

no_replica : peer.Replica ≡ peer.Client → ⊥
no_replica e = cc

pub returns-then-is_client-clause-client : goal.returns-then-is_client-clause-client
returns-then-is_client-clause-client c =
    let connection = c.in-Some.connection.now in
    let is : connection_at c.args.own.now c.args.socket ≡ Some connection = search rules in
    let linked : connection.link ≡ Some c.in-Some-link.link = search rules in
    says c.args.node.now peer.Client (link_at c.args.own.now c.args.socket) c.in-Some-link.link (has_link c.args.own.now c.args.socket c.in-Some-link.link connection is linked)
    (λ e. c.is_client.ensures.0 c.if-is_client.true, λ client. refl)

pub returns-then-is-clause-client : goal.returns-then-is-clause-client
returns-then-is-clause-client c =
    let connection = c.in-Some.connection.now in
    let is : connection_at c.args.own.now c.args.socket ≡ Some connection = search rules in
    let linked : connection.link ≡ Some c.in-Some-link.link = search rules in
    says c.args.node.now peer.Master (link_at c.args.own.now c.args.socket) c.in-Some-link.link (has_link c.args.own.now c.args.socket c.in-Some-link.link connection is linked)
    (λ e. absurd (no_master e), λ client. absurd (either c.is_client.result (c.is_client.ensures.1 client) c.if-is_client.false))

pub returns-else-is-clause-client : goal.returns-else-is-clause-client
returns-else-is-clause-client c =
    let connection = c.in-Some.connection.now in
    let is : connection_at c.args.own.now c.args.socket ≡ Some connection = search rules in
    let linked : connection.link ≡ Some c.in-Some-link.link = search rules in
    says c.args.node.now peer.Replica (link_at c.args.own.now c.args.socket) c.in-Some-link.link (has_link c.args.own.now c.args.socket c.in-Some-link.link connection is linked)
    (λ e. absurd (no_replica e), λ client. absurd (either c.is_client.result (c.is_client.ensures.1 client) c.if-is_client.false))
