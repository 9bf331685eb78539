-- A dial in two events.
use Rattle.std.proofs.Common.{◌≡◌, None, Some, true, refl, ◌∙◌, ap}
use Rattle.law_protocol.specs.Language.{Language}
use Rattle.law_protocol.specs.Node.{Node, at_phase}
use Rattle.law_protocol.specs.Node.Phase.{Greet}
use Rattle.law_protocol.specs.World.{Link, World}
use Rattle.law_protocol.specs.World.Caller.{Peer}
use Rattle.law_protocol.specs.Changing.{Unless}
use Rattle.law_protocol.specs.Rows.{fresh_link, Calls, Accepts, AcceptRow}
use Rattle.law_protocol.specs.EachEvent.{DialIsConnectAndAccept}
use Rattle.law_protocol.proofs.Keeping.{one_or}
use Rattle.law_protocol.proofs.Refine.{put, put_here, put_before, put_after}

pub dial_is_connect_and_accept : {L : Language} → DialIsConnectAndAccept L
dial_is_connect_and_accept {L} w v n s row up server_up x = record {
  between = u;
  link = x.link;
  connect = record {
    node = row.node;
    found = row.found;
    replica = row.replica;
    waiting = row.waiting;
    does = Unless.acts up (Calls.connects (record {
      link = x.link;
      new_link = x.new_link;
      request = x.request;
      asks = x.asks;
      nodes = x.nodes;
      links = put_before w.link v.link x.link waits _ x.links;
      book = x.book;
    }));
  };
  accept = one_or s n
      (λ q. by (at_phase row.node x.link (Greet 0)) (ap (λ z. v.node z) q ∙ x.nodes.0) up)
      (λ q. by row.server (x.nodes.1 s q ∙ row.server_found) server_up);
}
  where
    waits : Link
    waits = fresh_link (Peer n) None x.request

    u : World L
    u = record v { link = put v.link x.link waits }

    by : (b : Node L) → v.node s ≡ Some b → b.up ≡ true → AcceptRow u x.link s v
    by b found runs = record {
      link = waits;
      found = put_here v.link x.link waits;
      waiting = refl;
      node = b;
      node_found = found;
      does = Unless.acts runs (Accepts.accepts (record { nodes = λ m. refl; links = put_after w.link v.link x.link waits _ x.links; book = λ i. refl }));
    }
