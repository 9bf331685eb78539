-- The second server dials the first.
use Rattle.std.proofs.Common.{◌≡◌, ◌+◌, ◌<◌, ◌≤◌, ℕ, List, [], Bool, true, false, cond, None, Some, refl, sym, ap, subst, ◌∙◌, arith}
use Rattle.std.specs.Option.{option_map}
use Rattle.std.specs.FinMap.{insert}
use Rattle.mr_links.specs.LinkId.{link_id}
use Rattle.mr_links.specs.declared.link_id.LinkId.{LinkId}
use Rattle.mr_repl.specs.Backlog.{offset_limit}
use Rattle.mr_repl.specs.Lineage.{LineageState}
use Rattle.mr_repl.specs.ReplId.{IsId}
use Rattle.mr_follower.specs.Handshake.{ping_line}
use Rattle.mr_follower.specs.State.{FollowState, IsOffer, started}
use Rattle.mr_replication.specs.State.{offer_of}
use Rattle.mr_node_links.specs.State.{streams}
use Rattle.mr_node_links.specs.State.EndState.{upstream}
use Rattle.mr_node_links.proofs.Naming.{put_lists}
use Rattle.mr_node_output.specs.Outs.{OutsState, no_outs}
use Rattle.mr_node_spec.specs.State.{Core, IsNode, NodeState}
use Rattle.mr_node_spec.specs.Sound.{IsSound, ports}
use Rattle.mr_node_state.specs.Parts.{dialled_as}
use Rattle.mr_node_state.proofs.Nodes.{dialled_node}
use Rattle.mr_connections.specs.State.{begun, pushed, sent, where_linked}
use Rattle.mr_connections.proofs.Each.{get-with_each}
use Rattle.mr_wire.specs.Wire.{asked_link}
use Rattle.mr_loop.specs.Causes.{at_dial}
use Rattle.mr_loop.specs.Rows.{acts}
use Rattle.mr_loop.specs.Stage.{Stage, connection_at, with_connections}
use Rattle.mr_loop.proofs.Waiting.{itself}
use Rattle.law_systems_example.proofs.Parts.{first_address}
use Rattle.law_systems_example.proofs.Stages.{Next, On, Stands, got, later_free}
use Rattle.law_systems_example.proofs.Peers.{names, peer}

-- what a node offers to go on from is sound
offer_is : (offers : Bool) (a : LineageState) → IsId a.id → a.stream.offset ≤ offset_limit → IsOffer (offer_of offers a)
offer_is true a is few = (is, few)
offer_is false a is few = tt

module _ (c : Core) (listing : List LinkId) (n w : ℕ) (file : List ℕ) (s : Stage) (is : Stands c None listing n w [] file s) (follows : c.master ≡ false) (told : c.upstream ≡ Some first_address) (small : c.port < ports) where
  abbrev socket : LinkId
  socket = link_id 0 w

  abbrev link : LinkId
  link = link_id 0 n

  abbrev reader : Core → FollowState
  reader x = started (offer_of x.offers x.lineage) x.port

  abbrev dialled : NodeState
  dialled = dialled_as link s.node

  abbrev pub dial_outs : OutsState
  dial_outs = record no_outs { link = Some (link_id 0 n); reply = ping_line }

  abbrev called : Stage
  called = record {
    node = dialled;
    own = record s.own { connections = insert s.own.connections socket (begun link) };
    wire = record s.wire { open_links = insert s.wire.open_links socket (asked_link peer); opened = s.wire.opened + 1 };
    failed = s.failed;
    told = s.told;
    synced = s.synced;
  }

  abbrev asking : Stage
  asking = record called { own = with_connections (sent link ping_line) called.own }

  is_replica : s.node.core.master ≡ false
  is_replica = ap (λ (x : Core). x.master) is.core ∙ follows

  dialled_is : IsNode dialled
  dialled_is = dialled_node s.node link (reader s.node.core) is.sound.node is.follow is_replica

  dialled_sound : IsSound dialled
  dialled_sound = record {
    node = dialled_is;
    window = is.sound.window;
    id = is.sound.id;
    second = is.sound.second;
    upstream = is.sound.upstream;
    reading = record {
      reader = record { replica = is_replica; fits = refl; has = record { unread = []; agrees = record { by = refl } } };
      follower = record { offer = offer_is s.node.core.offers s.node.core.lineage is.sound.id is.sound.window.countable; place = tt; taking = tt };
      port = subst (λ (x : Core). x.port < ports) (sym is.core) small;
    };
  }

  sent_here : connection_at asking.own socket ≡ Some (record { link = Some link; waiting = ping_line })
  sent_here = get-with_each (where_linked link (pushed ping_line)) called.own.connections socket
      ∙ (ap (option_map (where_linked link (pushed ping_line))) (got s.own.connections socket (begun link))
      ∙ ap (λ (v : Bool). Some (cond v (record { link = Some link; waiting = ping_line }) (record { link = Some link; waiting = [] }))) (itself link))

  sent_elsewhere : (x : LinkId) → w + 1 ≤ x.generation → connection_at asking.own x ≡ None
  sent_elsewhere x above = get-with_each (where_linked link (pushed ping_line)) called.own.connections x
      ∙ ap (option_map (where_linked link (pushed ping_line))) (later_free s.own.connections w socket (begun link) refl is.connections x above)

  pub dials_next : Next (acts (at_dial (link_id 0 w) (link_id 0 n)) dial_outs) s (λ t. Stands c (Some (link_id 0 n, started (offer_of c.offers c.lineage) c.port)) listing (n + 1) (w + 1) [] file t × On (link_id 0 w) (link_id 0 n) upstream ping_line t)
  dials_next = record {
    stage = asking;
    happens = record {
      called = called;
      calls = record {
        address = first_address;
        told = ap (λ (x : Core). x.upstream) is.core ∙ told;
        connects = (peer, names, record { generation = sym is.wired; fresh = is.wires socket (omega arith); links = refl });
        later = omega arith;
        dials = record { replica = is_replica; alone = is.follow; fresh = is.ends link (omega arith); generation = sym is.opened; node = refl; outs_are = refl };
        sound = dialled_sound;
        fresh = is.connections socket (omega arith);
        connections = refl;
        batch = refl;
        halted = refl;
        hurries = refl;
        lacked = refl;
        file = (refl, refl);
      };
      carried = (asking, refl, refl);
    };
    holds = (
      record {
        core = is.core;
        follow = ap (λ (x : Core). Some (link, reader x)) is.core;
        sound = dialled_sound;
        opened = ap (λ i. i + 1) is.opened;
        listed = put_lists listing s.node.ends.open_links link upstream is.listed (sym (ap streams (is.ends link (omega arith))));
        wired = ap (λ i. i + 1) is.wired;
        ends = later_free s.node.ends.open_links n link upstream refl is.ends;
        wires = later_free s.wire.open_links w socket (asked_link peer) refl is.wires;
        connections = sent_elsewhere;
        batch_is = is.batch_is;
        file_is = is.file_is;
      },
      record {
        connection = sent_here;
        wire = asked_link peer;
        wired = got s.wire.open_links socket (asked_link peer);
        end = got s.node.ends.open_links link upstream;
      },
    );
  }
