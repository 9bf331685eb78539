-- Bytes are read on a connection and fed to the node, or written.
use Rattle.std.proofs.Common.{◌≡◌, ◌≢◌, ◌≤◌, ℕ, List, [], Bool, true, false, Option, None, Some, length, refl, sym, ap, subst, ◌∙◌, arith}
use Rattle.std.specs.Prelude.{IfSome, if◌then◌else◌}
use Rattle.std.specs.FinMap.{get, insert}
use Rattle.std.proofs.Math.Seq.{take-length, drop-length}
use Rattle.mr_links.specs.declared.link_id.LinkId.{LinkId}
use Rattle.mr_follower.specs.State.{FollowState}
use Rattle.mr_node_links.specs.State.{EndState, full, put_end, streams}
use Rattle.mr_node_links.proofs.Naming.{put_lists}
use Rattle.mr_node_links.specs.State.EndState.{client, upstream}
use Rattle.mr_node_spec.specs.State.{Core, IsNode, NodeState, end_of, room_at, room_of}
use Rattle.mr_node_spec.specs.Sound.{IsSound}
use Rattle.mr_node_state.specs.Parts.{with_ends}
use Rattle.mr_node_state.proofs.Nodes.{put_node}
use Rattle.mr_node.proofs.Linking.{feeds_client}
use Rattle.mr_connections.specs.State.{ConnectionState, changed, changed_by, wrote}
use Rattle.mr_wire.specs.Wire.{LinkState, WireState, behind_read, behind_write}
use Rattle.mr_wire.specs.declared.wire.Moved.TheVariants as moved
use Rattle.mr_loop.specs.Stage.{Stage, with_connections}
use Rattle.mr_loop.specs.Causes.{Touches}
use Rattle.mr_loop.specs.Rows.{takes, writes}
use Rattle.law_systems_example.proofs.Stages.{Next, On, Stands, got, none_some, sound_as, still_free}

-- the wire's link becomes what this makes of it
pub touched : (a : WireState) (l : LinkId) (f : LinkState → LinkState) (e : LinkState) → get a.open_links l ≡ Some e → Touches a l f [] (record a { open_links = insert a.open_links l (f e) })
touched a l f e found = record {
  changes = subst (λ (o : Option LinkState). IfSome o (λ x. record a { open_links = insert a.open_links l (f e) } ≡ record a { open_links = insert a.open_links l (f x); sent = a.sent })) (sym found) refl;
  absent = λ none. absurd (none_some e (sym none ∙ found));
}

-- a node that runs has the room of the end
pub room_is : (a : NodeState) (l : LinkId) (e : EndState) → a.core.up ≡ true → end_of a l ≡ Some e → room_of a l ≡ room_at (Some e)
room_is a l e up found = ap (λ (b : Bool). if b then room_at (end_of a l) else None) up ∙ ap room_at found

pub some_there : (a : NodeState) (l : LinkId) (e : EndState) → end_of a l ≡ Some e → end_of a l ≢ None
some_there a l e found none = none_some e (sym none ∙ found)

pub is_up : (c : Core) (s : Stage) → s.node.core ≡ c → c.up ≡ true → s.node.core.up ≡ true
is_up c s same up = ap (λ (x : Core). x.up) same ∙ up

-- ---- read
module _ (c : Core) (f : Option (LinkId × FollowState)) (names : List LinkId) (n w : ℕ) (batch file : List ℕ) (s : Stage) (is : Stands c f names n w batch file s) (up : c.up ≡ true) (socket link : LinkId) (bytes : List ℕ) where
  abbrev read_wire : LinkState → WireState
  read_wire e = record s.wire { open_links = insert s.wire.open_links socket (behind_read false (moved.Bytes (length bytes)) bytes e) }

  abbrev fed_stage : NodeState → LinkState → Stage
  fed_stage b e = record { node = b; own = s.own; wire = read_wire e; failed = s.failed; told = s.told; synced = s.synced }

  module _ (on : On socket link (client []) [] s) (few : length bytes ≤ 1000000) where
    abbrev fed : NodeState
    fed = with_ends s.node (put_end s.node.ends link (client bytes))

    no_upstream : (u : List ℕ) → client u ≡ upstream → ⊥
    no_upstream u e = cc

    not_sent : (u : List ℕ) → false ≡ true → ⊥
    not_sent u e = cc

    fed_node : IsNode fed
    fed_node = put_node s.node link (client []) (client bytes) is.sound.node on.end (no_upstream []) (no_upstream bytes) (λ e. absurd (not_sent bytes e))

    fed_sound : IsSound fed
    fed_sound = sound_as s.node fed is.sound fed_node refl refl

    pub takes_next : Next (takes socket bytes) s (λ t. Stands c f names n w batch file t × On socket link (client bytes) [] t)
    takes_next = record {
      stage = fed_stage fed on.wire;
      happens = record {
        link = link;
        read = record { connection = record { link = Some link; waiting = [] }; is = on.connection; linked = refl; few = λ at. omega arith };
        count = length bytes;
        buffer = bytes;
        bytes_are = sym (take-length bytes);
        room = record { room = full; is = room_is s.node link (client []) (is_up c s is.core up) on.end; fits = omega (arith, few) };
        wire = touched s.wire socket (behind_read false (moved.Bytes (length bytes)) bytes) on.wire on.wired;
        later = omega arith;
        node = record {
          up = is_up c s is.core up;
          there = some_there s.node link (client []) on.end;
          feeds = feeds_client s.node fed link [] bytes is.sound.node on.end refl;
          sound = fed_sound;
        };
        own = refl;
        file = (refl, refl);
      };
      holds = (
        record {
          core = is.core;
          follow = is.follow;
          sound = fed_sound;
          opened = is.opened;
          listed = put_lists names s.node.ends.open_links link (client bytes) is.listed (sym (ap streams on.end));
          wired = is.wired;
          ends = still_free s.node.ends.open_links n link (client []) (client bytes) on.end is.ends;
          wires = still_free s.wire.open_links w socket on.wire (behind_read false (moved.Bytes (length bytes)) bytes on.wire) on.wired is.wires;
          connections = is.connections;
          batch_is = is.batch_is;
          file_is = is.file_is;
        },
        record {
          connection = on.connection;
          wire = behind_read false (moved.Bytes (length bytes)) bytes on.wire;
          wired = got s.wire.open_links socket (behind_read false (moved.Bytes (length bytes)) bytes on.wire);
          end = got s.node.ends.open_links link (client bytes);
        },
      );
    }

-- ---- written
module _ (c : Core) (f : Option (LinkId × FollowState)) (names : List LinkId) (n w : ℕ) (file : List ℕ) (s : Stage) (is : Stands c f names n w [] file s) (socket link : LinkId) (e : EndState) (bytes : List ℕ) (on : On socket link e bytes s) where
  abbrev left : ConnectionState
  left = record { link = Some link; waiting = [] }

  abbrev sent_wire : LinkState
  sent_wire = behind_write false (moved.Bytes (length bytes)) bytes on.wire

  abbrev written : Stage
  written = record {
    node = s.node;
    own = record s.own { connections = insert s.own.connections socket left };
    wire = record s.wire { open_links = insert s.wire.open_links socket sent_wire };
    failed = s.failed;
    told = s.told;
    synced = s.synced;
  }

  own_is : written.own ≡ with_connections (changed socket (wrote (length bytes))) s.own
  own_is = sym (ap (λ o. record s.own { connections = changed_by o socket (wrote (length bytes)) s.own.connections }) on.connection
      ∙ ap (λ (x : List ℕ). record s.own { connections = insert s.own.connections socket (record { link = Some link; waiting = x }) }) (drop-length bytes))

  bytes_moved : moved.Bytes (length bytes) ≢ moved.Failed
  bytes_moved q = cc

  pub writes_next : Next (writes socket bytes) s (λ t. Stands c f names n w [] file t × On socket link e [] t)
  writes_next = record {
    stage = written;
    happens = record {
      filed = is.batch_is;
      link = Some link;
      waiting = bytes;
      has = record { is = on.connection };
      answer = moved.Bytes (length bytes);
      goes_on = bytes_moved;
      within = omega arith;
      bytes_are = sym (take-length bytes);
      wire = touched s.wire socket (behind_write false (moved.Bytes (length bytes)) bytes) on.wire on.wired;
      later = omega arith;
      own = own_is;
      node = refl;
      file = (refl, refl);
    };
    holds = (
      record {
        core = is.core;
        follow = is.follow;
        sound = is.sound;
        opened = is.opened;
        listed = is.listed;
        wired = is.wired;
        ends = is.ends;
        wires = still_free s.wire.open_links w socket on.wire sent_wire on.wired is.wires;
        connections = still_free s.own.connections w socket (record { link = Some link; waiting = bytes }) left on.connection is.connections;
        batch_is = is.batch_is;
        file_is = is.file_is;
      },
      record {
        connection = got s.own.connections socket left;
        wire = sent_wire;
        wired = got s.wire.open_links socket sent_wire;
        end = on.end;
      },
    );
  }
