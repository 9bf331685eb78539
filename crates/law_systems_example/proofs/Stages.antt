-- What is known of a server's stage, and how an event of a turn leads from one to the next.
use Rattle.std.proofs.Common.{◌≡◌, ◌≢◌, ◌+◌, ◌<◌, ◌≤◌, ℕ, List, [], false, cond, Option, None, Some, refl, sym, ap, subst, ◌∙◌, arith}
use Rattle.std.specs.Prelude.{IfSome}
use Rattle.std.specs.FinMap.{FinMap, get, insert, get-insert}
use Rattle.mr_links.specs.LinkId.{id_cmp, link_id}
use Rattle.mr_links.specs.declared.link_id.LinkId.{LinkId}
use Rattle.mr_links.proofs.LinkRows.{ids_total}
use Rattle.mr_file.specs.declared.sync_mode.SyncMode.TheVariants as sync
use Rattle.mr_repl.specs.Backlog.{IsWindow}
use Rattle.mr_repl.specs.ReplId.{IsId}
use Rattle.mr_follower.specs.State.{FollowState}
use Rattle.mr_replication.specs.State.{IsReader}
use Rattle.mr_node_links.specs.State.{EndState, opened_as, streams}
use Rattle.mr_node_links.specs.Replicas.{Lists}
use Rattle.mr_node_links.specs.State.EndState.{client}
use Rattle.mr_node_links.proofs.Naming.{at_or_other, put_lists}
use Rattle.mr_node_spec.specs.State.{Core, IsNode, NodeState, end_of}
use Rattle.mr_node_spec.specs.Sound.{IsSound, IsReading, ports}
use Rattle.mr_node_state.proofs.Nodes.{opened_node}
use Rattle.mr_connections.specs.State.{begun}
use Rattle.mr_wire.specs.Wire.{LinkState, new_link}
use Rattle.mr_loop.specs.Stage.{Stage, connection_at}
use Rattle.mr_loop.specs.Rows.{Event, Happens, joins}

-- What a node is, its ends apart, and to whom it sends its stream; how many links and sockets were opened; what waits for the file, and what
-- is in it; and that no name is taken that may come.
pub record Stands (c : Core) (f : Option (LinkId × FollowState)) (names : List LinkId) (links sockets : ℕ) (batch file : List ℕ) (s : Stage) : Type 0 where
  pub core : s.node.core ≡ c
  pub follow : s.node.follow ≡ f
  pub sound : IsSound s.node
  pub opened : s.node.ends.opened ≡ links
  pub listed : Lists names s.node.ends.open_links
  pub wired : s.wire.opened ≡ sockets
  pub ends : (x : LinkId) → links ≤ x.generation → end_of s.node x ≡ None
  pub wires : (x : LinkId) → sockets ≤ x.generation → get s.wire.open_links x ≡ None
  pub connections : (x : LinkId) → sockets ≤ x.generation → connection_at s.own x ≡ None
  pub batch_is : s.own.batch ≡ batch
  pub file_is : s.told ≡ Some file

-- A connection is there, with the node's link, what waits on it, and the node's end.
pub record On (socket link : LinkId) (e : EndState) (unsent : List ℕ) (s : Stage) : Type 0 where
  pub connection : connection_at s.own socket ≡ Some (record { link = Some link; waiting = unsent })
  pub wire : LinkState
  pub wired : get s.wire.open_links socket ≡ Some wire
  pub end : end_of s.node link ≡ Some e

-- The event happens, and this holds behind it.
pub record Next (event : Event) (s : Stage) (P : Stage → Type 0) : Type 0 where
  pub stage : Stage
  pub happens : Happens false sync.No s event stage
  pub holds : P stage

pub got : {T : Type 0} (m : FinMap id_cmp T) (l : LinkId) (e : T) → get (insert m l e) l ≡ Some e
got m l e = get-insert ids_total m l e l ∙ at_or_other l l (λ b. cond b (Some e) (get m l) ≡ Some e) (λ same. refl) (λ other. absurd (other refl))

pub other : {T : Type 0} (m : FinMap id_cmp T) (l : LinkId) (e : T) (q : LinkId) → q ≢ l → get (insert m l e) q ≡ get m q
other m l e q apart = get-insert ids_total m l e q ∙ at_or_other q l (λ b. cond b (Some e) (get m q) ≡ get m q) (λ same. absurd (apart same)) (λ else. refl)

pub none_some : {T : Type 0} (x : T) → ◌≡◌ {A = Option T} None (Some x) → ⊥
none_some x e = cc

-- a name that is there isn't one that may come
pub taken_apart : {T : Type 0} (m : FinMap id_cmp T) (n : ℕ) (l x : LinkId) (e : T) → get m l ≡ Some e → ((q : LinkId) → n ≤ q.generation → get m q ≡ None) → n ≤ x.generation → x ≢ l
taken_apart m n l x e found free above same = none_some e (sym (free x above) ∙ (ap (get m) same ∙ found))

-- what is put under a name that is there leaves those that may come
pub still_free : {T : Type 0} (m : FinMap id_cmp T) (n : ℕ) (l : LinkId) (e f : T) → get m l ≡ Some e → ((q : LinkId) → n ≤ q.generation → get m q ≡ None)
    → (x : LinkId) → n ≤ x.generation → get (insert m l f) x ≡ None
still_free m n l e f found free x above = other m l f x (taken_apart m n l x e found free above) ∙ free x above

-- .. and so does one that came
pub later_free : {T : Type 0} (m : FinMap id_cmp T) (n : ℕ) (l : LinkId) (f : T) → l.generation ≡ n → ((q : LinkId) → n ≤ q.generation → get m q ≡ None)
    → (x : LinkId) → n + 1 ≤ x.generation → get (insert m l f) x ≡ None
later_free m n l f is free x above =
    other m l f x (λ same. let g : x.generation ≡ l.generation = ap (λ (q : LinkId). q.generation) same in omega (arith, above, is, g)) ∙ free x (omega (arith, above))

-- ---- a node with other ends is as sound
reads_in : (a b : NodeState) → b.core ≡ a.core → (f : Option (LinkId × FollowState)) → IfSome f (λ x. IsReading a x.1) → IfSome f (λ x. IsReading b x.1)
reads_in a b same None r = tt
reads_in a b same (Some x) r = record { reader = subst (λ (c : Core). IsReader c.master c.offers c.lineage x.1) (sym same) r.reader; follower = r.follower; port = r.port }

pub sound_as : (a b : NodeState) → IsSound a → IsNode b → b.core ≡ a.core → b.follow ≡ a.follow → IsSound b
sound_as a b i node core follow = record {
  node = node;
  window = subst (λ (c : Core). IsWindow c.lineage.stream) (sym core) i.window;
  id = subst (λ (c : Core). IsId c.lineage.id) (sym core) i.id;
  second = subst (λ (c : Core). IfSome c.lineage.second (λ s. IsId s.0)) (sym core) i.second;
  upstream = subst (λ (c : Core). IfSome c.upstream (λ h. h.port < ports)) (sym core) i.upstream;
  reading = subst (λ (f : Option (LinkId × FollowState)). IfSome f (λ x. IsReading b x.1)) (sym follow) (reads_in a b core a.follow i.reading);
}

-- ---- a link comes
module _ (c : Core) (f : Option (LinkId × FollowState)) (names : List LinkId) (n w : ℕ) (batch file : List ℕ) (s : Stage) (is : Stands c f names n w batch file s) where
  abbrev socket : LinkId
  socket = link_id 0 w

  abbrev link : LinkId
  link = link_id 0 n

  abbrev joined : Stage
  joined = record {
    node = record s.node { ends = opened_as s.node.ends link (client []) };
    own = record s.own { connections = insert s.own.connections socket (begun link) };
    wire = record s.wire { open_links = insert s.wire.open_links socket new_link; opened = s.wire.opened + 1 };
    failed = s.failed;
    told = s.told;
    synced = s.synced;
  }

  joined_node : IsNode joined.node
  joined_node = opened_node s.node link [] is.sound.node (is.ends link (omega arith))

  pub joins_next : Next (joins (link_id 0 w) (link_id 0 n)) s (λ t. Stands c f names (n + 1) (w + 1) batch file t × On (link_id 0 w) (link_id 0 n) (client []) [] t)
  joins_next = record {
    stage = joined;
    happens = record {
      wire = record { generation = sym is.wired; fresh = is.wires socket (omega arith); links = refl };
      later = omega arith;
      node = record { fresh = is.ends link (omega arith); generation = sym is.opened; agrees = record { is = got s.node.ends.open_links link (client []) }; node = refl };
      fresh = is.connections socket (omega arith);
      connections = refl;
      batch = refl;
      halted = refl;
      hurries = refl;
      lacked = refl;
      file = (refl, refl);
    };
    holds = (
      record {
        core = is.core;
        follow = is.follow;
        sound = sound_as s.node joined.node is.sound joined_node refl refl;
        opened = ap (λ i. i + 1) is.opened;
        listed = put_lists names s.node.ends.open_links link (client []) is.listed (sym (ap streams (is.ends link (omega arith))));
        wired = ap (λ i. i + 1) is.wired;
        ends = later_free s.node.ends.open_links n link (client []) refl is.ends;
        wires = later_free s.wire.open_links w socket new_link refl is.wires;
        connections = later_free s.own.connections w socket (begun link) refl is.connections;
        batch_is = is.batch_is;
        file_is = is.file_is;
      },
      record {
        connection = got s.own.connections socket (begun link);
        wire = new_link;
        wired = got s.wire.open_links socket new_link;
        end = got s.node.ends.open_links link (client []);
      },
    );
  }
