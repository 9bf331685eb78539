-- A step at the link to the master that finds nothing whole, lacks memory, or spends the dataset: what the World makes of it.
use Rattle.std.proofs.Common.{◌≡◌, ◌≢◌, inl, inr, ◌++◌, ℕ, List, [], ◌∷◌, Bool, true, false, cond, Option, None, Some, Ok, Err, refl, sym, ap, subst, ◌∙◌}
use Rattle.std.specs.Prelude.{slice_get, slice_set}
use Rattle.std.specs.FinMap.{get, get-remove, remove}
use Rattle.mr_links.specs.Links.{Links}
use Rattle.mr_links.specs.declared.link_id.LinkId.{LinkId}
use Rattle.mr_links.proofs.LinkRows.{ids_total}
use Rattle.mr_data.specs.declared.given.Given.{Given}
use Rattle.mr_follower.specs.State.{FollowState}
use Rattle.mr_follower.specs.State as follower
use Rattle.mr_replication.specs.State.{CourseState, name_of}
use Rattle.mr_node_links.specs.State.{EndState}
use Rattle.mr_node_links.proofs.Naming.{at_or_other}
use Rattle.mr_node_spec.specs.State.{MasterAgrees, NodeState, end_of as node_end}
use Rattle.mr_node_spec.specs.LinkRows.{closed_at, follow_without}
use Rattle.mr_node_spec.specs.UpstreamRows as master
use Rattle.mr_node.specs.Steps.{Steps}
use Rattle.mr_node.specs.declared.fault.NodeFault.TheVariants as fault
use Rattle.mr_node.specs.declared.step.Step.TheVariants as answer
use Rattle.mr_connections.specs.State.{ConnectionState}
use Rattle.mr_file.specs.declared.sync_mode.SyncMode.{SyncMode}
use Rattle.mr_loop.specs.Stage.{Stage, connection_at}
use Rattle.mr_loop.specs.Causes.{Stepped, stops_at_step}
use Rattle.mr_loop.specs.Rows.{Happens as HappensAt, idles, is_refused, stops}
use Rattle.law_refinement.specs.State.{Caller, Link, Slot, WorldState, a_node}
use Rattle.law_refinement.specs.Worlds.{HasMaster, IsWorld}
use Rattle.law_refinement.specs.Carrying.{put_node}
use Rattle.law_refinement.proofs.Places.{set_here, set_same, some_is}
use Rattle.law_refinement.specs.Runs.{Happens}
use Rattle.mr_world_parts.specs.AtLink.{by_node}
use Rattle.mr_world_parts.specs.AtNode.{is_spent}
use Rattle.mr_links.specs.declared.side.Side.TheVariants as side
use Rattle.mr_world_parts.proofs.Places.{set_twice}
use Rattle.mr_world.specs.Calls.{LeaveCall}
use Rattle.mr_world.specs.Following.{Follows, IsFollower}
use Rattle.mr_world.specs.Linking.{BreaksOff, DropCall}
use Rattle.mr_world.specs.Running.{by_opener, is_between_nodes}
use Rattle.mr_world.specs.declared.event.Event.TheVariants as event
use Rattle.mr_world.proofs.Heard.{lacks_here, spends_here, waits_here}
use Rattle.mr_world.proofs.Kept.{closed_end}
use Rattle.mr_world.proofs.Meeting.{stood}
use Rattle.law_servers.specs.Calling.{break, step as stepping}
use Rattle.law_servers.specs.Worlds.{Becomes, CallsInWorld}
use Rattle.law_servers.proofs.Moving.{servers_keep_worlds}
use Rattle.law_systems.specs.System.{IsAt, System, gives_up, is_taken, runs}
use Rattle.law_systems.proofs.Wired.{IsWired}
use Rattle.law_systems.proofs.Mirrors.{IsLive, IsSide, IsTurn, Leads, Mirrors}
use Rattle.law_systems.proofs.Rebuilding.{rebuilt_still}
use Rattle.law_systems.proofs.Finding.{IsOpenAt, StandsAt, stands_at}
use Rattle.law_systems.proofs.Closings.{closed_sound}
use Rattle.law_systems.proofs.Booked.{unspent}
use Rattle.law_systems.proofs.Saying.{no_run}
use Rattle.law_systems.proofs.Master.{its_follower, master_end, said_nothing}
use Rattle.law_systems.proofs.Following.{beside}

-- ---- the node goes on to follow by the link
pub record ReadsOn (a b : NodeState) (link : LinkId) : Type 0 where
  pub next : FollowState
  pub follow : b.follow ≡ Some (link, next)
  pub ends : b.ends ≡ a.ends
  pub up : b.core.up ≡ a.core.up

module _ (a b : NodeState) (link : LinkId) (bytes : List ℕ) (agrees : MasterAgrees a link bytes) where
  reads : (name : LinkId) (f : FollowState) → a.follow ≡ Some (name, f) → follower.Agrees f bytes
  reads name f found = subst (λ (z : LinkId × FollowState). follower.Agrees z.1 bytes) one agrees.agrees
    where
      one : ◌≡◌ {A = LinkId × FollowState} (link, agrees.reader) (name, f)
      one = some_is (link, agrees.reader) (name, f) (sym agrees.found ∙ found)

  pub waits_on : master.Waits a link b → ReadsOn a b link
  waits_on h = record {
    next = h.listens.next;
    follow = ap (λ (z : NodeState). z.follow) h.node ∙ (ap (λ (z : CourseState). z.follow) (h.listens.row bytes (reads h.listens.name h.listens.follow h.listens.found)).is
        ∙ ap (λ (z : LinkId). Some (z, h.listens.next)) h.named);
    ends = ap (λ (z : NodeState). z.ends) h.node;
    up = ap (λ (z : NodeState). z.core.up) h.node;
  }

  pub lacks_on : master.Lacks a link b → ReadsOn a b link
  lacks_on h = record {
    next = h.listens.next;
    follow = ap (λ (z : NodeState). z.follow) h.node ∙ (ap (λ (z : CourseState). z.follow) (h.listens.row bytes (reads h.listens.name h.listens.follow h.listens.found)).is
        ∙ ap (λ (z : LinkId). Some (z, h.listens.next)) h.named);
    ends = ap (λ (z : NodeState). z.ends) h.node;
    up = ap (λ (z : NodeState). z.core.up) h.node;
  }

-- whom it follows once that link is closed
none_followed : (o : Option (LinkId × FollowState)) (link name : LinkId) (g : FollowState) → o ≡ Some (link, g) → name_of (follow_without link o) ≡ Some name → ⊥
none_followed o link name g e h = gone (sym (ap (λ z. name_of (follow_without link z)) e) ∙ h)
  where
    nothing : ◌≡◌ {A = Option LinkId} None (Some name) → ⊥
    nothing q = cc

    gone : name_of (follow_without link (Some (link, g))) ≡ Some name → ⊥
    gone = at_or_other link link (λ b. name_of (cond b None (Some (link, g))) ≡ Some name → ⊥) (λ one. nothing) (λ ne. absurd (ne refl))

module _ (x : System) (w : WorldState) (n life : ℕ) (s : Stage) (wired : IsWired x) (mirrors : Mirrors x w) (at : IsAt x n life s)
    (link : LinkId) (given : Given) (fresh : List ℕ) (new_id : is_taken x.ids fresh ≡ false) (bytes : List ℕ) (agrees : MasterAgrees s.node link bytes) where
  stands : StandsAt w n s
  stands = stands_at x w n life s wired mirrors at

  abbrev slot : Slot
  slot = stands.slot

  new : is_spent w.book fresh ≡ false
  new = unspent w.book x.ids mirrors.ids fresh new_id

  up : s.node.core.up ≡ true
  up = ap (λ (z : NodeState). z.core.up) (sym stands.node) ∙ stands.running.up

  abbrev put : NodeState → Slot
  put a = record slot { node = a }

  placed : (a : NodeState) → slice_get (slice_set w.slots n (put a)) n ≡ Some (put a)
  placed a = set_here w.slots n (put a) slot stands.running.at

  -- ---- a step on a connection of the loop
  module _ (socket : LinkId) (o : IsOpenAt x w n life s slot socket link side.Opener) where
    abbrev who : IsFollower w o.number n link
    who = its_follower x w n life s wired mirrors at stands socket link o agrees.reader agrees.found

    links_same : w.links ≡ slice_set w.links o.number o.line
    links_same = sym (set_same w.links o.number o.line o.found)

    -- nothing whole is there
    module _ (t : Stage) (c : Stepped s.node link given fresh t.node (Ok answer.Idle)) (same : t ≡ record s { node = t.node }) where
      waits : master.Waits s.node link t.node
      waits = c.row.at_master up (ap name_of agrees.found)

      on : ReadsOn s.node t.node link
      on = waits_on s.node t.node link bytes agrees waits

      abbrev v : WorldState
      v = put_node w n slot t.node

      serves : CallsInWorld w v
      serves = record {
        number = n;
        slot = slot;
        running = stands.running;
        call = stepping link given fresh (Ok answer.Idle);
        node = t.node;
        sound = c.sound;
        is = subst (λ (z : NodeState). Steps z link given fresh t.node (Ok answer.Idle)) (sym stands.node) c.row;
        becomes = Becomes.by_event (event.Step o.number side.Opener given fresh) (o.number, side.Opener, o.named, new, refl) (
          new,
          Follows.waits (waits_here w o.number n link mirrors.world who slot (put t.node) (stood w.slots n slot stands.running.at) refl c.sound
              (subst (λ (z : NodeState). master.Waits z link t.node) (sym stands.node) waits)),
        )
            (record { slot = put t.node; there = placed t.node; is = refl });
      }

      kept : Happens w v × IsWorld v
      kept = servers_keep_worlds w v mirrors.world (inl serves)

      own_is : (other : LinkId) → connection_at t.own other ≡ connection_at s.own other
      own_is other = ap (λ (z : Stage). connection_at z.own other) same

      here : (held : ConnectionState) → connection_at t.own socket ≡ Some held → IsLive v n (put t.node) o.number o.connection o.line side.Opener held
      here held there =
          let one : o.held ≡ held = some_is o.held held (sym o.there ∙ (sym (own_is socket) ∙ there)) in
          record {
            sent = o.sent ∙ ap (λ (z : ConnectionState). o.connection.asked.written ++ z.waiting) one;
            side = IsSide.is_open link (ap (λ (z : ConnectionState). z.link) (sym one) ∙ o.linked) (record { named = ap name_of on.follow; dialled = o.named.dialled }) o.taken;
          }

      ends_on : (name : LinkId) → node_end t.node name ≡ node_end slot.node name
      ends_on name = ap (λ (z : Links EndState). get z.open_links name) on.ends ∙ ap (λ (z : NodeState). node_end z name) (sym stands.node)

      idled : (y : System) → y.servers ≡ slice_set x.servers n (record { life = life; doing = runs t }) → y.connections ≡ x.connections → y.ids ≡ x.ids → Leads w y
      idled y servers connections ids = record {
        worlds = v ∷ [];
        run = (kept.0, kept.1, tt);
        mirrors = beside x w n life s wired mirrors at stands socket link o v (put t.node) o.line [] kept.1 refl links_same refl refl refl (said_nothing [] o.line refl) y (runs t) t (inl refl)
            (λ r name ne. ends_on name) (λ r name h. some_is name link (sym h ∙ ap name_of on.follow)) (λ r other held there ne. sym (own_is other) ∙ there) (λ r. here)
            servers connections (λ id h. ap (λ z. is_taken z id) ids ∙ h) (λ r. refl) refl;
      }

    -- memory is lacking, and the connection is closed
    module _ (node : NodeState) (c : Stepped s.node link given fresh node (Err fault.Memory)) where
      lacks : master.Lacks s.node link node
      lacks = c.row.at_master up (ap name_of agrees.found)

      reads_on : ReadsOn s.node node link
      reads_on = lacks_on s.node node link bytes agrees lacks

      abbrev first : WorldState
      first = put_node w n slot node

      lacking : CallsInWorld w first
      lacking = record {
        number = n;
        slot = slot;
        running = stands.running;
        call = stepping link given fresh (Err fault.Memory);
        node = node;
        sound = c.sound;
        is = subst (λ (z : NodeState). Steps z link given fresh node (Err fault.Memory)) (sym stands.node) c.row;
        becomes = Becomes.by_event (event.Step o.number side.Opener given fresh) (o.number, side.Opener, o.named, new, refl) (
          new,
          lacks_here w o.number n link mirrors.world who slot (put node) (stood w.slots n slot stands.running.at) refl c.sound
              (subst (λ (z : NodeState). master.Lacks z link node) (sym stands.node) lacks),
        )
            (record { slot = put node; there = placed node; is = refl });
      }

      kept_first : Happens w first × IsWorld first
      kept_first = servers_keep_worlds w first mirrors.world (inl lacking)

      abbrev gone : NodeState
      gone = closed_at link node

      abbrev last : WorldState
      last = put_node first n (put node) gone

      -- the link is a node's
      asked : o.line.caller ≡ a_node n link
      asked =
          let h = mirrors.world.followers n slot link agrees.reader stands.running.at stands.running.up (ap (λ (z : NodeState). z.follow) stands.node ∙ agrees.found) in
          ap (λ (z : Link). z.caller) (some_is o.line h.link (sym o.found ∙ (ap (slice_get w.links) (sym o.named.dialled) ∙ h.found))) ∙ h.caller

      as_node : (of_node of_client : Type 0) → of_node → by_opener (is_between_nodes (slice_get w.links o.number)) of_node of_client
      as_node of_node of_client h = subst (λ z. by_opener (is_between_nodes z) of_node of_client) (sym o.found) (subst (λ (z : Caller). by_opener (by_node z) of_node of_client) (sym asked) h)

      up_first : node.core.up ≡ true
      up_first = reads_on.up ∙ up

      dropping : CallsInWorld first last
      dropping = record {
        number = n;
        slot = put node;
        running = record { at = placed node; up = up_first };
        call = break link;
        node = gone;
        sound = closed_sound node link c.sound;
        is = refl;
        becomes = Becomes.by_event (event.Break o.number side.Opener) (o.number, side.Opener, record { named = ap name_of reads_on.follow; dialled = o.named.dialled }, refl)
            (as_node (DropCall first o.number last (Ok tt)) (LeaveCall first o.number last (Ok tt)) (BreaksOff.drops (record {
              number = n;
              link = o.line;
              slot = put node;
              name = link;
              reader = reads_on.next;
              by = record {
                followed = record { at = placed node; found = ap (slice_get w.links) o.named.dialled ∙ o.found; up = up_first };
                follows = reads_on.follow;
                dialled = o.named.dialled;
              };
              is = refl;
            })))
            (record { slot = put gone; there = set_here first.slots n (put gone) (put node) (placed node); is = refl });
      }

      kept_last : Happens first last × IsWorld last
      kept_last = servers_keep_worlds first last kept_first.1 (inl dropping)

      module _ (t : Stage) (its_node : t.node ≡ gone) (removed : t.own.connections ≡ remove s.own.connections socket) where
        removed_at : (other : LinkId) → connection_at t.own other ≡ get (remove s.own.connections socket) other
        removed_at other = ap (λ z. get z other) removed

        others : (other : LinkId) (held : ConnectionState) → connection_at t.own other ≡ Some held → other ≢ socket → connection_at s.own other ≡ Some held
        others other held there ne = sym (get-remove ids_total s.own.connections socket other
            ∙ at_or_other other socket (λ b. cond b None (connection_at s.own other) ≡ connection_at s.own other) (λ e. absurd (ne e)) (λ e. refl)) ∙ (sym (removed_at other) ∙ there)

        none_here : (held : ConnectionState) → connection_at t.own socket ≡ Some held → ⊥
        none_here held there = nothing (sym (removed_at socket ∙ (get-remove ids_total s.own.connections socket socket
            ∙ at_or_other socket socket (λ b. cond b None (connection_at s.own socket) ≡ None) (λ e. refl) (λ ne. absurd (ne refl)))) ∙ there)
          where
            nothing : ◌≡◌ {A = Option ConnectionState} None (Some held) → ⊥
            nothing h = cc

        ends_gone : (name : LinkId) → name ≢ link → node_end gone name ≡ node_end slot.node name
        ends_gone name ne = closed_end node link name ne ∙ (ap (λ (z : Links EndState). get z.open_links name) reads_on.ends ∙ ap (λ (z : NodeState). node_end z name) (sym stands.node))

        refused : (y : System) → y.servers ≡ slice_set x.servers n (record { life = life; doing = runs t }) → y.connections ≡ x.connections → y.ids ≡ x.ids → Leads w y
        refused y servers connections ids = record {
          worlds = first ∷ last ∷ [];
          run = (kept_first.0, kept_first.1, (kept_last.0, kept_last.1, tt));
          mirrors = beside x w n life s wired mirrors at stands socket link o last (put gone) o.line [] kept_last.1 (set_twice w.slots n (put node) (put gone)) links_same refl refl refl
              (said_nothing [] o.line refl) y (runs t) t (inl refl) (λ r. ends_gone) (λ r name h. absurd (none_followed node.follow link name reads_on.next reads_on.follow h)) (λ r. others)
              (λ r held there. absurd (none_here held there)) servers connections (λ id h. ap (λ z. is_taken z id) ids ∙ h) (λ r. sym its_node) (ap (λ (z : NodeState). z.core) (sym its_node));
        }

  -- ---- the dataset is spent, and the node stops
  module _ (t : Stage) (c : Stepped s.node link given fresh t.node (Err fault.Stopped)) where
    spends : master.Spends slot.node link t.node
    spends = subst (λ (z : NodeState). master.Spends z link t.node) (sym stands.node) (c.row.at_master up (ap name_of agrees.found))

    follows : slot.node.follow ≡ Some (link, agrees.reader)
    follows = ap (λ (z : NodeState). z.follow) stands.node ∙ agrees.found

    its_master : HasMaster w.links n slot link agrees.reader
    its_master = mirrors.world.followers n slot link agrees.reader stands.running.at stands.running.up follows

    abbrev by_it : IsFollower w slot.dialled n link
    by_it = record {
      link = its_master.link;
      slot = slot;
      reader = agrees.reader;
      by = record { followed = record { at = stands.running.at; found = its_master.found; up = stands.running.up }; follows = follows; dialled = refl };
    }

    abbrev after : WorldState
    after = put_node w n slot t.node

    spending : CallsInWorld w after
    spending = record {
      number = n;
      slot = slot;
      running = stands.running;
      call = stepping link given fresh (Err fault.Stopped);
      node = t.node;
      sound = c.sound;
      is = subst (λ (z : NodeState). Steps z link given fresh t.node (Err fault.Stopped)) (sym stands.node) c.row;
      becomes = Becomes.by_event (event.Step slot.dialled side.Opener given fresh) (slot.dialled, side.Opener, record { named = ap name_of follows; dialled = refl }, new, refl)
          (new, Follows.spends (spends_here w slot.dialled n link mirrors.world by_it slot (put t.node) (stood w.slots n slot stands.running.at) refl c.sound spends))
          (record { slot = put t.node; there = placed t.node; is = refl });
    }

    kept_after : Happens w after × IsWorld after
    kept_after = servers_keep_worlds w after mirrors.world (inl spending)

    spent : (y : System) → y.servers ≡ slice_set x.servers n (record { life = life; doing = gives_up t }) → y.connections ≡ x.connections → y.ids ≡ x.ids → Leads w y
    spent y servers connections ids = record {
      worlds = after ∷ [];
      run = (kept_after.0, kept_after.1, tt);
      mirrors = rebuilt_still x y w after n life s t (gives_up t) slot (put t.node) mirrors at servers (inr refl) kept_after.1 stands.running.at refl refl (λ r. refl) refl
          connections refl (λ id h. ap (λ z. is_taken z id) ids ∙ mirrors.ids id h) (λ c at_side k other l held r end found now there. no_run t _ r);
    }

-- ---- the events
module _ (x y : System) (w : WorldState) (n life : ℕ) (s t : Stage) (tells : Bool) (mode : SyncMode) (socket link : LinkId) (given : Given) (fresh : List ℕ)
    (wired : IsWired x) (mirrors : Mirrors x w) (bytes : List ℕ) (agrees : MasterAgrees s.node link bytes) where
  pub master_idles : IsTurn x n life s (idles socket link given fresh) t y → HappensAt tells mode s (idles socket link given fresh) t → Leads w y
  master_idles turn h =
      let here = stands x w n life s wired mirrors turn.at link given fresh turn.new.0 bytes agrees in
      idled x w n life s wired mirrors turn.at link given fresh turn.new.0 bytes agrees socket
      (master_end x w n life s wired mirrors turn.at here socket link bytes h.has h.node.input agrees)
      t h.node h.same y (ap (λ (z : System). z.servers) turn.is) (ap (λ (z : System). z.connections) turn.is ∙ turn.goes) (ap (λ (z : System). z.ids) turn.is)

  pub master_refuses : IsTurn x n life s (is_refused socket link given fresh) t y → HappensAt tells mode s (is_refused socket link given fresh) t → Leads w y
  master_refuses turn h =
      let here = stands x w n life s wired mirrors turn.at link given fresh turn.new.0 bytes agrees in
      refused x w n life s wired mirrors turn.at link given fresh turn.new.0 bytes agrees socket
      (master_end x w n life s wired mirrors turn.at here socket link bytes h.has h.refused.input agrees)
      h.node h.refused t h.dropped.node h.dropped.connections y
      (ap (λ (z : System). z.servers) turn.is) (ap (λ (z : System). z.connections) turn.is ∙ turn.goes) (ap (λ (z : System). z.ids) turn.is)

  pub master_stops : IsTurn x n life s (stops (stops_at_step link given fresh)) t y → HappensAt tells mode s (stops (stops_at_step link given fresh)) t → Leads w y
  master_stops turn h = spent x w n life s wired mirrors turn.at link given fresh turn.new.0 bytes agrees t h.why y
      (ap (λ (z : System). z.servers) turn.is) (ap (λ (z : System). z.connections) turn.is ∙ turn.goes) (ap (λ (z : System). z.ids) turn.is)
