-- A server makes a step at the link to its master: the World's node makes it too, and what it says goes the same way.
use Rattle.std.proofs.Common.{◌≡◌, ◌≢◌, inl, inr, ◌++◌, ℕ, List, [], ◌∷◌, Bool, true, false, cond, Option, None, Some, Ok, append-nil, append_assoc, refl, sym, ap, subst, ◌∙◌}
use Rattle.std.specs.Prelude.{slice_get, slice_set}
use Rattle.std.specs.Option.{option_map}
use Rattle.std.specs.FinMap.{get, get-insert}
use Rattle.mr_links.specs.Links.{Links}
use Rattle.mr_links.specs.declared.link_id.LinkId.{LinkId}
use Rattle.mr_links.proofs.LinkRows.{ids_total}
use Rattle.mr_data.specs.declared.given.Given.{Given}
use Rattle.mr_follower.specs.State.{FollowState}
use Rattle.mr_follower.specs.State as follower
use Rattle.mr_replication.specs.State.{name_of}
use Rattle.mr_replication.specs.declared.upstream.UpstreamStep.{UpstreamStep}
use Rattle.mr_replication.specs.declared.upstream.UpstreamStep.TheVariants as outcome
use Rattle.mr_node_links.specs.State.{EndState, put_end}
use Rattle.mr_node_links.specs.State.EndState.{shut}
use Rattle.mr_node_links.proofs.Naming.{at_or_other}
use Rattle.mr_node_output.specs.Outs.{OutsState, outs_of}
use Rattle.mr_node_spec.specs.State.{MasterAgrees, NodeState, end_of as node_end}
use Rattle.mr_node_spec.specs.LinkRows.{closed_at, follow_without}
use Rattle.mr_node_spec.specs.UpstreamRows as master
use Rattle.mr_node.specs.Steps.{Steps}
use Rattle.mr_node.specs.declared.step.Step.TheVariants as answer
use Rattle.mr_connections.specs.State.{ConnectionState}
use Rattle.mr_file.specs.declared.sync_mode.SyncMode.{SyncMode}
use Rattle.mr_loop.specs.Stage.{Stage, LoopState, connection_at}
use Rattle.mr_loop.specs.Carrying.{Carried}
use Rattle.mr_loop.specs.Causes.{StepsAt, at_step}
use Rattle.mr_loop.specs.Rows.{Happens as HappensAt, acts, spills, tears}
use Rattle.mr_loop.specs.Giving.{listed}
use Rattle.law_refinement.specs.State.{Link, Slot, WorldState}
use Rattle.law_refinement.specs.Worlds.{IsWorld}
use Rattle.law_refinement.specs.Carrying.{behind, followed, heard_as, put_node}
use Rattle.law_refinement.proofs.Places.{set_here, some_is}
use Rattle.law_refinement.specs.Runs.{Happens}
use Rattle.mr_world_parts.specs.AtNode.{is_spent}
use Rattle.mr_links.specs.declared.side.Side.TheVariants as side
use Rattle.mr_world_parts.proofs.Places.{set_twice}
use Rattle.mr_world.specs.Following.{Follows}
use Rattle.mr_world.specs.declared.event.Event.TheVariants as event
use Rattle.mr_world.proofs.Kept.{closed_end}
use Rattle.law_servers.specs.Calling.{break, step as stepping}
use Rattle.law_servers.specs.Worlds.{Becomes, NoneOpen, CallsInWorld}
use Rattle.law_servers.proofs.Moving.{servers_keep_worlds}
use Rattle.law_systems.specs.System.{IsAt, System, gives_up, is_taken, runs}
use Rattle.law_systems.proofs.Wired.{IsWired}
use Rattle.law_systems.proofs.Mirrors.{IsLive, IsSide, IsTurn, Leads, Mirrors}
use Rattle.law_systems.proofs.Pushing.{carried_at, carried_to, carried_was, held_as}
use Rattle.law_systems.proofs.Parting.{carried_node, closed_all, closed_behind, closed_if, none_parted}
use Rattle.law_systems.proofs.Finding.{IsOpenAt, StandsAt, stands_at}
use Rattle.law_systems.proofs.Closings.{closed_sound}
use Rattle.law_systems.proofs.Booked.{unspent}
use Rattle.law_systems.proofs.Saying.{SaysAt, left_off, no_run, none_used, said, unsaid}
use Rattle.law_systems.proofs.Master.{IsSaid, Leaves, heard_said, its_follower, left_by, master_end, says_at}
use Rattle.law_systems.proofs.Following.{beside, unlike}
use Rattle.law_systems.proofs.Parting.{spilled_core, torn_core}

-- the node without an end that it has shut
none_else : (o : Option (LinkId × FollowState)) (link name : LinkId) → o ≡ None → name_of (follow_without link o) ≡ Some name → ⊥
none_else o link name none h = let wrong : ◌≡◌ {A = Option LinkId} None (Some name) = sym (ap (λ z. name_of (follow_without link z)) none) ∙ h in cc

nameless : (o : Option (LinkId × FollowState)) (name : LinkId) → o ≡ None → name_of o ≡ Some name → ⊥
nameless o name none h = let wrong : ◌≡◌ {A = Option LinkId} None (Some name) = sym (ap name_of none) ∙ h in cc

no_name : (o : Option LinkId) (name : LinkId) → o ≡ None → o ≡ Some name → ⊥
no_name o name none h = let wrong : ◌≡◌ {A = Option LinkId} None (Some name) = sym none ∙ h in cc

parted : (outs : OutsState) (link : LinkId) (a : NodeState) → SaysAt outs link → outs.closes ≡ true → closed_behind outs a ≡ closed_at link a
parted outs link a says closes =
    ap (λ names. closed_all names (closed_if outs.link outs.closes a)) says.closed ∙ (ap (λ o. closed_if o outs.closes a) says.link ∙ ap (λ b. closed_if (Some link) b a) closes)

module _ (x : System) (w : WorldState) (n life : ℕ) (s : Stage) (wired : IsWired x) (mirrors : Mirrors x w) (at : IsAt x n life s)
    (socket link : LinkId) (given : Given) (fresh : List ℕ) (news : _) (outs : OutsState) (new_id : is_taken x.ids fresh ≡ false)
    (m : Stage) (c : StepsAt socket link given fresh news s m outs) (bytes : List ℕ) (agrees : MasterAgrees s.node link bytes) where
  stands : StandsAt w n s
  stands = stands_at x w n life s wired mirrors at

  abbrev slot : Slot
  slot = stands.slot

  o : IsOpenAt x w n life s slot socket link side.Opener
  o = master_end x w n life s wired mirrors at stands socket link bytes c.has c.stepped.input agrees

  -- ---- the World
  came : (came : UpstreamStep) × (came ≢ outcome.Idle) × master.Hears s.node link came m.node outs
  came = c.stepped.row.at_master (ap (λ (z : NodeState). z.core.up) (sym stands.node) ∙ stands.running.up) (ap name_of agrees.found)

  hears : master.Hears slot.node link came.0 m.node outs
  hears = subst (λ (z : NodeState). master.Hears z link came.0 m.node outs) (sym stands.node) came.2

  says : SaysAt outs link
  says = says_at s.node m.node link outs came.0 came.2

  left : Leaves s.node m.node link outs
  left = left_by s.node m.node link outs came.0 came.2 bytes (subst (λ (z : LinkId × FollowState). follower.Agrees z.1 bytes) reader_is agrees.agrees)
    where
      reader_is : ◌≡◌ {A = LinkId × FollowState} (link, agrees.reader) (came.2.listens.name, came.2.listens.follow)
      reader_is = some_is (link, agrees.reader) (came.2.listens.name, came.2.listens.follow) (sym agrees.found ∙ came.2.listens.found)

  abbrev v : WorldState
  v = followed w n slot o.line m.node outs

  abbrev after : Slot
  after = behind slot m.node outs

  abbrev j : Link
  j = heard_as m.node.follow outs.reply o.line

  serves : CallsInWorld w v
  serves = record {
    number = n;
    slot = slot;
    running = stands.running;
    call = stepping link given fresh (Ok (answer.Done outs));
    node = m.node;
    sound = c.stepped.sound;
    is = subst (λ (z : NodeState). Steps z link given fresh m.node (Ok (answer.Done outs))) (sym stands.node) c.stepped.row;
    becomes = Becomes.by_event (event.Step o.number side.Opener given fresh) (o.number, side.Opener, o.named, new, refl) (
      new,
      Follows.carries (record {
        number = n;
        name = link;
        who = its_follower x w n life s wired mirrors at stands socket link o agrees.reader agrees.found;
        came = came.0;
        whole = came.1;
        node = m.node;
        outs = outs;
        row = hears;
        sound = c.stepped.sound;
      }) refl,
    )
        (record { slot = after; there = placed; is = refl });
  }
    where
      new : is_spent w.book fresh ≡ false
      new = unspent w.book x.ids mirrors.ids fresh new_id

      placed : slice_get v.slots n ≡ Some after
      placed = set_here w.slots n after slot stands.running.at

  kept : Happens w v × IsWorld v
  kept = servers_keep_worlds w v mirrors.world (inl serves)

  linked : v.links ≡ slice_set w.links o.number j
  linked = ap (λ i. slice_set w.links i j) o.named.dialled

  is_said : IsSaid outs.reply o.line j
  is_said = heard_said s.node m.node link outs o.line left

  taken : (y : System) → y.ids ≡ listed outs.used ++ x.ids → (id : List ℕ) → is_taken x.ids id ≡ true → is_taken y.ids id ≡ true
  taken y ids id h = ap (λ z. is_taken z id) ids ∙ none_used outs.used x.ids id says.used h

  -- ---- what the loop's connections are
  own_is : m.own ≡ s.own
  own_is = ap (λ (z : Stage). z.own) c.same

  others : (t : Stage) → Carried (outs_of outs) m t → (other : LinkId) (held : ConnectionState) → connection_at t.own other ≡ Some held → other ≢ socket → connection_at s.own other ≡ Some held
  others t carried other held there ne =
      let was = carried_was (outs_of outs) m t carried other held there in
      let before : connection_at s.own other ≡ Some was.0 = ap (λ (z : LoopState). connection_at z other) (sym own_is) ∙ was.1 in
      before ∙ ap (λ z. Some z) (sym (was.2 ∙ unsaid outs link says was.0 (unlike x w n life s wired mirrors at stands socket link o other was.0 before ne)))

  its_own : (t : Stage) → Carried (outs_of outs) m t → (held : ConnectionState) → connection_at t.own socket ≡ Some held → held ≡ carried_to (outs_of outs) o.held
  its_own t carried held there =
      some_is held (carried_to (outs_of outs) o.held) (sym there
      ∙ (carried_at (outs_of outs) m t carried socket ∙ ap (option_map (carried_to (outs_of outs))) (ap (λ (z : LoopState). connection_at z socket) own_is ∙ o.there)))

  -- ---- where it goes on to follow
  module _ (g : FollowState) (follow : m.node.follow ≡ Some (link, g)) (ends : m.node.ends ≡ s.node.ends) (stays : outs.closes ≡ false) where
    on_here : (t : Stage) → Carried (outs_of outs) m t → (held : ConnectionState) → connection_at t.own socket ≡ Some held → IsLive v n after o.number o.connection j side.Opener held
    on_here t carried held there =
        let now : held ≡ held_as (Some link) (o.held.waiting ++ outs.reply) = its_own t carried held there ∙ said outs link says o.held stays o.linked in
        record {
          sent = is_said.asked ∙ (ap (λ z. z ++ outs.reply) o.sent ∙ (append_assoc o.connection.asked.written o.held.waiting outs.reply
              ∙ ap (λ (z : ConnectionState). o.connection.asked.written ++ z.waiting) (sym now)));
          side = IsSide.is_open link (ap (λ (z : ConnectionState). z.link) now) (record { named = ap name_of follow; dialled = o.named.dialled }) (λ d e. is_said.tell_taken ∙ o.taken d e);
        }

    on_ends : (name : LinkId) → node_end m.node name ≡ node_end slot.node name
    on_ends name = ap (λ (z : Links EndState). get z.open_links name) ends ∙ ap (λ (z : NodeState). node_end z name) (sym stands.node)

    on_follow : (name : LinkId) → name_of m.node.follow ≡ Some name → name ≡ link
    on_follow name h = some_is name link (sym h ∙ ap name_of follow)

    goes_on : (y : System) (t : Stage) → y.servers ≡ slice_set x.servers n (record { life = life; doing = runs t }) → y.connections ≡ x.connections → y.ids ≡ listed outs.used ++ x.ids
        → Carried (outs_of outs) m t → Leads w y
    goes_on y t servers connections ids carried =
        let node : m.node ≡ t.node = sym (carried_node outs m t carried ∙ none_parted outs m.node stays says.closed) in
        record {
          worlds = v ∷ [];
          run = (kept.0, kept.1, tt);
          mirrors = beside x w n life s wired mirrors at stands socket link o v after j outs.reply kept.1 refl linked refl refl refl is_said y (runs t) t (inl refl)
              (λ r name ne. on_ends name) (λ r name h. on_follow name h) (λ r. others t carried) (λ r. on_here t carried)
              servers connections (taken y ids) (λ r. node) (ap (λ (z : NodeState). z.core) node);
        }

  -- ---- where it has left its master, and its end is closed
  module _ (follow : m.node.follow ≡ None) (ends : m.node.ends ≡ put_end s.node.ends link shut) (closes : outs.closes ≡ true) (quiet : outs.reply ≡ []) where
    abbrev gone : NodeState
    gone = closed_at link m.node

    abbrev last : WorldState
    last = put_node v n after gone

    abbrev without_it : Slot
    without_it = record after { node = gone }

    is_shut : node_end m.node link ≡ Some shut
    is_shut = ap (λ (z : Links EndState). get z.open_links link) ends ∙ (get-insert ids_total s.node.ends.open_links link shut link
        ∙ at_or_other link link (λ b. cond b (Some shut) (node_end s.node link) ≡ Some shut) (λ e. refl) (λ ne. absurd (ne refl)))

    up_there : m.node.core.up ≡ true
    up_there = ap (λ (z : NodeState). z.core.up) hears.node ∙ stands.running.up

    forgets : CallsInWorld v last
    forgets = record {
      number = n;
      slot = after;
      running = record { at = set_here w.slots n after slot stands.running.at; up = up_there };
      call = break link;
      node = gone;
      sound = closed_sound m.node link c.stepped.sound;
      is = refl;
      becomes = Becomes.unseen (NoneOpen.shut (record { is = is_shut })) refl;
    }

    kept_last : Happens v last × IsWorld last
    kept_last = servers_keep_worlds v last kept.1 (inl forgets)

    off_here : (t : Stage) → Carried (outs_of outs) m t → (held : ConnectionState) → connection_at t.own socket ≡ Some held → IsLive last n without_it o.number o.connection j side.Opener held
    off_here t carried held there =
        let now : held ≡ held_as None o.held.waiting = its_own t carried held there ∙ left_off outs link says o.held closes quiet o.linked in
        record {
          sent = is_said.asked ∙ (ap (λ z. o.line.ask.sent ++ z) quiet ∙ (append-nil o.line.ask.sent ∙ (o.sent ∙ ap (λ (z : ConnectionState). o.connection.asked.written ++ z.waiting) (sym now))));
          side = IsSide.is_closed (λ name f. none_else m.node.follow link name follow f.named) (λ name h. absurd (no_name held.link name (ap (λ (z : ConnectionState). z.link) now) h));
        }

    off_ends : (name : LinkId) → name ≢ link → node_end gone name ≡ node_end slot.node name
    off_ends name ne = closed_end m.node link name ne ∙ (ap (λ (z : Links EndState). get z.open_links name) ends ∙ (get-insert ids_total s.node.ends.open_links link shut name
        ∙ (at_or_other name link (λ b. cond b (Some shut) (node_end s.node name) ≡ node_end s.node name) (λ e. absurd (ne e)) (λ e. refl) ∙ ap (λ (z : NodeState). node_end z name) (sym stands.node))))

    leaves : (y : System) (t : Stage) → y.servers ≡ slice_set x.servers n (record { life = life; doing = runs t }) → y.connections ≡ x.connections → y.ids ≡ listed outs.used ++ x.ids
        → Carried (outs_of outs) m t → Leads w y
    leaves y t servers connections ids carried =
        let node : gone ≡ t.node = sym (carried_node outs m t carried ∙ parted outs link m.node says closes) in
        record {
          worlds = v ∷ last ∷ [];
          run = (kept.0, kept.1, (kept_last.0, kept_last.1, tt));
          mirrors = beside x w n life s wired mirrors at stands socket link o last without_it j outs.reply kept_last.1 (set_twice w.slots n after without_it) linked refl refl refl is_said
              y (runs t) t (inl refl) (λ r name ne. off_ends name ne) (λ r name h. absurd (none_else m.node.follow link name follow h)) (λ r. others t carried) (λ r. off_here t carried)
              servers connections (taken y ids) (λ r. node) (ap (λ (z : NodeState). z.core) node);
        }

  carried_out : (y : System) (t : Stage) → y.servers ≡ slice_set x.servers n (record { life = life; doing = runs t }) → y.connections ≡ x.connections → y.ids ≡ listed outs.used ++ x.ids
      → Carried (outs_of outs) m t → Leads w y
  carried_out y t servers connections ids carried = elim left [
    | Leaves.goes_on g follow ends stays ↦ goes_on g follow ends stays y t servers connections ids carried
    | Leaves.leaves follow ends closes quiet ↦ leaves follow ends closes quiet y t servers connections ids carried
  ]

  -- where the server gives up behind it
  given_up : (y : System) (t : Stage) → y.servers ≡ slice_set x.servers n (record { life = life; doing = gives_up t }) → y.connections ≡ x.connections → y.ids ≡ listed outs.used ++ x.ids
      → m.node.core ≡ t.node.core → Leads w y
  given_up y t servers connections ids core = record {
    worlds = v ∷ [];
    run = (kept.0, kept.1, tt);
    mirrors = beside x w n life s wired mirrors at stands socket link o v after j outs.reply kept.1 refl linked refl refl refl is_said y (gives_up t) t (inr refl)
        (λ r. no_run t _ r) (λ r. no_run t _ r) (λ r. no_run t _ r) (λ r. no_run t _ r) servers connections (taken y ids) (λ r. no_run t _ r) core;
  }

-- ---- the events
module _ (x y : System) (w : WorldState) (n life : ℕ) (s t : Stage) (tells : Bool) (mode : SyncMode) (socket link : LinkId) (given : Given) (fresh : List ℕ) (news : _) (outs : OutsState)
    (wired : IsWired x) (mirrors : Mirrors x w) (bytes : List ℕ) (agrees : MasterAgrees s.node link bytes) where
  pub master_acts : IsTurn x n life s (acts (at_step socket link given fresh news) outs) t y → HappensAt tells mode s (acts (at_step socket link given fresh news) outs) t → Leads w y
  master_acts turn h = carried_out x w n life s wired mirrors turn.at socket link given fresh news outs turn.new.0 h.called h.calls bytes agrees y t
      (ap (λ (z : System). z.servers) turn.is) (ap (λ (z : System). z.connections) turn.is ∙ turn.goes) (ap (λ (z : System). z.ids) turn.is) h.carried

  pub master_spills : IsTurn x n life s (spills (at_step socket link given fresh news) outs) t y → HappensAt tells mode s (spills (at_step socket link given fresh news) outs) t → Leads w y
  master_spills turn h = given_up x w n life s wired mirrors turn.at socket link given fresh news outs turn.new.0 h.called h.calls bytes agrees y t
      (ap (λ (z : System). z.servers) turn.is) (ap (λ (z : System). z.connections) turn.is ∙ turn.goes) (ap (λ (z : System). z.ids) turn.is) (sym (spilled_core (outs_of outs) h.called t h.spilled))

  pub master_tears : IsTurn x n life s (tears (at_step socket link given fresh news) outs) t y → HappensAt tells mode s (tears (at_step socket link given fresh news) outs) t → Leads w y
  master_tears turn h = given_up x w n life s wired mirrors turn.at socket link given fresh news outs turn.new.0 h.called h.calls bytes agrees y t
      (ap (λ (z : System). z.servers) turn.is) (ap (λ (z : System). z.connections) turn.is ∙ turn.goes) (ap (λ (z : System). z.ids) turn.is) (sym (torn_core (outs_of outs) h.called t h.torn))
