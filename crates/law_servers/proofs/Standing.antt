-- What a call is in a World in which its node stands: an event of it, by the row that the World has for it.
use Rattle.std.proofs.Common.{◌≡◌, ◌≢◌, ◌≤◌, ◌+◌, ℕ, List, Bool, true, false, Option, None, Some, Result, Ok, Err, length, take, drop, refl, sym, ap, subst, ◌∙◌}
use Rattle.std.specs.Prelude.{slice_get, slice_set}
use Rattle.mr_links.specs.declared.link_id.LinkId.{LinkId}
use Rattle.mr_data.specs.declared.given.Given.{Given}
use Rattle.mr_follower.specs.State.{FollowState}
use Rattle.mr_replication.specs.State.{name_of}
use Rattle.mr_node_links.specs.State.{Transaction}
use Rattle.mr_node_output.specs.Outs.{OutsState}
use Rattle.mr_node_spec.specs.State.{NodeState, end_of, stopped_as}
use Rattle.mr_node_spec.specs.Sound.{IsSound}
use Rattle.mr_node_spec.specs.LinkRows.{Dials, Feeds, Opens, closed_at}
use Rattle.mr_node_spec.specs.TimeRows.{TickRow}
use Rattle.mr_node_spec.specs.UpstreamRows as master
use Rattle.mr_node.specs.Calls.{FitsMore, OpensNoMore}
use Rattle.mr_node.specs.Steps.{MasterStep, Steps}
use Rattle.mr_node.specs.declared.fault.NodeFault.{NodeFault}
use Rattle.mr_node.specs.declared.fault.NodeFault.TheVariants as fault
use Rattle.mr_node.specs.declared.step.Step.{Step}
use Rattle.mr_node.specs.declared.step.Step.TheVariants as step
use Rattle.law_refinement.specs.Way.{unread}
use Rattle.law_refinement.specs.State.{a_node, Link, Slot, WorldState}
use Rattle.law_refinement.specs.Worlds.{IsWorld, HasMaster, end_for}
use Rattle.law_refinement.specs.Carrying.{behind, broken, connected, fed_caller, fed_server, followed, opened, put_node, stepped, ticked}
use Rattle.law_refinement.specs.Events.{IsFollowed, IsRunning, IsServed}
use Rattle.law_refinement.proofs.Places.{set_here, set_there, some_is}
use Rattle.mr_world_parts.specs.AtLink.{by_node}
use Rattle.mr_world_parts.specs.AtNode.{is_spent}
use Rattle.mr_world_parts.specs.Answering.{IsServing}
use Rattle.mr_links.specs.declared.side.Side.{Side}
use Rattle.mr_links.specs.declared.side.Side.TheVariants as side
use Rattle.mr_world.specs.Calls.{Breaks, Clients}
use Rattle.mr_world.specs.Connecting.{DialCall, Dialled}
use Rattle.mr_world.specs.Following.{Follows, HasHeard, IsFollower}
use Rattle.mr_world.specs.Hearing.{ListenCall, Tells}
use Rattle.mr_world.specs.Linking.{BreaksOff, Delivers, DropCall, FollowsBy}
use Rattle.mr_world.specs.Running.{EventCall, Outcome, by_opener, is_between_nodes}
use Rattle.mr_world.specs.Serving.{HasServed, ServedRow, ServesLink, StepCall}
use Rattle.mr_world.specs.Stepping.{Ticks}
use Rattle.mr_world.specs.declared.event.Event.{Event}
use Rattle.mr_world.specs.declared.event.Event.TheVariants as event
use Rattle.mr_world.specs.declared.refusal.Refusal.{Refusal}
use Rattle.mr_world.specs.declared.refusal.Refusal.TheVariants as refusal
use Rattle.mr_world.proofs.Feeding.{its_end}
use Rattle.mr_world.proofs.Heard.{lacks_here, spends_here, waits_here}
use Rattle.mr_world.proofs.Meeting.{stood}
use Rattle.mr_world.proofs.Servings.{idles_there, lacks_there, never_absent, never_closed, never_full, spends_there}
use Rattle.law_servers.specs.Calling.{IsCall, NodeCall, break, client, deliver, dial, opens_no_more, step as stepping, tick}
use Rattle.law_servers.specs.Worlds.{Accepts, Brings, IsEndOf, IsFollowedAs, IsNamed, IsServedAs, Stands, outcome_of}

-- The World takes the event, or refuses it for memory, and its node is this then.
pub record Taken (w : WorldState) (n : ℕ) (e : Event) (b : NodeState) (outcome : Outcome) : Type 0 where
  pub world : WorldState
  pub taken : EventCall w e world outcome
  pub stands : Stands world n b

-- by which link a node follows
follows_as : (o : Option (LinkId × FollowState)) (name : LinkId) → name_of o ≡ Some name → (f : FollowState) × (o ≡ Some (name, f))
follows_as None name e = absurd (cc)
follows_as (Some p) name e = let one : p.0 ≡ name = cc in (p.1, ap (λ (z : LinkId). Some (z, p.1)) one)

module _ (w : WorldState) (n : ℕ) (s : Slot) (b : NodeState) (is : IsWorld w) (running : IsRunning w n s) (sound : IsSound b) where
  stands_put : (t : Slot) → t.node ≡ b → (v : WorldState) → v.slots ≡ slice_set w.slots n t → Stands v n b
  stands_put t node v slots = record { slot = t; there = ap (λ z. slice_get z n) slots ∙ set_here w.slots n t s running.at; is = node }

  -- ---- a link that comes
  came : (link : LinkId) → Opens s.node link b → Taken w n (event.Client n) b (Ok tt)
  came link o = record {
    world = opened w n s b link;
    taken = Clients.comes (record { slot = s; running = running; name = link; node = b; opens = o; is = refl });
    stands = stands_put (record s { node = b }) refl (opened w n s b link) refl;
  }

  no_more : OpensNoMore s.node b → Taken w n (event.Client n) b (Ok tt)
  no_more (OpensNoMore.down down same) = absurd (let up : true ≡ false = sym running.up ∙ down in cc)
  no_more (OpensNoMore.spent up many stops) = record {
    world = put_node w n s (stopped_as s.node);
    taken = Clients.stops (record { slot = s; running = running; spent = many; is = refl });
    stands = stands_put (record s { node = stopped_as s.node }) (sym stops) (put_node w n s (stopped_as s.node)) refl;
  }

  passed : (given : Given) (outs : OutsState) → TickRow s.node given.now b outs → Taken w n (event.Tick n given) b (Ok tt)
  passed given outs row = record {
    world = ticked w n s b outs;
    taken = Ticks.carries (record { slot = s; running = running; node = b; outs = outs; row = row; sound = sound }) refl;
    stands = stands_put (behind s b outs) refl (ticked w n s b outs) refl;
  }

  dialled : (link : LinkId) (outs : OutsState) (m : ℕ) → m ≢ n → Accepts w m → Dials s.node link b outs → Taken w n (event.Dial n m) b (Ok tt)
  dialled link outs m other a d =
      let before = set_there w.slots m n (record a.server { node = a.node }) (λ e. other (sym e)) ∙ running.at in
      let v = connected w n s b link outs m a.server a.node a.name in
      record {
        world = v;
        taken = (
          record { dialler = s; at = running.at; replica = d.replica; alone = d.alone; server = a.server; found = a.running.at },
          Dialled.connects (record {
            server = a.server;
            running = a.running;
            at = a.name;
            served = a.node;
            opens = a.opens;
            dialler = s;
            found = before;
            up = running.up;
            name = link;
            node = b;
            outs = outs;
            dials = d;
            sound = sound;
            is = refl;
          }),
        );
        stands = record {
          slot = record s { node = b; dialled = length w.links };
          there = set_here (slice_set w.slots m (record a.server { node = a.node })) n (record s { node = b; dialled = length w.links }) s before;
          is = refl;
        };
      }

  -- ---- at the server's end
  module _ (link : LinkId) (l : ℕ) (end : IsServedAs w n link l) where
    abbrev k : Link
    k = end.link

    served : IsServed w l k s
    served = record { found = end.at.found; serving = end.at.serving; at = ap (slice_get w.slots) end.to ∙ running.at; up = running.up }

    stands_served : (t : Slot) → t.node ≡ b → (v : WorldState) → v.slots ≡ slice_set w.slots k.to t → Stands v n b
    stands_served t node v slots = stands_put t node v (slots ∙ ap (λ i. slice_set w.slots i t) end.to)

    heard : (bytes : List ℕ) → Feeds s.node link bytes b → FitsMore s.node link (length bytes) → Brings w l side.Server bytes → Taken w n (event.Deliver l side.Server (length bytes)) b (Ok tt)
    heard bytes feeds few brings =
        let one : brings.link ≡ k = some_is brings.link k (sym brings.found ∙ end.at.found) in
        let next : bytes ≡ take (length bytes) (drop k.ask.taken k.ask.sent) = brings.next ∙ ap (λ (z : Link). take (length bytes) (drop z.ask.taken z.ask.sent)) one in
        record {
          world = fed_server w k.to s b l k (length bytes);
          taken = Delivers.hears (record {
            link = k;
            slot = s;
            can = record { served = served; sent = subst (λ (z : Link). z.ask.taken + length bytes ≤ length z.ask.sent) one brings.sent };
            node = b;
            feeds = subst (λ z. Feeds s.node k.name z b) next (subst (λ z. Feeds s.node z bytes b) (sym end.named) feeds);
            sound = sound;
            few = subst (λ z. FitsMore s.node z (length bytes)) (sym end.named) few;
            is = refl;
          });
          stands = stands_served (record s { node = b }) refl (fed_server w k.to s b l k (length bytes)) refl;
        }

    closed : b ≡ closed_at link s.node → Taken w n (event.Break l side.Server) b (Ok tt)
    closed e = record {
      world = broken w k.to s (closed_at k.name s.node) l k;
      taken = Breaks.closes (record { link = k; slot = s; served = served; is = refl });
      stands = stands_served (record s { node = closed_at k.name s.node }) (ap (λ z. closed_at z s.node) end.named ∙ sym e) (broken w k.to s (closed_at k.name s.node) l k) refl;
    }

    -- a step there
    module _ (given : Given) (fresh : List ℕ) (new : is_spent w.book fresh ≡ false) where
      serving : IsServing w l n link
      serving = record { link = k; slot = s; served = served; number = sym end.to; named = sym end.named }

      abbrev behind_it : Slot
      behind_it = record s { node = b }

      abbrev changed : WorldState
      changed = record w { slots = slice_set w.slots n behind_it }

      put_there : Stands changed n b
      put_there = stands_put behind_it refl changed refl

      row_of : (outs : OutsState) → Steps s.node k.name given fresh b (Ok (step.Done outs)) → ServedRow k s.node given fresh b outs
      row_of outs row = go k.streams (its_end w l k s is served).0 refl (its_end w l k s is served).1
        where
          go : (c : Bool) (held : Option Transaction) → k.streams ≡ c → end_of s.node k.name ≡ Some (end_for c held (unread k.ask)) → ServedRow k s.node given fresh b outs
          go true held q e = ServedRow.replica q (row.at_replica (unread k.ask) (record { up = running.up; agrees = record { is = e } }))
          go false None q e = ServedRow.client q (record { is = e }) (row.at_client (unread k.ask) (record { up = running.up; agrees = record { is = e } }))
          go false (Some t) q e = ServedRow.within t q (record { is = e }) (row.at_waiting t (unread k.ask) (record { up = running.up; agrees = record { is = e } }))

      served_step : (r : Result Step NodeFault) → Steps s.node link given fresh b r → Taken w n (event.Step l side.Server given fresh) b (outcome_of (stepping link given fresh r))
      served_step (Ok step.Idle) row = record {
        world = changed;
        taken = (new, idles_there w l n link given fresh is serving s (stood w.slots n s running.at) behind_it (Ok step.Idle) row refl refl);
        stands = put_there;
      }
      served_step (Ok (step.Done outs)) row = record {
        world = stepped w k.to s l k b outs;
        taken = (
          new,
          ServesLink.carries (record {
            link = k;
            slot = s;
            served = served;
            node = b;
            outs = outs;
            row = row_of outs (subst (λ z. Steps s.node z given fresh b (Ok (step.Done outs))) (sym end.named) row);
            sound = sound;
          }) refl,
        );
        stands = stands_served (behind s b outs) refl (stepped w k.to s l k b outs) refl;
      }
      served_step (Ok step.Closed) row = absurd (never_closed w l n link given fresh is serving s (stood w.slots n s running.at) behind_it (Ok step.Closed) row refl refl)
      served_step (Err fault.Memory) row =
          let lacks = lacks_there w l n link given fresh is serving s (stood w.slots n s running.at) behind_it (Err fault.Memory) row refl refl in
          record { world = changed; taken = (new, lacks.0, lacks.1); stands = put_there }
      served_step (Err fault.Stopped) row = record {
        world = changed;
        taken = (new, spends_there w l n link given fresh is serving s (stood w.slots n s running.at) behind_it (Err fault.Stopped) row refl refl);
        stands = put_there;
      }
      served_step (Err fault.NoLink) row = absurd (never_absent w l n link given fresh is serving s (stood w.slots n s running.at) behind_it (Err fault.NoLink) row refl refl)
      served_step (Err fault.InputFull) row = absurd (never_full w l n link given fresh is serving s (stood w.slots n s running.at) behind_it (Err fault.InputFull) row refl refl)

  -- ---- at the end of the node that dialled
  module _ (link : LinkId) (l : ℕ) (end : IsFollowedAs s link l) where
    reader : (f : FollowState) × (s.node.follow ≡ Some (link, f))
    reader = follows_as s.node.follow link end.named

    has : HasMaster w.links n s link reader.0
    has = is.followers n s link reader.0 running.at running.up reader.1

    abbrev m : Link
    m = has.link

    found : slice_get w.links l ≡ Some m
    found = ap (slice_get w.links) (sym end.dialled) ∙ has.found

    by : FollowsBy w l n m s link reader.0
    by = record { followed = record { at = running.at; found = has.found; up = running.up }; follows = reader.1; dialled = end.dialled }

    -- it is a node's link, so that a node's row stands there
    as_node : (of_node of_client : Type 0) → of_node → by_opener (is_between_nodes (slice_get w.links l)) of_node of_client
    as_node of_node of_client x = subst (λ z. by_opener (is_between_nodes z) of_node of_client) (sym found) (subst (λ z. by_opener (by_node z) of_node of_client) (sym has.caller) x)

    listened : (bytes : List ℕ) → Feeds s.node link bytes b → Brings w l side.Opener bytes → Taken w n (event.Deliver l side.Opener (length bytes)) b (Ok tt)
    listened bytes feeds brings =
        let one : brings.link ≡ m = some_is brings.link m (sym brings.found ∙ found) in
        let next : bytes ≡ take (length bytes) (drop m.tell.taken m.tell.sent) = brings.next ∙ ap (λ (z : Link). take (length bytes) (drop z.tell.taken z.tell.sent)) one in
        record {
          world = fed_caller w n s b l m (length bytes);
          taken = as_node (ListenCall w l (length bytes) (fed_caller w n s b l m (length bytes)) (Ok tt)) _ (Tells.listens (record {
            number = n;
            link = m;
            slot = s;
            name = link;
            reader = reader.0;
            told = record { by = by; sent = subst (λ (z : Link). z.tell.taken + length bytes ≤ length z.tell.sent) one brings.sent };
            node = b;
            feeds = subst (λ z. Feeds s.node link z b) next feeds;
            sound = sound;
            is = refl;
          }));
          stands = stands_put (record s { node = b }) refl (fed_caller w n s b l m (length bytes)) refl;
        }

    dropped : b ≡ closed_at link s.node → Taken w n (event.Break l side.Opener) b (Ok tt)
    dropped e = record {
      world = put_node w n s (closed_at link s.node);
      taken = as_node (DropCall w l (put_node w n s (closed_at link s.node)) (Ok tt)) _ (BreaksOff.drops (record { number = n; link = m; slot = s; name = link; reader = reader.0; by = by; is = refl }));
      stands = stands_put (record s { node = closed_at link s.node }) (sym e) (put_node w n s (closed_at link s.node)) refl;
    }

    -- a step there
    module _ (given : Given) (fresh : List ℕ) (new : is_spent w.book fresh ≡ false) where
      abbrev who : IsFollower w l n link
      who = record { link = m; slot = s; reader = reader.0; by = by }

      abbrev after_it : Slot
      after_it = record s { node = b }

      abbrev now : WorldState
      now = record w { slots = slice_set w.slots n after_it }

      put_now : Stands now n b
      put_now = stands_put after_it refl now refl

      followed_by : (r : Result Step NodeFault) → MasterStep s.node link b r → Taken w n (event.Step l side.Opener given fresh) b (outcome_of (stepping link given fresh r))
      followed_by (Ok step.Idle) row = record { world = now; taken = (new, Follows.waits (waits_here w l n link is who s after_it (stood w.slots n s running.at) refl sound row)); stands = put_now }
      followed_by (Ok (step.Done outs)) row = record {
        world = followed w n s m b outs;
        taken = (new, Follows.carries (record { number = n; name = link; who = who; came = row.0; whole = row.1; node = b; outs = outs; row = row.2; sound = sound }) refl);
        stands = stands_put (behind s b outs) refl (followed w n s m b outs) refl;
      }
      followed_by (Ok step.Closed) row = absurd row
      followed_by (Err fault.Memory) row = record { world = now; taken = (new, lacks_here w l n link is who s after_it (stood w.slots n s running.at) refl sound row); stands = put_now }
      followed_by (Err fault.Stopped) row = record { world = now; taken = (new, Follows.spends (spends_here w l n link is who s after_it (stood w.slots n s running.at) refl sound row)); stands = put_now }
      followed_by (Err fault.NoLink) row = absurd row
      followed_by (Err fault.InputFull) row = absurd row

      followed_step : (r : Result Step NodeFault) → Steps s.node link given fresh b r → Taken w n (event.Step l side.Opener given fresh) b (outcome_of (stepping link given fresh r))
      followed_step r row = followed_by r (row.at_master running.up end.named)

  -- ---- each call that is an event
  as_it_is : (call : NodeCall) (x e : Event) → e ≡ x → Taken w n x b (outcome_of call) → Taken w n e b (outcome_of call)
  as_it_is call x e same t = subst (λ z. Taken w n z b (outcome_of call)) (sym same) t

  at_either : (l : ℕ) (at : Side) (link : LinkId) (bytes : List ℕ) → Feeds s.node link bytes b → FitsMore s.node link (length bytes) → IsEndOf w n s link l at → Brings w l at bytes
      → Taken w n (event.Deliver l at (length bytes)) b (Ok tt)
  at_either l side.Server link bytes feeds few end brings = heard link l end bytes feeds few brings
  at_either l side.Opener link bytes feeds few end brings = listened link l end bytes feeds brings

  breaks_at : (l : ℕ) (at : Side) (link : LinkId) → b ≡ closed_at link s.node → IsEndOf w n s link l at → Taken w n (event.Break l at) b (Ok tt)
  breaks_at l side.Server link e end = closed link l end e
  breaks_at l side.Opener link e end = dropped link l end e

  steps_at : (l : ℕ) (at : Side) (link : LinkId) (given : Given) (fresh : List ℕ) (r : Result Step NodeFault) → is_spent w.book fresh ≡ false → Steps s.node link given fresh b r
      → IsEndOf w n s link l at → Taken w n (event.Step l at given fresh) b (outcome_of (stepping link given fresh r))
  steps_at l side.Server link given fresh r new row end = served_step link l end given fresh new r row
  steps_at l side.Opener link given fresh r new row end = followed_step link l end given fresh new r row

  pub named_taken : (call : NodeCall) (e : Event) → IsCall s.node call b → IsNamed w n s call e → Taken w n e b (outcome_of call)
  named_taken (client link) e c named = as_it_is (client link) (event.Client n) e named (came link c)
  named_taken opens_no_more e c named = as_it_is opens_no_more (event.Client n) e named (no_more c)
  named_taken (deliver link bytes) e c named = as_it_is (deliver link bytes) (event.Deliver named.0 named.1 (length bytes)) e named.4 (at_either named.0 named.1 link bytes c.0 c.1 named.2 named.3)
  named_taken (stepping link given fresh r) e c named = as_it_is (stepping link given fresh r) (event.Step named.0 named.1 given fresh) e named.4 (steps_at named.0 named.1 link given fresh r named.3 c named.2)
  named_taken (tick given outs) e c named = as_it_is (tick given outs) (event.Tick n given) e named (passed given outs c)
  named_taken (break link) e c named = as_it_is (break link) (event.Break named.0 named.1) e named.3 (breaks_at named.0 named.1 link c named.2)
  named_taken (dial link outs) e c named = as_it_is (dial link outs) (event.Dial n named.0) e named.3 (dialled link outs named.0 named.1 named.2 c)
