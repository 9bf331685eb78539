-- What servers make of a World, and that their nodes never differ silently.
use Rattle.std.proofs.Common.{◌≡◌, ◌⊎◌, inl, inr, ℕ, List, [], ◌∷◌, Bool, true, false, Option, None, Some, Result, Ok, Err, length, refl, sym, ap, subst, ◌∙◌}
use Rattle.std.specs.Prelude.{slice_get}
use Rattle.mr_links.specs.declared.link_id.LinkId.{LinkId}
use Rattle.mr_data.specs.declared.given.Given.{Given}
use Rattle.mr_node_output.specs.Outs.{OutsState}
use Rattle.law_protocol.specs.Event as events
use Rattle.mr_node_spec.specs.State.{NodeState, stopped_as}
use Rattle.mr_node_spec.specs.Sound.{IsSound}
use Rattle.mr_node_spec.specs.LinkRows.{Dials, Opens}
use Rattle.mr_node.specs.declared.fault.NodeFault.TheVariants as fault
use Rattle.law_refinement.specs.State.{Link, Slot, WorldState}
use Rattle.law_refinement.specs.Worlds.{IsWorld, no_world}
use Rattle.law_refinement.specs.Carrying.{accepting, connecting, put_node}
use Rattle.law_refinement.specs.Events.{IsRunning, IsWaiting}
use Rattle.law_refinement.proofs.Accepting.{accepts, accepts_keep, connects, connects_keep}
use Rattle.law_refinement.proofs.Beginning.{worlds_begin}
use Rattle.law_refinement.proofs.Places.{set_here}
use Rattle.law_refinement.proofs.Linking.{open_stops}
use Rattle.law_refinement.specs.Runs.{Happens, IsMoment, Run, an_event}
use Rattle.law_refinement.proofs.Moments.{no_silent_difference}
use Rattle.mr_links.specs.declared.side.Side.{Side}
use Rattle.mr_links.specs.declared.side.Side.TheVariants as side
use Rattle.mr_world.specs.Hearing.{ListenCall}
use Rattle.mr_world.specs.Calls.{LeaveCall, TakeCall}
use Rattle.mr_world.specs.Linking.{DropCall}
use Rattle.mr_world.specs.Running.{EventCall, Outcome, by_opener, is_between_nodes}
use Rattle.mr_world.specs.declared.event.Event.{Event}
use Rattle.mr_world.specs.declared.event.Event.TheVariants as event
use Rattle.mr_world.specs.declared.refusal.Refusal.{Refusal}
use Rattle.mr_world.specs.declared.refusal.Refusal.TheVariants as refusal
use Rattle.mr_world.proofs.Connects.{dial_keeps}
use Rattle.mr_world.proofs.Dialling.{drop_keeps}
use Rattle.mr_world.proofs.Feeding.{deliver_keeps}
use Rattle.mr_world.proofs.Happened.{happened}
use Rattle.mr_world.proofs.Heard.{follow_keeps}
use Rattle.mr_world.proofs.Kept.{break_keeps, client_keeps, leave_keeps, stops_world, take_keeps}
use Rattle.mr_world.proofs.Servings.{step_keeps}
use Rattle.mr_world.proofs.Telling.{listen_keeps}
use Rattle.mr_world.proofs.Ticking.{tick_keeps}
use Rattle.mr_world.proofs.Unchanged.{no_event, stays}
use Rattle.law_servers.specs.Calling.{IsCall, NodeCall, break, client, deliver, dial, opens_no_more, step, tick}
use Rattle.law_servers.specs.Worlds.{Becomes, CallsAreEvents, Comes, Course, Halts, IsMeant, IsNamed, Moves, CallsInWorld, ServersKeepWorlds, ServersNeverDiffer, Stands, outcome_of}
use Rattle.law_servers.proofs.Standing.{named_taken}
use Rattle.law_servers.proofs.Unseen.{goes_unseen}

-- ---- what comes of a call
pub calls_are_events : CallsAreEvents
calls_are_events w n s call b is running sound c (IsMeant.as_event e named) =
    let t = named_taken w n s b is running sound call e c named in record { world = t.world; becomes = Becomes.by_event e named t.taken t.stands; stands = t.stands }
calls_are_events w n s call b is running sound c (IsMeant.as_none none) = record {
  world = put_node w n s b;
  becomes = Becomes.unseen none refl;
  stands = record { slot = record s { node = b }; there = set_here w.slots n (record s { node = b }) s running.at; is = refl };
}
calls_are_events w n s call b is running sound c (IsMeant.as_accept name l k one waits) = record {
  world = accepting w n s b name l k;
  becomes = Becomes.accepts name l k one waits refl;
  stands = record { slot = record s { node = b }; there = set_here w.slots n (record s { node = b }) s running.at; is = refl };
}
calls_are_events w n s call b is running sound c (IsMeant.as_connect name outs one) = record {
  world = connecting w n s b name outs.reply;
  becomes = Becomes.connects name outs one refl;
  stands = record {
    slot = record s { node = b; dialled = length w.links };
    there = set_here w.slots n (record s { node = b; dialled = length w.links }) s running.at;
    is = refl;
  };
}

-- ---- it leaves a World
module _ (w v : WorldState) (is : IsWorld w) where
  by_either : (o : Bool) (of_node of_client : Type 0) → (of_node → IsWorld v) → (of_client → IsWorld v) → by_opener o of_node of_client → IsWorld v
  by_either true of_node of_client f g c = f c
  by_either false of_node of_client f g c = g c

  at_link : (l : ℕ) (at : Side) (count : ℕ) → EventCall w (event.Deliver l at count) v (Ok tt) → IsWorld v
  at_link l side.Server count c = deliver_keeps w v l count (Ok tt) is c
  at_link l side.Opener count c =
      by_either (is_between_nodes (slice_get w.links l)) (ListenCall w l count v (Ok tt)) (TakeCall w l count v (Ok tt)) (listen_keeps w v l count (Ok tt) is) (take_keeps w v l count (Ok tt) is) c

  breaks_at : (l : ℕ) (at : Side) → EventCall w (event.Break l at) v (Ok tt) → IsWorld v
  breaks_at l side.Server c = break_keeps w v l (Ok tt) is c
  breaks_at l side.Opener c = by_either (is_between_nodes (slice_get w.links l)) (DropCall w l v (Ok tt)) (LeaveCall w l v (Ok tt)) (drop_keeps w v l (Ok tt) is) (leave_keeps w v l (Ok tt) is) c

  steps_at : (l : ℕ) (at : Side) (given : Given) (fresh : List ℕ) (r : Outcome) → EventCall w (event.Step l at given fresh) v r → IsWorld v
  steps_at l side.Server given fresh r c = step_keeps w v l given fresh r is c
  steps_at l side.Opener given fresh r c = follow_keeps w v l fresh r is c

  call_keeps : (n : ℕ) (s : Slot) (call : NodeCall) (e : Event) → IsNamed w n s call e → EventCall w e v (outcome_of call) → IsWorld v
  call_keeps n s (client link) e named c = client_keeps w v n (Ok tt) is (subst (λ z. EventCall w z v (Ok tt)) named c)
  call_keeps n s opens_no_more e named c = client_keeps w v n (Ok tt) is (subst (λ z. EventCall w z v (Ok tt)) named c)
  call_keeps n s (deliver link bytes) e named c = at_link named.0 named.1 _ (subst (λ z. EventCall w z v (Ok tt)) named.4 c)
  call_keeps n s (step link given fresh r) e named c = steps_at named.0 named.1 given fresh (outcome_of (step link given fresh r)) (subst (λ z. EventCall w z v (outcome_of (step link given fresh r))) named.4 c)
  call_keeps n s (tick given outs) e named c = tick_keeps w v n given.now (Ok tt) is (subst (λ z. EventCall w z v (Ok tt)) named c)
  call_keeps n s (break link) e named c = breaks_at named.0 named.1 (subst (λ z. EventCall w z v (Ok tt)) named.3 c)
  call_keeps n s (dial link outs) e named c = dial_keeps w v n named.0 (Ok tt) is (subst (λ z. EventCall w z v (Ok tt)) named.3 c)

  came_of : (e : Event) (r : Outcome) → EventCall w e v r → Happens w v
  came_of e (Ok done) c = happened w v e done c
  came_of e (Err cause) c = (no_event w v is (stays w v e cause c)).0

  -- a link that waits is accepted
  accepted : (n : ℕ) (s : Slot) (b : NodeState) (name : LinkId) (l : ℕ) (k : Link) → IsRunning w n s → IsSound b → Opens s.node name b → IsWaiting w l k
      → Happens w (accepting w n s b name l k) × IsWorld (accepting w n s b name l k)
  accepted n s b name l k running sound opens waits = (
    an_event (events.Event.Accept l n) (λ book holds. accepts w book l n k s name b holds waits running opens),
    accepts_keep w l n k s name b is waits running sound opens,
  )

  -- a link comes that waits
  connected : (n : ℕ) (s : Slot) (b : NodeState) (name : LinkId) (outs : OutsState) → IsRunning w n s → IsSound b → Dials s.node name b outs
      → Happens w (connecting w n s b name outs.reply) × IsWorld (connecting w n s b name outs.reply)
  connected n s b name outs running sound dials = (
    an_event (events.Event.Connect n) (λ book holds. connects w book n s name b outs holds running dials),
    connects_keep w n s name b outs is running sound dials,
  )

  served : CallsInWorld w v → Happens w v × IsWorld v
  served m = elim m.becomes [
    | Becomes.by_event e named c stands ↦ (came_of e (outcome_of m.call) c, call_keeps m.number m.slot m.call e named c)
    | Becomes.unseen none same ↦ subst (λ z. Happens w z × IsWorld z) (sym same) (goes_unseen w m.number m.slot is m.running m.call m.node m.sound m.is none)
    | Becomes.accepts name l k one waits same ↦ subst (λ z. Happens w z × IsWorld z) (sym same)
        (accepted m.number m.slot m.node name l k m.running m.sound (subst (λ z. IsCall m.slot.node z m.node) one m.is) waits)
    | Becomes.connects name outs one same ↦ subst (λ z. Happens w z × IsWorld z) (sym same)
        (connected m.number m.slot m.node name outs m.running m.sound (subst (λ z. IsCall m.slot.node z m.node) one m.is))
  ]

  halted : Halts w v → Happens w v × IsWorld v
  halted h = subst (λ z. Happens w z × IsWorld z) (sym h.is) (
    an_event (events.Event.Client h.number) (λ book holds. open_stops w book h.number h.slot (stopped_as h.slot.node) holds h.running refl),
    stops_world w h.number h.slot (stopped_as h.slot.node) is h.running.at refl,
  )

  moved : Moves w v → Happens w v × IsWorld v
  moved (Moves.happens e c world) = (came_of e (Ok tt) c, world)
  moved (Moves.serves m) = served m
  moved (Moves.halts h) = halted h

pub servers_keep_worlds : ServersKeepWorlds
servers_keep_worlds w v is (inl m) = served w v is m
servers_keep_worlds w v is (inr h) = halted w v is h

-- ---- .. and they are moments of a run
course_runs : (w : WorldState) (vs : List WorldState) → IsWorld w → Course w vs → Run w vs
course_runs w [] is c = tt
course_runs w (v ∷ vs) is c = let m = moved w v is c.0 in (m.0, m.1, course_runs v vs m.1 c.1)

pub servers_never_differ : ServersNeverDiffer
servers_never_differ worlds c j k u v at there n m id offset x y s t =
    let run = course_runs no_world worlds worlds_begin.world c in
    no_silent_difference worlds j k u v (record { run = run; there = at }) (record { run = run; there = there }) n m id offset x y s t
