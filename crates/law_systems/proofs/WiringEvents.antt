-- What each event of a turn makes of a server's stage, where the turn goes on.
use Rattle.std.proofs.Common.{◌≡◌, ◌≤◌, ◌<◌, ◌+◌, ℕ, List, [], ◌∷◌, Bool, true, Option, None, Some, Ok, Err, refl, sym, ap, ◌∙◌, arith}
use Rattle.std.specs.FinMap.{get, insert}
use Rattle.mr_links.specs.declared.link_id.LinkId.{LinkId}
use Rattle.mr_file.specs.declared.sync_mode.SyncMode.{SyncMode}
use Rattle.mr_node_output.specs.Outs.{OutState, OutsState, outs_of}
use Rattle.mr_node_spec.specs.State.{NodeState}
use Rattle.mr_node_spec.specs.LinkRows.{Opens}
use Rattle.mr_node.specs.declared.fault.NodeFault.TheVariants as refusal
use Rattle.mr_node.specs.declared.step.Step.TheVariants as step
use Rattle.mr_wire.specs.Wire.{LinkState, Opens as OpensWire, WireState, asked_link, behind_read, behind_write, count_of, new_link, bytes_moved, sent_on}
use Rattle.mr_wire.specs.declared.wire.Moved.TheVariants as moved
use Rattle.mr_connections.specs.State.{begun}
use Rattle.mr_loop.specs.Stage.{LoopState, Stage}
use Rattle.mr_loop.specs.Carrying.{Carried}
use Rattle.mr_loop.specs.Causes.{Act, Calls, Dropped, Touches, TurnsOff, at_dial, at_step, at_tick, dials_and_closes, ended_at, opens_and_closes, stays}
use Rattle.mr_loop.specs.Rows.{Event, Happens, acts, appends, breaks, closes, fails, fault_of, finds_none, hears_end, idles, is_deaf, is_refused, joins, loses, misses, misses_dial, misses_tick, settles, spills, stops, takes, tears, turns_away, waits, wakes, writes}
use Rattle.mr_loop.proofs.Carried.{carried_node, carried_wire}
use Rattle.mr_loop.proofs.Halting.{no_fault}
use Rattle.mr_loop.proofs.Living.{went_up, done_stops, idle_stops, memory_stops}
use Rattle.mr_loop.proofs.Sending.{some_at}
use Rattle.law_systems.proofs.WiringNodes.{stepped_opened, ticked_opened}
use Rattle.law_systems.proofs.WiringRows.{WasIn, all_carried, was_behind, was_dropped, was_parted, was_same, was_wrote}
use Rattle.law_systems.proofs.WiringStages.{Moves, RowsGo, begin, rows_move, stay}

-- ---- the socket that comes with an event
abbrev pub came_in : Act → Option LinkId
came_in (at_step socket link given fresh news) = None
came_in (at_tick given) = None
came_in (at_dial socket link) = Some socket

abbrev pub came_by : Event → Option LinkId
came_by (joins socket link) = Some socket
came_by (acts act outs) = came_in act
came_by (spills act outs) = came_in act
came_by (tears act outs) = came_in act
came_by _ = None

-- ---- how many there ever were
at_most : {m n : ℕ} → m ≡ n → n ≤ m
at_most e = omega (arith, e)

one_more : {m n : ℕ} → m ≡ n + 1 → n ≤ m
one_more e = omega (arith, e)

below_more : {l m n : ℕ} → l ≡ n → m ≡ n + 1 → l < m
below_more e more = omega (arith, e, more)

-- on the wire
touched_opened : (v w : WireState) (n : LinkId) (f : LinkState → LinkState) (bytes : List ℕ) → Touches v n f bytes w → w.opened ≡ v.opened
touched_opened v w n f bytes t = elim (get v.open_links n) as (λ o. get v.open_links n ≡ o → w.opened ≡ v.opened) [
  | None ↦ λ e. ap (λ (z : WireState). z.opened) (t.absent e)
  | Some x ↦ λ e. ap (λ (z : WireState). z.opened)
      (some_at (λ x. w ≡ record v { open_links = insert v.open_links n (f x); sent = sent_on n bytes v.sent }) (get v.open_links n) x e t.changes)
] refl

more_wire : (v w : WireState) (n : LinkId) (e : LinkState) → OpensWire v n e w → w.opened ≡ v.opened + 1
more_wire v w n e h = ap (λ (z : WireState). z.opened) h.links

-- at the node
off_opened : (a b : NodeState) → TurnsOff a b → a.ends.opened ≤ b.ends.opened
off_opened a b (stays same) = at_most (ap (λ (z : NodeState). z.ends.opened) same)
off_opened a b (opens_and_closes mid link opens is) = one_more (ap (λ (z : NodeState). z.ends.opened) is ∙ ap (λ (z : NodeState). z.ends.opened) opens.node)
off_opened a b (dials_and_closes mid link outs dials sound is) =
    one_more (ap (λ (z : NodeState). z.ends.opened) is ∙ ap (λ (z : NodeState). z.ends.opened) dials.node)

ended_opened : (link : Option LinkId) (a : NodeState) → (ended_at link a).ends.opened ≡ a.ends.opened
ended_opened None a = refl
ended_opened (Some l) a = refl

dropped_opened : {socket : LinkId} {link : Option LinkId} {s t : Stage} → Dropped socket link s t → t.node.ends.opened ≡ s.node.ends.opened
dropped_opened {socket} {link} {s} d = ap (λ (z : NodeState). z.ends.opened) d.node ∙ ended_opened link s.node

carried_opened : (outs : List OutState) (s t : Stage) → Carried outs s t → t.node.ends.opened ≡ s.node.ends.opened
carried_opened outs s t c = carried_node (λ (z : NodeState). z.ends.opened ≡ s.node.ends.opened) (λ link a same. same) outs s t c refl

-- ---- a call, before its outs are carried out
called_wire : (act : Act) (s m : Stage) (outs : OutsState) → Calls act s m outs → s.wire.opened ≤ m.wire.opened
called_wire (at_step socket link given fresh news) s m outs c = at_most (ap (λ (z : Stage). z.wire.opened) c.same)
called_wire (at_tick given) s m outs c = at_most (ap (λ (z : Stage). z.wire.opened) c.same)
called_wire (at_dial socket link) s m outs c = one_more (more_wire s.wire m.wire socket (asked_link c.connects.0) c.connects.2)

called_opened : (act : Act) (s m : Stage) (outs : OutsState) → Calls act s m outs → s.node.ends.opened ≤ m.node.ends.opened
called_opened (at_step socket link given fresh news) s m outs c =
    at_most (stepped_opened s.node m.node link given fresh (Ok (step.Done outs)) done_stops c.stepped)
called_opened (at_tick given) s m outs c = at_most (ticked_opened c.row)
called_opened (at_dial socket link) s m outs c = one_more (ap (λ (z : NodeState). z.ends.opened) c.dials.node)

acted_rows : (act : Act) (s m t : Stage) (outs : OutsState) → Calls act s m outs → Carried (outs_of outs) m t → RowsGo (came_in act) s t
acted_rows (at_step socket link given fresh news) s m t outs c carried =
    stay refl (was_behind (was_same (ap (λ (z : Stage). z.own.connections) c.same)) (all_carried (outs_of outs) m t carried))
acted_rows (at_tick given) s m t outs c carried =
    stay refl (was_behind (was_same (ap (λ (z : Stage). z.own.connections) c.same)) (all_carried (outs_of outs) m t carried))
acted_rows (at_dial socket link) s m t outs c carried =
    let wire : t.wire.opened ≡ s.wire.opened + 1 = ap (λ (z : WireState). z.opened) (carried_wire (outs_of outs) m t carried)
    ∙ more_wire s.wire m.wire socket (asked_link c.connects.0) c.connects.2 in
    let node : t.node.ends.opened ≡ s.node.ends.opened + 1 = carried_opened (outs_of outs) m t carried ∙ ap (λ (z : NodeState). z.ends.opened) c.dials.node in
    begin (record {
      socket = socket;
      link = link;
      is = refl;
      socket_is = c.connects.2.generation;
      socket_newer = below_more c.connects.2.generation wire;
      link_is = c.dials.generation;
      link_newer = below_more c.dials.generation node;
      was = was_behind (was_same c.connections) (all_carried (outs_of outs) m t carried);
    })

joined_rows : (s t : Stage) (socket link : LinkId) → OpensWire s.wire socket new_link t.wire → Opens s.node link t.node
    → t.own.connections ≡ insert s.own.connections socket (begun link) → RowsGo (Some socket) s t
joined_rows s t socket link wire node connections = begin (record {
  socket = socket;
  link = link;
  is = refl;
  socket_is = wire.generation;
  socket_newer = below_more wire.generation (more_wire s.wire t.wire socket new_link wire);
  link_is = node.generation;
  link_newer = below_more node.generation (ap (λ (z : NodeState). z.ends.opened) node.node);
  was = was_same connections;
})

by_own : {o p : LoopState} → p ≡ o → WasIn o.connections p.connections
by_own e = was_same (ap (λ (z : LoopState). z.connections) e)

module _ (tells : Bool) (mode : SyncMode) where
  -- ---- connections
  rows_of : (e : Event) (s t : Stage) → fault_of e ≡ None → Happens tells mode s e t → RowsGo (came_by e) s t
  rows_of (wakes now) s t goes_on h = stay refl (was_same (ap (λ (z : Stage). z.own.connections) h.is))
  rows_of waits s t goes_on h = stay refl (was_same (ap (λ (z : Stage). z.own.connections) h.is))
  rows_of (joins socket link) s t goes_on h = joined_rows s t socket link h.wire h.node h.connections
  rows_of turns_away s t goes_on h = stay refl (was_same (ap (λ (z : LoopState). z.connections) h.own))
  rows_of (takes socket bytes) s t goes_on h = stay refl (by_own h.own)
  rows_of (finds_none socket) s t goes_on h = stay refl (by_own h.own)
  rows_of (hears_end socket link) s t goes_on h = stay refl (was_parted link s.own.connections t.own.connections (ap (λ (z : LoopState). z.connections) h.own))
  rows_of (loses socket) s t goes_on h = stay refl (was_dropped socket s.own.connections t.own.connections h.dropped.connections)
  rows_of (misses socket) s t goes_on h = stay refl (was_dropped socket s.own.connections t.own.connections h.dropped.connections)
  rows_of (is_refused socket link given fresh) s t goes_on h = stay refl (was_dropped socket s.own.connections t.own.connections h.dropped.connections)
  rows_of (is_deaf socket link) s t goes_on h = stay refl (was_dropped socket s.own.connections t.own.connections h.dropped.connections)
  rows_of (idles socket link given fresh) s t goes_on h = stay refl (was_same (ap (λ (z : Stage). z.own.connections) h.same))
  rows_of (acts act outs) s t goes_on h = acted_rows act s h.called t outs h.calls h.carried
  rows_of (spills act outs) s t goes_on h = absurd (no_fault goes_on)
  rows_of (tears act outs) s t goes_on h = absurd (no_fault goes_on)
  rows_of (writes socket bytes) s t goes_on h = stay refl (was_wrote socket (count_of h.answer) s.own t.own (ap (λ (z : LoopState). z.connections) h.own))
  rows_of (breaks socket) s t goes_on h = stay refl (was_dropped socket s.own.connections t.own.connections h.dropped.connections)
  rows_of (closes socket) s t goes_on h = stay refl (was_dropped socket s.own.connections t.own.connections h.dropped.connections)
  rows_of (appends texts) s t goes_on h = stay refl (was_same (ap (λ (z : LoopState). z.connections) h.own))
  rows_of fails s t goes_on h = absurd (no_fault goes_on)
  rows_of (misses_tick given) s t goes_on h = stay refl (was_same (ap (λ (z : Stage). z.own.connections) h.is))
  rows_of misses_dial s t goes_on h = stay refl (was_same (ap (λ (z : LoopState). z.connections) h.own))
  rows_of (settles hurries) s t goes_on h = stay refl (was_same (ap (λ (z : Stage). z.own.connections) h.is))
  rows_of (stops stop) s t goes_on h = absurd (no_fault goes_on)

  -- ---- the names of sockets
  wire_of : (e : Event) (s t : Stage) → fault_of e ≡ None → Happens tells mode s e t → s.wire.opened ≤ t.wire.opened
  wire_of (wakes now) s t goes_on h = at_most (ap (λ (z : Stage). z.wire.opened) h.is)
  wire_of waits s t goes_on h = at_most (ap (λ (z : Stage). z.wire.opened) h.is)
  wire_of (joins socket link) s t goes_on h = one_more (more_wire s.wire t.wire socket new_link h.wire)
  wire_of turns_away s t goes_on h = h.wire.opened
  wire_of (takes socket bytes) s t goes_on h = at_most (touched_opened s.wire t.wire socket (behind_read tells (moved.Bytes h.count) h.buffer) [] h.wire)
  wire_of (finds_none socket) s t goes_on h = at_most (touched_opened s.wire t.wire socket (behind_read tells h.answer h.buffer) [] h.wire)
  wire_of (hears_end socket link) s t goes_on h = at_most (touched_opened s.wire t.wire socket (behind_read tells moved.End h.buffer) [] h.wire)
  wire_of (loses socket) s t goes_on h = at_most (h.dropped.opened ∙ touched_opened s.wire h.wire socket (behind_read tells moved.Failed h.buffer) [] h.touched)
  wire_of (misses socket) s t goes_on h =
      at_most (h.dropped.opened ∙ touched_opened s.wire h.wire socket (behind_read tells (moved.Bytes h.count) h.buffer) [] h.touched)
  wire_of (is_refused socket link given fresh) s t goes_on h = at_most h.dropped.opened
  wire_of (is_deaf socket link) s t goes_on h = at_most h.dropped.opened
  wire_of (idles socket link given fresh) s t goes_on h = at_most (ap (λ (z : Stage). z.wire.opened) h.same)
  wire_of (acts act outs) s t goes_on h =
      let called : s.wire.opened ≤ h.called.wire.opened = called_wire act s h.called outs h.calls in
      let same : t.wire.opened ≡ h.called.wire.opened = ap (λ (z : WireState). z.opened) (carried_wire (outs_of outs) h.called t h.carried) in
      omega (arith, called, same)
  wire_of (spills act outs) s t goes_on h = absurd (no_fault goes_on)
  wire_of (tears act outs) s t goes_on h = absurd (no_fault goes_on)
  wire_of (writes socket bytes) s t goes_on h =
      at_most (touched_opened s.wire t.wire socket (behind_write tells h.answer h.waiting) (bytes_moved tells h.answer h.waiting) h.wire)
  wire_of (breaks socket) s t goes_on h =
      at_most (h.dropped.opened ∙ touched_opened s.wire h.wire socket (behind_write tells moved.Failed h.waiting) (bytes_moved tells moved.Failed h.waiting) h.touched)
  wire_of (closes socket) s t goes_on h = at_most h.dropped.opened
  wire_of (appends texts) s t goes_on h = at_most (ap (λ (z : WireState). z.opened) h.wire)
  wire_of fails s t goes_on h = absurd (no_fault goes_on)
  wire_of (misses_tick given) s t goes_on h = at_most (ap (λ (z : Stage). z.wire.opened) h.is)
  wire_of misses_dial s t goes_on h = h.wire.opened
  wire_of (settles hurries) s t goes_on h = at_most (ap (λ (z : Stage). z.wire.opened) h.is)
  wire_of (stops stop) s t goes_on h = absurd (no_fault goes_on)

  -- ---- the names of links
  node_of : (e : Event) (s t : Stage) → fault_of e ≡ None → Happens tells mode s e t → s.node.ends.opened ≤ t.node.ends.opened
  node_of (wakes now) s t goes_on h = at_most (ap (λ (z : Stage). z.node.ends.opened) h.is)
  node_of waits s t goes_on h = at_most (ap (λ (z : Stage). z.node.ends.opened) h.is)
  node_of (joins socket link) s t goes_on h = one_more (ap (λ (z : NodeState). z.ends.opened) h.node.node)
  node_of turns_away s t goes_on h = off_opened s.node t.node h.node
  node_of (takes socket bytes) s t goes_on h = at_most h.node.feeds.others.opened
  node_of (finds_none socket) s t goes_on h = at_most (ap (λ (z : NodeState). z.ends.opened) h.node)
  node_of (hears_end socket link) s t goes_on h = at_most (ap (λ (z : NodeState). z.ends.opened) h.node)
  node_of (loses socket) s t goes_on h = at_most (dropped_opened h.dropped)
  node_of (misses socket) s t goes_on h = at_most (dropped_opened h.dropped)
  node_of (is_refused socket link given fresh) s t goes_on h =
      at_most (dropped_opened h.dropped ∙ stepped_opened s.node h.node link given fresh (Err refusal.Memory) memory_stops h.refused)
  node_of (is_deaf socket link) s t goes_on h = at_most (dropped_opened h.dropped)
  node_of (idles socket link given fresh) s t goes_on h = at_most (stepped_opened s.node t.node link given fresh (Ok step.Idle) idle_stops h.node)
  node_of (acts act outs) s t goes_on h =
      let called : s.node.ends.opened ≤ h.called.node.ends.opened = called_opened act s h.called outs h.calls in
      let same : t.node.ends.opened ≡ h.called.node.ends.opened = carried_opened (outs_of outs) h.called t h.carried in
      omega (arith, called, same)
  node_of (spills act outs) s t goes_on h = absurd (no_fault goes_on)
  node_of (tears act outs) s t goes_on h = absurd (no_fault goes_on)
  node_of (writes socket bytes) s t goes_on h = at_most (ap (λ (z : NodeState). z.ends.opened) h.node)
  node_of (breaks socket) s t goes_on h = at_most (dropped_opened h.dropped)
  node_of (closes socket) s t goes_on h = at_most (dropped_opened h.dropped)
  node_of (appends texts) s t goes_on h = at_most (ap (λ (z : NodeState). z.ends.opened) h.node)
  node_of fails s t goes_on h = absurd (no_fault goes_on)
  node_of (misses_tick given) s t goes_on h = at_most (ap (λ (z : Stage). z.node.ends.opened) h.is)
  node_of misses_dial s t goes_on h = off_opened s.node t.node h.node
  node_of (settles hurries) s t goes_on h = at_most (ap (λ (z : Stage). z.node.ends.opened) h.is)
  node_of (stops stop) s t goes_on h = absurd (no_fault goes_on)

  still_up : (e : Event) (s t : Stage) → fault_of e ≡ None → Happens tells mode s e t → s.node.core.up ≡ true → t.node.core.up ≡ true
  still_up e s t goes_on h up = went_up {tells = tells} {mode = mode} {s = s} {t = t} (record { events = e ∷ []; run = (t, goes_on, h, refl) }) up

  pub event_moves : (e : Event) (s t : Stage) → fault_of e ≡ None → s.node.core.up ≡ true → Happens tells mode s e t → Moves (came_by e) s t
  event_moves e s t goes_on up h =
      rows_move (came_by e) s t (rows_of e s t goes_on h) (wire_of e s t goes_on h) (node_of e s t goes_on h) (still_up e s t goes_on h up ∙ sym up)

  -- the name of the socket that comes is the next one
  called_next : (act : Act) (s m : Stage) (outs : OutsState) (socket : LinkId) → came_in act ≡ Some socket → Calls act s m outs
      → socket.generation ≡ s.wire.opened
  called_next (at_step j link given fresh news) s m outs socket some c = absurd (cc)
  called_next (at_tick given) s m outs socket some c = absurd (cc)
  called_next (at_dial j link) s m outs socket some c = let one : j ≡ socket = cc in ap (λ (z : LinkId). z.generation) (sym one) ∙ c.connects.2.generation

  pub came_next : (e : Event) (s t : Stage) (socket : LinkId) → came_by e ≡ Some socket → Happens tells mode s e t → socket.generation ≡ s.wire.opened
  came_next (joins j link) s t socket some h = let one : j ≡ socket = cc in ap (λ (z : LinkId). z.generation) (sym one) ∙ h.wire.generation
  came_next (acts act outs) s t socket some h = called_next act s h.called outs socket some h.calls
  came_next (spills act outs) s t socket some h = called_next act s h.called outs socket some h.calls
  came_next (tears act outs) s t socket some h = called_next act s h.called outs socket some h.calls
  came_next _ s t socket some h = absurd (cc)
