-- A node that is up stays so where a turn goes on.
use Rattle.std.proofs.Common.{refl, ◌≡◌, ◌≢◌, ℕ, ℤ, List, [], ◌∷◌, Bool, true, None, Some, Option, Result, Ok, Err, ap, ◌∙◌}
use Rattle.mr_links.specs.declared.link_id.LinkId.{LinkId}
use Rattle.mr_file.specs.declared.sync_mode.SyncMode.{SyncMode}
use Rattle.mr_data.specs.declared.given.Given.{Given}
use Rattle.mr_replication.specs.declared.upstream.UpstreamStep.{UpstreamStep}
use Rattle.mr_node_output.specs.Outs.{OutsState, Output, outs_of}
use Rattle.mr_node_links.specs.State.{Transaction}
use Rattle.mr_node_spec.specs.State.{NodeState, Core}
use Rattle.mr_node_spec.specs.Telling.{Around}
use Rattle.mr_node_spec.specs.Served.{Answered, Served, within, beyond, rewritten, tells as told_of, keeps_role, request, nothing}
use Rattle.mr_node_spec.specs.ClientRows.{ClientRow, serves, closes as shuts, halts, synchronizes, promotes, turns, demotes, begins}
use Rattle.mr_node_spec.specs.Transactions.{WithinRow}
use Rattle.mr_node_spec.specs.ReplicaRows.{ReplicaRow, notes, parts}
use Rattle.mr_node_spec.specs.UpstreamRows as master
use Rattle.mr_node_spec.specs.TimeRows.{TickRow, deletes, rests}
use Rattle.mr_replication.specs.State.{name_of}
use Rattle.mr_node.specs.Calls.{Agreeing}
use Rattle.mr_node.specs.Calls.Agreeing.{client, waiting, replica, master as upstream, shut}
use Rattle.mr_node.specs.Steps.{ClientStep, MasterStep, ReplicaStep, Steps}
use Rattle.mr_node.specs.Within.{WithinStep}
use Rattle.mr_node.specs.declared.fault.NodeFault.{NodeFault}
use Rattle.mr_node.specs.declared.fault.NodeFault.TheVariants as refusal
use Rattle.mr_node.specs.declared.step.Step.{Step}
use Rattle.mr_node.specs.declared.step.Step.TheVariants as step
use Rattle.mr_loop.specs.Stage.{Stage}
use Rattle.mr_loop.specs.Causes.{Act, Calls, Dropped, Stepped, TurnsOff, at_dial, at_step, at_tick, ended_at, dials_and_closes, opens_and_closes, stays}
use Rattle.mr_loop.specs.Rows.{Event, fault_of, Happens, Run, Went, acts, appends, breaks, closes, fails, finds_none, hears_end, idles, is_deaf, is_refused, joins, loses, misses, misses_dial, misses_tick, settles, spills, stops, takes, tears, turns_away, waits, wakes, writes}
use Rattle.mr_loop.proofs.Carried.{carried_core}
use Rattle.mr_loop.proofs.Halting.{no_fault}

abbrev pub is_up : NodeState → Bool
is_up a = a.core.up

pub by_core : {c d : Core} → d ≡ c → d.up ≡ c.up
by_core e = ap (λ (z : Core). z.up) e

pub answered_up : (c d : Core) (around : Around) (words : List (List ℕ)) (given : Given) (out : Output) → Answered c around words given d out → d.up ≡ c.up
answered_up c d around words given out (within plain reply effects plan fits core outs) = by_core core
answered_up c d around words given out (beyond plain reply effects plan fits core outs) = by_core core
answered_up c d around words given out (rewritten is remakes core outs) = by_core core
answered_up c d around words given out (told_of question is core outs) = by_core core
answered_up c d around words given out (keeps_role wish asks quiet core) = by_core core

pub served_up : (c d : Core) (around : Around) (u rest : List ℕ) (given : Given) (out : Output) → Served c around u given d rest out → d.up ≡ c.up
served_up c d around u rest given out (request words asks answered) = answered_up c d around words given out answered
served_up c d around u rest given out (nothing asks core outs) = by_core core

pub row_up : (a b : NodeState) (l : LinkId) (u : List ℕ) (given : Given) (fresh : List ℕ) (outs : OutsState) → ClientRow a l u given fresh b outs → b.core.up ≡ a.core.up
row_up a b l u given fresh outs (serves s) = served_up a.core b.core s.around u s.rest given s.out s.served
row_up a b l u given fresh outs (shuts s) = by_core s.core
row_up a b l u given fresh outs (halts s) = by_core s.core
row_up a b l u given fresh outs (synchronizes s) = by_core s.core
row_up a b l u given fresh outs (promotes s) = by_core s.core
row_up a b l u given fresh outs (turns s) = by_core s.core
row_up a b l u given fresh outs (demotes s) = by_core s.core
row_up a b l u given fresh outs (begins s) = by_core s.core

within_row_up : (a b : NodeState) (l : LinkId) (t : Transaction) (u : List ℕ) (given : Given) (outs : OutsState) → WithinRow a l t u given b outs → b.core.up ≡ a.core.up
within_row_up a b l t u given outs (WithinRow.stands s) = by_core s.core
within_row_up a b l t u given outs (WithinRow.passes s) = by_core s.core
within_row_up a b l t u given outs (WithinRow.drops s) = by_core s.core
within_row_up a b l t u given outs (WithinRow.executes s) = by_core s.core
within_row_up a b l t u given outs (WithinRow.closes s) = by_core s.core

replica_up : (a b : NodeState) (l : LinkId) (u : List ℕ) (outs : OutsState) → ReplicaRow a l u b outs → b.core.up ≡ a.core.up
replica_up a b l u outs (notes s) = by_core s.core
replica_up a b l u outs (parts s) = by_core s.core

by_node : {a b : NodeState} → b ≡ a → b.core.up ≡ a.core.up
by_node same = ap is_up same

heard_up : {a b : NodeState} {l : LinkId} {came : UpstreamStep} {outs : OutsState} → master.Hears a l came b outs → b.core.up ≡ a.core.up
heard_up h = ap is_up h.node

waits_up : {a b : NodeState} {l : LinkId} → master.Waits a l b → b.core.up ≡ a.core.up
waits_up h = ap is_up h.node

lacks_up : {a b : NodeState} {l : LinkId} → master.Lacks a l b → b.core.up ≡ a.core.up
lacks_up h = ap is_up h.node

-- ---- a step that isn't told as a stop

client_up : (a b : NodeState) (l : LinkId) (u : List ℕ) (given : Given) (fresh : List ℕ) (r : Result Step NodeFault) → r ≢ Err refusal.Stopped → ClientStep a l u given fresh b r → b.core.up ≡ a.core.up
client_up a b l u given fresh (Ok step.Idle) other row = by_node row.same
client_up a b l u given fresh (Ok (step.Done outs)) other row = row_up a b l u given fresh outs row
client_up a b l u given fresh (Ok step.Closed) other row = absurd row
client_up a b l u given fresh (Err refusal.Memory) other row = by_node row.1
client_up a b l u given fresh (Err refusal.Stopped) other row = absurd (other refl)
client_up a b l u given fresh (Err refusal.NoLink) other row = absurd row
client_up a b l u given fresh (Err refusal.InputFull) other row = absurd row

within_up : (a b : NodeState) (l : LinkId) (t : Transaction) (u : List ℕ) (given : Given) (r : Result Step NodeFault) → r ≢ Err refusal.Stopped → WithinStep a l t u given b r → b.core.up ≡ a.core.up
within_up a b l t u given (Ok step.Idle) other row = by_node row.same
within_up a b l t u given (Ok (step.Done outs)) other row = within_row_up a b l t u given outs row
within_up a b l t u given (Ok step.Closed) other row = absurd row
within_up a b l t u given (Err refusal.Memory) other row = by_node row.1
within_up a b l t u given (Err refusal.Stopped) other row = absurd (other refl)
within_up a b l t u given (Err refusal.NoLink) other row = absurd row
within_up a b l t u given (Err refusal.InputFull) other row = absurd row

replicas_up : (a b : NodeState) (l : LinkId) (u : List ℕ) (r : Result Step NodeFault) → ReplicaStep a l u b r → b.core.up ≡ a.core.up
replicas_up a b l u (Ok step.Idle) row = by_node row.same
replicas_up a b l u (Ok (step.Done outs)) row = replica_up a b l u outs row
replicas_up a b l u (Ok step.Closed) row = absurd row
replicas_up a b l u (Err refusal.Memory) row = by_node row.1
replicas_up a b l u (Err refusal.Stopped) row = absurd row
replicas_up a b l u (Err refusal.NoLink) row = absurd row
replicas_up a b l u (Err refusal.InputFull) row = absurd row

master_up : (a b : NodeState) (l : LinkId) (r : Result Step NodeFault) → r ≢ Err refusal.Stopped → MasterStep a l b r → b.core.up ≡ a.core.up
master_up a b l (Ok step.Idle) other row = waits_up row
master_up a b l (Ok (step.Done outs)) other row = heard_up row.2
master_up a b l (Ok step.Closed) other row = absurd row
master_up a b l (Err refusal.Memory) other row = lacks_up row
master_up a b l (Err refusal.Stopped) other row = absurd (other refl)
master_up a b l (Err refusal.NoLink) other row = absurd row
master_up a b l (Err refusal.InputFull) other row = absurd row

agreeing_up : (a b : NodeState) (l : LinkId) (u : List ℕ) (given : Given) (fresh : List ℕ) (r : Result Step NodeFault) → r ≢ Err refusal.Stopped → a.core.up ≡ true → Agreeing a l u → Steps a l given fresh b r → b.core.up ≡ a.core.up
agreeing_up a b l u given fresh r other up (client agrees) row = client_up a b l u given fresh r other (row.at_client u (record { up = up; agrees = agrees }))
agreeing_up a b l u given fresh r other up (waiting t agrees) row = within_up a b l t u given r other (row.at_waiting t u (record { up = up; agrees = agrees }))
agreeing_up a b l u given fresh r other up (replica agrees) row = replicas_up a b l u r (row.at_replica u (record { up = up; agrees = agrees }))
agreeing_up a b l u given fresh r other up (upstream agrees) row = master_up a b l r other (row.at_master up (ap name_of agrees.found))
agreeing_up a b l u given fresh r other up (shut is none) row = by_node (row.at_shut up is).1

pub stepped_up : (a b : NodeState) (l : LinkId) (given : Given) (fresh : List ℕ) (r : Result Step NodeFault) → r ≢ Err refusal.Stopped → Stepped a l given fresh b r → b.core.up ≡ a.core.up
stepped_up a b l given fresh r other s = agreeing_up a b l s.input.unread.bytes given fresh r other s.input.unread.up s.input.unread.agree s.row

-- ---- what else a node does

off_up : (a b : NodeState) → TurnsOff a b → b.core.up ≡ a.core.up
off_up a b (stays same) = by_node same
off_up a b (opens_and_closes mid link opens is) = ap is_up is ∙ ap is_up opens.node
off_up a b (dials_and_closes mid link outs dials sound is) = ap is_up is ∙ ap is_up dials.node

ticked_up : {a b : NodeState} {now : ℤ} {outs : OutsState} → TickRow a now b outs → b.core.up ≡ a.core.up
ticked_up (deletes up row) = by_core row.core
ticked_up (rests up no_master mark row is) = ap is_up is

ended_up : (link : Option LinkId) (a : NodeState) → (ended_at link a).core.up ≡ a.core.up
ended_up None a = refl
ended_up (Some l) a = refl

dropped_up : {socket : LinkId} {link : Option LinkId} {s t : Stage} → Dropped socket link s t → t.node.core.up ≡ s.node.core.up
dropped_up {socket} {link} {s} d = ap is_up d.node ∙ ended_up link s.node

pub done_stops : {outs : OutsState} → ◌≡◌ {A = Result Step NodeFault} (Ok (step.Done outs)) (Err refusal.Stopped) → ⊥
done_stops e = cc

pub idle_stops : ◌≡◌ {A = Result Step NodeFault} (Ok step.Idle) (Err refusal.Stopped) → ⊥
idle_stops e = cc

pub memory_stops : ◌≡◌ {A = Result Step NodeFault} (Err refusal.Memory) (Err refusal.Stopped) → ⊥
memory_stops e = cc

called_up : (act : Act) (s m : Stage) (outs : OutsState) → Calls act s m outs → m.node.core.up ≡ s.node.core.up
called_up (at_step socket link given fresh news) s m outs c = stepped_up s.node m.node link given fresh (Ok (step.Done outs)) done_stops c.stepped
called_up (at_tick given) s m outs c = ticked_up c.row
called_up (at_dial socket link) s m outs c = ap is_up c.dials.node

module _ (tells : Bool) (mode : SyncMode) where
  still_up : (e : Event) (s t : Stage) → fault_of e ≡ None → Happens tells mode s e t → t.node.core.up ≡ s.node.core.up
  still_up (wakes now) s t goes_on h = ap (λ (z : Stage). z.node.core.up) h.is
  still_up waits s t goes_on h = ap (λ (z : Stage). z.node.core.up) h.is
  still_up (joins socket link) s t goes_on h = ap is_up h.node.node
  still_up turns_away s t goes_on h = off_up s.node t.node h.node
  still_up (takes socket bytes) s t goes_on h = by_core h.node.feeds.core
  still_up (finds_none socket) s t goes_on h = by_node h.node
  still_up (hears_end socket link) s t goes_on h = ap is_up h.node
  still_up (loses socket) s t goes_on h = dropped_up h.dropped
  still_up (misses socket) s t goes_on h = dropped_up h.dropped
  still_up (is_refused socket link given fresh) s t goes_on h = dropped_up h.dropped ∙ stepped_up s.node h.node link given fresh (Err refusal.Memory) memory_stops h.refused
  still_up (is_deaf socket link) s t goes_on h = dropped_up h.dropped
  still_up (idles socket link given fresh) s t goes_on h = stepped_up s.node t.node link given fresh (Ok step.Idle) idle_stops h.node
  still_up (acts act outs) s t goes_on h = by_core (carried_core (outs_of outs) h.called t h.carried) ∙ called_up act s h.called outs h.calls
  still_up (spills act outs) s t goes_on h = absurd (no_fault goes_on)
  still_up (tears act outs) s t goes_on h = absurd (no_fault goes_on)
  still_up (writes socket bytes) s t goes_on h = by_node h.node
  still_up (breaks socket) s t goes_on h = dropped_up h.dropped
  still_up (closes socket) s t goes_on h = dropped_up h.dropped
  still_up (appends texts) s t goes_on h = by_node h.node
  still_up fails s t goes_on h = absurd (no_fault goes_on)
  still_up (misses_tick given) s t goes_on h = ap (λ (z : Stage). z.node.core.up) h.is
  still_up misses_dial s t goes_on h = off_up s.node t.node h.node
  still_up (settles hurries) s t goes_on h = ap (λ (z : Stage). z.node.core.up) h.is
  still_up (stops stop) s t goes_on h = absurd (no_fault goes_on)

  run_up : (es : List Event) (s t : Stage) → Run tells mode s es t → t.node.core.up ≡ s.node.core.up
  run_up [] s t run = ap (λ (z : Stage). z.node.core.up) run
  run_up (e ∷ es) s t run = run_up es run.0 t run.3 ∙ still_up e s run.0 run.1 run.2

pub went_up : {tells : Bool} {mode : SyncMode} {s t : Stage} → Went tells mode s t → s.node.core.up ≡ true → t.node.core.up ≡ true
went_up {tells} {mode} {s} {t} w up = run_up tells mode w.events s t w.run ∙ up
