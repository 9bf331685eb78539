-- How many links a node ever opened is the same behind a step that doesn't stop it, and behind a tick.
use Rattle.std.proofs.Common.{◌≡◌, ◌≢◌, ℕ, ℤ, List, true, Result, Ok, Err, refl, ap, ◌∙◌}
use Rattle.mr_links.specs.Links.{Links}
use Rattle.mr_links.specs.declared.link_id.LinkId.{LinkId}
use Rattle.mr_data.specs.declared.given.Given.{Given}
use Rattle.mr_replication.specs.State.{name_of}
use Rattle.mr_replication.specs.declared.upstream.UpstreamStep.{UpstreamStep}
use Rattle.mr_replication.specs.declared.upstream.UpstreamStep.TheVariants as outcome
use Rattle.mr_node_output.specs.Outs.{OutsState}
use Rattle.mr_node_links.specs.State.{EndState, Transaction}
use Rattle.mr_node_spec.specs.State.{Agrees, NodeState}
use Rattle.mr_node_spec.specs.ClientRows.{ClientRow, begins, closes as shuts, demotes, halts, promotes, serves, synchronizes, turns}
use Rattle.mr_node_spec.specs.Transactions.{WithinRow}
use Rattle.mr_node_spec.specs.ReplicaRows.{ReplicaRow, notes, parts}
use Rattle.mr_node_spec.specs.UpstreamRows as master
use Rattle.mr_node_spec.specs.TimeRows.{TickRow, deletes, rests}
use Rattle.mr_node.specs.Calls.{Agreeing}
use Rattle.mr_node.specs.Calls.Agreeing.{client, master as upstream, replica, shut, waiting}
use Rattle.mr_node.specs.Steps.{ClientStep, MasterStep, ReplicaStep, Steps}
use Rattle.mr_node.specs.Within.{WithinStep}
use Rattle.mr_node.specs.declared.fault.NodeFault.{NodeFault}
use Rattle.mr_node.specs.declared.fault.NodeFault.TheVariants as refusal
use Rattle.mr_node.specs.declared.step.Step.{Step}
use Rattle.mr_node.specs.declared.step.Step.TheVariants as step
use Rattle.mr_loop.specs.Causes.{Stepped}
use Rattle.mr_loop.proofs.Living.{row_up}

-- ---- a step that used something
row_opened : (a b : NodeState) (l : LinkId) (u : List ℕ) (given : Given) (fresh : List ℕ) (outs : OutsState)
    → ClientRow a l u given fresh b outs → b.ends.opened ≡ a.ends.opened
row_opened a b l u given fresh outs (serves s) = s.leaves.others.opened
row_opened a b l u given fresh outs (shuts s) = s.others.opened
row_opened a b l u given fresh outs (halts s) = s.leaves.others.opened
row_opened a b l u given fresh outs (synchronizes s) = s.leaves.others.opened
row_opened a b l u given fresh outs (promotes s) = s.ends.opened
row_opened a b l u given fresh outs (turns s) = s.ends.opened
row_opened a b l u given fresh outs (demotes s) = s.ends.opened
row_opened a b l u given fresh outs (begins s) = s.leaves.others.opened

within_row_opened : (a b : NodeState) (l : LinkId) (t : Transaction) (u : List ℕ) (given : Given) (outs : OutsState)
    → WithinRow a l t u given b outs → b.ends.opened ≡ a.ends.opened
within_row_opened a b l t u given outs (WithinRow.stands s) = s.leaves.others.opened
within_row_opened a b l t u given outs (WithinRow.passes s) = s.leaves.others.opened
within_row_opened a b l t u given outs (WithinRow.drops s) = s.leaves.others.opened
within_row_opened a b l t u given outs (WithinRow.executes s) = s.leaves.others.opened
within_row_opened a b l t u given outs (WithinRow.closes s) = s.others.opened

replica_row_opened : (a b : NodeState) (l : LinkId) (u : List ℕ) (outs : OutsState) → ReplicaRow a l u b outs → b.ends.opened ≡ a.ends.opened
replica_row_opened a b l u outs (notes s) = s.leaves.others.opened
replica_row_opened a b l u outs (parts s) = s.others.opened

by_node : {a b : NodeState} → b ≡ a → b.ends.opened ≡ a.ends.opened
by_node same = ap (λ (z : NodeState). z.ends.opened) same

behind_opened : (came : UpstreamStep) (l : LinkId) (ends : Links EndState) → (master.ends_behind came l ends).opened ≡ ends.opened
behind_opened outcome.Idle l ends = refl
behind_opened outcome.Said l ends = refl
behind_opened outcome.Announced l ends = refl
behind_opened outcome.Continued l ends = refl
behind_opened outcome.Loaded l ends = refl
behind_opened outcome.Applied l ends = refl
behind_opened outcome.Left l ends = refl
behind_opened outcome.Spoiled l ends = refl

heard_opened : (a b : NodeState) (l : LinkId) (came : UpstreamStep) (outs : OutsState) → master.Hears a l came b outs → b.ends.opened ≡ a.ends.opened
heard_opened a b l came outs h = by_node h.node ∙ behind_opened came l a.ends

-- ---- a step that isn't told as a stop
client_opened : (a b : NodeState) (l : LinkId) (u : List ℕ) (given : Given) (fresh : List ℕ) (r : Result Step NodeFault)
    → r ≢ Err refusal.Stopped → ClientStep a l u given fresh b r
    → b.ends.opened ≡ a.ends.opened
client_opened a b l u given fresh (Ok step.Idle) other row = by_node row.same
client_opened a b l u given fresh (Ok (step.Done outs)) other row = row_opened a b l u given fresh outs row
client_opened a b l u given fresh (Ok step.Closed) other row = absurd row
client_opened a b l u given fresh (Err refusal.Memory) other row = by_node row.1
client_opened a b l u given fresh (Err refusal.Stopped) other row = absurd (other refl)
client_opened a b l u given fresh (Err refusal.NoLink) other row = absurd row
client_opened a b l u given fresh (Err refusal.InputFull) other row = absurd row

within_opened : (a b : NodeState) (l : LinkId) (t : Transaction) (u : List ℕ) (given : Given) (r : Result Step NodeFault)
    → r ≢ Err refusal.Stopped → WithinStep a l t u given b r
    → b.ends.opened ≡ a.ends.opened
within_opened a b l t u given (Ok step.Idle) other row = by_node row.same
within_opened a b l t u given (Ok (step.Done outs)) other row = within_row_opened a b l t u given outs row
within_opened a b l t u given (Ok step.Closed) other row = absurd row
within_opened a b l t u given (Err refusal.Memory) other row = by_node row.1
within_opened a b l t u given (Err refusal.Stopped) other row = absurd (other refl)
within_opened a b l t u given (Err refusal.NoLink) other row = absurd row
within_opened a b l t u given (Err refusal.InputFull) other row = absurd row

replica_opened : (a b : NodeState) (l : LinkId) (u : List ℕ) (r : Result Step NodeFault) → ReplicaStep a l u b r → b.ends.opened ≡ a.ends.opened
replica_opened a b l u (Ok step.Idle) row = by_node row.same
replica_opened a b l u (Ok (step.Done outs)) row = replica_row_opened a b l u outs row
replica_opened a b l u (Ok step.Closed) row = absurd row
replica_opened a b l u (Err refusal.Memory) row = by_node row.1
replica_opened a b l u (Err refusal.Stopped) row = absurd row
replica_opened a b l u (Err refusal.NoLink) row = absurd row
replica_opened a b l u (Err refusal.InputFull) row = absurd row

master_opened : (a b : NodeState) (l : LinkId) (r : Result Step NodeFault) → r ≢ Err refusal.Stopped → MasterStep a l b r
    → b.ends.opened ≡ a.ends.opened
master_opened a b l (Ok step.Idle) other row = by_node row.node
master_opened a b l (Ok (step.Done outs)) other row = heard_opened a b l row.0 outs row.2
master_opened a b l (Ok step.Closed) other row = absurd row
master_opened a b l (Err refusal.Memory) other row = by_node row.node
master_opened a b l (Err refusal.Stopped) other row = absurd (other refl)
master_opened a b l (Err refusal.NoLink) other row = absurd row
master_opened a b l (Err refusal.InputFull) other row = absurd row

agreeing_opened : (a b : NodeState) (l : LinkId) (u : List ℕ) (given : Given) (fresh : List ℕ) (r : Result Step NodeFault)
    → r ≢ Err refusal.Stopped → a.core.up ≡ true → Agreeing a l u → Steps a l given fresh b r
    → b.ends.opened ≡ a.ends.opened
agreeing_opened a b l u given fresh r other up (client agrees) row =
    client_opened a b l u given fresh r other (row.at_client u (record { up = up; agrees = agrees }))
agreeing_opened a b l u given fresh r other up (waiting t agrees) row =
    within_opened a b l t u given r other (row.at_waiting t u (record { up = up; agrees = agrees }))
agreeing_opened a b l u given fresh r other up (replica agrees) row = replica_opened a b l u r (row.at_replica u (record { up = up; agrees = agrees }))
agreeing_opened a b l u given fresh r other up (upstream agrees) row = master_opened a b l r other (row.at_master up (ap name_of agrees.found))
agreeing_opened a b l u given fresh r other up (shut is none) row = by_node (row.at_shut up is).1

pub stepped_opened : (a b : NodeState) (l : LinkId) (given : Given) (fresh : List ℕ) (r : Result Step NodeFault) → r ≢ Err refusal.Stopped
    → Stepped a l given fresh b r → b.ends.opened ≡ a.ends.opened
stepped_opened a b l given fresh r other s = agreeing_opened a b l s.input.unread.bytes given fresh r other s.input.unread.up s.input.unread.agree s.row

-- ---- time passes
pub ticked_opened : {a b : NodeState} {now : ℤ} {outs : OutsState} → TickRow a now b outs → b.ends.opened ≡ a.ends.opened
ticked_opened (deletes up row) = ap (λ (z : Links EndState). z.opened) row.ends
ticked_opened (rests up no_master mark row is) = by_node is

-- ---- what a server asks itself leaves its node up
pub asked_up : (a b : NodeState) (l : LinkId) (u : List ℕ) (given : Given) (fresh : List ℕ) (outs : OutsState) → Agrees a l u
    → a.core.up ≡ true → Steps a l given fresh b (Ok (step.Done outs)) → b.core.up ≡ true
asked_up a b l u given fresh outs agrees up row = row_up a b l u given fresh outs (row.at_client u (record { up = up; agrees = agrees })) ∙ up
