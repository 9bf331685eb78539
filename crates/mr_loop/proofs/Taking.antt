-- What a step takes of the ids: the one that it is given, or none.
use Rattle.std.proofs.Common.{◌≡◌, ◌⊎◌, inl, inr, ℕ, ℤ, List, true, Option, None, Some, Result, Ok, refl, ap, ◌∙◌}
use Rattle.mr_links.specs.declared.link_id.LinkId.{LinkId}
use Rattle.mr_data.specs.declared.given.Given.{Given}
use Rattle.mr_replication.specs.State.{name_of}
use Rattle.mr_replication.specs.declared.upstream.UpstreamStep.{UpstreamStep}
use Rattle.mr_replication.specs.declared.upstream.UpstreamStep.TheVariants as up
use Rattle.mr_node_links.specs.State.{Transaction}
use Rattle.mr_node_output.specs.Outs.{OutsState}
use Rattle.mr_node_spec.specs.State.{NodeState}
use Rattle.mr_node_spec.specs.ClientRows.{ClientRow}
use Rattle.mr_node_spec.specs.Transactions.{WithinRow}
use Rattle.mr_node_spec.specs.ReplicaRows.{ReplicaRow}
use Rattle.mr_node_spec.specs.UpstreamRows as upstream
use Rattle.mr_node_spec.specs.TimeRows.{Rests, TickRow, deletes, rests}
use Rattle.mr_node.specs.Calls.{Agreeing}
use Rattle.mr_node.specs.Calls.Agreeing.{client, waiting, replica, master, shut}
use Rattle.mr_node.specs.Steps.{Steps}
use Rattle.mr_node.specs.declared.fault.NodeFault.{NodeFault}
use Rattle.mr_node.specs.declared.step.Step.{Step}
use Rattle.mr_node.specs.declared.step.Step.TheVariants as step
use Rattle.mr_loop.specs.Causes.{Stepped}

used_of : {o p : OutsState} → o ≡ p → o.used ≡ p.used
used_of e = ap (λ (o : OutsState). o.used) e

-- ---- a tick takes none

rest_takes : (a : NodeState) (now : ℤ) (mark : Option ℤ) (outs : OutsState) → Rests a now mark outs → outs.used ≡ None
rest_takes a now mark outs (Rests.marks unmarked is none) = used_of none
rest_takes a now mark outs (Rests.acknowledges l streams passed is tells) = used_of tells
rest_takes a now mark outs (Rests.waits early is none) = used_of none
rest_takes a now mark outs (Rests.apart alone passed is none) = used_of none

pub tick_takes : (a b : NodeState) (now : ℤ) (outs : OutsState) → TickRow a now b outs → outs.used ≡ None
tick_takes a b now outs (deletes is_up row) = used_of row.outs_are
tick_takes a b now outs (rests is_up follows mark row is) = rest_takes a now mark outs row

-- ---- a step takes the one that it is given, or none

client_takes : (a b : NodeState) (l : LinkId) (u : List ℕ) (given : Given) (fresh : List ℕ) (outs : OutsState) → ClientRow a l u given fresh b outs → (outs.used ≡ None) ⊎ (outs.used ≡ Some fresh)
client_takes a b l u given fresh outs (ClientRow.serves s) = inl (used_of s.outs_are)
client_takes a b l u given fresh outs (ClientRow.closes s) = inl (used_of s.outs_are)
client_takes a b l u given fresh outs (ClientRow.halts s) = inl (used_of s.outs_are)
client_takes a b l u given fresh outs (ClientRow.synchronizes s) = inl (used_of s.outs_are)
client_takes a b l u given fresh outs (ClientRow.promotes s) = inr (used_of s.outs_are)
client_takes a b l u given fresh outs (ClientRow.turns s) = inl (used_of s.outs_are)
client_takes a b l u given fresh outs (ClientRow.demotes s) = inl (used_of s.outs_are)
client_takes a b l u given fresh outs (ClientRow.begins s) = inl (used_of s.outs_are)

open_takes : (a b : NodeState) (l : LinkId) (t : Transaction) (u : List ℕ) (given : Given) (outs : OutsState) → WithinRow a l t u given b outs → outs.used ≡ None
open_takes a b l t u given outs (WithinRow.stands s) = used_of s.outs_are
open_takes a b l t u given outs (WithinRow.passes s) = used_of s.outs_are
open_takes a b l t u given outs (WithinRow.drops s) = used_of s.outs_are
open_takes a b l t u given outs (WithinRow.executes s) = used_of s.outs_are
open_takes a b l t u given outs (WithinRow.closes s) = used_of s.outs_are

replica_takes : (a b : NodeState) (l : LinkId) (u : List ℕ) (outs : OutsState) → ReplicaRow a l u b outs → outs.used ≡ None
replica_takes a b l u outs (ReplicaRow.notes s) = used_of s.outs_are
replica_takes a b l u outs (ReplicaRow.parts s) = used_of s.outs_are

master_takes : (came : UpstreamStep) (l : LinkId) (told : List ℕ) → (upstream.outs_behind came l told).used ≡ None
master_takes up.Idle l told = refl
master_takes up.Said l told = refl
master_takes up.Announced l told = refl
master_takes up.Continued l told = refl
master_takes up.Loaded l told = refl
master_takes up.Applied l told = refl
master_takes up.Left l told = refl
master_takes up.Spoiled l told = refl

pub done_closed : (outs : OutsState) → ◌≡◌ {A = Result Step NodeFault} (Ok (step.Done outs)) (Ok step.Closed) → ⊥
done_closed outs e = cc

takes_at : (a b : NodeState) (l : LinkId) (u : List ℕ) (given : Given) (fresh : List ℕ) (outs : OutsState) → a.core.up ≡ true → Agreeing a l u → Steps a l given fresh b (Ok (step.Done outs)) → (outs.used ≡ None) ⊎ (outs.used ≡ Some fresh)
takes_at a b l u given fresh outs is_up (client agrees) row = client_takes a b l u given fresh outs (row.at_client u (record { up = is_up; agrees = agrees }))
takes_at a b l u given fresh outs is_up (waiting t agrees) row = inl (open_takes a b l t u given outs (row.at_waiting t u (record { up = is_up; agrees = agrees })))
takes_at a b l u given fresh outs is_up (replica agrees) row = inl (replica_takes a b l u outs (row.at_replica u (record { up = is_up; agrees = agrees })))
takes_at a b l u given fresh outs is_up (master agrees) row = let h = row.at_master is_up (ap name_of agrees.found) in inl (used_of h.2.outs_are ∙ master_takes h.0 l h.2.told)
takes_at a b l u given fresh outs is_up (shut is none) row = absurd (done_closed outs (row.at_shut is_up is).0)

-- the id that it is given, or none
pub step_takes : (a b : NodeState) (l : LinkId) (given : Given) (fresh : List ℕ) (outs : OutsState) → Stepped a l given fresh b (Ok (step.Done outs)) → (outs.used ≡ None) ⊎ (outs.used ≡ Some fresh)
step_takes a b l given fresh outs s = takes_at a b l s.input.unread.bytes given fresh outs s.input.unread.up s.input.unread.agree s.row
