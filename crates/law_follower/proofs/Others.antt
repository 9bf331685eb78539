-- A call beside the link to the master, on a node that follows its master before and behind it.
use Rattle.std.proofs.Common.{◌≡◌, ◌≢◌, ℕ, ℤ, List, [], Bool, true, false, not, Option, None, Some, Result, Ok, Err, refl, sym, ap, ◌∙◌}
use Rattle.std.specs.Prelude.{if◌then◌else◌}
use Rattle.std.specs.Ordering.{eq_by_cmp}
use Rattle.std.proofs.lemmas.Bool.{false_from_ne_true}
use Rattle.mr_links.specs.LinkId.{id_cmp}
use Rattle.mr_links.specs.declared.link_id.LinkId.{LinkId}
use Rattle.mr_effect.specs.Spelling.{texts}
use Rattle.mr_groups.specs.Groups.{grown_text}
use Rattle.mr_effect.specs.declared.effect.Effect.{Effect}
use Rattle.mr_data.specs.Meaning.{apply_all}
use Rattle.mr_data.specs.declared.given.Given.{Given}
use Rattle.mr_commands.proofs.Replicas.{none_on_replica}
use Rattle.mr_commands.proofs.Doing.{do_nothing, have_none}
use Rattle.mr_repl.specs.Backlog.{IsWindow}
use Rattle.mr_repl.specs.Lineage.{grown}
use Rattle.mr_follower.specs.State.{FollowState}
use Rattle.mr_replication.specs.State.{name_of}
use Rattle.mr_node_links.specs.State.{EndState, Transaction}
use Rattle.mr_node_links.specs.State.EndState.{client, waiting, replica, upstream, shut}
use Rattle.mr_node_output.specs.Outs.{OutsState, Output}
use Rattle.mr_node_spec.specs.State.{Core, NodeState, end_of}
use Rattle.mr_node_spec.specs.Telling.{Around}
use Rattle.mr_node_spec.specs.Served.{Answered, Served}
use Rattle.mr_node_spec.specs.ClientRows.{ClientRow}
use Rattle.mr_node_spec.specs.Transactions.{Executes, WithinRow, frame_of}
use Rattle.mr_node_spec.specs.ReplicaRows.{ReplicaRow}
use Rattle.mr_node_spec.specs.TimeRows.{TickRow}
use Rattle.mr_node_spec.specs.LinkRows.{closed_at, follow_without}
use Rattle.mr_node.specs.Calls.{FeedRow, OpenRow, OpensNoMore, TickStep}
use Rattle.mr_node.specs.Steps.{ClientStep, ReplicaStep, Steps}
use Rattle.mr_node.specs.Within.{WithinStep}
use Rattle.mr_node.specs.declared.step.Step.{Step}
use Rattle.mr_node.specs.declared.step.Step.TheVariants as outcome
use Rattle.mr_node.specs.declared.fault.NodeFault.{NodeFault}
use Rattle.mr_node.specs.declared.fault.NodeFault.TheVariants as fault
use Rattle.mr_node.proofs.Ends.{some_is, none_some}
use Rattle.law_follower.specs.Runs.{IsFollowing, IsAnotherCall}
use Rattle.law_follower.specs.Streaming.{Rests, OtherCallsRest}
use Rattle.law_follower.proofs.Applying.{grown_none}

up_down : (b : Bool) → b ≡ true → b ≡ false → ⊥
up_down b p q = cc

-- ---- a request that is served
abbrev pub IsKept : Core → Core → Type 0
IsKept c d = (d.lineage ≡ c.lineage) × (d.held ≡ c.held)

same_core : (c d : Core) → d ≡ c → IsKept c d
same_core c d is = (ap (λ (z : Core). z.lineage) is, ap (λ (z : Core). z.held) is)

answered_keeps : (c d : Core) (around : Around) (words : List (List ℕ)) (given : Given) (out : Output) → c.master ≡ false → IsWindow c.lineage.stream → Answered c around words given d out → IsKept c d
answered_keeps c d around words given out alone w (Answered.within plain reply effects plan fits is gives) =
    let none : effects ≡ [] = none_on_replica (not c.master) words given c.held _ effects (ap not alone) plan.planned in
    let left = some_is c.held _ (ap (λ (es : List Effect). apply_all es c.held) (sym none) ∙ plan.leads) in
    (ap (λ (z : Core). z.lineage) is ∙ (ap (λ (es : List Effect). grown c.lineage (texts es)) none ∙ grown_none c.lineage w), ap (λ (z : Core). z.held) is ∙ sym left)
answered_keeps c d around words given out alone w (Answered.beyond plain reply effects plan past is gives) = same_core c d is
answered_keeps c d around words given out alone w (Answered.rewritten asks remakes is gives) = same_core c d is
answered_keeps c d around words given out alone w (Answered.tells question asks is gives) = same_core c d is
answered_keeps c d around words given out alone w (Answered.keeps_role wish asks quiet is) = same_core c d is

served_keeps : (c d : Core) (around : Around) (u rest : List ℕ) (given : Given) (out : Output) → c.master ≡ false → IsWindow c.lineage.stream → Served c around u given d rest out → IsKept c d
served_keeps c d around u rest given out alone w (Served.request words asks answered) = answered_keeps c d around words given out alone w answered
served_keeps c d around u rest given out alone w (Served.nothing asks is gives) = same_core c d is

-- ---- calls
module _ (a b : NodeState) (l : LinkId) (before : IsFollowing a l) (behind : IsFollowing b l) where
  nobody_no : (o : Option (LinkId × FollowState)) → o ≡ None → name_of o ≡ Some l → ⊥
  nobody_no o none at = none_some l (sym (ap name_of none) ∙ at)

  replica_is : a.core.master ≡ false
  replica_is = false_from_ne_true a.core.master (λ m. nobody_no a.follow (before.sound.node.nobody m) before.at)

  same : b ≡ a → Rests a b
  same is = record { lineage = ap (λ (z : NodeState). z.core.lineage) is; held = ap (λ (z : NodeState). z.core.held) is; follow = ap (λ (z : NodeState). z.follow) is }

  beside : b.core ≡ a.core → b.follow ≡ a.follow → Rests a b
  beside core follow = record { lineage = ap (λ (z : Core). z.lineage) core; held = ap (λ (z : Core). z.held) core; follow = follow }

  left_no : b.follow ≡ None → Rests a b
  left_no none = absurd (nobody_no b.follow none behind.at)

  stopped_no : b.core.up ≡ false → Rests a b
  stopped_no down = absurd (up_down b.core.up behind.up down)

  -- at a client's end
  at_client : (x : LinkId) (u : List ℕ) (given : Given) (fresh : List ℕ) (outs : OutsState) → ClientRow a x u given fresh b outs → Rests a b
  at_client x u given fresh outs (ClientRow.serves s) =
      let kept = served_keeps a.core b.core s.around u s.rest given s.out replica_is before.sound.window s.served in
      record { lineage = kept.0; held = kept.1; follow = s.leaves.follow }
  at_client x u given fresh outs (ClientRow.closes s) = beside s.core s.follow
  at_client x u given fresh outs (ClientRow.halts s) = beside s.core s.leaves.follow
  at_client x u given fresh outs (ClientRow.synchronizes s) = beside s.core s.leaves.follow
  at_client x u given fresh outs (ClientRow.promotes s) = left_no s.follow
  at_client x u given fresh outs (ClientRow.turns s) = left_no s.follow
  at_client x u given fresh outs (ClientRow.demotes s) = left_no s.follow
  at_client x u given fresh outs (ClientRow.begins s) = beside s.core s.leaves.follow

  client_step : (x : LinkId) (u : List ℕ) (given : Given) (fresh : List ℕ) (result : Result Step NodeFault) → ClientStep a x u given fresh b result → Rests a b
  client_step x u given fresh (Ok outcome.Idle) s = same s.same
  client_step x u given fresh (Ok (outcome.Done outs)) s = at_client x u given fresh outs s
  client_step x u given fresh (Ok outcome.Closed) s = absurd s
  client_step x u given fresh (Err fault.Memory) s = same s.1
  client_step x u given fresh (Err fault.Stopped) s = stopped_no (ap (λ (z : NodeState). z.core.up) s.spent)
  client_step x u given fresh (Err fault.NoLink) s = absurd s
  client_step x u given fresh (Err fault.InputFull) s = absurd s

  -- .. where a transaction is open: what waited has no effect on a replica
  executed : (x : LinkId) (t : Transaction) (u : List ℕ) (given : Given) (outs : OutsState) → Executes a x t u given b outs → Rests a b
  executed x t u given outs s =
      let none : s.effects ≡ [] = have_none (frame_of a) (not a.core.master) given t.queued [] a.core.held s.held s.replies s.effects (ap not replica_is) s.does in
      let left : s.held ≡ a.core.held = do_nothing (frame_of a) (not a.core.master) given t.queued [] a.core.held s.held s.replies s.effects none s.does in
      record {
        lineage = ap (λ (z : Core). z.lineage) s.core ∙ (ap (λ (es : List Effect). grown a.core.lineage (grown_text es)) none ∙ grown_none a.core.lineage before.sound.window);
        held = ap (λ (z : Core). z.held) s.core ∙ left;
        follow = s.leaves.follow;
      }

  at_open : (x : LinkId) (t : Transaction) (u : List ℕ) (given : Given) (outs : OutsState) → WithinRow a x t u given b outs → Rests a b
  at_open x t u given outs (WithinRow.stands s) = beside s.core s.leaves.follow
  at_open x t u given outs (WithinRow.passes s) = beside s.core s.leaves.follow
  at_open x t u given outs (WithinRow.drops s) = beside s.core s.leaves.follow
  at_open x t u given outs (WithinRow.executes s) = executed x t u given outs s
  at_open x t u given outs (WithinRow.closes s) = beside s.core s.follow

  open_step : (x : LinkId) (t : Transaction) (u : List ℕ) (given : Given) (result : Result Step NodeFault) → WithinStep a x t u given b result → Rests a b
  open_step x t u given (Ok outcome.Idle) s = same s.same
  open_step x t u given (Ok (outcome.Done outs)) s = at_open x t u given outs s
  open_step x t u given (Ok outcome.Closed) s = absurd s
  open_step x t u given (Err fault.Memory) s = same s.1
  open_step x t u given (Err fault.Stopped) s = stopped_no (ap (λ (z : NodeState). z.core.up) s.spent)
  open_step x t u given (Err fault.NoLink) s = absurd s
  open_step x t u given (Err fault.InputFull) s = absurd s

  -- at a replica's end
  at_replica : (x : LinkId) (u : List ℕ) (outs : OutsState) → ReplicaRow a x u b outs → Rests a b
  at_replica x u outs (ReplicaRow.notes s) = beside s.core s.leaves.follow
  at_replica x u outs (ReplicaRow.parts s) = beside s.core s.follow

  replica_step : (x : LinkId) (u : List ℕ) (result : Result Step NodeFault) → ReplicaStep a x u b result → Rests a b
  replica_step x u (Ok outcome.Idle) s = same s.same
  replica_step x u (Ok (outcome.Done outs)) s = at_replica x u outs s
  replica_step x u (Ok outcome.Closed) s = absurd s
  replica_step x u (Err fault.Memory) s = same s.1
  replica_step x u (Err fault.Stopped) s = absurd s
  replica_step x u (Err fault.NoLink) s = absurd s
  replica_step x u (Err fault.InputFull) s = absurd s

  -- at whatever end, for there is no other that follows
  step_at : (x : LinkId) → x ≢ l → (given : Given) (fresh : List ℕ) (result : Result Step NodeFault) → Steps a x given fresh b result → (e : Option EndState) → end_of a x ≡ e → Rests a b
  step_at x other given fresh result s None is = same (s.absent before.up is).1
  step_at x other given fresh result s (Some (client u)) is = client_step x u given fresh result (s.at_client u (record { up = before.up; agrees = record { is = is } }))
  step_at x other given fresh result s (Some (waiting t u)) is = open_step x t u given result (s.at_waiting t u (record { up = before.up; agrees = record { is = is } }))
  step_at x other given fresh result s (Some (replica u)) is = replica_step x u result (s.at_replica u (record { up = before.up; agrees = record { is = is } }))
  step_at x other given fresh result s (Some upstream) is = absurd (other (some_is x l (sym (before.sound.node.only x is) ∙ before.at)))
  step_at x other given fresh result s (Some shut) is = same (s.at_shut before.up (record { is = is })).1

  -- bytes on another link, and bytes that are refused
  feed_at : (x : LinkId) → x ≢ l → (bytes : List ℕ) (count : ℕ) (result : Result (Unit {0}) NodeFault) → FeedRow a x bytes count b result → Rests a b
  feed_at x other bytes count (Ok done) row = beside row.3.core (row.3.follow (λ is. other (some_is x l (sym is ∙ before.at))))
  feed_at x other bytes count (Err fault.Memory) row = same row.5
  feed_at x other bytes count (Err fault.Stopped) row = same row.1
  feed_at x other bytes count (Err fault.NoLink) row = same row.2
  feed_at x other bytes count (Err fault.InputFull) row = same row.1

  refused : (x : LinkId) (bytes : List ℕ) (count : ℕ) (why : NodeFault) → FeedRow a x bytes count b (Err why) → Rests a b
  refused x bytes count fault.Memory row = same row.5
  refused x bytes count fault.Stopped row = same row.1
  refused x bytes count fault.NoLink row = same row.2
  refused x bytes count fault.InputFull row = same row.1

  -- time, and links
  tick_row : (outs : OutsState) (now : ℤ) → TickRow a now b outs → Rests a b
  tick_row outs now (TickRow.deletes up d) = absurd (up_down a.core.master d.master replica_is)
  tick_row outs now (TickRow.rests up alone mark r is) = record { lineage = ap (λ (z : NodeState). z.core.lineage) is; held = ap (λ (z : NodeState). z.core.held) is; follow = ap (λ (z : NodeState). z.follow) is }

  tick_at : (now : ℤ) (result : Result OutsState NodeFault) → TickStep a now b result → Rests a b
  tick_at now (Ok outs) row = tick_row outs now row
  tick_at now (Err fault.Memory) row = same row.1
  tick_at now (Err fault.Stopped) row = same row.1
  tick_at now (Err fault.NoLink) row = absurd row
  tick_at now (Err fault.InputFull) row = absurd row

  no_more : OpensNoMore a b → Rests a b
  no_more (OpensNoMore.down down is) = same is
  no_more (OpensNoMore.spent up many is) = stopped_no (ap (λ (z : NodeState). z.core.up) is)

  open_at : (result : Result LinkId NodeFault) → OpenRow a b result → Rests a b
  open_at (Ok x) row = beside (ap (λ (z : NodeState). z.core) row.1.node) (ap (λ (z : NodeState). z.follow) row.1.node)
  open_at (Err fault.Memory) row = same row.1
  open_at (Err fault.Stopped) row = no_more row
  open_at (Err fault.NoLink) row = absurd row
  open_at (Err fault.InputFull) row = absurd row

  -- where somebody is still followed, the link that is closed wasn't his
  still : (x : LinkId) (o : Option (LinkId × FollowState)) → name_of (follow_without x o) ≡ Some l → follow_without x o ≡ o
  still x None at = refl
  still x (Some f) at = by (eq_by_cmp id_cmp f.0 x) at
    where
      by : (t : Bool) → name_of (if t then None else Some f) ≡ Some l → (if t then None else Some f) ≡ Some f
      by true at = absurd (none_some l at)
      by false at = refl

  closed : (x : LinkId) → b ≡ closed_at x a → Rests a b
  closed x is =
      let follow = ap (λ (z : NodeState). z.follow) is in
      beside (ap (λ (z : NodeState). z.core) is) (follow ∙ still x a.follow (ap name_of (sym follow) ∙ behind.at))

  pub rested : IsAnotherCall a l b → Rests a b
  rested (IsAnotherCall.steps x other given fresh result s) = step_at x other given fresh result s (end_of a x) refl
  rested (IsAnotherCall.feeds x other bytes result row) = feed_at x other bytes _ result row
  rested (IsAnotherCall.refuses bytes why row) = refused l bytes _ why row
  rested (IsAnotherCall.ticks now result row) = tick_at now result row
  rested (IsAnotherCall.opens result row) = open_at result row
  rested (IsAnotherCall.closes x is) = closed x is
  rested (IsAnotherCall.asks is) = same is

pub others_rest : OtherCallsRest
others_rest a b l before call behind = rested a b l before behind call
