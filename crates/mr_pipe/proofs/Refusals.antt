-- What it takes that a call on the node of a pipe is refused.
use Rattle.std.proofs.Common.{◌≡◌, ◌≢◌, ◌<◌, ◌-◌, ◌+◌, ℕ, List, [], ◌∷◌, ◌++◌, Bool, true, false, Option, Some, None, length, refl, sym, ap, subst, ◌∙◌, inl, arith, length-append}
use Rattle.std.specs.Prelude.{Err, if◌then◌else◌}
use Rattle.mr_data.specs.declared.given.Given.{Given}
use Rattle.mr_resp.specs.Usual.{usual}
use Rattle.mr_resp.specs.declared.fault.Fault.{Fault}
use Rattle.mr_resp.proofs.OneAnswer.{text_wants_no_more}
use Rattle.mr_node_links.specs.State.{EndState, Transaction, full, unread_in}
use Rattle.mr_node_spec.specs.State.{Core, NodeState, IsTooMuch, end_of, room_at, room_of, started}
use Rattle.mr_node_spec.specs.ClientRows.{MayLack}
use Rattle.mr_node_spec.specs.Requests.{Asks, IsDoomedBy, Waits}
use Rattle.mr_node_spec.proofs.Nothing.{waits_nothing}
use Rattle.mr_keyspace.specs.Dataset.{Dataset}
use Rattle.mr_repl.specs.Backlog.{usual_backlog}
use Rattle.mr_node.specs.Calls.{FeedRow, OpenRow, OpensNoMore}
use Rattle.mr_node.specs.Steps.{ClientStep, ReplicaStep, Steps}
use Rattle.mr_node.specs.Within.{WithinStep}
use Rattle.mr_node.specs.declared.fault.NodeFault.{NodeFault}
use Rattle.mr_node.specs.declared.fault.NodeFault.TheVariants as refused
use Rattle.mr_pipe.specs.Outside.{Outside}
use Rattle.mr_pipe.specs.State.{PipeState, Stands, end_as, fresh_id}
use Rattle.mr_pipe.specs.Serving.{IsLeft, RunsOut}
use Rattle.mr_pipe.specs.Faults.{fault_of}
use Rattle.mr_pipe.specs.declared.fault.PipeFault.TheVariants as ended
use Rattle.mr_pipe.specs.declared.linked_node.LinkedNode.{LinkedNode}
use Rattle.mr_pipe.proofs.Steps.{at_client, at_replica, at_waiting}

-- ---- some bytes are unread
some_asked : (u : List ℕ) (words : List (List ℕ)) (rest : List ℕ) → Asks u words rest → u ≢ []
some_asked u words rest asks none = text_wants_no_more usual asks.text rest (inl (words, asks.request)) (subst Waits (sym none ∙ asks.begins) waits_nothing).more

some_doomed : (u : List ℕ) (f : Fault) → IsDoomedBy u f → u ≢ []
some_doomed u f d none = let h = d.fails in omega (arith, ap length (sym none ∙ h.is), length-append h.front (h.byte ∷ h.rest))

some_lacking : (u : List ℕ) → MayLack u → u ≢ []
some_lacking u (MayLack.asks words rest asks) none = some_asked u words rest asks none
some_lacking u (MayLack.doomed f d) none = some_doomed u f d none

some_longer : (u bytes : List ℕ) → 0 < length u + length bytes → u ++ bytes ≢ []
some_longer u bytes some none = omega (arith, some, length-append u bytes, ap length none)

no_length : (bytes : List ℕ) → bytes ≢ [] → 0 < length bytes
no_length [] some = absurd (some refl)
no_length (b ∷ bytes) some = omega arith

-- ---- what stands
runs : (p : LinkedNode) (s : PipeState) (u : List ℕ) → Stands p s u → p.node.core.up ≡ true
runs p s u h = ap (λ (c : Core). c.up) h.core ∙ h.up

true_false : {A : Type 0} (b : Bool) → b ≡ true → b ≡ false → A
true_false b up down = let wrong : true ≡ false = sym up ∙ down in absurd (cc)

some_none : {A : Type 0} (o : Option EndState) (e : EndState) → o ≡ Some e → o ≡ None → A
some_none o e there gone = let wrong : Some e ≡ None = sym there ∙ gone in absurd (cc)

unread_as : (as_replica : Bool) (held : Option Transaction) (u : List ℕ) → unread_in (end_as as_replica held u) ≡ u
unread_as true held u = refl
unread_as false None u = refl
unread_as false (Some t) u = refl

the_end : (o : Option EndState) (a b : EndState) → o ≡ Some a → o ≡ Some b → a ≡ b
the_end o a b one other = let same : Some a ≡ Some b = sym one ∙ other in cc

-- ---- a step
module _ (g : Given) (s : PipeState) (u : List ℕ) (x : Outside) (p : LinkedNode) (b : NodeState) (h : Stands p s u) where
  client_refused : (e : NodeFault) → s.replica ≡ false → s.transaction ≡ None → ClientStep p.node p.link u g (fresh_id p.used) b (Err e) → IsLeft (fault_of e) g s u x x
  client_refused refused.Memory k n row = (some_lacking u row.0, refl)
  client_refused refused.Stopped k n row = (RunsOut.at_request k n p h row.cause, refl)
  client_refused refused.NoLink k n row = absurd row
  client_refused refused.InputFull k n row = absurd row

  waiting_refused : (e : NodeFault) → s.replica ≡ false → (held : Transaction) → s.transaction ≡ Some held → WithinStep p.node p.link held u g b (Err e) → IsLeft (fault_of e) g s u x x
  waiting_refused refused.Memory k held n row = (some_lacking u row.0, refl)
  waiting_refused refused.Stopped k held n row = (RunsOut.within k held n p h row.cause, refl)
  waiting_refused refused.NoLink k held n row = absurd row
  waiting_refused refused.InputFull k held n row = absurd row

  replica_refused : (e : NodeFault) → ReplicaStep p.node p.link u b (Err e) → IsLeft (fault_of e) g s u x x
  replica_refused refused.Memory row = (some_asked u row.0.words row.0.rest row.0.asks, refl)
  replica_refused refused.Stopped row = absurd row
  replica_refused refused.NoLink row = absurd row
  replica_refused refused.InputFull row = absurd row

  pub step_refused : (e : NodeFault) → Steps p.node p.link g (fresh_id p.used) b (Err e) → IsLeft (fault_of e) g s u x x
  step_refused e steps =
      let up = runs p s u h in
      elim s.replica as (λ v. s.replica ≡ v → IsLeft (fault_of e) g s u x x) [
        | true ↦ λ k. replica_refused e (steps.at_replica u (record { up = up; agrees = at_replica p s u h k }))
        | false ↦ λ k. elim s.transaction as (λ o. s.transaction ≡ o → IsLeft (fault_of e) g s u x x) [
          | None ↦ λ n. client_refused e k n (steps.at_client u (record { up = up; agrees = at_client p s u h k n }))
          | Some held ↦ λ n. waiting_refused e k held n (steps.at_waiting held u (record { up = up; agrees = at_waiting p s held u h k n }))
        ] refl
      ] refl

-- ---- bytes that came
module _ (g : Given) (s : PipeState) (u : List ℕ) (x : Outside) (p : LinkedNode) (bytes : List ℕ) (b : NodeState) (h : Stands p s u) where
  too_much : IsTooMuch p.node p.link (length bytes) → u ++ bytes ≢ []
  too_much more =
      let same : more.end ≡ end_as s.replica s.transaction u = the_end (end_of p.node p.link) more.end (end_as s.replica s.transaction u) more.found h.end in
      let unread : length (unread_in more.end) ≡ length u = ap (λ (e : EndState). length (unread_in e)) same ∙ ap length (unread_as s.replica s.transaction u) in
      some_longer u bytes (omega (arith, more.over, unread))

  pub feed_refused : (e : NodeFault) → FeedRow p.node p.link bytes (length bytes) b (Err e) → IsLeft (fault_of e) g s (u ++ bytes) x x
  feed_refused refused.Memory row = (some_longer u bytes (omega (arith, no_length bytes row.3)), refl)
  feed_refused refused.Stopped row = true_false p.node.core.up (runs p s u h) row.0
  feed_refused refused.NoLink row = some_none (end_of p.node p.link) (end_as s.replica s.transaction u) h.end row.1
  feed_refused refused.InputFull row = (too_much row.0, refl)

-- ---- how much may come
room_as : (as_replica : Bool) (held : Option Transaction) (u : List ℕ) → room_at (Some (end_as as_replica held u)) ≡ Some (full - length u)
room_as true held u = refl
room_as false None u = refl
room_as false (Some t) u = refl

-- where the link takes nothing more, some bytes are unread
pub has_room : (p : LinkedNode) (s : PipeState) (u : List ℕ) → Stands p s u → room_of p.node p.link ≡ Some (full - length u)
has_room p s u h = room_there p.node.core.up (end_of p.node p.link) (runs p s u h) h.end
  where
    room_there : (up : Bool) (o : Option EndState) → up ≡ true → o ≡ Some (end_as s.replica s.transaction u) → (if up then room_at o else None) ≡ Some (full - length u)
    room_there up o runs is = ap (λ b. if b then room_at o else None) runs ∙ (ap room_at is ∙ room_as s.replica s.transaction u)

-- ---- the first link
-- A node that was just started has links left, so that only memory may be lacking.
pub open_refused : (a b : NodeState) (id : List ℕ) (held : Dataset) → a ≡ started false 0 usual_backlog id held → (e : NodeFault) → OpenRow a b (Err e) → fault_of e ≡ ended.Memory
open_refused a b id held is refused.Memory row = refl
open_refused a b id held is refused.NoLink row = absurd row
open_refused a b id held is refused.InputFull row = absurd row
open_refused a b id held is refused.Stopped (OpensNoMore.down stopped same) = true_false a.core.up (ap (λ (z : NodeState). z.core.up) is) stopped
open_refused a b id held is refused.Stopped (OpensNoMore.spent up many same) =
    let none : a.ends.opened ≡ 0 = ap (λ (z : NodeState). z.ends.opened) is in
    let wrong : ⊥ = omega (arith, many, none) in
    absurd wrong
