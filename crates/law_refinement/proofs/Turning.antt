-- What is true of a World is kept by each row of a step at an end that a node serves.
use Rattle.std.proofs.Common.{◌≡◌, ◌≢◌, ◌⊎◌, inl, inr, ℕ, List, ◌++◌, Bool, true, false, Option, None, Some, refl, sym, ap, subst, ◌∙◌}
use Rattle.std.specs.Prelude.{slice_get}
use Rattle.mr_links.specs.declared.link_id.LinkId.{LinkId}
use Rattle.mr_data.specs.declared.given.Given.{Given}
use Rattle.mr_follower.specs.State.{FollowState}
use Rattle.mr_node_links.specs.State.{EndState, Transaction, begun, unread_in}
use Rattle.mr_node_links.specs.State.EndState.{shut}
use Rattle.mr_node_output.specs.Outs.{OutsState, Output}
use Rattle.mr_node_spec.specs.State.{Core, NodeState, end_of}
use Rattle.mr_node_spec.specs.Sound.{IsSound}
use Rattle.mr_node_spec.specs.Telling.{Around}
use Rattle.mr_node_spec.specs.Served.{Served}
use Rattle.mr_node_spec.specs.ClientRows.{ClientRow}
use Rattle.mr_node_spec.specs.Transactions.{WithinRow}
use Rattle.mr_node_spec.specs.ReplicaRows.{ReplicaRow, IsExpected}
use Rattle.law_refinement.specs.Way.{unread}
use Rattle.law_refinement.specs.State.{Link, Slot}
use Rattle.law_refinement.specs.Worlds.{HasServer, HasMaster, end_for}
use Rattle.law_refinement.specs.Carrying.{put_node}
use Rattle.law_refinement.specs.Events.{ClientStepsKeepWorlds, WithinStepsKeepWorlds, ReplicaStepsKeepWorlds, StopsKeepWorlds}
use Rattle.law_refinement.proofs.Places.{set_here, set_there, set_cases}
use Rattle.law_refinement.proofs.Reading.{number_or}
use Rattle.law_refinement.proofs.Others.{Apart}
use Rattle.law_refinement.proofs.Beside.{apart_client, apart_within, apart_replica}
use Rattle.law_refinement.proofs.Kept.{Turned, kept_stepped}

-- ---- what is left of the unread bytes
abbrev Left : NodeState → LinkId → List ℕ → Type 0
Left b name u = (streams : Bool) (held : Option Transaction) (v : List ℕ) → end_of b name ≡ Some (end_for streams held v) → (text : List ℕ) × (u ≡ text ++ v)

unread_for : (streams : Bool) (held : Option Transaction) (v : List ℕ) → unread_in (end_for streams held v) ≡ v
unread_for true held v = refl
unread_for false None v = refl
unread_for false (Some t) v = refl

one_end : (x y : EndState) → Some x ≡ Some y → x ≡ y
one_end x y e = cc

-- an end that is open
left_open : (b : NodeState) (name : LinkId) (u text rest : List ℕ) (streams : Bool) (held : Option Transaction) → end_of b name ≡ Some (end_for streams held rest) → u ≡ text ++ rest → Left b name u
left_open b name u text rest streams held is e other its v q =
    let same : rest ≡ v = sym (unread_for streams held rest) ∙ (ap unread_in (one_end (end_for streams held rest) (end_for other its v) (sym is ∙ q)) ∙ unread_for other its v) in
    (text, e ∙ ap (λ z. text ++ z) same)

shut_is : (streams : Bool) (held : Option Transaction) (v : List ℕ) → Some shut ≡ Some (end_for streams held v) → ⊥
shut_is true held v e = absurd (cc)
shut_is false None v e = absurd (cc)
shut_is false (Some t) v e = absurd (cc)

left_shut : (b : NodeState) (name : LinkId) (u : List ℕ) → end_of b name ≡ Some shut → Left b name u
left_shut b name u is streams held v q = absurd (shut_is streams held v (sym is ∙ q))

-- ---- whom it follows
nobody : (o : Option (LinkId × FollowState)) (f : LinkId × FollowState) → o ≡ None → o ≡ Some f → ⊥
nobody o f e q = cc

text_of : (c d : Core) (around : Around) (u rest : List ℕ) (given : Given) (out : Output) → Served c around u given d rest out → (text : List ℕ) × (u ≡ text ++ rest)
text_of c d around u rest given out (Served.request words asks a) = (asks.text, asks.begins)
text_of c d around u rest given out (Served.nothing asks is gives) = (asks.text, asks.begins)

expected_text : (u rest : List ℕ) → IsExpected u rest → (text : List ℕ) × (u ≡ text ++ rest)
expected_text u rest (IsExpected.acknowledgement words offset asks wish) = (asks.text, asks.begins)
expected_text u rest (IsExpected.nothing asks) = (asks.text, asks.begins)

module _ (a : NodeState) (name : LinkId) (u : List ℕ) (b : NodeState) (outs : OutsState) (sound : IsSound b) where
  -- it follows whom it followed
  stays : Apart a name b outs → Left b name u → b.follow ≡ a.follow → Turned a name u b outs
  stays apart left follow = record { left = left; apart = apart; follow = λ f e. sym follow ∙ e; sound = λ up. sound }

  -- .. or nobody
  leaves : Apart a name b outs → Left b name u → b.follow ≡ None → Turned a name u b outs
  leaves apart left gone = record { left = left; apart = apart; follow = λ f q. absurd (nobody b.follow f gone q); sound = λ up. sound }

  turned_client : (given : Given) (fresh : List ℕ) → Apart a name b outs → ClientRow a name u given fresh b outs → Turned a name u b outs
  turned_client given fresh apart (ClientRow.serves r) = let t = text_of a.core b.core r.around u r.rest given r.out r.served in stays apart (left_open b name u t.0 r.rest false None r.leaves.is t.1) r.leaves.follow
  turned_client given fresh apart (ClientRow.closes r) = stays apart (left_shut b name u r.shut.is) r.follow
  turned_client given fresh apart (ClientRow.halts r) = stays apart (left_open b name u r.asks.asks.text r.rest false None r.leaves.is r.asks.asks.begins) r.leaves.follow
  turned_client given fresh apart (ClientRow.synchronizes r) = stays apart (left_open b name u r.asks.text r.rest true None r.leaves.is r.asks.begins) r.leaves.follow
  turned_client given fresh apart (ClientRow.promotes r) = leaves apart (left_open b name u r.asks.text r.rest false None r.ends.is r.asks.begins) r.follow
  turned_client given fresh apart (ClientRow.turns r) = leaves apart (left_open b name u r.asks.text r.rest false None r.ends.is r.asks.begins) r.follow
  turned_client given fresh apart (ClientRow.demotes r) = leaves apart (left_open b name u r.asks.text r.rest false None r.ends.is r.asks.begins) r.follow
  turned_client given fresh apart (ClientRow.begins r) = stays apart (left_open b name u r.asks.text r.rest false (Some begun) r.leaves.is r.asks.begins) r.leaves.follow

  turned_within : (t : Transaction) (given : Given) → Apart a name b outs → WithinRow a name t u given b outs → Turned a name u b outs
  turned_within t given apart (WithinRow.stands r) = stays apart (left_open b name u r.asks.text r.rest false (Some r.next) r.leaves.is r.asks.begins) r.leaves.follow
  turned_within t given apart (WithinRow.passes r) = stays apart (left_open b name u r.asks.text r.rest false (Some t) r.leaves.is r.asks.begins) r.leaves.follow
  turned_within t given apart (WithinRow.drops r) = stays apart (left_open b name u r.asks.text r.rest false None r.leaves.is r.asks.begins) r.leaves.follow
  turned_within t given apart (WithinRow.executes r) = stays apart (left_open b name u r.asks.text r.rest false None r.leaves.is r.asks.begins) r.leaves.follow
  turned_within t given apart (WithinRow.closes r) = stays apart (left_shut b name u r.shut.is) r.follow

  turned_replica : Apart a name b outs → ReplicaRow a name u b outs → Turned a name u b outs
  turned_replica apart (ReplicaRow.notes r) = let t = expected_text u r.rest r.expected in stays apart (left_open b name u t.0 r.rest true None r.leaves.is t.1) r.leaves.follow
  turned_replica apart (ReplicaRow.parts r) = stays apart (left_shut b name u r.shut.is) r.follow

pub clients_keep : ClientStepsKeepWorlds
clients_keep w l k s given fresh b outs is served sound r =
    let apart = apart_client s.node k.name (unread k.ask) b outs given fresh r in
    kept_stepped w is l k s b outs served (turned_client s.node k.name (unread k.ask) b outs sound given fresh apart r)

pub within_keep : WithinStepsKeepWorlds
within_keep w l k s t given b outs is served sound r =
    kept_stepped w is l k s b outs served (turned_within s.node k.name (unread k.ask) b outs sound t given (apart_within s.node k.name (unread k.ask) b outs t given r) r)

pub replicas_keep : ReplicaStepsKeepWorlds
replicas_keep w l k s b outs is served sound r =
    kept_stepped w is l k s b outs served (turned_replica s.node k.name (unread k.ask) b outs sound (apart_replica s.node k.name (unread k.ask) b outs r) r)

-- ---- a node that stops
runs_not : (up : Bool) → up ≡ false → up ≡ true → ⊥
runs_not up p q = cc

pub stops_keep : StopsKeepWorlds
stops_keep w n s b is at down = record {
  asks = is.asks;
  tells = is.tells;
  servers = λ l k e. server_of k (is.servers l k e) (number_or k.to n);
  untouched = is.untouched;
  names = is.names;
  nodes = λ m t e u. node_of m t (set_cases w.slots n m (record s { node = b }) t e) u;
  followers = λ m t name f e u q. follower_of m t name f (set_cases w.slots n m (record s { node = b }) t e) u q;
}
  where
    server_of : (k : Link) → HasServer w.slots k → (k.to ≡ n) ⊎ (k.to ≢ n) → HasServer (put_node w n s b).slots k
    server_of k h (inl same) = record {
      slot = record s { node = b };
      found = ap (slice_get (put_node w n s b).slots) same ∙ set_here w.slots n (record s { node = b }) s at;
      agrees = λ up q. absurd (runs_not b.core.up down up);
    }
    server_of k h (inr ne) = record { slot = h.slot; found = set_there w.slots n k.to (record s { node = b }) ne ∙ h.found; agrees = h.agrees }

    stopped : (t : Slot) → t ≡ record s { node = b } → t.node.core.up ≡ true → ⊥
    stopped t e u = runs_not b.core.up down (subst (λ (z : Slot). z.node.core.up ≡ true) e u)

    node_of : (m : ℕ) (t : Slot) → ((m ≡ n) × (t ≡ record s { node = b })) ⊎ ((m ≢ n) × (slice_get w.slots m ≡ Some t)) → t.node.core.up ≡ true → IsSound t.node
    node_of m t (inl p) u = absurd (stopped t p.1 u)
    node_of m t (inr p) u = is.nodes m t p.1 u

    follower_of : (m : ℕ) (t : Slot) (name : LinkId) (f : FollowState) → ((m ≡ n) × (t ≡ record s { node = b })) ⊎ ((m ≢ n) × (slice_get w.slots m ≡ Some t)) → t.node.core.up ≡ true → t.node.follow ≡ Some (name, f)
        → HasMaster w.links m t name f
    follower_of m t name f (inl p) u q = absurd (stopped t p.1 u)
    follower_of m t name f (inr p) u q = is.followers m t name f p.1 u q
