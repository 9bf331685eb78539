-- What a step at an end that a node serves leaves of the node's other ends, and of whom it follows: as its outs tell.
use Rattle.std.proofs.Common.{◌≡◌, ◌≢◌, ℕ, List, [], ◌∷◌, true, false, cond, Option, None, Some, refl, sym, ap, ◌∙◌}
use Rattle.mr_links.specs.declared.link_id.LinkId.{LinkId}
use Rattle.mr_data.specs.declared.given.Given.{Given}
use Rattle.mr_groups.specs.Groups.{grown_text}
use Rattle.mr_follower.specs.State.{FollowState}
use Rattle.mr_replication.specs.State.{name_of}
use Rattle.mr_node_links.specs.State.{EndState, Transaction, streams}
use Rattle.mr_node_links.specs.State.EndState.{shut}
use Rattle.mr_node_links.specs.Replicas.{is_named}
use Rattle.mr_node_links.proofs.Naming.{AreOnce}
use Rattle.mr_node_output.specs.Outs.{OutsState}
use Rattle.mr_node_spec.specs.State.{IsNode, NodeState, OthersStay, end_of}
use Rattle.mr_node_spec.specs.Ends.{Leaves, Settles, names_of}
use Rattle.mr_node_spec.specs.Growing.{FedTo}
use Rattle.mr_node_spec.specs.ClientRows.{ClientRow, Closes}
use Rattle.mr_node_spec.specs.Transactions.{WithinRow}
use Rattle.mr_node_spec.specs.ReplicaRows.{ReplicaRow}
use Rattle.mr_loop.proofs.Waiting.{itself}
use Rattle.law_systems.proofs.Pushing.{none_once}

-- None is fed but those to which the stream is sent, and each of them once.
pub record FeedsSome (a : NodeState) (fed : List LinkId) : Type 0 where
  pub others : (x : LinkId) → streams (end_of a x) ≡ false → is_named fed x ≡ false
  pub once : AreOnce fed

-- The node follows whom it followed, and that end isn't closed; or it follows nobody, and whom it followed is closed.
pub data Follows (a b : NodeState) (closed : List LinkId) : Type 0 where
  stays : b.follow ≡ a.follow → ((x : LinkId) → name_of a.follow ≡ Some x → is_named closed x ≡ false) → Follows a b closed
  leaves : b.follow ≡ None → ((x : LinkId) → name_of a.follow ≡ Some x → is_named closed x ≡ true) → Follows a b closed

-- The outs are for the end of this name. Of the others those that are to be closed are shut, and the rest are what they were.
pub record Settled (a : NodeState) (name : LinkId) (b : NodeState) (outs : OutsState) : Type 0 where
  pub link : outs.link ≡ Some name
  pub fed : FeedsSome a outs.fed
  pub shuts : (x : LinkId) → is_named outs.closed x ≡ true → end_of b x ≡ Some shut
  pub others : (x : LinkId) → x ≢ name → is_named outs.closed x ≡ false → end_of b x ≡ end_of a x
  pub follows : Follows a b outs.closed

pub feeds_none : (a : NodeState) (fed : List LinkId) → fed ≡ [] → FeedsSome a fed
feeds_none a fed none = record { others = λ x h. ap (λ z. is_named z x) none; once = none_once fed none }

pub feeds_to : (grown : List ℕ) (a : NodeState) (fed : List LinkId) → FedTo grown a fed → FeedsSome a fed
feeds_to [] a fed none = feeds_none a fed none
feeds_to (g ∷ grown) a fed lists = record { others = λ x h. lists.each x ∙ h; once = lists.once }

none_named : (names : List LinkId) (x : LinkId) → names ≡ [] → is_named names x ≡ false
none_named names x none = ap (λ z. is_named z x) none

not_named : (names : List LinkId) (x : LinkId) → names ≡ [] → is_named names x ≡ true → ⊥
not_named names x none named = let wrong : true ≡ false = sym named ∙ none_named names x none in cc

-- whom it followed is among the names of that
its_name : (o : Option (LinkId × FollowState)) (x : LinkId) → name_of o ≡ Some x → is_named (names_of (name_of o)) x ≡ true
its_name o x e = ap (λ z. is_named (names_of z) x) e ∙ ap (λ b. cond b true false) (itself x)

module _ (a b : NodeState) (name : LinkId) (outs : OutsState) where
  -- nothing is closed but the end itself
  apart : outs.link ≡ Some name → FeedsSome a outs.fed → outs.closed ≡ [] → OthersStay a b name → b.follow ≡ a.follow → Settled a name b outs
  apart link fed none others follow = record {
    link = link;
    fed = fed;
    shuts = λ x h. absurd (not_named outs.closed x none h);
    others = λ x ne h. others.stay x ne;
    follows = Follows.stays follow (λ x h. none_named outs.closed x none);
  }

  stays_so : (e : EndState) → outs.link ≡ Some name → outs.fed ≡ [] → outs.closed ≡ [] → Leaves a name b e → Settled a name b outs
  stays_so e link fed none left = apart link (feeds_none a outs.fed fed) none left.others left.follow

  -- others are closed, and nobody is followed
  settles : (e : EndState) (closed : List LinkId) → outs.link ≡ Some name → outs.fed ≡ [] → outs.closed ≡ closed → b.follow ≡ None
      → ((x : LinkId) → name_of a.follow ≡ Some x → is_named closed x ≡ true) → Settles a name b e closed → Settled a name b outs
  settles e closed link fed is none left s = record {
    link = link;
    fed = feeds_none a outs.fed fed;
    shuts = λ x h. s.shuts x (sym (ap (λ z. is_named z x) is) ∙ h);
    others = λ x ne h. s.others x ne (sym (ap (λ z. is_named z x) is) ∙ h);
    follows = Follows.leaves none (λ x h. ap (λ z. is_named z x) is ∙ left x h);
  }

  closes_so : (u : List ℕ) → Closes a name u b outs → Settled a name b outs
  closes_so u r = apart (ap (λ (o : OutsState). o.link) r.outs_are) (feeds_none a outs.fed (ap (λ (o : OutsState). o.fed) r.outs_are)) (ap (λ (o : OutsState). o.closed) r.outs_are) r.others r.follow

  pub client_settled : (u : List ℕ) (given : Given) (fresh : List ℕ) → IsNode a → ClientRow a name u given fresh b outs → Settled a name b outs
  client_settled u given fresh node (ClientRow.serves r) =
      apart (ap (λ (o : OutsState). o.link) r.outs_are) (feeds_to r.out.grown a outs.fed r.fed) (ap (λ (o : OutsState). o.closed) r.outs_are) r.leaves.others r.leaves.follow
  client_settled u given fresh node (ClientRow.closes r) = closes_so u r
  client_settled u given fresh node (ClientRow.halts r) =
      stays_so _ (ap (λ (o : OutsState). o.link) r.outs_are) (ap (λ (o : OutsState). o.fed) r.outs_are) (ap (λ (o : OutsState). o.closed) r.outs_are) r.leaves
  client_settled u given fresh node (ClientRow.synchronizes r) =
      stays_so _ (ap (λ (o : OutsState). o.link) r.outs_are) (ap (λ (o : OutsState). o.fed) r.outs_are) (ap (λ (o : OutsState). o.closed) r.outs_are) r.leaves
  client_settled u given fresh node (ClientRow.promotes r) =
      settles _ (names_of (name_of a.follow)) (ap (λ (o : OutsState). o.link) r.outs_are) (ap (λ (o : OutsState). o.fed) r.outs_are) (ap (λ (o : OutsState). o.closed) r.outs_are) r.follow
      (its_name a.follow) r.ends
  client_settled u given fresh node (ClientRow.turns r) =
      settles _ (names_of (name_of a.follow)) (ap (λ (o : OutsState). o.link) r.outs_are) (ap (λ (o : OutsState). o.fed) r.outs_are) (ap (λ (o : OutsState). o.closed) r.outs_are) r.follow
      (its_name a.follow) r.ends
  client_settled u given fresh node (ClientRow.demotes r) =
      settles _ outs.closed (ap (λ (o : OutsState). o.link) r.outs_are) (ap (λ (o : OutsState). o.fed) r.outs_are) refl r.follow
      (λ x h. absurd (nobody x (sym (ap name_of (node.nobody r.master)) ∙ h))) r.ends
    where
      nobody : (x : LinkId) → ◌≡◌ {A = Option LinkId} None (Some x) → ⊥
      nobody x e = cc
  client_settled u given fresh node (ClientRow.begins r) =
      stays_so _ (ap (λ (o : OutsState). o.link) r.outs_are) (ap (λ (o : OutsState). o.fed) r.outs_are) (ap (λ (o : OutsState). o.closed) r.outs_are) r.leaves

  -- .. where a transaction is open
  pub within_settled : (t : Transaction) (u : List ℕ) (given : Given) → WithinRow a name t u given b outs → Settled a name b outs
  within_settled t u given (WithinRow.stands r) =
      stays_so _ (ap (λ (o : OutsState). o.link) r.outs_are) (ap (λ (o : OutsState). o.fed) r.outs_are) (ap (λ (o : OutsState). o.closed) r.outs_are) r.leaves
  within_settled t u given (WithinRow.passes r) =
      stays_so _ (ap (λ (o : OutsState). o.link) r.outs_are) (ap (λ (o : OutsState). o.fed) r.outs_are) (ap (λ (o : OutsState). o.closed) r.outs_are) r.leaves
  within_settled t u given (WithinRow.drops r) =
      stays_so _ (ap (λ (o : OutsState). o.link) r.outs_are) (ap (λ (o : OutsState). o.fed) r.outs_are) (ap (λ (o : OutsState). o.closed) r.outs_are) r.leaves
  within_settled t u given (WithinRow.executes r) =
      apart (ap (λ (o : OutsState). o.link) r.outs_are) (feeds_to (grown_text r.effects) a outs.fed r.fed) (ap (λ (o : OutsState). o.closed) r.outs_are) r.leaves.others r.leaves.follow
  within_settled t u given (WithinRow.closes r) = closes_so u r

  -- .. at a replica's end
  pub replica_settled : (u : List ℕ) → ReplicaRow a name u b outs → Settled a name b outs
  replica_settled u (ReplicaRow.notes r) =
      stays_so _ (ap (λ (o : OutsState). o.link) r.outs_are) (ap (λ (o : OutsState). o.fed) r.outs_are) (ap (λ (o : OutsState). o.closed) r.outs_are) r.leaves
  replica_settled u (ReplicaRow.parts r) =
      apart (ap (λ (o : OutsState). o.link) r.outs_are) (feeds_none a outs.fed (ap (λ (o : OutsState). o.fed) r.outs_are)) (ap (λ (o : OutsState). o.closed) r.outs_are) r.others r.follow
