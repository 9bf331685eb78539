-- A node's ends of its links, as a map.
use Rattle.std.proofs.Common.{◌≡◌, ◌≤◌, ℕ, List, true, false, Option, None, Some, length, refl, sym, ap, ◌∙◌, Bor, is_some, ◌⊎◌, inl, inr}
use Rattle.std.specs.Option.{option_copied}
pub use Rattle.std.proofs.lemmas.Option.{same_Some as some_is, none-some as none_some}
use Rattle.mr_links.specs.declared.link_id.LinkId.{LinkId}
use Rattle.mr_node_links.specs.State.{EndState, Transaction, put_end, transaction_in, unread_in}
use Rattle.mr_node_links.specs.State.EndState.{client, waiting, replica, upstream, shut}
use Rattle.mr_node_links.specs.Ending.{kind_of, used_of}
use Rattle.mr_node_links.specs.declared.kind.Kind.{Kind}
use Rattle.mr_node_links.specs.declared.kind.Kind.TheVariants as kind
use Rattle.mr_node_links.specs.Parts.{HasAhead, HasOpen, IsClient, TakesOut, UsesAt}
use Rattle.mr_node_links.specs.Replicas.{Lists}
use Rattle.mr_node_links.proofs.Places.{get_other, get_put}
use Rattle.mr_node_spec.specs.State.{IsNode, NodeState, end_of, Agrees, AgreesWithin, ReplicaAgrees}
use Rattle.mr_node_spec.specs.Ends.{Leaves}
use Rattle.mr_node_state.specs.Parts.{OnlyEnds, with_ends}
use Rattle.mr_node.specs.Calls.{Agreeing, Unreads}
use Rattle.mr_node.specs.Parts.{Uses}

-- the node with another end of a link
pub put_leaves : (a b : NodeState) (l : LinkId) (e : EndState) → b ≡ with_ends a (put_end a.ends l e) → Leaves a l b e
put_leaves a b l e is = record {
  is = ap (λ (z : NodeState). end_of z l) is ∙ get_put a.ends.open_links l e;
  others = record { stay = λ x ne. ap (λ (z : NodeState). end_of z x) is ∙ get_other a.ends.open_links l e x ne; opened = ap (λ (z : NodeState). z.ends.opened) is };
  follow = ap (λ (z : NodeState). z.follow) is;
}

-- so many bytes of a link are used
pub uses_of : (a b : NodeState) (l : LinkId) (n : ℕ) (names : List LinkId) → IsNode a → Lists names a.ends.open_links → UsesAt a.ends l n b.ends → OnlyEnds a b → Uses a l n b
uses_of a b l n names is_node listed uses only = record {
  is_node = is_node;
  names = names;
  listed = listed;
  core = ap (λ (z : NodeState). z.core) only;
  leaves = λ end found. put_leaves a b l (used_of n end) (only ∙ ap (with_ends a) (uses end found));
}

-- one end of a link
pub one_end : (a : NodeState) (l : LinkId) (u v : List ℕ) → end_of a l ≡ Some (client u) → Agrees a l v → u ≡ v
one_end a l u v found at = client_is u v (some_is (client u) (client v) (sym found ∙ at.is))
  where
    client_is : (u v : List ℕ) → client u ≡ client v → u ≡ v
    client_is u v e = cc

pub one_replica : (a : NodeState) (l : LinkId) (u v : List ℕ) → end_of a l ≡ Some (replica u) → ReplicaAgrees a l v → u ≡ v
one_replica a l u v found at = replica_is u v (some_is (replica u) (replica v) (sym found ∙ at.is))
  where
    replica_is : (u v : List ℕ) → replica u ≡ replica v → u ≡ v
    replica_is u v e = cc

pub ahead_of : (a : NodeState) (l : LinkId) (u : List ℕ) (n : ℕ) → Agrees a l u → n ≤ length u → HasAhead a.ends l n
ahead_of a l u n at enough = record { end = client u; found = at.is; enough = enough }

-- .. where a transaction is open
pub open_of : (a : NodeState) (l : LinkId) (t : Transaction) (u : List ℕ) (n : ℕ) → AgreesWithin a l t u → n ≤ length u → HasOpen a.ends l n
open_of a l t u n at enough = record { transaction = t; unread = u; found = at.is; enough = enough }

pub open_ahead : (a : NodeState) (l : LinkId) (n : ℕ) → HasOpen a.ends l n → HasAhead a.ends l n
open_ahead a l n is = record { end = waiting is.transaction is.unread; found = is.found; enough = is.enough }

-- one transaction and one text
pub one_open : (a : NodeState) (l : LinkId) (t s : Transaction) (u v : List ℕ) → end_of a l ≡ Some (waiting t u) → AgreesWithin a l s v → (t ≡ s) × (u ≡ v)
one_open a l t s u v found at = let same = some_is (waiting t u) (waiting s v) (sym found ∙ at.is) in (one_transaction same, one_text same)
  where
    one_transaction : waiting t u ≡ waiting s v → t ≡ s
    one_transaction e = cc

    one_text : waiting t u ≡ waiting s v → u ≡ v
    one_text e = cc

pub client_of : (a : NodeState) (l : LinkId) (u : List ℕ) (n : ℕ) → Agrees a l u → n ≤ length u → IsClient a.ends l n
client_of a l u n at enough = record { unread = u; found = at.is; enough = enough }

pub client_ahead : (a : NodeState) (l : LinkId) (n : ℕ) → IsClient a.ends l n → HasAhead a.ends l n
client_ahead a l n is = record { end = client is.unread; found = is.found; enough = is.enough }

-- ---- whose an end is
pub kind_client : (e : EndState) → kind.Client ≡ kind_of e → transaction_in e ≡ None → (u : List ℕ) × (e ≡ client u)
kind_client (client u) is none = (u, refl)
kind_client (waiting t u) is none = absurd (cc)
kind_client (replica u) is none = absurd (cc)
kind_client upstream is none = absurd (cc)
kind_client shut is none = absurd (cc)

pub kind_waiting : (e : EndState) (t : Transaction) → transaction_in e ≡ Some t → (u : List ℕ) × (e ≡ waiting t u)
kind_waiting (client u) t some = absurd (cc)
kind_waiting (waiting s u) t some = (u, ap (λ (z : Transaction). waiting z u) (some_is s t some))
kind_waiting (replica u) t some = absurd (cc)
kind_waiting upstream t some = absurd (cc)
kind_waiting shut t some = absurd (cc)

-- whether there is one
pub held_some : (r : Option (Bor Transaction)) → is_some r ≡ true → (t : Transaction) × (option_copied r ≡ Some t)
held_some (Some t) e = (t.now, refl)
held_some None e = absurd (cc)

pub held_none : (r : Option (Bor Transaction)) → is_some r ≡ false → option_copied r ≡ None
held_none (Some t) e = absurd (cc)
held_none None e = refl

pub kind_replica : (e : EndState) → kind.Replica ≡ kind_of e → (u : List ℕ) × (e ≡ replica u)
kind_replica (client u) is = absurd (cc)
kind_replica (waiting t u) is = absurd (cc)
kind_replica (replica u) is = (u, refl)
kind_replica upstream is = absurd (cc)
kind_replica shut is = absurd (cc)

pub kind_upstream : (e : EndState) → kind.Upstream ≡ kind_of e → e ≡ upstream
kind_upstream (client u) is = absurd (cc)
kind_upstream (waiting t u) is = absurd (cc)
kind_upstream (replica u) is = absurd (cc)
kind_upstream upstream is = refl
kind_upstream shut is = absurd (cc)

pub kind_shut : (e : EndState) → kind.Shut ≡ kind_of e → e ≡ shut
kind_shut (client u) is = absurd (cc)
kind_shut (waiting t u) is = absurd (cc)
kind_shut (replica u) is = absurd (cc)
kind_shut upstream is = absurd (cc)
kind_shut shut is = refl

-- ---- a transaction is taken out
-- it is the one that is open, and the node is the same without it
pub out_of : (a i b : NodeState) (l : LinkId) (t : Transaction) {n : ℕ} (is : HasOpen a.ends l n) → i ≡ a → TakesOut i.ends l t b.ends → OnlyEnds i b
    → (t ≡ is.transaction) × (b ≡ with_ends a (put_end a.ends l (client is.unread)))
out_of a i b l t is same takes only =
    let found : end_of a l ≡ Some (waiting t takes.unread) = ap (λ (z : NodeState). end_of z l) (sym same) ∙ takes.found in
    let one = one_open a l is.transaction t is.unread takes.unread is.found (record { is = found }) in
    (sym one.0, only ∙ (ap (with_ends i) takes.left ∙ (ap (λ (z : NodeState). with_ends z (put_end z.ends l (client takes.unread))) same ∙ ap (λ (z : List ℕ). with_ends a (put_end a.ends l (client z))) (sym one.1))))

pub out_found : (a b : NodeState) (l : LinkId) (u : List ℕ) → b ≡ with_ends a (put_end a.ends l (client u)) → end_of b l ≡ Some (client u)
out_found a b l u out = ap (λ (z : NodeState). end_of z l) out ∙ get_put a.ends.open_links l (client u)

pub out_ahead : (a b : NodeState) (l : LinkId) (n : ℕ) (is : HasOpen a.ends l n) → b ≡ with_ends a (put_end a.ends l (client is.unread)) → HasAhead b.ends l n
out_ahead a b l n is out = record { end = client is.unread; found = out_found a b l is.unread out; enough = is.enough }

-- ---- unread bytes of a client's end, with a transaction open or without, or of a replica's
pub served_unreads : (a : NodeState) (l : LinkId) (e : EndState) (k : Kind) (count : ℕ) → a.core.up ≡ true → end_of a l ≡ Some e → (k ≡ kind.Client) ⊎ (k ≡ kind.Replica) → k ≡ kind_of e → count ≡ length (unread_in e) → Unreads a l count
served_unreads a l (client u) k count up found is of counted = record { up = up; bytes = u; counted = counted; agree = Agreeing.client (record { is = found }) }
served_unreads a l (waiting t u) k count up found is of counted = record { up = up; bytes = u; counted = counted; agree = Agreeing.waiting t (record { is = found }) }
served_unreads a l (replica u) k count up found is of counted = record { up = up; bytes = u; counted = counted; agree = Agreeing.replica (record { is = found }) }
served_unreads a l upstream k count up found (inl is) of counted = absurd (cc)
served_unreads a l upstream k count up found (inr is) of counted = absurd (cc)
served_unreads a l shut k count up found (inl is) of counted = absurd (cc)
served_unreads a l shut k count up found (inr is) of counted = absurd (cc)
