-- A step at the link to the master keeps what is true of each node.
use Rattle.std.proofs.Common.{◌≡◌, ℕ, ℤ, List, Bool, true, false, Option, None, Some, refl, sym, ap, subst, ◌∙◌}
use Rattle.std.specs.Prelude.{Result, Ok, Err, IfSome}
use Rattle.mr_links.specs.Links.{Links}
use Rattle.mr_links.specs.declared.link_id.LinkId.{LinkId}
use Rattle.mr_keyspace.specs.Dataset.{Dataset}
use Rattle.mr_repl.specs.Lineage.{LineageState}
use Rattle.mr_follower.specs.State.{FollowState}
use Rattle.mr_replication.specs.State.{CourseState, HasUnread, IsCourse, IsReader, adopts, continues_as, grows, name_of}
use Rattle.mr_replication.specs.Rows.{Listens, UpstreamRow}
use Rattle.mr_replication.specs.declared.upstream.UpstreamStep.{UpstreamStep}
use Rattle.mr_replication.specs.declared.upstream.UpstreamStep.TheVariants as outcome
use Rattle.mr_replication.specs.declared.upstream.UpstreamFault.{UpstreamFault}
use Rattle.mr_replication.specs.declared.upstream.UpstreamFault.TheVariants as fault
use Rattle.mr_node_links.specs.State.{EndState, put_end}
use Rattle.mr_node_links.specs.State.EndState.{shut}
use Rattle.mr_node_output.specs.Address.{AddressState}
use Rattle.mr_node_spec.specs.State.{IsNode, NodeState}
use Rattle.mr_node_state.specs.Parts.{node_of, shut_one}
use Rattle.mr_node_state.specs.Listening.{Heard, ends_after, up_after}
use Rattle.mr_node_state.proofs.Nodes.{alone_node, reading_node}

-- some bytes may be unread at the link to the master
pub unread_of : (c : CourseState) (name : LinkId) (f : FollowState) → IsCourse c → c.follow ≡ Some (name, f) → HasUnread f
unread_of c name f is found = (subst (λ o. IfSome o (λ (g : LinkId × FollowState). IsReader c.master c.offers c.lineage g.1)) found is.reader).has

module _ (up : Bool) (port : ℕ) (upstream_is : Option AddressState) (mark : Option ℤ) (c : CourseState) (m : Dataset) (ends : Links EndState) (i : IsNode (node_of up port upstream_is mark c m ends))
    (name : LinkId) (f : FollowState) (found : c.follow ≡ Some (name, f)) where
  reading : (up_now : Bool) (g : FollowState) (offers : Bool) (a : LineageState) (n : Dataset) → IsNode (node_of up_now port upstream_is mark (record { master = c.master; offers = offers; lineage = a; follow = Some (name, g) }) n ends)
  reading up_now g offers a n = reading_node (node_of up port upstream_is mark c m ends) (node_of up_now port upstream_is mark (record { master = c.master; offers = offers; lineage = a; follow = Some (name, g) }) n ends).core name f g i found refl

  leaving : (offers : Bool) (n : Dataset) → IsNode (node_of up port upstream_is mark (record c { offers = offers; follow = None }) n (put_end ends name shut))
  leaving offers n = subst (λ z. IsNode (node_of up port upstream_is mark (record c { offers = offers; follow = None }) n (shut_one z ends))) (ap name_of found)
      (alone_node (node_of up port upstream_is mark c m ends) (node_of up port upstream_is mark (record c { offers = offers; follow = None }) n ends).core i (λ q. q))

  heard_node : (r : Result UpstreamStep UpstreamFault) (u : List ℕ) (g : FollowState) (d : CourseState) (n : Dataset) (told : List ℕ) → UpstreamRow c m name f u g r d n told
      → IsNode (node_of (up_after r up) port upstream_is mark d n (ends_after r name ends))
  heard_node (Ok outcome.Idle) u g d n told r = subst (λ z. IsNode (node_of up port upstream_is mark z n ends)) (sym r.is) (reading up g c.offers c.lineage n)
  heard_node (Ok outcome.Said) u g d n told r = subst (λ z. IsNode (node_of up port upstream_is mark z n ends)) (sym r.is) (reading up g c.offers c.lineage n)
  heard_node (Ok outcome.Announced) u g d n told r = subst (λ z. IsNode (node_of up port upstream_is mark z n ends)) (sym r.is) (reading up g c.offers c.lineage n)
  heard_node (Ok outcome.Continued) u g d n told r = subst (λ z. IsNode (node_of up port upstream_is mark z n ends)) (sym r.is) (reading up g c.offers (continues_as r.id c).lineage n)
  heard_node (Ok outcome.Loaded) u g d n told r = subst (λ z. IsNode (node_of up port upstream_is mark z n ends)) (sym r.is) (reading up g true (adopts r.installs.id r.installs.offset c).lineage n)
  heard_node (Ok outcome.Applied) u g d n told r = subst (λ z. IsNode (node_of up port upstream_is mark z n ends)) (sym r.is) (reading up g c.offers (grows told c).lineage n)
  heard_node (Ok outcome.Left) u g d n told r = subst (λ z. IsNode (node_of up port upstream_is mark z n (put_end ends name shut))) (sym r.is) (leaving c.offers n)
  heard_node (Ok outcome.Spoiled) u g d n told r = subst (λ z. IsNode (node_of up port upstream_is mark z n (put_end ends name shut))) (sym r.is) (leaving false n)
  heard_node (Err fault.Memory) u g d n told r = subst (λ z. IsNode (node_of up port upstream_is mark z n ends)) (sym r.is) (reading up g c.offers c.lineage n)
  heard_node (Err fault.Stopped) u g d n told r = subst (λ z. IsNode (node_of false port upstream_is mark z n ends)) (sym r.is) (reading false g c.offers c.lineage n)

pub listened_node : (up : Bool) (port : ℕ) (upstream_is : Option AddressState) (mark : Option ℤ) (c d : CourseState) (m n : Dataset) (ends : Links EndState) (told : List ℕ) (r : Result UpstreamStep UpstreamFault)
    → IsNode (node_of up port upstream_is mark c m ends) → IsCourse c → (l : Listens c m r d n told) → IsNode (node_of (up_after r up) port upstream_is mark d n (ends_after r l.name ends))
listened_node up port upstream_is mark c d m n ends told r i is l =
    let has = unread_of c l.name l.follow is l.found in
    heard_node up port upstream_is mark c m ends i l.name l.follow l.found r has.unread l.next d n told (l.row has.unread has.agrees)

pub same_name : (c : CourseState) (name other : LinkId) (f : FollowState) → name_of c.follow ≡ Some name → c.follow ≡ Some (other, f) → name ≡ other
same_name c name other f is found = one name other (sym is ∙ ap name_of found)
  where
    one : (a b : LinkId) → ◌≡◌ {A = Option LinkId} (Some a) (Some b) → a ≡ b
    one a b e = cc

pub heard_of : (up : Bool) (port : ℕ) (upstream_is : Option AddressState) (mark : Option ℤ) (c d : CourseState) (m n : Dataset) (ends : Links EndState) (told : List ℕ) (r : Result UpstreamStep UpstreamFault) (a : NodeState)
    → node_of up port upstream_is mark c m ends ≡ a → (l : Listens c m r d n told) → Heard a r (node_of (up_after r up) port upstream_is mark d n (ends_after r l.name ends)) told
heard_of up port upstream_is mark c d m n ends told r a same l =
    subst (λ (z : NodeState). Heard z r (node_of (up_after r up) port upstream_is mark d n (ends_after r l.name ends)) told) same (record { course = d; listens = l; node = refl })
