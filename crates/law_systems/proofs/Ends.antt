-- What a step at an end that a node serves, with its outs carried out, leaves of the node's ends and of the loop's connections.
use Rattle.std.proofs.Common.{◌≡◌, ◌≢◌, ◌++◌, Bool, true, false, cond, Option, None, Some, append-nil, if◌then◌else◌, refl, sym, ap, subst, ◌∙◌}
use Rattle.std.specs.Ordering.{eq_by_cmp}
use Rattle.mr_links.specs.LinkId.{id_cmp}
use Rattle.mr_links.specs.declared.link_id.LinkId.{LinkId}
use Rattle.mr_follower.specs.State.{FollowState}
use Rattle.mr_replication.specs.State.{name_of}
use Rattle.mr_node_links.specs.State.{streams}
use Rattle.mr_node_links.specs.State.EndState.{upstream}
use Rattle.mr_node_links.specs.Replicas.{is_named}
use Rattle.mr_node_output.specs.Outs.{OutsState, outs_of}
use Rattle.mr_node_spec.specs.State.{NodeState, end_of}
use Rattle.mr_node_spec.specs.LinkRows.{follow_without}
use Rattle.mr_connections.specs.State.{ConnectionState}
use Rattle.mr_loop.specs.Stage.{Stage}
use Rattle.mr_loop.specs.Carrying.{Carried}
use Rattle.mr_loop.proofs.Carried.{carried_node as each_carried}
use Rattle.mr_loop.proofs.Waiting.{by_name}
use Rattle.mr_world_parts.specs.Answering.{EndsAs, IsBehind}
use Rattle.law_servers.specs.Worlds.{NoneOpen}
use Rattle.law_systems.proofs.Beside.{Settled}
use Rattle.law_systems.proofs.Parting.{closed_behind, follow_stays, parted_end}
use Rattle.law_systems.proofs.Pushing.{carried_none, carried_to, carried_waiting, fed_elsewhere, fed_part, parting, parts_alone, parts_elsewhere, parts_here, reply_elsewhere, reply_here, reply_part}

-- ---- whom a node follows, where ends go
without_name : (l : LinkId) (o : Option (LinkId × FollowState)) (x : LinkId) → name_of (follow_without l o) ≡ Some x → name_of o ≡ Some x
without_name l None x e = e
without_name l (Some f) x e = go (eq_by_cmp id_cmp f.0 l) e
  where
    go : (b : Bool) → name_of (if b then None else Some f) ≡ Some x → name_of (Some f) ≡ Some x
    go true h = absurd (cc)
    go false h = h

-- it follows nobody else
pub followed_before : (o : OutsState) (m t : Stage) → Carried (outs_of o) m t → (x : LinkId) → name_of t.node.follow ≡ Some x → name_of m.node.follow ≡ Some x
followed_before o m t carried x = each_carried (λ (z : NodeState). name_of z.follow ≡ Some x → name_of m.node.follow ≡ Some x)
    (λ l a h e. h (without_name l a.follow x e)) (outs_of o) m t carried (λ e. e)

-- and whom it followed, where that isn't closed
pub followed_still : (o : OutsState) (a : NodeState) (x : LinkId) → name_of a.follow ≡ Some x → parting o x ≡ false → name_of (closed_behind o a).follow ≡ Some x
followed_still o a x named stays = go a.follow refl named
  where
    go : (f : Option (LinkId × FollowState)) → a.follow ≡ f → name_of f ≡ Some x → name_of (closed_behind o a).follow ≡ Some x
    go None e h = absurd (cc)
    go (Some f) e h = let one : f.0 ≡ x = cc in ap name_of (follow_stays o a f e (ap (parting o) one ∙ stays)) ∙ ap (λ z. Some z) one

-- ---- ends that aren't open
-- those of a node without some stay so
pub none_behind : (o : OutsState) (a : NodeState) (x : LinkId) → NoneOpen a x → NoneOpen (closed_behind o a) x
none_behind o a x none = go (parting o x) (parted_end o x a) none
  where
    go : (v : Bool) → end_of (closed_behind o a) x ≡ cond v None (end_of a x) → NoneOpen a x → NoneOpen (closed_behind o a) x
    go true e h = NoneOpen.absent e
    go false e (NoneOpen.absent h) = NoneOpen.absent (e ∙ h)
    go false e (NoneOpen.shut h) = NoneOpen.shut (record { is = e ∙ h.is })

-- the stream isn't sent there
pub none_streams : (a : NodeState) (x : LinkId) → NoneOpen a x → streams (end_of a x) ≡ false
none_streams a x (NoneOpen.absent e) = ap streams e
none_streams a x (NoneOpen.shut e) = ap streams e.is

pub upstream_streams : (a : NodeState) (x : LinkId) → end_of a x ≡ Some upstream → streams (end_of a x) ≡ false
upstream_streams a x e = ap streams e

-- ---- a step at the end of this name
module _ (a : NodeState) (name : LinkId) (b : NodeState) (outs : OutsState) (behind : IsBehind b name outs) (settled : Settled a name b outs) where
  -- an end that wasn't open isn't
  pub none_stays : (x : LinkId) → x ≢ name → NoneOpen a x → NoneOpen b x
  none_stays x ne none = go (is_named outs.closed x) refl none
    where
      go : (v : Bool) → is_named outs.closed x ≡ v → NoneOpen a x → NoneOpen b x
      go true e h = NoneOpen.shut (record { is = settled.shuts x e })
      go false e (NoneOpen.absent h) = NoneOpen.absent (settled.others x ne e ∙ h)
      go false e (NoneOpen.shut h) = NoneOpen.shut (record { is = settled.others x ne e ∙ h.is })

  -- whether its own link is closed
  pub own_parts : outs.closes ≡ true → parting outs name ≡ true
  own_parts closes = parts_here outs name settled.link closes

  pub own_stays : outs.closes ≡ false → parting outs name ≡ false
  own_stays closes = parts_alone outs name closes ∙ behind.unclosed

  pub other_parts : (x : LinkId) → x ≢ name → parting outs x ≡ is_named outs.closed x
  other_parts x ne = parts_elsewhere outs name x settled.link ne

  -- every end that is to be forgotten is closed
  not_both : (v : Bool) → v ≡ false → v ≡ true → ⊥
  not_both v one other = cc

  own_none : parting outs name ≡ true → NoneOpen b name
  own_none h = elim behind.end [
    | EndsAs.closed closes e ↦ NoneOpen.shut (record { is = e })
    | EndsAs.asks closes u e ↦ absurd (not_both (parting outs name) (own_stays closes) h)
    | EndsAs.waits closes t u e ↦ absurd (not_both (parting outs name) (own_stays closes) h)
    | EndsAs.streams closes u e ↦ absurd (not_both (parting outs name) (own_stays closes) h)
  ]

  pub all_none : (x : LinkId) → parting outs x ≡ true → NoneOpen b x
  all_none x h = by_name (NoneOpen b x) x name
      (λ same. subst (λ z. NoneOpen b z) (sym same) (own_none (ap (parting outs) (sym same) ∙ h)))
      (λ ne. NoneOpen.shut (record { is = settled.shuts x (sym (other_parts x ne) ∙ h) }))

  -- ---- what waits
  pub own_waiting : (c : ConnectionState) → c.link ≡ Some name → (carried_to (outs_of outs) c).waiting ≡ c.waiting ++ outs.reply
  own_waiting c is = carried_waiting outs c name settled.fed.once is
      ∙ (ap (λ z. c.waiting ++ (z ++ reply_part outs name)) (fed_elsewhere outs name behind.unfed) ∙ ap (λ z. c.waiting ++ z) (reply_here outs name settled.link))

  pub other_waiting : (c : ConnectionState) (x : LinkId) → x ≢ name → c.link ≡ Some x → (carried_to (outs_of outs) c).waiting ≡ c.waiting ++ fed_part outs x
  other_waiting c x ne is = carried_waiting outs c x settled.fed.once is
      ∙ (ap (λ z. c.waiting ++ (fed_part outs x ++ z)) (reply_elsewhere outs name x settled.link ne) ∙ ap (λ z. c.waiting ++ z) (append-nil (fed_part outs x)))

  -- nothing more, where the stream isn't sent
  pub same_waiting : (c : ConnectionState) → ((x : LinkId) → c.link ≡ Some x → (x ≢ name) × (streams (end_of a x) ≡ false)) → (carried_to (outs_of outs) c).waiting ≡ c.waiting
  same_waiting c quiet = go c.link refl
    where
      go : (o : Option LinkId) → c.link ≡ o → (carried_to (outs_of outs) c).waiting ≡ c.waiting
      go None e = ap (λ (z : ConnectionState). z.waiting) (carried_none (outs_of outs) c e)
      go (Some x) e = let q = quiet x e in other_waiting c x q.0 e
          ∙ (ap (λ z. c.waiting ++ z) (fed_elsewhere outs x (settled.fed.others x q.1)) ∙ append-nil c.waiting)
