-- A call at a link of which the node has no open end changes nothing that anyone sees.
use Rattle.std.proofs.Common.{◌≡◌, ◌≢◌, ℕ, List, Bool, true, false, cond, Option, None, Some, Result, Ok, Err, refl, sym, ap, subst, ◌∙◌}
use Rattle.std.specs.Prelude.{slice_get, slice_set}
use Rattle.std.specs.Option.{option_map}
use Rattle.mr_links.specs.declared.link_id.LinkId.{LinkId}
use Rattle.mr_data.specs.declared.given.Given.{Given}
use Rattle.mr_follower.specs.State.{FollowState}
use Rattle.mr_node_links.specs.State.{EndState, Transaction}
use Rattle.mr_node_links.specs.State.EndState.{shut as closed, upstream}
use Rattle.mr_node_links.proofs.Naming.{at_or_other}
use Rattle.mr_node_spec.specs.State.{FollowedAt, IsShut, NodeState, end_of}
use Rattle.mr_node_spec.specs.Sound.{IsSound}
use Rattle.mr_node_spec.specs.LinkRows.{closed_at, follow_without}
use Rattle.mr_node.specs.Steps.{Steps}
use Rattle.mr_node.specs.declared.fault.NodeFault.{NodeFault}
use Rattle.mr_node.specs.declared.step.Step.{Step}
use Rattle.law_refinement.specs.Way.{unread}
use Rattle.law_refinement.specs.State.{Link, Slot, WorldState}
use Rattle.law_refinement.specs.Seeing.{seen, seen_follow, seen_link, seen_node}
use Rattle.law_refinement.specs.Worlds.{IsWorld, end_for}
use Rattle.law_refinement.specs.Carrying.{put_node}
use Rattle.law_refinement.specs.Events.{IsRunning}
use Rattle.law_refinement.proofs.Places.{set_same}
use Rattle.law_refinement.proofs.Others.{KeepsEnds, all_seen, served_end}
use Rattle.law_refinement.proofs.Reading.{still_at}
use Rattle.law_refinement.proofs.Seen.{same_each}
use Rattle.law_refinement.specs.Runs.{Happens, nothing_seen}
use Rattle.mr_world.proofs.Changing.{node_world}
use Rattle.mr_world.proofs.Happened.{nothing}
use Rattle.mr_world.proofs.Kept.{closed_end, follow_was}
use Rattle.law_servers.specs.Calling.{IsCall, NodeCall, break, client, deliver, dial, opens_no_more, step, tick}
use Rattle.law_servers.specs.Worlds.{IsUnseen, NoneOpen}

-- ---- an end that isn't open is none that a link of the World has, and none of the link to the master
not_served : (a : NodeState) (name : LinkId) (streams : Bool) (held : Option Transaction) (u : List ℕ) → NoneOpen a name → end_of a name ≡ Some (end_for streams held u) → ⊥
not_served a name streams held u (NoneOpen.absent e) h = none (end_for streams held u) (sym e ∙ h)
  where
    none : (x : EndState) → ◌≡◌ {A = Option EndState} None (Some x) → ⊥
    none x q = cc
not_served a name streams held u (NoneOpen.shut e) h = go streams held (sym e.is ∙ h)
  where
    go : (b : Bool) (t : Option Transaction) → ◌≡◌ {A = Option EndState} (Some closed) (Some (end_for b t u)) → ⊥
    go true t q = absurd (cc)
    go false None q = absurd (cc)
    go false (Some x) q = absurd (cc)

not_followed : (a : NodeState) (name : LinkId) → NoneOpen a name → end_of a name ≢ Some upstream
not_followed a name (NoneOpen.absent e) h = let q : ◌≡◌ {A = Option EndState} None (Some upstream) = sym e ∙ h in cc
not_followed a name (NoneOpen.shut e) h = let q : ◌≡◌ {A = Option EndState} (Some closed) (Some upstream) = sym e.is ∙ h in cc

stays : (a : NodeState) (name : LinkId) (o : Option (LinkId × FollowState)) → NoneOpen a name → FollowedAt a.ends o → follow_without name o ≡ o
stays a name None none h = refl
stays a name (Some f) none h = at_or_other f.0 name (λ b. cond b None (Some f) ≡ Some f) (λ same. absurd (not_followed a name none (ap (end_of a) (sym same) ∙ h))) (λ ne. refl)

module _ (w : WorldState) (n : ℕ) (s : Slot) (is : IsWorld w) (running : IsRunning w n s) where
  -- ---- a step there: nothing changes
  same_world : (b : NodeState) → b ≡ s.node → put_node w n s b ≡ w
  same_world b e = ap (put_node w n s) e ∙ ap (λ (z : List Slot). record w { slots = z }) (set_same w.slots n s running.at)

  stepped : (link : LinkId) (given : Given) (fresh : List ℕ) (b : NodeState) (r : Result Step NodeFault) → Steps s.node link given fresh b r → NoneOpen s.node link → b ≡ s.node
  stepped link given fresh b r row (NoneOpen.absent e) = (row.absent running.up e).1
  stepped link given fresh b r row (NoneOpen.shut e) = (row.at_shut running.up e).1

  unchanged : (b : NodeState) → b ≡ s.node → Happens w (put_node w n s b) × IsWorld (put_node w n s b)
  unchanged b e = (nothing w (put_node w n s b) (same_world b e), subst IsWorld (sym (same_world b e)) is)

  -- ---- the end is forgotten
  module _ (name : LinkId) (none : NoneOpen s.node name) (sound : IsSound (closed_at name s.node)) where
    abbrev b : NodeState
    b = closed_at name s.node

    keeps : KeepsEnds s.node b
    keeps = record { up = refl; all = λ q streams held v e. closed_end s.node name q (λ same. not_served s.node name streams held v none (ap (end_of s.node) (sym same) ∙ e)) ∙ e }

    world : IsWorld (put_node w n s b)
    world = node_world w n s (record s { node = b }) is running.at (record {
      here = λ j y e to up q. let served = served_end w is n s running.at running.up j y e to q in (served.0, keeps.all y.name y.streams served.0 (unread y.ask) served.1);
      sound = λ up. sound;
      own = λ m g up e. let h = is.followers n s m g running.at running.up (follow_was name s.node.follow (m, g) e) in record { link = h.link; found = h.found; caller = h.caller; agrees = h.agrees };
    })

    unseen : Happens w (put_node w n s b)
    unseen = nothing_seen (λ book holds. (
      holds.kept,
      record {
        nodes = still_at seen_node w.slots n (record s { node = b }) s running.at
            (ap (λ z. record (seen_node s) { follow = seen_follow s.dialled z }) (stays s.node name s.node.follow none (is.nodes n s running.at running.up).node.followed));
        links = same_each (seen_link w.slots) (seen_link (slice_set w.slots n (record s { node = b }))) w.links (all_seen w is n s running.at running.up (record s { node = b }) keeps);
        book = λ i. refl;
      },
    ))

  pub goes_unseen : (call : NodeCall) (b : NodeState) → IsSound b → IsCall s.node call b → IsUnseen s.node call → Happens w (put_node w n s b) × IsWorld (put_node w n s b)
  goes_unseen (client link) b sound c none = absurd none
  goes_unseen opens_no_more b sound c none = absurd none
  goes_unseen (deliver link bytes) b sound c none = absurd none
  goes_unseen (step link given fresh r) b sound c none = unchanged b (stepped link given fresh b r c none)
  goes_unseen (tick given outs) b sound c none = absurd none
  goes_unseen (break link) b sound c none =
      let known = subst IsSound c sound in
      subst (λ z. Happens w (put_node w n s z) × IsWorld (put_node w n s z)) (sym c) (unseen link none known, world link none known)
  goes_unseen (dial link outs) b sound c none = absurd none
