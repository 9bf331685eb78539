-- A step at the link to a node's master that finds nothing whole, or lacks memory: nothing but the node may be another, and what is true of a World stays.
use Rattle.std.proofs.Common.{◌≡◌, ◌-◌, ℕ, List, [], Some, length, drop, refl, sym, ap, subst, ◌∙◌, arith}
use Rattle.std.specs.Prelude.{slice_set}
use Rattle.std.proofs.lemmas.List.{append-nil, length-drop, length-take}
use Rattle.mr_links.specs.declared.link_id.LinkId.{LinkId}
use Rattle.mr_follower.specs.State.{FollowState, Agrees}
use Rattle.mr_replication.specs.State.{CourseState}
use Rattle.mr_node_output.specs.Outs.{no_outs}
use Rattle.mr_node_spec.specs.State.{NodeState}
use Rattle.mr_node_spec.specs.Sound.{IsSound}
use Rattle.mr_node_spec.specs.UpstreamRows.{Lacks, Waits}
use Rattle.law_refinement.specs.Way.{unread, left_on}
use Rattle.law_refinement.specs.State.{Link, Slot, WorldState}
use Rattle.law_refinement.specs.Worlds.{IsWorld}
use Rattle.law_refinement.specs.Carrying.{followed, heard_as, put_node, unread_count}
use Rattle.law_refinement.specs.Events.{IsFollowed, LacksChangeNodes, LacksKeepWorlds, WaitsChangeNodes, WaitsKeepWorlds}
use Rattle.law_refinement.proofs.Places.{set_same, some_is}
use Rattle.law_refinement.proofs.Beside.{keeps_all}
use Rattle.law_refinement.proofs.Masters.{counted}
use Rattle.law_refinement.proofs.Following.{Reads, kept_followed, pair_is}

-- It reads on at this link, where these bytes are unread still, and its ends are what they were.
record Stays (a : NodeState) (name : LinkId) (u : List ℕ) (b : NodeState) : Type 0 where
  reader : FollowState
  follow : b.follow ≡ Some (name, reader)
  agrees : Agrees reader u
  up : b.core.up ≡ a.core.up
  ends : b.ends ≡ a.ends

module _ (w : WorldState) (n : ℕ) (s : Slot) (k : Link) (name : LinkId) (f : FollowState) (b : NodeState) (is : IsWorld w) (here : IsFollowed w n s k) (following : s.node.follow ≡ Some (name, f)) where
  pub agreed : Agrees f (unread k.tell)
  agreed = let h = is.followers n s name f here.at here.up following in subst (λ (z : Link). Agrees f (unread z.tell)) (some_is h.link k (sym h.found ∙ here.found)) h.agrees

  module _ (stays : Stays s.node name (unread k.tell) b) where
    keeps : IsSound b → IsWorld (followed w n s k b no_outs)
    keeps sound = kept_followed w is n s k name f b no_outs here following (record {
      keeps = keeps_all s.node b stays.up stays.ends;
      follow = λ x g e. let p = pair_is name x stays.reader g (sym stays.follow ∙ e) in
          (p.0, subst (λ z. Reads (unread k.tell) z) (sym p.1) (record { text = []; rest = unread k.tell; is = refl; agrees = stays.agrees }));
      sound = sound;
    })

    place : k.tell.taken - unread_count stays.reader ≡ k.tell.used
    place =
        let way = is.tells s.dialled k here.found in
        let size : unread_count stays.reader ≡ length (unread k.tell) = counted stays.reader (unread k.tell) stays.agrees in
        let a = length-take (k.tell.taken - k.tell.used) (drop k.tell.used k.tell.sent) in
        let d = length-drop k.tell.used k.tell.sent in
        omega (arith, way.used_within, way.taken_within, size, a, d)

    same_link : heard_as b.follow [] k ≡ k
    same_link = ap (λ o. heard_as o [] k) stays.follow
        ∙ (ap (λ z. record k { ask = record k.ask { sent = z }; tell = left_on (unread_count stays.reader) k.tell }) (append-nil k.ask.sent)
        ∙ ap (λ z. record k { tell = record k.tell { used = z } }) place)

    alone : followed w n s k b no_outs ≡ put_node w n s b
    alone = ap (λ z. record w { slots = slice_set w.slots n (record s { node = b; file = z }); links = slice_set w.links s.dialled (heard_as b.follow [] k) }) (append-nil s.file)
        ∙ (ap (λ z. record w { slots = slice_set w.slots n (record s { node = b }); links = slice_set w.links s.dialled z }) same_link
        ∙ ap (λ z. record w { slots = slice_set w.slots n (record s { node = b }); links = z }) (set_same w.links s.dialled k here.found))

-- ---- nothing whole is there
waited : (w : WorldState) (n : ℕ) (s : Slot) (k : Link) (name : LinkId) (b : NodeState) → IsWorld w → IsFollowed w n s k → (r : Waits s.node name b) → Stays s.node r.listens.name (unread k.tell) b
waited w n s k name b is here r = let h = r.listens in let row = h.row (unread k.tell) (agreed w n s k h.name h.follow b is here h.found) in
    record { reader = h.next; follow = ap (λ (z : NodeState). z.follow) r.node ∙ ap (λ (z : CourseState). z.follow) row.is; agrees = row.stays.state.agrees; up = ap (λ (z : NodeState). z.core.up) r.node; ends = ap (λ (z : NodeState). z.ends) r.node }

pub waits_keep : WaitsKeepWorlds
waits_keep w n s k name b is here sound r = keeps w n s k r.listens.name r.listens.follow b is here r.listens.found (waited w n s k name b is here r) sound

pub waits_alone : WaitsChangeNodes
waits_alone w n s k name b is here r = alone w n s k r.listens.name r.listens.follow b is here r.listens.found (waited w n s k name b is here r)

-- ---- memory is lacking
lacked : (w : WorldState) (n : ℕ) (s : Slot) (k : Link) (name : LinkId) (b : NodeState) → IsWorld w → IsFollowed w n s k → (r : Lacks s.node name b) → Stays s.node r.listens.name (unread k.tell) b
lacked w n s k name b is here r = let h = r.listens in let row = h.row (unread k.tell) (agreed w n s k h.name h.follow b is here h.found) in
    record { reader = h.next; follow = ap (λ (z : NodeState). z.follow) r.node ∙ ap (λ (z : CourseState). z.follow) row.is; agrees = row.stays.state.agrees; up = ap (λ (z : NodeState). z.core.up) r.node; ends = ap (λ (z : NodeState). z.ends) r.node }

pub lacks_keep : LacksKeepWorlds
lacks_keep w n s k name b is here sound r = keeps w n s k r.listens.name r.listens.follow b is here r.listens.found (lacked w n s k name b is here r) sound

pub lacks_alone : LacksChangeNodes
lacks_alone w n s k name b is here r = alone w n s k r.listens.name r.listens.follow b is here r.listens.found (lacked w n s k name b is here r)
