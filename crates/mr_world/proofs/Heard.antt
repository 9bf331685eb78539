-- A step of the node that follows by a link: how its parts make it, and that what is true of each World stays.
use Rattle.std.proofs.Common.{◌≡◌, ◌≢◌, ◌<◌, ◌∙◌, ℕ, List, true, Option, None, Some, Result, Ok, Err, length, get_or, refl, sym, ap, subst}
use Rattle.std.specs.Prelude.{slice_get, slice_set}
use Rattle.std.proofs.lemmas.Option.{none-some}
use Rattle.mr_links.specs.declared.link_id.LinkId.{LinkId}
use Rattle.mr_data.specs.declared.given.Given.{Given}
use Rattle.mr_follower.specs.State.{FollowState}
use Rattle.mr_replication.specs.State.{name_of}
use Rattle.mr_replication.specs.declared.upstream.UpstreamStep.{UpstreamStep}
use Rattle.mr_replication.specs.declared.upstream.UpstreamStep.TheVariants as outcome
use Rattle.mr_node_links.specs.State.{end_at}
use Rattle.mr_node_output.specs.Outs.{OutsState}
use Rattle.mr_node_spec.specs.State.{NodeState, end_of, stopped_as}
use Rattle.mr_node_spec.specs.Sound.{IsSound}
use Rattle.mr_node_spec.specs.UpstreamRows as master
use Rattle.mr_node.specs.Calls.{IsUnread}
use Rattle.mr_node.specs.Steps.{MasterStep, Steps}
use Rattle.mr_node.specs.declared.fault.NodeFault.{NodeFault}
use Rattle.mr_node.specs.declared.step.Step.{Step}
use Rattle.law_refinement.specs.Way.{unread}
use Rattle.law_refinement.specs.State.{Link, Slot, WorldState}
use Rattle.law_refinement.specs.Worlds.{IsWorld}
use Rattle.law_refinement.specs.Carrying.{behind, filed, heard_as, put_node, unread_count}
use Rattle.law_refinement.proofs.Places.{is_within, set_here, some_is}
use Rattle.law_refinement.proofs.Masters.{counted}
use Rattle.law_refinement.proofs.Following.{masters_keep, reads_by}
use Rattle.law_refinement.proofs.Waiting.{agreed, lacks_alone, lacks_keep, waits_alone, waits_keep}
use Rattle.mr_world_parts.specs.AtLink.{heard_by}
use Rattle.mr_world_parts.specs.Memory.{TakesMemory}
use Rattle.mr_world_parts.proofs.Places.{stands, set_twice}
use Rattle.mr_world.specs.declared.refusal.Refusal.{Refusal}
use Rattle.mr_world.specs.declared.refusal.Refusal.TheVariants as refusal
use Rattle.mr_world.specs.Linking.{IsDialler}
use Rattle.mr_world.specs.Following.{FollowCall, Follows, HasHeard, HasLacked, HasSpent, HasWaited, IsFollower}
use Rattle.mr_world.proofs.Kept.{stops_world}
use Rattle.mr_world.proofs.Dialling.{follows_here, up_end}

-- ---- who follows
pub follower_here : (w : WorldState) (l n : ℕ) (name : LinkId) → IsWorld w → IsDialler w l n name → (y : Slot) → y ≡ get_or w.slots n y → y.node.core.up ≡ true → IsFollower w l n name
follower_here w l n name is who y slot up = let v = follows_here w l n name who y slot is up in record { link = who.link; slot = who.slot; reader = v.0; by = v.1 }

-- ---- what is left unread at the link to the master
module _ (w : WorldState) (l n : ℕ) (name : LinkId) (is : IsWorld w) (who : IsFollower w l n name) where
  module _ (came : UpstreamStep) (b : NodeState) (outs : OutsState) (row : master.Hears who.slot.node name came b outs) (left : Option ℕ) (alone : b.follow ≡ None → left ≡ None) (count : b.follow ≢ None → IsUnread b name left) where
    runs : b.core.up ≡ true
    runs = ap (λ (z : NodeState). z.core.up) row.node ∙ who.by.followed.up

    left_by : (o : Option (LinkId × FollowState)) → b.follow ≡ o → heard_by left outs.reply who.link ≡ heard_as o outs.reply who.link
    left_by None e = ap (λ z. heard_by z outs.reply who.link) (alone e)
    left_by (Some p) e =
        let h = row.listens in
        let text = unread who.link.tell in
        let agrees = agreed w n who.slot who.link h.name h.follow b is who.by.followed h.found in
        let reads = reads_by who.slot.node h.name h.follow text h.next row.course b.core.held row.told came (h.row text agrees) p.0 p.1 (sym (ap (λ (z : NodeState). z.follow) row.node) ∙ e) in
        let named : p.0 ≡ name = reads.0 ∙ row.named in
        let found : b.follow ≡ Some (name, p.1) = e ∙ ap (λ (z : LinkId). Some (z, p.1)) named in
        let same : left ≡ Some (unread_count p.1) = (count (λ none. none-some p (sym none ∙ e))).at_master reads.1.rest runs (record { reader = p.1; found = found; agrees = reads.1.agrees }) ∙ ap Some (sym (counted p.1 reads.1.rest reads.1.agrees)) in
        ap (λ z. heard_by z outs.reply who.link) same

    pub heard_is : heard_by left outs.reply who.link ≡ heard_as b.follow outs.reply who.link
    heard_is = left_by b.follow refl

  -- ---- the step
  pub slot_within : n < length w.slots
  slot_within = is_within w.slots n who.slot who.by.followed.at

  pub link_within : l < length w.links
  link_within = is_within w.links l who.link (ap (slice_get w.links) (sym who.by.dialled) ∙ who.by.followed.found)

  slot_is : (x : Slot) → x ≡ get_or w.slots n x → x ≡ who.slot
  slot_is x r = some_is x who.slot (sym (stands w.slots n x slot_within r) ∙ who.by.followed.at)

  link_is : (k : Link) → k ≡ get_or w.links l k → k ≡ who.link
  link_is k r = some_is k who.link (sym (stands w.links l k link_within r) ∙ (ap (slice_get w.links) (sym who.by.dialled) ∙ who.by.followed.found))

  module _ (x t : Slot) (slot : x ≡ get_or w.slots n x) (rest : t ≡ record x { node = t.node }) where
    pub comes_to : (given : Given) (fresh : List ℕ) (r : Result Step NodeFault) → Steps x.node name given fresh t.node r → MasterStep who.slot.node name t.node r
    comes_to given fresh r s =
        let one = slot_is x slot in
        subst (λ (z : Slot). MasterStep z.node name t.node r) one (s.at_master (ap (λ (z : Slot). z.node.core.up) one ∙ who.by.followed.up) (ap (λ (z : Slot). name_of z.node.follow) one ∙ ap name_of who.by.follows))

    whole : t ≡ record who.slot { node = t.node }
    whole = rest ∙ ap (λ (z : Slot). record z { node = t.node }) (slot_is x slot)

    abbrev changed : WorldState
    changed = record w { slots = slice_set w.slots n t }

    put : changed ≡ put_node w n who.slot t.node
    put = ap (λ (z : Slot). record w { slots = slice_set w.slots n z }) whole

    pub waits_here : IsSound t.node → master.Waits who.slot.node name t.node → HasWaited w l changed
    waits_here sound row = record {
      number = n;
      name = name;
      who = who;
      node = t.node;
      row = row;
      sound = sound;
      carried = put ∙ sym (waits_alone w n who.slot who.link name t.node is who.by.followed row);
      is = put;
    }

    pub lacks_here : IsSound t.node → master.Lacks who.slot.node name t.node → HasLacked w l changed
    lacks_here sound row = record {
      number = n;
      name = name;
      who = who;
      node = t.node;
      row = row;
      sound = sound;
      carried = put ∙ sym (lacks_alone w n who.slot who.link name t.node is who.by.followed row);
      is = put;
    }

    pub spends_here : IsSound t.node → master.Spends who.slot.node name t.node → HasSpent w l changed
    spends_here sound row = record {
      number = n;
      name = name;
      who = who;
      node = t.node;
      row = row;
      still = λ none. none-some name (sym (ap name_of none) ∙ sound.node.only name (ap (λ (z : NodeState). end_at z.ends name) row.node ∙ up_end w l n who.link who.slot name who.reader is who.by));
      is = put;
    }

    read : (y : Slot) → y ≡ get_or (slice_set w.slots n t) n y → y ≡ t
    read y again = go (slice_set w.slots n t) (set_here w.slots n t who.slot who.by.followed.at) again
      where
        go : (xs : List Slot) → slice_get xs n ≡ Some t → y ≡ get_or xs n y → y ≡ t
        go xs e r = some_is y t (sym (stands xs n y (is_within xs n t e) r) ∙ e)

    -- the node, as it stands behind what it heard
    module _ (came : UpstreamStep) (some : came ≢ outcome.Idle) (outs : OutsState) (row : master.Hears who.slot.node name came t.node outs) (sound : IsSound t.node) where
      abbrev heard : HasHeard w l
      heard = record { number = n; name = name; who = who; came = came; whole = some; node = t.node; outs = outs; row = row; sound = sound }

      pub carried : (z y g : Slot) (left : Option ℕ) (k m : Link) → z ≡ get_or (slice_set w.slots n t) n z → (z.node.follow ≡ None → left ≡ None) → (z.node.follow ≢ None → IsUnread z.node name left)
          → y ≡ get_or (slice_set w.slots n t) n y → g ≡ record y { file = filed outs y.file }
          → k ≡ get_or w.links l k → m ≡ heard_by left outs.reply k → Follows w l (record w { slots = slice_set (slice_set w.slots n t) n g; links = slice_set w.links l m })
      carried z y g left k m first alone count again f link e =
          let alone_there : t.node.follow ≡ None → left ≡ None = subst (λ (q : Slot). q.node.follow ≡ None → left ≡ None) (read z first) alone in
          let unread_there : t.node.follow ≢ None → IsUnread t.node name left = subst (λ (q : Slot). q.node.follow ≢ None → IsUnread q.node name left) (read z first) count in
          let heard_link : m ≡ heard_as t.node.follow outs.reply who.link = e ∙ (ap (λ q. heard_by left outs.reply q) (link_is k link) ∙ heard_is came t.node outs row left alone_there unread_there) in
          Follows.carries heard (
          ap (λ q. record w { slots = q; links = slice_set w.links l m }) (set_twice w.slots n t g ∙ ap (slice_set w.slots n) (f ∙ ap (λ (q : Slot). record q { file = filed outs q.file }) (read y again ∙ whole)))
          ∙ (ap (λ q. record w { slots = slice_set w.slots n (behind who.slot t.node outs); links = slice_set w.links l q }) heard_link
          ∙ ap (λ q. record w { slots = slice_set w.slots n (behind who.slot t.node outs); links = slice_set w.links q (heard_as t.node.follow outs.reply who.link) }) (sym who.by.dialled)))

      pub failed : TakesMemory outs → (y g z f : Slot) (links : List Link) → y ≡ get_or (slice_set w.slots n t) n y → g ≡ y → z ≡ get_or (slice_set (slice_set w.slots n t) n g) n z → f ≡ record z { node = stopped_as z.node } → links ≡ w.links
          → Follows w l (record w { slots = slice_set (slice_set (slice_set w.slots n t) n g) n f; links = links })
      failed takes y g z f links again same third stops ls =
          let one : g ≡ t = same ∙ read y again in
          let two : z ≡ t = read z (third ∙ ap (λ (q : List Slot). get_or q n z) (set_twice w.slots n t g ∙ ap (slice_set w.slots n) one)) in
          Follows.fails heard takes (
          ap (λ q. record w { slots = slice_set (slice_set (slice_set w.slots n t) n g) n f; links = q }) ls
          ∙ ap (λ q. record w { slots = q }) (set_twice (slice_set w.slots n t) n g f ∙ (set_twice w.slots n t f
          ∙ ap (slice_set w.slots n) (stops ∙ ap (λ (q : Slot). record q { node = stopped_as q.node }) (two ∙ whole)))))

-- ---- what is true of each World stays
follows_keep : (w v : WorldState) (l : ℕ) → IsWorld w → Follows w l v → IsWorld v
follows_keep w v l is (Follows.carries h e) = subst (λ (z : WorldState). IsWorld z) (sym e) (masters_keep w h.number h.who.slot h.who.link h.name h.came h.node h.outs is h.who.by.followed h.sound h.row)
follows_keep w v l is (Follows.fails h takes e) = subst (λ (z : WorldState). IsWorld z) (sym e) (stops_world w h.number h.who.slot (stopped_as h.node) is h.who.by.followed.at refl)
follows_keep w v l is (Follows.waits h) = subst (λ (z : WorldState). IsWorld z) (sym h.carried) (waits_keep w h.number h.who.slot h.who.link h.name h.node is h.who.by.followed h.sound h.row)
follows_keep w v l is (Follows.spends h) = subst (λ (z : WorldState). IsWorld z) (sym h.is) (stops_world w h.number h.who.slot h.node is h.who.by.followed.at (ap (λ (z : NodeState). z.core.up) h.row.node))
follows_keep w v l is (Follows.rests r same) = subst (λ (z : WorldState). IsWorld z) (sym same) is

pub follow_keeps : (w v : WorldState) (l : ℕ) (fresh : List ℕ) (r : Result (Unit {0}) Refusal) → IsWorld w → FollowCall w l fresh v r → IsWorld v
follow_keeps w v l fresh (Ok done) is c = follows_keep w v l is c.1
follow_keeps w v l fresh (Err refusal.Drawn) is c = subst (λ (z : WorldState). IsWorld z) (sym c.1) is
follow_keeps w v l fresh (Err refusal.Nobody) is c = subst (λ (z : WorldState). IsWorld z) (sym c.2) is
follow_keeps w v l fresh (Err refusal.Memory) is c =
    let h = c.1 in subst (λ (z : WorldState). IsWorld z) (sym h.carried) (lacks_keep w h.number h.who.slot h.who.link h.name h.node is h.who.by.followed h.sound h.row)
follow_keeps w v l fresh (Err refusal.TooMuch) is c = absurd c
follow_keeps w v l fresh (Err refusal.InputFull) is c = absurd c
