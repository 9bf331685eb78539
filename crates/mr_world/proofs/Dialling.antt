-- The end of the node that dialled closes.
use Rattle.std.proofs.Common.{◌≡◌, ◌≢◌, ◌<◌, ◌≤◌, ℕ, true, false, Option, None, Some, Result, Ok, Err, length, get_or, refl, sym, ap, subst, ◌∙◌, arith}
use Rattle.std.specs.Prelude.{slice_get, slice_set}
use Rattle.mr_links.specs.declared.link_id.LinkId.{LinkId}
use Rattle.mr_follower.specs.State.{FollowState}
use Rattle.mr_node_links.specs.State.EndState.{upstream}
use Rattle.mr_node_spec.specs.State.{FollowedAt, end_of}
use Rattle.mr_node_spec.specs.LinkRows.{closed_at}
use Rattle.mr_node_state.proofs.Nodes.{closed_node}
use Rattle.law_refinement.specs.Way.{unread}
use Rattle.law_refinement.specs.State.{Caller, a_client, a_node, Link, Slot, WorldState}
use Rattle.law_refinement.specs.Worlds.{IsWorld}
use Rattle.law_refinement.specs.Carrying.{put_node}
use Rattle.law_refinement.proofs.Places.{is_within, some_is}
use Rattle.law_refinement.proofs.Others.{served_end}
use Rattle.mr_world_parts.specs.AtNode.{IsFollowing}
use Rattle.mr_world_parts.proofs.Places.{stands}
use Rattle.mr_world.specs.declared.refusal.Refusal.{Refusal}
use Rattle.mr_world.specs.declared.refusal.Refusal.TheVariants as refusal
use Rattle.mr_world.specs.Linking.{BreaksOff, DropCall, Drops, FollowerRests, FollowsAt, FollowsBy, IsDialler, NoneFollows}
use Rattle.mr_world.proofs.Changing.{node_world}
use Rattle.mr_world.proofs.Kept.{closed_end, follow_was, reads_without}
use Rattle.mr_world.proofs.Feeding.{not_upstream}

module _ (w : WorldState) (l n : ℕ) (k : Link) (s : Slot) (name : LinkId) (f : FollowState) (is : IsWorld w) (v : FollowsBy w l n k s name f) where
  -- the caller of the link is this node, by this name
  pub its_caller : k.caller ≡ a_node n name
  its_caller = let h = is.followers n s name f v.followed.at v.followed.up v.follows in
      ap (λ (z : Link). z.caller) (some_is k h.link (sym v.followed.found ∙ h.found)) ∙ h.caller

  pub up_end : end_of s.node name ≡ Some upstream
  up_end = subst (λ o. FollowedAt s.node.ends o) v.follows (is.nodes n s v.followed.at v.followed.up).node.followed

  pub drops_world : IsWorld (put_node w n s (closed_at name s.node))
  drops_world = node_world w n s (record s { node = closed_at name s.node }) is v.followed.at (record {
    here = λ j y e to up q.
        let served = served_end w is n s v.followed.at v.followed.up j y e to q in
        (served.0, closed_end s.node name y.name (λ same. not_upstream y.streams served.0 (unread y.ask) (sym up_end ∙ (ap (end_of s.node) (sym same) ∙ served.1))) ∙ served.1);
    sound = λ up. let i = is.nodes n s v.followed.at v.followed.up in
        record { node = closed_node s.node name i.node; window = i.window; id = i.id; second = i.second; upstream = i.upstream; reading = reads_without s.node name s.node.follow i.reading };
    own = λ m g up e. let h = is.followers n s m g v.followed.at v.followed.up (follow_was name s.node.follow (m, g) e) in record { link = h.link; found = h.found; caller = h.caller; agrees = h.agrees };
  })

pub drop_keeps : (w v : WorldState) (l : ℕ) (r : Result (Unit {0}) Refusal) → IsWorld w → DropCall w l v r → IsWorld v
drop_keeps w v l (Ok done) is (BreaksOff.drops c) = subst (λ (z : WorldState). IsWorld z) (sym c.is) (drops_world w l c.number c.link c.slot c.name c.reader is c.by)
drop_keeps w v l (Ok done) is (BreaksOff.rests r same) = subst (λ (z : WorldState). IsWorld z) (sym same) is
drop_keeps w v l (Err refusal.Nobody) is c = subst (λ (z : WorldState). IsWorld z) (sym c.1) is
drop_keeps w v l (Err refusal.TooMuch) is c = absurd c
drop_keeps w v l (Err refusal.InputFull) is c = absurd c
drop_keeps w v l (Err refusal.Memory) is c = absurd c
drop_keeps w v l (Err refusal.Drawn) is c = absurd c

-- ---- whose end it is
abbrev number_of : Caller → ℕ
number_of (a_client b) = 0
number_of (a_node n name) = n

abbrev name_or : LinkId → Caller → LinkId
name_or other (a_client b) = other
name_or other (a_node n name) = name

abbrev pub some_follow : (o : Option (LinkId × FollowState)) → o ≢ None → (x : LinkId × FollowState) × (o ≡ Some x)
some_follow None h = absurd (h refl)
some_follow (Some x) h = (x, refl)

module _ (w : WorldState) (l : ℕ) (x : Link) (within : l < length w.links) (link : x ≡ get_or w.links l x) where
  caller_is : (n : ℕ) (name : LinkId) (k : Link) (s : Slot) → FollowsAt w l n name k s → x.caller ≡ a_node n name
  caller_is n name k s v = ap (λ (z : Link). z.caller) (some_is x k (sym (stands w.links l x within link) ∙ v.found)) ∙ v.caller

  pub none_of_client : ((n : ℕ) (name : LinkId) → x.caller ≡ a_node n name → ⊥) → NoneFollows w l
  none_of_client h n name k s v = h n name (caller_is n name k s v)

  module _ (m : ℕ) (at : LinkId) (caller : x.caller ≡ a_node m at) where
    its_number : (n : ℕ) (name : LinkId) (k : Link) (s : Slot) → FollowsAt w l n name k s → m ≡ n
    its_number n name k s v = ap number_of (sym caller ∙ caller_is n name k s v)

    pub none_there : length w.slots ≤ m → NoneFollows w l
    none_there far n name k s v =
        let same : m ≡ n = its_number n name k s v in
        let near = is_within w.slots n s v.at in omega (arith, far, same, near)

    module _ (y : Slot) (there : m < length w.slots) (slot : y ≡ get_or w.slots m y) where
      pub none_follows : (IsFollowing y l → ⊥) → NoneFollows w l
      none_follows h n name k s v =
          let one : s ≡ y = some_is s y (sym v.at ∙ (ap (slice_get w.slots) (sym (its_number n name k s v)) ∙ stands w.slots m y there slot)) in
          h (subst (λ (z : Slot). IsFollowing z l) one v.following)

      pub dialler_here : IsFollowing y l → IsDialler w l m at
      dialler_here i = record { link = x; slot = y; at = record { found = stands w.links l x within link; caller = caller; at = stands w.slots m y there slot; following = i } }

module _ (w : WorldState) (l n : ℕ) (name : LinkId) (who : IsDialler w l n name) where
  pub slot_within : n < length w.slots
  slot_within = is_within w.slots n who.slot who.at.at

  pub link_within : l < length w.links
  link_within = is_within w.links l who.link who.at.found

  pub slot_is : (y : Slot) → y ≡ get_or w.slots n y → y ≡ who.slot
  slot_is y r = some_is y who.slot (sym (stands w.slots n y slot_within r) ∙ who.at.at)

  pub link_is : (x : Link) → x ≡ get_or w.links l x → x ≡ who.link
  link_is x r = some_is x who.link (sym (stands w.links l x link_within r) ∙ who.at.found)

  module _ (y : Slot) (slot : y ≡ get_or w.slots n y) where
    pub down_here : y.node.core.up ≡ false → who.slot.node.core.up ≡ false
    down_here down = ap (λ (z : Slot). z.node.core.up) (sym (slot_is y slot)) ∙ down

    pub rests_here : y.node.core.up ≡ false → FollowerRests w l
    rests_here down = record { number = n; name = name; who = who; down = down_here down }

    -- it runs, and follows by the link under the name that the link has for it
    pub follows_here : IsWorld w → y.node.core.up ≡ true → (f : FollowState) × FollowsBy w l n who.link who.slot name f
    follows_here is up =
        let o = some_follow who.slot.node.follow who.at.following.follows in
        let by : FollowsBy w l n who.link who.slot o.0.0 o.0.1 = record {
          followed = record {
            at = who.at.at;
            found = ap (slice_get w.links) who.at.following.dialled ∙ who.at.found;
            up = ap (λ (z : Slot). z.node.core.up) (sym (slot_is y slot)) ∙ up;
          };
          follows = o.1;
          dialled = who.at.following.dialled;
        } in
        let named : name ≡ o.0.0 = ap (name_or name) (sym who.at.caller ∙ its_caller w l n who.link who.slot o.0.0 o.0.1 is by) in
        (o.0.1, subst (λ (z : LinkId). FollowsBy w l n who.link who.slot z o.0.1) (sym named) by)

    pub drops_here : IsWorld w → y.node.core.up ≡ true → (x t : Slot) → x ≡ get_or w.slots n x → t ≡ record x { node = closed_at name x.node } → Drops w l (record w { slots = slice_set w.slots n t })
    drops_here is up x t again e =
        let v = follows_here is up in record {
          number = n;
          link = who.link;
          slot = who.slot;
          name = name;
          reader = v.0;
          by = v.1;
          is = ap (λ (z : Slot). record w { slots = slice_set w.slots n z }) (e ∙ ap (λ (z : Slot). record z { node = closed_at name z.node }) (slot_is x again));
        }
