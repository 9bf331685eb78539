-- Bytes that come at the server's end of a link.
use Rattle.std.proofs.Common.{◌≡◌, ◌≢◌, ◌+◌, ◌<◌, ◌≤◌, ℕ, List, [], ◌++◌, Bool, true, false, Option, None, Some, Result, Ok, Err, length, get_or, take, drop, refl, sym, ap, subst, ◌∙◌, arith}
use Rattle.std.specs.Prelude.{slice_get, slice_set}
use Rattle.std.proofs.lemmas.List.{length-drop, length-take}
use Rattle.mr_links.specs.Links.{Links}
use Rattle.mr_links.specs.declared.link_id.LinkId.{LinkId}
use Rattle.mr_follower.specs.State.{FollowState}
use Rattle.mr_replication.specs.State.{name_of}
use Rattle.mr_node_links.specs.State.{EndState, Transaction, end_at}
use Rattle.mr_node_links.specs.State.EndState.{upstream}
use Rattle.mr_node_spec.specs.State.{NodeState, FollowedAt, IsTooMuch, end_of}
use Rattle.mr_node_spec.specs.Sound.{IsSound}
use Rattle.mr_node_spec.specs.LinkRows.{Feeds}
use Rattle.mr_node.specs.Calls.{FitsMore}
use Rattle.law_refinement.specs.Way.{taken_on, unread}
use Rattle.law_refinement.specs.State.{Link, Slot, WorldState}
use Rattle.law_refinement.specs.Worlds.{IsWorld, end_for}
use Rattle.law_refinement.specs.Events.{IsServed}
use Rattle.law_refinement.specs.Carrying.{fed_server}
use Rattle.law_refinement.proofs.Places.{some_is}
use Rattle.law_refinement.proofs.Unread.{taken_way, unread_taken}
use Rattle.law_refinement.proofs.Unaccepted.{served_not_waiting}
use Rattle.law_refinement.proofs.Others.{served_end}
use Rattle.mr_world_parts.proofs.Room.{no_some}
use Rattle.mr_world_parts.proofs.Places.{stands}
use Rattle.mr_world.specs.declared.refusal.Refusal.{Refusal}
use Rattle.mr_world.specs.declared.refusal.Refusal.TheVariants as refusal
use Rattle.mr_world.specs.Linking.{CanHear, DeliverCall, Delivers, IsOverfull, NeedsRoom}
use Rattle.mr_world.proofs.Changing.{HasEnd, link_world, master_set}

-- ---- a link that is served isn't the one that its node follows
followed_end : (ends : Links EndState) (o : Option (LinkId × FollowState)) (x : LinkId) → FollowedAt ends o → name_of o ≡ Some x → end_at ends x ≡ Some upstream
followed_end ends None x h e = absurd (no_some x e)
followed_end ends (Some f) x h e = ap (end_at ends) (sym (some_is f.0 x e)) ∙ h

pub not_upstream : (b : Bool) (held : Option Transaction) (u : List ℕ) → ◌≡◌ {A = Option EndState} (Some upstream) (Some (end_for b held u)) → ⊥
not_upstream true held u e = cc
not_upstream false None u e = cc
not_upstream false (Some t) u e = cc

module _ (w : WorldState) (l : ℕ) (k : Link) (s : Slot) (is : IsWorld w) (v : IsServed w l k s) where
  pub its_end : HasEnd s.node k
  its_end = served_end w is k.to s v.at v.up l k v.found refl v.serving

  pub unfollowed : name_of s.node.follow ≢ Some k.name
  unfollowed e = not_upstream k.streams its_end.0 (unread k.ask) (sym (followed_end s.node.ends s.node.follow k.name (is.nodes k.to s v.at v.up).node.followed e) ∙ its_end.1)

-- ---- what is true of each World stays
fed_end : (a b : NodeState) (l : LinkId) (streams : Bool) (held : Option Transaction) (u bytes : List ℕ) → Feeds a l bytes b → end_of a l ≡ Some (end_for streams held u)
    → end_of b l ≡ Some (end_for streams held (u ++ bytes))
fed_end a b l true held u bytes f e = (f.at_replica u (record { is = e })).is
fed_end a b l false None u bytes f e = (f.at_client u (record { is = e })).is
fed_end a b l false (Some t) u bytes f e = (f.at_waiting t u (record { is = e })).is

hears_world : (w : WorldState) (l count : ℕ) (k : Link) (s : Slot) (b : NodeState) → IsWorld w → CanHear w l count k s → Feeds s.node k.name (take count (drop k.ask.taken k.ask.sent)) b → IsSound b
    → IsWorld (fed_server w k.to s b l k count)
hears_world w l count k s b is can f sound = link_world w k.to s (record s { node = b }) l k (record k { ask = taken_on count k.ask }) is can.served.at can.served.found (record {
  to = refl;
  name = refl;
  serving = λ q. q;
  ask = taken_way k.ask count (is.asks l k can.served.found) can.sent;
  tell = is.tells l k can.served.found;
  untouched = λ u. absurd (served_not_waiting w is l k can.served.found can.served.serving u);
  here = λ to up q.
      let at = its_end w l k s is can.served in
      (at.0, fed_end s.node b k.name k.streams at.0 (unread k.ask) (take count (drop k.ask.taken k.ask.sent)) f at.1 ∙ ap (λ z. Some (end_for k.streams at.0 z)) (sym (unread_taken k.ask count (is.asks l k can.served.found))));
  others = λ j y ne e to up q.
      let served = served_end w is k.to s can.served.at can.served.up j y e to q in
      (served.0, f.others.stay y.name (λ same. ne (is.names j l y k e can.served.found q can.served.serving to same)) ∙ served.1);
  there = λ ne q. absurd (ne refl);
  sound = λ up. sound;
  own = λ name g up e. let h = is.followers k.to s name g can.served.at can.served.up (sym (f.follow (unfollowed w l k s is can.served)) ∙ e) in
      master_set w l k (record k { ask = taken_on count k.ask }) k.to (record s { node = b }) name g can.served.found (λ c a. (c, a)) (record { link = h.link; found = h.found; caller = h.caller; agrees = h.agrees });
  onward = λ i name g ne c a. (c, a);
})

pub deliver_keeps : (w v : WorldState) (l count : ℕ) (r : Result (Unit {0}) Refusal) → IsWorld w → DeliverCall w l count v r → IsWorld v
deliver_keeps w v l count (Ok done) is c = elim c [
  | Delivers.hears d ↦ subst (λ (z : WorldState). IsWorld z) (sym d.is) (hears_world w l count d.link d.slot d.node is d.can d.feeds d.sound)
  | Delivers.rests d e ↦ subst (λ (z : WorldState). IsWorld z) (sym e) is
]
deliver_keeps w v l count (Err refusal.Nobody) is c = subst (λ (z : WorldState). IsWorld z) (sym c.1) is
deliver_keeps w v l count (Err refusal.TooMuch) is c = subst (λ (z : WorldState). IsWorld z) (sym c.1) is
deliver_keeps w v l count (Err refusal.InputFull) is c = subst (λ (z : WorldState). IsWorld z) (sym c.1) is
deliver_keeps w v l count (Err refusal.Memory) is c = subst (λ (z : WorldState). IsWorld z) (sym c.1) is
deliver_keeps w v l count (Err refusal.Drawn) is c = absurd c

-- ---- how the parts of it make it
pub counted : (n count : ℕ) (xs : List ℕ) → n + count ≤ length xs → length (take count (drop n xs)) ≡ count
counted n count xs h = let a = length-take count (drop n xs) in let d = length-drop n xs in omega (arith, a, d, h)

module _ (w : WorldState) (l to count : ℕ) (k : Link) (within : l < length w.links) (link : k ≡ get_or w.links l k) (at : to ≡ k.to) (serving : k.serving ≡ true) (sent : k.ask.taken + count ≤ length k.ask.sent)
    (x : Slot) (there : to < length w.slots) (slot : x ≡ get_or w.slots to x) where
  found_link : slice_get w.links l ≡ Some k
  found_link = stands w.links l k within link

  found_slot : slice_get w.slots k.to ≡ Some x
  found_slot = ap (slice_get w.slots) (sym at) ∙ stands w.slots to x there slot

  pub rests_unheard : x.node.core.up ≡ false → Delivers w l count w
  rests_unheard down = Delivers.rests (record { link = k; at = record { found = found_link; serving = serving }; sent = sent; down = record { slot = x; at = found_slot; down = down } }) refl

  pub can_hear : x.node.core.up ≡ true → CanHear w l count k x
  can_hear up = record { served = record { found = found_link; serving = serving; at = found_slot; up = up }; sent = sent }

  pub overfull : IsTooMuch x.node k.name count → IsOverfull w l count
  overfull h = record { link = k; slot = x; can = can_hear h.up; over = h }

  pub needs_room : x.node.core.up ≡ true → (bytes : List ℕ) → bytes ≡ take count (drop k.ask.taken k.ask.sent) → bytes ≢ [] → FitsMore x.node k.name count → NeedsRoom w l count
  needs_room up bytes is some fits = record { link = k; slot = x; can = can_hear up; some = λ z. some (is ∙ ap (λ i. take i (drop k.ask.taken k.ask.sent)) z ∙ refl); fits = fits }

  pub has_end : IsWorld w → x.node.core.up ≡ true → (name : LinkId) → name ≡ k.name → end_of x.node name ≡ None → ⊥
  has_end is up name n e = let at = its_end w l k x is (can_hear up).served in no_some (end_for k.streams at.0 (unread k.ask)) (sym e ∙ (ap (end_of x.node) n ∙ at.1))

  pub hears_here : IsWorld w → (t : Slot) (m : Link) (name : LinkId) (bytes : List ℕ) → x.node.core.up ≡ true → name ≡ k.name → bytes ≡ take count (drop k.ask.taken k.ask.sent) → Feeds x.node name bytes t.node → IsSound t.node
      → FitsMore x.node k.name count → t ≡ record x { node = t.node } → m ≡ record k { ask = taken_on count k.ask } → Delivers w l count (record w { slots = slice_set w.slots to t; links = slice_set w.links l m })
  hears_here is t m name bytes up n b f sound fits rest e =
      let feeds : Feeds x.node k.name (take count (drop k.ask.taken k.ask.sent)) t.node = subst (λ z. Feeds x.node k.name z t.node) b (subst (λ (z : LinkId). Feeds x.node z bytes t.node) n f) in
      Delivers.hears (record {
        link = k;
        slot = x;
        can = can_hear up;
        node = t.node;
        feeds = feeds;
        sound = sound;
        few = fits;
        is = ap (λ (z : Link). record w { slots = slice_set w.slots to t; links = slice_set w.links l z }) e
            ∙ (ap (λ i. record w { slots = slice_set w.slots i t; links = slice_set w.links l (record k { ask = taken_on count k.ask }) }) at
            ∙ ap (λ (z : Slot). record w { slots = slice_set w.slots k.to z; links = slice_set w.links l (record k { ask = taken_on count k.ask }) }) rest);
      })
