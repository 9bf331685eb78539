-- Bytes that come at the node that dialled.
use Rattle.std.proofs.Common.{◌≡◌, ◌≢◌, ◌+◌, ◌≤◌, ℕ, List, [], true, false, Bool, Option, None, Some, Result, Ok, Err, length, get_or, take, drop, refl, sym, ap, subst, ◌∙◌}
use Rattle.std.specs.Prelude.{slice_get, slice_set}
use Rattle.mr_links.specs.declared.link_id.LinkId.{LinkId}
use Rattle.mr_follower.specs.State.{FollowState, Agrees}
use Rattle.mr_node_links.specs.State.{EndState, serves}
use Rattle.mr_node_links.specs.State.EndState.{upstream}
use Rattle.mr_node_spec.specs.State.{NodeState, IsTooMuch, end_of}
use Rattle.mr_node_spec.specs.Sound.{IsSound}
use Rattle.mr_node_spec.specs.LinkRows.{Feeds}
use Rattle.law_refinement.specs.Way.{taken_on, unread}
use Rattle.law_refinement.specs.State.{a_node, Link, Slot, WorldState}
use Rattle.law_refinement.specs.Worlds.{IsWorld, HasMaster}
use Rattle.law_refinement.specs.Carrying.{fed_caller}
use Rattle.law_refinement.proofs.Places.{set_here, some_is}
use Rattle.law_refinement.proofs.Unread.{taken_way, unread_taken}
use Rattle.law_refinement.proofs.Unaccepted.{untouched_taken}
use Rattle.law_refinement.proofs.Others.{served_end}
use Rattle.mr_world.specs.declared.refusal.Refusal.{Refusal}
use Rattle.mr_world.specs.declared.refusal.Refusal.TheVariants as refusal
use Rattle.mr_world.specs.Linking.{FollowsBy, IsDialler}
use Rattle.mr_world.specs.Hearing.{IsTold, KeepsTold, ListenCall, Tells, WereNotTold}
use Rattle.mr_world.proofs.Changing.{HasEnd, link_world}
use Rattle.mr_world.proofs.Dialling.{follows_here, its_caller, link_is, down_here, slot_is, up_end}
use Rattle.mr_world.proofs.Feeding.{not_upstream}

same_number : (i n : ℕ) (a b : LinkId) → a_node i a ≡ a_node n b → i ≡ n
same_number i n a b e = cc

module _ (w : WorldState) (l n : ℕ) (k : Link) (s : Slot) (name : LinkId) (f : FollowState) (count : ℕ) (b : NodeState) (is : IsWorld w) (t : IsTold w l count n k s name f)
    (feeds : Feeds s.node name (take count (drop k.tell.taken k.tell.sent)) b) (sound : IsSound b) where
  found : slice_get w.links l ≡ Some k
  found = ap (slice_get w.links) (sym t.by.dialled) ∙ t.by.followed.found

  -- the ends of the links that the node serves stay
  serves_still : (j : ℕ) (y : Link) → slice_get w.links j ≡ Some y → y.to ≡ n → y.serving ≡ true → HasEnd b y
  serves_still j y e to q =
      let here = served_end w is n s t.by.followed.at t.by.followed.up j y e to q in
      (here.0, feeds.others.stay y.name (λ same. not_upstream y.streams here.0 (unread y.ask) (sym (up_end w l n k s name f is t.by) ∙ (ap (end_of s.node) (sym same) ∙ here.1))) ∙ here.1)

  -- what reads at the link to the master agrees with what is unread there now
  reads_on : (m : LinkId) (g : FollowState) → b.follow ≡ Some (m, g) → HasMaster (slice_set w.links l (record k { tell = taken_on count k.tell })) n (record s { node = b }) m g
  reads_on m g e =
      let h = is.followers n s name f t.by.followed.at t.by.followed.up t.by.follows in
      let one : h.link ≡ k = some_is h.link k (sym h.found ∙ t.by.followed.found) in
      let more = feeds.at_master (unread k.tell) (record { reader = f; found = t.by.follows; agrees = subst (λ (z : Link). Agrees f (unread z.tell)) one h.agrees }) in
      let same = some_is (name, more.reader) (m, g) (sym more.found ∙ e) in
      record {
        link = record k { tell = taken_on count k.tell };
        found = ap (slice_get (slice_set w.links l (record k { tell = taken_on count k.tell }))) t.by.dialled ∙ set_here w.links l (record k { tell = taken_on count k.tell }) k found;
        caller = its_caller w l n k s name f is t.by ∙ ap (λ (p : LinkId × FollowState). a_node n p.0) same;
        agrees = subst (λ (p : LinkId × FollowState). Agrees p.1 (unread (taken_on count k.tell))) same (subst (Agrees more.reader) (sym (unread_taken k.tell count (is.tells l k found))) more.agrees);
      }

  pub listens_world : IsWorld (fed_caller w n s b l k count)
  listens_world = link_world w n s (record s { node = b }) l k (record k { tell = taken_on count k.tell }) is t.by.followed.at found (record {
    to = refl;
    name = refl;
    serving = λ q. q;
    ask = is.asks l k found;
    tell = taken_way k.tell count (is.tells l k found) t.sent;
    untouched = λ u. untouched_taken k count t.sent (is.untouched l k found u);
    here = λ to up q. serves_still l k found to q;
    others = λ j y ne e to up q. serves_still j y e to q;
    there = λ ne q held. refl;
    sound = λ up. sound;
    own = λ m g up e. reads_on m g e;
    onward = λ i m g ne c a. absurd (ne (same_number i n m name (sym c ∙ its_caller w l n k s name f is t.by)));
  })

pub listen_keeps : (w v : WorldState) (l count : ℕ) (r : Result (Unit {0}) Refusal) → IsWorld w → ListenCall w l count v r → IsWorld v
listen_keeps w v l count (Ok done) is (Tells.listens c) = subst (λ (z : WorldState). IsWorld z) (sym c.is) (listens_world w l c.number c.link c.slot c.name c.reader count c.node is c.told c.feeds c.sound)
listen_keeps w v l count (Ok done) is (Tells.rests r same) = subst (λ (z : WorldState). IsWorld z) (sym same) is
listen_keeps w v l count (Err refusal.Nobody) is c = subst (λ (z : WorldState). IsWorld z) (sym c.1) is
listen_keeps w v l count (Err refusal.TooMuch) is c = subst (λ (z : WorldState). IsWorld z) (sym c.1) is
listen_keeps w v l count (Err refusal.Memory) is c = subst (λ (z : WorldState). IsWorld z) (sym c.1) is
listen_keeps w v l count (Err refusal.InputFull) is c = absurd c
listen_keeps w v l count (Err refusal.Drawn) is c = absurd c

-- ---- how the parts of it make it
no_end : (e : EndState) → ◌≡◌ {A = Option EndState} None (Some e) → ⊥
no_end e h = cc

-- of the end of the link to the master no number of bytes is too much
never_full : (end : EndState) → ◌≡◌ {A = Option EndState} (Some upstream) (Some end) → serves end ≡ true → ⊥
never_full end e h = let one : upstream ≡ end = some_is upstream end e in let wrong : false ≡ true = ap serves one ∙ h in cc

module _ (w : WorldState) (l n : ℕ) (name : LinkId) (who : IsDialler w l n name) (k : Link) (link : k ≡ get_or w.links l k) (count : ℕ) where
  one_link : k ≡ who.link
  one_link = link_is w l n name who k link

  were_told : k.tell.taken + count ≤ length k.tell.sent → who.link.tell.taken + count ≤ length who.link.tell.sent
  were_told = subst (λ (z : Link). k.tell.taken + count ≤ length k.tell.sent → z.tell.taken + count ≤ length z.tell.sent) one_link (λ h. h)

  pub not_told : (b : Bool) → b ≡ false → (k.tell.taken + count ≤ length k.tell.sent → b ≡ true) → WereNotTold w l count
  not_told b is_not if_so = record {
    number = n;
    name = name;
    who = who;
    fewer = subst (λ (z : Link). z.tell.taken + count ≤ length z.tell.sent → ⊥) one_link (λ h. let wrong : false ≡ true = sym is_not ∙ if_so h in cc);
  }

  module _ (y : Slot) (slot : y ≡ get_or w.slots n y) (sent : k.tell.taken + count ≤ length k.tell.sent) where
    pub untold_here : y.node.core.up ≡ false → Tells w l count w
    untold_here down = Tells.rests (record { rests = record { number = n; name = name; who = who; down = down_here w l n name who y slot down }; sent = were_told sent }) refl

    module _ (is : IsWorld w) (up : y.node.core.up ≡ true) (x : Slot) (again : x ≡ get_or w.slots n x) where
      by : (f : FollowState) × FollowsBy w l n who.link who.slot name f
      by = follows_here w l n name who y slot is up

      one_slot : x ≡ who.slot
      one_slot = slot_is w l n name who x again

      runs : x.node.core.up ≡ true
      runs = ap (λ (z : Slot). z.node.core.up) one_slot ∙ by.1.followed.up

      pub runs_still : x.node.core.up ≡ false → ⊥
      runs_still down = let wrong : false ≡ true = sym down ∙ runs in cc

      its_end : end_of x.node name ≡ Some upstream
      its_end = ap (λ (z : Slot). end_of z.node name) one_slot ∙ up_end w l n who.link who.slot name by.0 is by.1

      pub has_end : end_of x.node name ≡ None → ⊥
      has_end e = no_end upstream (sym e ∙ its_end)

      pub not_full : (size : ℕ) → IsTooMuch x.node name size → ⊥
      not_full size h = never_full h.end (sym its_end ∙ h.found) h.served

      module _ (bytes : List ℕ) (taken : bytes ≡ take count (drop k.tell.taken k.tell.sent)) where
        from_link : bytes ≡ take count (drop who.link.tell.taken who.link.tell.sent)
        from_link = taken ∙ ap (λ (z : Link). take count (drop z.tell.taken z.tell.sent)) one_link

        pub keeps_told : bytes ≢ [] → KeepsTold w l count
        keeps_told some = record {
          number = n;
          link = who.link;
          slot = who.slot;
          name = name;
          reader = by.0;
          told = record { by = by.1; sent = were_told sent };
          some = λ z. some (from_link ∙ (ap (λ c. take c (drop who.link.tell.taken who.link.tell.sent)) z ∙ refl));
        }

        pub listens_here : (t : Slot) (m : Link) → Feeds x.node name bytes t.node → IsSound t.node → t ≡ record x { node = t.node } → m ≡ record k { tell = taken_on count k.tell }
            → Tells w l count (record w { slots = slice_set w.slots n t; links = slice_set w.links l m })
        listens_here t m feeds sound rest e = Tells.listens (record {
          number = n;
          link = who.link;
          slot = who.slot;
          name = name;
          reader = by.0;
          told = record { by = by.1; sent = were_told sent };
          node = t.node;
          feeds = subst (λ z. Feeds who.slot.node name z t.node) from_link (subst (λ (z : Slot). Feeds z.node name bytes t.node) one_slot feeds);
          sound = sound;
          is = ap (λ (z : Link). record w { slots = slice_set w.slots n t; links = slice_set w.links l z }) (e ∙ ap (λ (z : Link). record z { tell = taken_on count z.tell }) one_link)
              ∙ ap (λ (z : Slot). record w { slots = slice_set w.slots n z; links = slice_set w.links l (record who.link { tell = taken_on count who.link.tell }) }) (rest ∙ ap (λ (z : Slot). record z { node = t.node }) one_slot);
        })
