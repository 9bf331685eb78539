-- What is true of a World is kept by a step at an end that a node serves.
use Rattle.std.proofs.Common.{◌≡◌, ◌≢◌, ◌⊎◌, inl, inr, ℕ, List, ◌++◌, Bool, true, false, ◌==◌, ◌&&◌, Option, None, Some, length, map, refl, sym, ap, subst, ◌∙◌, arith}
use Rattle.std.specs.Prelude.{slice_get, slice_set}
use Rattle.std.specs.Option.{option_map}
use Rattle.std.proofs.lemmas.Option.{slice_get-map}
use Rattle.mr_links.specs.declared.link_id.LinkId.{LinkId}
use Rattle.mr_follower.specs.State.{FollowState, Agrees}
use Rattle.mr_node_links.specs.State.{EndState, Transaction, end_at}
use Rattle.mr_node_links.specs.State.EndState.{client, waiting, replica, upstream, shut}
use Rattle.mr_node_links.specs.Replicas.{is_named}
use Rattle.mr_node_output.specs.Outs.{OutsState}
use Rattle.mr_node_spec.specs.State.{NodeState, end_of}
use Rattle.mr_node_spec.specs.Sound.{IsSound}
use Rattle.law_refinement.specs.Way.{WayState, IsWay, unread, left_on, sent_on}
use Rattle.law_refinement.specs.State.{Link, Slot, WorldState}
use Rattle.law_refinement.specs.Worlds.{IsUntouched, IsWorld, HasServer, HasMaster, end_for}
use Rattle.law_refinement.specs.Carrying.{is_at, fed_if, shut_if, reached, told, settled, behind, stepped, said_by, said_on, ticked}
use Rattle.mr_node_spec.specs.TimeRows.{TickRow}
use Rattle.law_refinement.specs.Events.{IsServed, TicksKeepWorlds}
use Rattle.law_refinement.proofs.Places.{set_here, set_there, set_cases, some_is}
use Rattle.law_refinement.proofs.Unread.{sent_way, unread_sent, left_used, rest_of}
use Rattle.law_refinement.proofs.Reading.{number_or}
use Rattle.law_refinement.proofs.Open.{eqb_yes}
use Rattle.law_refinement.proofs.Unaccepted.{none_reached, served_waits}
use Rattle.law_refinement.proofs.Others.{Apart, and_third, served_end}

-- the same link, on which something may have been sent
record Same (x y : Link) : Type 0 where
  waits : y.waits ≡ x.waits
  to : y.to ≡ x.to
  name : y.name ≡ x.name
  caller : y.caller ≡ x.caller
  way : IsWay x.tell → IsWay y.tell
  heard : IsWay x.tell → unread y.tell ≡ unread x.tell
  serving : y.serving ≡ true → x.serving ≡ true

-- .. whose server's end is what it was
record Kept (c : Bool) (x y : Link) : Type 0 where
  same : Same x y
  streams : y.streams ≡ x.streams
  ask : y.ask ≡ x.ask
  open_now : y.serving ≡ true → c ≡ false

kept_one : (c d : Bool) (bytes : List ℕ) (x : Link) → Kept c x (shut_if c (fed_if d bytes x))
kept_one true true bytes x = record { same = record { waits = refl; to = refl; name = refl; caller = refl; way = λ h. sent_way x.tell bytes h; heard = λ h. unread_sent x.tell bytes h; serving = λ e. absurd (cc) }; streams = refl; ask = refl; open_now = λ e. sym e }
kept_one true false bytes x = record { same = record { waits = refl; to = refl; name = refl; caller = refl; way = λ h. h; heard = λ h. refl; serving = λ e. absurd (cc) }; streams = refl; ask = refl; open_now = λ e. sym e }
kept_one false true bytes x = record { same = record { waits = refl; to = refl; name = refl; caller = refl; way = λ h. sent_way x.tell bytes h; heard = λ h. unread_sent x.tell bytes h; serving = λ e. e }; streams = refl; ask = refl; open_now = λ e. refl }
kept_one false false bytes x = record { same = record { waits = refl; to = refl; name = refl; caller = refl; way = λ h. h; heard = λ h. refl; serving = λ e. e }; streams = refl; ask = refl; open_now = λ e. refl }

left_way : (w : WayState) (n : ℕ) → IsWay w → IsWay (left_on n w)
left_way w n h = record { used_within = omega arith; taken_within = h.taken_within }

-- the link on which the step was made
record Stepped (o : Option EndState) (x y : Link) : Type 0 where
  same : Same x y
  ask : IsWay x.ask → IsWay y.ask
  agrees : IsWay x.ask → ((streams : Bool) (held : Option Transaction) (u : List ℕ) → o ≡ Some (end_for streams held u) → (text : List ℕ) × (unread x.ask ≡ text ++ u)) → y.serving ≡ true
      → (held : Option Transaction) × (o ≡ Some (end_for y.streams held (unread y.ask)))

stepped_one : (o : Option EndState) (reply : List ℕ) (x : Link) → x.serving ≡ true → Stepped o x (settled o (told reply x))
stepped_one None reply x open_now = record { same = record { waits = refl; to = refl; name = refl; caller = refl; way = λ h. sent_way x.tell reply h; heard = λ h. unread_sent x.tell reply h; serving = λ e. open_now }; ask = λ h. h; agrees = λ h t e. absurd (cc) }
stepped_one (Some (client u)) reply x open_now = record {
  same = record { waits = refl; to = refl; name = refl; caller = refl; way = λ h. sent_way x.tell reply h; heard = λ h. unread_sent x.tell reply h; serving = λ e. open_now };
  ask = λ h. left_way x.ask (length u) h;
  agrees = λ h t e. let q = t false None u refl in (None, ap (λ z. Some (client z)) (sym (ap unread (left_used x.ask q.0 u (length u) h q.1 refl) ∙ rest_of x.ask q.0 u q.1)));
}
stepped_one (Some (waiting t u)) reply x open_now = record {
  same = record { waits = refl; to = refl; name = refl; caller = refl; way = λ h. sent_way x.tell reply h; heard = λ h. unread_sent x.tell reply h; serving = λ e. open_now };
  ask = λ h. left_way x.ask (length u) h;
  agrees = λ h f e. let q = f false (Some t) u refl in (Some t, ap (λ z. Some (waiting t z)) (sym (ap unread (left_used x.ask q.0 u (length u) h q.1 refl) ∙ rest_of x.ask q.0 u q.1)));
}
stepped_one (Some (replica u)) reply x open_now = record {
  same = record { waits = refl; to = refl; name = refl; caller = refl; way = λ h. sent_way x.tell reply h; heard = λ h. unread_sent x.tell reply h; serving = λ e. open_now };
  ask = λ h. left_way x.ask (length u) h;
  agrees = λ h t e. let q = t true None u refl in (None, ap (λ z. Some (replica z)) (sym (ap unread (left_used x.ask q.0 u (length u) h q.1 refl) ∙ rest_of x.ask q.0 u q.1)));
}
stepped_one (Some upstream) reply x open_now = record { same = record { waits = refl; to = refl; name = refl; caller = refl; way = λ h. sent_way x.tell reply h; heard = λ h. unread_sent x.tell reply h; serving = λ e. open_now }; ask = λ h. h; agrees = λ h t e. absurd (cc) }
stepped_one (Some shut) reply x open_now = record { same = record { waits = refl; to = refl; name = refl; caller = refl; way = λ h. sent_way x.tell reply h; heard = λ h. unread_sent x.tell reply h; serving = λ e. open_now }; ask = λ h. h; agrees = λ h t e. absurd (cc) }

back : (f : Link → Link) (o : Option Link) (y : Link) → option_map f o ≡ Some y → (x : Link) × (o ≡ Some x) × (f x ≡ y)
back f None y e = absurd (cc)
back f (Some x) y e = (x, refl, some_is (f x) y e)

-- What a step does to the node: its own end has an end of what was unread there; the other ends that it serves stay, but for those that are
-- closed; it follows whom it followed, or nobody; and it is sound.
pub record Turned (a : NodeState) (name : LinkId) (u : List ℕ) (b : NodeState) (outs : OutsState) : Type 0 where
  pub left : (streams : Bool) (held : Option Transaction) (v : List ℕ) → end_of b name ≡ Some (end_for streams held v) → (text : List ℕ) × (u ≡ text ++ v)
  pub apart : Apart a name b outs
  pub follow : (f : LinkId × FollowState) → b.follow ≡ Some f → a.follow ≡ Some f
  pub sound : b.core.up ≡ true → IsSound b

module _ (w : WorldState) (is : IsWorld w) (l : ℕ) (k : Link) (s : Slot) (b : NodeState) (outs : OutsState) (served : IsServed w l k s) (turned : Turned s.node k.name (unread k.ask) b outs) where
  abbrev V : WorldState
  V = stepped w k.to s l k b outs

  abbrev m : Link
  m = settled (end_of b k.name) (told outs.reply k)

  here : Stepped (end_of b k.name) k m
  here = stepped_one (end_of b k.name) outs.reply k served.serving

  there : (x : Link) → Kept (is_at k.to x && is_named outs.closed x.name) x (reached k.to outs x)
  there x = kept_one (is_at k.to x && is_named outs.closed x.name) (is_at k.to x && is_named outs.fed x.name) outs.grown x

  -- a link behind the step is one before it
  abbrev Origin : ℕ → Link → Type 0
  Origin j y = ((j ≡ l) × (y ≡ m)) ⊎ ((j ≢ l) × ((x : Link) × (slice_get w.links j ≡ Some x) × (reached k.to outs x ≡ y)))

  origin : (j : ℕ) (y : Link) → slice_get V.links j ≡ Some y → Origin j y
  origin j y e = go (set_cases (map (reached k.to outs) w.links) l j m y e)
    where
      go : ((j ≡ l) × (y ≡ m)) ⊎ ((j ≢ l) × (slice_get (map (reached k.to outs) w.links) j ≡ Some y)) → Origin j y
      go (inl p) = inl p
      go (inr p) = inr (p.0, back (reached k.to outs) (slice_get w.links j) y (sym (slice_get-map (reached k.to outs) w.links j) ∙ p.1))

  same_of : (j : ℕ) (y : Link) → Origin j y → (x : Link) × (slice_get w.links j ≡ Some x) × Same x y
  same_of j y (inl p) = (k, ap (slice_get w.links) p.0 ∙ served.found, subst (λ z. Same k z) (sym p.1) here.same)
  same_of j y (inr p) = (p.1.0, p.1.1, subst (λ z. Same p.1.0 z) p.1.2 (there p.1.0).same)

  -- .. and a link before it is one behind it
  onward : (j : ℕ) (x : Link) → slice_get w.links j ≡ Some x → (y : Link) × (slice_get V.links j ≡ Some y) × Same x y
  onward j x e = elim (number_or j l) [
    | inl same ↦ (let one : k ≡ x = some_is k x (sym served.found ∙ (ap (slice_get w.links) (sym same) ∙ e)) in
        (m, ap (slice_get V.links) same ∙ set_here (map (reached k.to outs) w.links) l m (reached k.to outs k) (slice_get-map (reached k.to outs) w.links l ∙ ap (option_map (reached k.to outs)) served.found), subst (λ z. Same z m) one here.same))
    | inr apart ↦ (reached k.to outs x, set_there (map (reached k.to outs) w.links) l j m apart ∙ (slice_get-map (reached k.to outs) w.links j ∙ ap (option_map (reached k.to outs)) e), (there x).same)
  ]

  found_here : slice_get V.slots k.to ≡ Some (behind s b outs)
  found_here = set_here w.slots k.to (behind s b outs) s served.at

  server_of : (j : ℕ) (y : Link) → Origin j y → HasServer V.slots y
  server_of j y (inl p) = subst (λ z. HasServer V.slots z) (sym p.1) (record {
    slot = behind s b outs;
    found = ap (slice_get V.slots) here.same.to ∙ found_here;
    agrees = λ up q. let e = here.agrees (is.asks l k served.found) turned.left q in (e.0, ap (end_of b) here.same.name ∙ e.1);
  })
  server_of j y (inr p) = subst (λ z. HasServer V.slots z) p.1.2 (go (number_or p.1.0.to k.to))
    where
      go : (p.1.0.to ≡ k.to) ⊎ (p.1.0.to ≢ k.to) → HasServer V.slots (reached k.to outs p.1.0)
      go (inl at) = let t = there p.1.0 in record {
        slot = behind s b outs;
        found = ap (slice_get V.slots) (t.same.to ∙ at) ∙ found_here;
        agrees = λ up q.
            let open_now = t.same.serving q in
            let apart : p.1.0.name ≢ k.name = λ n. p.0 (is.names j l p.1.0 k p.1.1 served.found open_now served.serving at n) in
            let unnamed = and_third (p.1.0.to == k.to) p.1.0.serving (is_named outs.closed p.1.0.name) (t.open_now q) (eqb_yes p.1.0.to k.to at) open_now in
            let e = served_end w is k.to s served.at served.up j p.1.0 p.1.1 at open_now in (
              e.0,
              ap (end_of b) t.same.name
                  ∙ (turned.apart.others p.1.0.name p.1.0.streams e.0 (unread p.1.0.ask) apart unnamed e.1
                  ∙ (ap (λ z. Some (end_for z e.0 (unread p.1.0.ask))) (sym t.streams) ∙ ap (λ z. Some (end_for (reached k.to outs p.1.0).streams e.0 (unread z))) (sym t.ask))),
            );
      }
      go (inr ne) = let t = there p.1.0 in let h = is.servers j p.1.0 p.1.1 in record {
        slot = h.slot;
        found = ap (slice_get V.slots) t.same.to ∙ (set_there w.slots k.to p.1.0.to (behind s b outs) ne ∙ h.found);
        agrees = λ up q. let e = h.agrees up (t.same.serving q) in (
          e.0,
          ap (end_of h.slot.node) t.same.name
              ∙ (e.1 ∙ (ap (λ z. Some (end_for z e.0 (unread p.1.0.ask))) (sym t.streams) ∙ ap (λ z. Some (end_for (reached k.to outs p.1.0).streams e.0 (unread z))) (sym t.ask))),
        );
      }

  ask_of : (j : ℕ) (y : Link) → Origin j y → IsWay y.ask
  ask_of j y (inl p) = subst (λ (z : Link). IsWay z.ask) (sym p.1) (here.ask (is.asks l k served.found))
  ask_of j y (inr p) = subst (λ (z : Link). IsWay z.ask) p.1.2 (subst IsWay (sym (there p.1.0).ask) (is.asks j p.1.0 p.1.1))

  master_of : (n : ℕ) (t t' : Slot) (name : LinkId) (f : FollowState) → t'.dialled ≡ t.dialled → HasMaster w.links n t name f → HasMaster V.links n t' name f
  master_of n t t' name f d h = let y = onward t.dialled h.link h.found in record {
    link = y.0;
    found = ap (slice_get V.links) d ∙ y.1;
    caller = y.2.caller ∙ h.caller;
    agrees = subst (λ u. Agrees f u) (sym (y.2.heard (is.tells t.dialled h.link h.found))) h.agrees;
  }

  -- a link that waits is another than that of the step, and isn't reached
  untouched_of : (j : ℕ) (y : Link) → Origin j y → y.waits ≡ true → IsUntouched y
  untouched_of j y (inl p) u =
      let wrong : false ≡ true = sym (served_waits w is l k served.found served.serving) ∙ (sym here.same.waits ∙ (ap (λ (z : Link). z.waits) (sym p.1) ∙ u)) in absurd (cc)
  untouched_of j y (inr p) u =
      let x = p.1.0 in
      let h = is.untouched j x p.1.1 (sym (there x).same.waits ∙ (ap (λ (z : Link). z.waits) p.1.2 ∙ u)) in
      subst IsUntouched (sym (none_reached x h.serving k.to outs) ∙ p.1.2) h

  pub kept_stepped : IsWorld V
  kept_stepped = record {
    asks = λ j y e. ask_of j y (origin j y e);
    tells = λ j y e. let x = same_of j y (origin j y e) in x.2.way (is.tells j x.0 x.1);
    servers = λ j y e. server_of j y (origin j y e);
    untouched = λ j y e. untouched_of j y (origin j y e);
    names = λ i j y z e f p q t n.
        let x = same_of i y (origin i y e) in
        let v = same_of j z (origin j z f) in
        is.names i j x.0 v.0 x.1 v.1 (x.2.serving p) (v.2.serving q) (sym x.2.to ∙ (t ∙ v.2.to)) (sym x.2.name ∙ (n ∙ v.2.name));
    nodes = λ n t e u. node_of n t (set_cases w.slots k.to n (behind s b outs) t e) u;
    followers = λ n t name f e u q. follower_of n t name f (set_cases w.slots k.to n (behind s b outs) t e) u q;
  }
    where
      node_of : (n : ℕ) (t : Slot) → ((n ≡ k.to) × (t ≡ behind s b outs)) ⊎ ((n ≢ k.to) × (slice_get w.slots n ≡ Some t)) → t.node.core.up ≡ true → IsSound t.node
      node_of n t (inl p) u = subst (λ (z : Slot). IsSound z.node) (sym p.1) (turned.sound (subst (λ (z : Slot). z.node.core.up ≡ true) p.1 u))
      node_of n t (inr p) u = is.nodes n t p.1 u

      follower_of : (n : ℕ) (t : Slot) (name : LinkId) (f : FollowState) → ((n ≡ k.to) × (t ≡ behind s b outs)) ⊎ ((n ≢ k.to) × (slice_get w.slots n ≡ Some t)) → t.node.core.up ≡ true → t.node.follow ≡ Some (name, f) → HasMaster V.links n t name f
      follower_of n t name f (inl p) u q =
          let before = turned.follow (name, f) (ap (λ (z : Slot). z.node.follow) (sym p.1) ∙ q) in
          master_of n s t name f (ap (λ (z : Slot). z.dialled) p.1) (is.followers n s name f (ap (slice_get w.slots) p.0 ∙ served.at) served.up before)
      follower_of n t name f (inr p) u q = master_of n t t name f refl (is.followers n t name f p.1 u q)

-- ---- a tick
-- the same link, on which something may have been sent either way
record Ticked (x y : Link) : Type 0 where
  same : Same x y
  untouched : IsUntouched x → IsUntouched y
  streams : y.streams ≡ x.streams
  way : IsWay x.ask → IsWay y.ask
  asked : IsWay x.ask → unread y.ask ≡ unread x.ask

ticked_one : (n : ℕ) (outs : OutsState) (x : Link) → Ticked x (reached n outs x)
ticked_one n outs x = let k = kept_one (is_at n x && is_named outs.closed x.name) (is_at n x && is_named outs.fed x.name) outs.grown x in
    record { same = k.same; untouched = λ h. subst IsUntouched (sym (none_reached x h.serving n outs)) h; streams = k.streams; way = λ h. subst IsWay (sym k.ask) h; asked = λ h. ap unread k.ask }

said_one : (x y : Link) (reply : List ℕ) → Ticked x y → Ticked x (record y { ask = sent_on reply y.ask })
said_one x y reply t = record {
  same = record { waits = t.same.waits; to = t.same.to; name = t.same.name; caller = t.same.caller; way = t.same.way; heard = t.same.heard; serving = t.same.serving };
  untouched = λ h. let u = t.untouched h in record { serving = u.serving; streams = u.streams; ask = u.ask; tell = u.tell };
  streams = t.streams;
  way = λ h. sent_way y.ask reply (t.way h);
  asked = λ h. unread_sent y.ask reply (t.way h) ∙ t.asked h;
}

module _ (w : WorldState) (is : IsWorld w) (n : ℕ) (s : Slot) (b : NodeState) (outs : OutsState) (at : slice_get w.slots n ≡ Some s) (up : s.node.core.up ≡ true)
    (ends : (q : LinkId) → end_of b q ≡ end_of s.node q) (follow : b.follow ≡ s.node.follow) (sound : IsSound b) where
  abbrev T : WorldState
  T = ticked w n s b outs

  abbrev From : List Link → Type 0
  From links = (j : ℕ) (y : Link) → slice_get links j ≡ Some y → (x : Link) × (slice_get w.links j ≡ Some x) × Ticked x y

  abbrev To : List Link → Type 0
  To links = (j : ℕ) (x : Link) → slice_get w.links j ≡ Some x → (y : Link) × (slice_get links j ≡ Some y) × Ticked x y

  from_reached : From (map (reached n outs) w.links)
  from_reached j y e = let x = back (reached n outs) (slice_get w.links j) y (sym (slice_get-map (reached n outs) w.links j) ∙ e) in (x.0, x.1, subst (λ z. Ticked x.0 z) x.2 (ticked_one n outs x.0))

  to_reached : To (map (reached n outs) w.links)
  to_reached j x e = (reached n outs x, slice_get-map (reached n outs) w.links j ∙ ap (option_map (reached n outs)) e, ticked_one n outs x)

  module _ (links : List Link) (from : From links) (to : To links) (l : ℕ) (reply : List ℕ) where
    from_said : (z : Link) → slice_get links l ≡ Some z → From (slice_set links l (record z { ask = sent_on reply z.ask }))
    from_said z f j y e = go (set_cases links l j (record z { ask = sent_on reply z.ask }) y e)
      where
        go : ((j ≡ l) × (y ≡ record z { ask = sent_on reply z.ask })) ⊎ ((j ≢ l) × (slice_get links j ≡ Some y)) → (x : Link) × (slice_get w.links j ≡ Some x) × Ticked x y
        go (inl p) = let x = from l z f in (x.0, ap (slice_get w.links) p.0 ∙ x.1, subst (λ v. Ticked x.0 v) (sym p.1) (said_one x.0 z reply x.2))
        go (inr p) = from j y p.1

    to_said : (z : Link) → slice_get links l ≡ Some z → To (slice_set links l (record z { ask = sent_on reply z.ask }))
    to_said z f j x e = go (number_or j l) (to j x e)
      where
        go : (j ≡ l) ⊎ (j ≢ l) → ((y : Link) × (slice_get links j ≡ Some y) × Ticked x y) → (y : Link) × (slice_get (slice_set links l (record z { ask = sent_on reply z.ask })) j ≡ Some y) × Ticked x y
        go (inl same) y = let one : y.0 ≡ z = some_is y.0 z (sym y.1 ∙ (ap (slice_get links) same ∙ f)) in
            (record z { ask = sent_on reply z.ask }, ap (slice_get (slice_set links l (record z { ask = sent_on reply z.ask }))) same ∙ set_here links l (record z { ask = sent_on reply z.ask }) z f, said_one x z reply (subst (λ v. Ticked x v) one y.2))
        go (inr ne) y = (y.0, set_there links l j (record z { ask = sent_on reply z.ask }) ne ∙ y.1, y.2)

    by_link : (o : Option Link) → slice_get links l ≡ o → From (said_by o l reply links) × To (said_by o l reply links)
    by_link None e = (from, to)
    by_link (Some z) e = (from_said z e, to_said z e)

    by_name : (o : Option LinkId) → From (said_on o l reply links) × To (said_on o l reply links)
    by_name None = (from, to)
    by_name (Some name) = by_link (slice_get links l) refl

  both_ways : From T.links × To T.links
  both_ways = by_name (map (reached n outs) w.links) from_reached to_reached s.dialled outs.reply outs.link

  server_at : (j : ℕ) (x y : Link) → slice_get w.links j ≡ Some x → Ticked x y → (x.to ≡ n) ⊎ (x.to ≢ n) → HasServer T.slots y
  server_at j x y e h (inl here_at) = record {
    slot = behind s b outs;
    found = ap (slice_get T.slots) (h.same.to ∙ here_at) ∙ set_here w.slots n (behind s b outs) s at;
    agrees = λ u q. let its = served_end w is n s at up j x e here_at (h.same.serving q) in (
      its.0,
      ap (end_of b) h.same.name
          ∙ (ends x.name ∙ (its.1 ∙ (ap (λ z. Some (end_for z its.0 (unread x.ask))) (sym h.streams) ∙ ap (λ z. Some (end_for y.streams its.0 z)) (sym (h.asked (is.asks j x e)))))),
    );
  }
  server_at j x y e h (inr ne) = let o = is.servers j x e in record {
    slot = o.slot;
    found = ap (slice_get T.slots) h.same.to ∙ (set_there w.slots n x.to (behind s b outs) ne ∙ o.found);
    agrees = λ u q. let its = o.agrees u (h.same.serving q) in (
      its.0,
      ap (end_of o.slot.node) h.same.name
          ∙ (its.1 ∙ (ap (λ z. Some (end_for z its.0 (unread x.ask))) (sym h.streams) ∙ ap (λ z. Some (end_for y.streams its.0 z)) (sym (h.asked (is.asks j x e))))),
    );
  }

  master_at : (i : ℕ) (t t' : Slot) (name : LinkId) (f : FollowState) → t'.dialled ≡ t.dialled → HasMaster w.links i t name f → HasMaster T.links i t' name f
  master_at i t t' name f d h = let y = both_ways.1 t.dialled h.link h.found in record {
    link = y.0;
    found = ap (slice_get T.links) d ∙ y.1;
    caller = y.2.same.caller ∙ h.caller;
    agrees = subst (λ u. Agrees f u) (sym (y.2.same.heard (is.tells t.dialled h.link h.found))) h.agrees;
  }

  pub kept_ticked : IsWorld T
  kept_ticked = record {
    asks = λ j y e. let x = both_ways.0 j y e in x.2.way (is.asks j x.0 x.1);
    tells = λ j y e. let x = both_ways.0 j y e in x.2.same.way (is.tells j x.0 x.1);
    servers = λ j y e. let x = both_ways.0 j y e in server_at j x.0 y x.1 x.2 (number_or x.0.to n);
    untouched = λ j y e u. let x = both_ways.0 j y e in x.2.untouched (is.untouched j x.0 x.1 (sym x.2.same.waits ∙ u));
    names = λ i j y z e f p q t l.
        let x = both_ways.0 i y e in
        let v = both_ways.0 j z f in
        is.names i j x.0 v.0 x.1 v.1 (x.2.same.serving p) (v.2.same.serving q) (sym x.2.same.to ∙ (t ∙ v.2.same.to)) (sym x.2.same.name ∙ (l ∙ v.2.same.name));
    nodes = λ i t e u. node_at i t (set_cases w.slots n i (behind s b outs) t e) u;
    followers = λ i t name f e u q. follower_at i t name f (set_cases w.slots n i (behind s b outs) t e) u q;
  }
    where
      node_at : (i : ℕ) (t : Slot) → ((i ≡ n) × (t ≡ behind s b outs)) ⊎ ((i ≢ n) × (slice_get w.slots i ≡ Some t)) → t.node.core.up ≡ true → IsSound t.node
      node_at i t (inl p) u = subst (λ (z : Slot). IsSound z.node) (sym p.1) sound
      node_at i t (inr p) u = is.nodes i t p.1 u

      follower_at : (i : ℕ) (t : Slot) (name : LinkId) (f : FollowState) → ((i ≡ n) × (t ≡ behind s b outs)) ⊎ ((i ≢ n) × (slice_get w.slots i ≡ Some t)) → t.node.core.up ≡ true → t.node.follow ≡ Some (name, f) → HasMaster T.links i t name f
      follower_at i t name f (inl p) u q = master_at i s t name f (ap (λ (z : Slot). z.dialled) p.1)
          (is.followers i s name f (ap (slice_get w.slots) p.0 ∙ at) up (sym follow ∙ (ap (λ (z : Slot). z.node.follow) (sym p.1) ∙ q)))
      follower_at i t name f (inr p) u q = master_at i t t name f refl (is.followers i t name f p.1 u q)

pub ticks_keep : TicksKeepWorlds
ticks_keep w n s now b outs is runs sound (TickRow.deletes u r) = kept_ticked w is n s b outs runs.at runs.up (λ q. ap (λ z. end_at z q) r.ends) r.follow sound
ticks_keep w n s now b outs is runs sound (TickRow.rests u alone mark r e) = kept_ticked w is n s b outs runs.at runs.up (λ q. ap (λ (z : NodeState). end_of z q) e) (ap (λ (z : NodeState). z.follow) e) sound
