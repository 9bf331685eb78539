-- A replica that opens its end of a link, and a node that accepts it: as histories see both, and that what is true of a World stays.
use Rattle.std.proofs.Common.{◌≡◌, ◌≢◌, ◌-◌, ◌⊎◌, inl, inr, ℕ, List, [], true, false, cond, take, drop, Option, None, Some, length, refl, sym, ap, subst, ◌∙◌, arith}
use Rattle.std.specs.Prelude.{slice_get, slice_set}
use Rattle.std.specs.Option.{option_map}
use Rattle.mr_links.specs.declared.link_id.LinkId.{LinkId}
use Rattle.mr_follower.specs.State.{Agrees, FollowState}
use Rattle.mr_follower.specs.Handshake.{ping_line}
use Rattle.mr_node_links.specs.State.{EndState}
use Rattle.mr_node_links.specs.State.EndState.{client, upstream}
use Rattle.mr_node_output.specs.Outs.{OutsState}
use Rattle.mr_node_spec.specs.State.{NodeState, end_of}
use Rattle.mr_node_spec.specs.Sound.{IsSound}
use Rattle.mr_node_spec.specs.LinkRows.{Dials, Opens}
use Rattle.law_protocol.specs.Language.Request.{Handshake}
use Rattle.law_protocol.specs.Changing.Unless.{acts}
use Rattle.law_protocol.specs.World as history
use Rattle.law_protocol.specs.World.Caller.{Peer}
use Rattle.law_protocol.specs.Rows as rows
use Rattle.law_minired.specs.Requests.{IsAsked}
use Rattle.law_refinement.specs.Way.{IsWay, WayState, unread}
use Rattle.law_refinement.specs.State.{Link, Slot, WorldState}
use Rattle.law_refinement.specs.Seeing.{open_in, open_on, link_with, seen_follow, seen_link, seen_node}
use Rattle.law_refinement.specs.Worlds.{HasMaster, HasServer, IsUntouched, IsWorld, end_for}
use Rattle.law_refinement.specs.Carrying.{accepted_by, accepting, connecting, waiting_link}
use Rattle.law_refinement.specs.Events.{AcceptStopsAreRows, AcceptsAreRows, AcceptsKeepWorlds, ConnectStopsAreRows, ConnectsAreRows, ConnectsKeepWorlds, IsRunning, IsWaiting}
use Rattle.law_refinement.proofs.Places.{push_cases, push_here, push_old, set_cases, set_here, set_there, some_is}
use Rattle.law_refinement.proofs.Reading.{number_or, set_as, still_at}
use Rattle.law_refinement.proofs.Seen.{none_at_end, push_by, put_at, put_by}
use Rattle.law_refinement.proofs.Open.{cond_same, now_here}
use Rattle.law_refinement.proofs.Unaccepted.{none_open}
use Rattle.law_refinement.proofs.Others.{KeepsEnds, all_seen, served_end}
use Rattle.law_refinement.proofs.Beside.{keeps_opened}
use Rattle.law_refinement.proofs.Stopping.{node_stops}
use Rattle.law_refinement.proofs.Lines.{ping_asks}

-- the ends that a node serves stay where it opens another
opens_keeps : (a b : NodeState) (l : LinkId) → Opens a l b → KeepsEnds a b
opens_keeps a b l o = keeps_opened a b l (client []) o.fresh (ap (λ (z : NodeState). z.core.up) o.node) (ap (λ (z : NodeState). z.ends) o.node)

dials_keeps : (a b : NodeState) (l : LinkId) (outs : OutsState) → Dials a l b outs → KeepsEnds a b
dials_keeps a b l outs r = keeps_opened a b l upstream r.fresh (ap (λ (z : NodeState). z.core.up) r.node) (ap (λ (z : NodeState). z.ends) r.node)

-- ---- as histories see it
pub connects : ConnectsAreRows
connects w book n s name b outs holds runs r =
    let line : outs.reply ≡ ping_line = ap (λ (z : OutsState). z.reply) r.outs_are in
    let put = put_at seen_node w.slots n dialler s runs.at in
    record {
      new_book = book;
      kept = holds.kept;
      row = record {
        node = seen_node s;
        found = ap (option_map seen_node) runs.at;
        replica = r.replica;
        waiting = ap (seen_follow s.dialled) r.alone;
        does = acts runs.up (rows.Calls.connects (record {
          link = length w.links;
          new_link = none_at_end (seen_link w.slots) w.links;
          request = outs.reply;
          asks = subst (λ z. IsAsked None z Handshake) (sym line) ping_asks;
          nodes = (put.0 ∙ ap (λ z. Some (seen_node (record s { node = z; dialled = length w.links }))) r.node, put.1);
          links = push_by (seen_link w.slots) (seen_link (slice_set w.slots n dialler)) w.links (waiting_link n name outs.reply)
              (all_seen w holds.world n s runs.at runs.up dialler (dials_keeps s.node b name outs r));
          book = λ i. refl;
        }));
      };
    }
  where
    dialler : Slot
    dialler = record s { node = b; dialled = length w.links }

pub connect_stops : ConnectStopsAreRows
connect_stops w book n s b holds runs replica alone down = record {
  new_book = book;
  kept = holds.kept;
  row = record {
    node = seen_node s;
    found = ap (option_map seen_node) runs.at;
    replica = replica;
    waiting = ap (seen_follow s.dialled) alone;
    does = acts runs.up (rows.Calls.stops (node_stops w holds.world book n s b runs.at down));
  };
}

pub accepts : AcceptsAreRows
accepts w book l m k t at c holds is runs o = record {
  new_book = book;
  kept = holds.kept;
  row = record {
    link = seen_link w.slots k;
    found = ap (option_map (seen_link w.slots)) is.found;
    waiting = ap (λ z. cond {A = Option ℕ} z None (Some k.to)) is.waits;
    node = seen_node t;
    node_found = ap (option_map seen_node) runs.at;
    does = acts runs.up (rows.Accepts.accepts (record {
      nodes = still_at seen_node w.slots m (record t { node = c }) t runs.at (ap (λ z. seen_node (record t { node = z })) o.node);
      links = set_as (λ j. option_map (seen_link w.slots) (slice_get w.links j)) (λ j. option_map (seen_link after) (slice_get (slice_set w.links l new) j)) l (seen_link after new) (history.accepted m (seen_link w.slots k))
          (put_by (seen_link w.slots) (seen_link after) w.links l new k is.found
          (λ j y ne found. all_seen w holds.world m t runs.at runs.up (record t { node = c }) (opens_keeps t.node c at o) j y found))
          (ap (λ z. link_with z new) (now_open ∙ sym (none_open k (holds.world.untouched l k is.found is.waits).serving w.slots)));
      book = λ i. refl;
    }));
  };
}
  where
    after : List Slot
    after = slice_set w.slots m (record t { node = c })

    new : Link
    new = accepted_by m at k

    now_open : open_on after new ≡ None
    now_open = now_here w.slots m t (record t { node = c }) runs.at new refl ∙ (ap (λ z. cond c.core.up (open_in z) None) o.agrees.is ∙ cond_same c.core.up None)

pub accept_stops : AcceptStopsAreRows
accept_stops w book l m k t c holds is runs down = record {
  new_book = book;
  kept = holds.kept;
  row = record {
    link = seen_link w.slots k;
    found = ap (option_map (seen_link w.slots)) is.found;
    waiting = ap (λ z. cond {A = Option ℕ} z None (Some k.to)) is.waits;
    node = seen_node t;
    node_found = ap (option_map seen_node) runs.at;
    does = acts runs.up (rows.Accepts.stops (node_stops w holds.world book m t c runs.at down));
  };
}

-- ---- what is true of a World stays
no_wait : false ≡ true → ⊥
no_wait e = cc

no_end : (e : EndState) → ◌≡◌ {A = Option EndState} None (Some e) → ⊥
no_end e q = cc

-- .. as a replica opens its end
module _ (w : WorldState) (n : ℕ) (s : Slot) (name : LinkId) (b : NodeState) (outs : OutsState) (is : IsWorld w) (runs : IsRunning w n s) (sound : IsSound b) (r : Dials s.node name b outs) where
  abbrev V : WorldState
  V = connecting w n s b name outs.reply

  abbrev new : Link
  new = waiting_link n name outs.reply

  abbrev dialler : Slot
  dialler = record s { node = b; dialled = length w.links }

  dialler_there : slice_get V.slots n ≡ Some dialler
  dialler_there = set_here w.slots n dialler s runs.at

  old_server : (j : ℕ) (y : Link) → slice_get w.links j ≡ Some y → (y.to ≡ n) ⊎ (y.to ≢ n) → HasServer V.slots y
  old_server j y e (inl same) = record {
    slot = dialler;
    found = ap (slice_get V.slots) same ∙ dialler_there;
    agrees = λ up q. let its = served_end w is n s runs.at runs.up j y e same q in (its.0, (dials_keeps s.node b name outs r).all y.name y.streams its.0 (unread y.ask) its.1);
  }
  old_server j y e (inr apart) = let h = is.servers j y e in record { slot = h.slot; found = set_there w.slots n y.to dialler apart ∙ h.found; agrees = h.agrees }

  new_server : HasServer V.slots new
  new_server = record { slot = dialler; found = dialler_there; agrees = λ up q. absurd (no_wait q) }

  new_master : (x : LinkId) (f : FollowState) → b.follow ≡ Some (x, f) → HasMaster V.links n dialler x f
  new_master x f e =
      let one = some_is _ (x, f) (sym (ap (λ (z : NodeState). z.follow) r.node) ∙ e) in
      subst (λ (z : LinkId × FollowState). HasMaster V.links n dialler z.0 z.1) one (record { link = new; found = push_here w.links new; caller = refl; agrees = record { by = refl } })

  old_master : (i : ℕ) (u : Slot) (x : LinkId) (f : FollowState) → HasMaster w.links i u x f → HasMaster V.links i u x f
  old_master i u x f h = record { link = h.link; found = push_old w.links new u.dialled h.link h.found; caller = h.caller; agrees = h.agrees }

  follower : (i : ℕ) (u : Slot) (x : LinkId) (f : FollowState) → ((i ≡ n) × (u ≡ dialler)) ⊎ ((i ≢ n) × (slice_get w.slots i ≡ Some u)) → u.node.core.up ≡ true → u.node.follow ≡ Some (x, f) → HasMaster V.links i u x f
  follower i u x f (inl p) up q = subst (λ z. HasMaster V.links z u x f) (sym p.0) (subst (λ z. HasMaster V.links n z x f) (sym p.1) (new_master x f (ap (λ (z : Slot). z.node.follow) (sym p.1) ∙ q)))
  follower i u x f (inr p) up q = old_master i u x f (is.followers i u x f p.1 up q)

  sound_there : (i : ℕ) (u : Slot) → ((i ≡ n) × (u ≡ dialler)) ⊎ ((i ≢ n) × (slice_get w.slots i ≡ Some u)) → u.node.core.up ≡ true → IsSound u.node
  sound_there i u (inl p) up = subst (λ (z : Slot). IsSound z.node) (sym p.1) sound
  sound_there i u (inr p) up = is.nodes i u p.1 up

  -- a link that waits has no open end
  old_open : (j : ℕ) (y : Link) → slice_get V.links j ≡ Some y → y.serving ≡ true → slice_get w.links j ≡ Some y
  old_open j y e q = elim (push_cases w.links new j y e) [ inl p ↦ absurd (no_wait (ap (λ (z : Link). z.serving) (sym p.1) ∙ q)) | inr p ↦ p ]

  kept_connecting : IsWorld V
  kept_connecting = record {
    asks = λ j y e. elim (push_cases w.links new j y e) [ inl p ↦ subst (λ (z : Link). IsWay z.ask) (sym p.1) (record { used_within = omega arith; taken_within = omega arith }) | inr p ↦ is.asks j y p ];
    tells = λ j y e. elim (push_cases w.links new j y e) [ inl p ↦ subst (λ (z : Link). IsWay z.tell) (sym p.1) (record { used_within = omega arith; taken_within = omega arith }) | inr p ↦ is.tells j y p ];
    servers = λ j y e. elim (push_cases w.links new j y e) [ inl p ↦ subst (λ z. HasServer V.slots z) (sym p.1) new_server | inr p ↦ old_server j y p (number_or y.to n) ];
    untouched = λ j y e u. elim (push_cases w.links new j y e) [ inl p ↦ subst IsUntouched (sym p.1) (record { serving = refl; streams = refl; ask = refl; tell = refl }) | inr p ↦ is.untouched j y p u ];
    names = λ i j y z e f p q. is.names i j y z (old_open i y e p) (old_open j z f q) p q;
    nodes = λ i u e up. sound_there i u (set_cases w.slots n i dialler u e) up;
    followers = λ i u x f e up q. follower i u x f (set_cases w.slots n i dialler u e) up q;
  }

pub connects_keep : ConnectsKeepWorlds
connects_keep w n s name b outs is runs sound r = kept_connecting w n s name b outs is runs sound r

-- nothing is unread where nothing was taken
none_unread : (way : WayState) → way.taken ≡ 0 → unread way ≡ []
none_unread way e = let none : way.taken - way.used ≡ 0 = omega (arith, e) in ap (λ n. take n (drop way.used way.sent)) none

-- .. as a node accepts it
module _ (w : WorldState) (l m : ℕ) (k : Link) (t : Slot) (at : LinkId) (c : NodeState) (is : IsWorld w) (waits : IsWaiting w l k) (runs : IsRunning w m t) (sound : IsSound c) (o : Opens t.node at c) where
  abbrev A : WorldState
  A = accepting w m t c at l k

  abbrev now : Link
  now = accepted_by m at k

  abbrev server : Slot
  server = record t { node = c }

  before : IsUntouched k
  before = is.untouched l k waits.found waits.waits

  server_there : slice_get A.slots m ≡ Some server
  server_there = set_here w.slots m server t runs.at

  -- the end that it opened is the link's
  its_end : end_of c at ≡ Some (end_for k.streams None (unread k.ask))
  its_end = o.agrees.is ∙ (ap (λ z. Some (end_for false None z)) (sym (none_unread k.ask before.ask)) ∙ ap (λ z. Some (end_for z None (unread k.ask))) (sym before.streams))

  now_served : HasServer A.slots now
  now_served = record { slot = server; found = server_there; agrees = λ up q. (None, its_end) }

  others_served : (j : ℕ) (y : Link) → slice_get w.links j ≡ Some y → (y.to ≡ m) ⊎ (y.to ≢ m) → HasServer A.slots y
  others_served j y e (inl same) = record {
    slot = server;
    found = ap (slice_get A.slots) same ∙ server_there;
    agrees = λ up q. let its = served_end w is m t runs.at runs.up j y e same q in (its.0, (opens_keeps t.node c at o).all y.name y.streams its.0 (unread y.ask) its.1);
  }
  others_served j y e (inr apart) = let h = is.servers j y e in record { slot = h.slot; found = set_there w.slots m y.to server apart ∙ h.found; agrees = h.agrees }

  -- no end that was open there has its name
  new_name : (j : ℕ) (y : Link) → slice_get w.links j ≡ Some y → y.serving ≡ true → y.to ≡ m → y.name ≡ at → ⊥
  new_name j y e q to name =
      let its = served_end w is m t runs.at runs.up j y e to q in
      no_end (end_for y.streams its.0 (unread y.ask)) (sym o.fresh ∙ (ap (end_of t.node) (sym name) ∙ its.1))

  abbrev Was : ℕ → Link → Type 0
  Was j y = ((j ≡ l) × (y ≡ now)) ⊎ ((j ≢ l) × (slice_get w.links j ≡ Some y))

  one_name : (i j : ℕ) (y z : Link) → Was i y → Was j z → y.serving ≡ true → z.serving ≡ true → y.to ≡ z.to → y.name ≡ z.name → i ≡ j
  one_name i j y z (inl a) (inl b) p q to name = a.0 ∙ sym b.0
  one_name i j y z (inl a) (inr b) p q to name = absurd (new_name j z b.1 q (sym to ∙ ap (λ (x : Link). x.to) a.1) (sym name ∙ ap (λ (x : Link). x.name) a.1))
  one_name i j y z (inr a) (inl b) p q to name = absurd (new_name i y a.1 p (to ∙ ap (λ (x : Link). x.to) b.1) (name ∙ ap (λ (x : Link). x.name) b.1))
  one_name i j y z (inr a) (inr b) p q to name = is.names i j y z a.1 b.1 p q to name

  -- who dialled has of the link what it had
  master : (i : ℕ) (u v : Slot) (x : LinkId) (f : FollowState) → v.dialled ≡ u.dialled → HasMaster w.links i u x f → HasMaster A.links i v x f
  master i u v x f same h = elim (number_or u.dialled l) [
    | inl here ↦
        (let one : h.link ≡ k = some_is h.link k (sym h.found ∙ (ap (slice_get w.links) here ∙ waits.found)) in
        record {
          link = now;
          found = ap (slice_get A.links) (same ∙ here) ∙ set_here w.links l now k waits.found;
          caller = ap (λ (z : Link). z.caller) (sym one) ∙ h.caller;
          agrees = subst (λ (z : Link). Agrees f (unread z.tell)) one h.agrees;
        })
    | inr apart ↦ record { link = h.link; found = ap (slice_get A.links) same ∙ (set_there w.links l u.dialled now apart ∙ h.found); caller = h.caller; agrees = h.agrees }
  ]

  reader : (i : ℕ) (u : Slot) (x : LinkId) (f : FollowState) → ((i ≡ m) × (u ≡ server)) ⊎ ((i ≢ m) × (slice_get w.slots i ≡ Some u)) → u.node.core.up ≡ true → u.node.follow ≡ Some (x, f) → HasMaster A.links i u x f
  reader i u x f (inl p) up q =
      let follow : t.node.follow ≡ Some (x, f) = sym (ap (λ (z : NodeState). z.follow) o.node) ∙ (ap (λ (z : Slot). z.node.follow) (sym p.1) ∙ q) in
      master i t u x f (ap (λ (z : Slot). z.dialled) p.1) (is.followers i t x f (ap (slice_get w.slots) p.0 ∙ runs.at) runs.up follow)
  reader i u x f (inr p) up q = master i u u x f refl (is.followers i u x f p.1 up q)

  node_sound : (i : ℕ) (u : Slot) → ((i ≡ m) × (u ≡ server)) ⊎ ((i ≢ m) × (slice_get w.slots i ≡ Some u)) → u.node.core.up ≡ true → IsSound u.node
  node_sound i u (inl p) up = subst (λ (z : Slot). IsSound z.node) (sym p.1) sound
  node_sound i u (inr p) up = is.nodes i u p.1 up

  kept_accepting : IsWorld A
  kept_accepting = record {
    asks = λ j y e. elim (set_cases w.links l j now y e) [ inl p ↦ subst (λ (z : Link). IsWay z.ask) (sym p.1) (is.asks l k waits.found) | inr p ↦ is.asks j y p.1 ];
    tells = λ j y e. elim (set_cases w.links l j now y e) [ inl p ↦ subst (λ (z : Link). IsWay z.tell) (sym p.1) (is.tells l k waits.found) | inr p ↦ is.tells j y p.1 ];
    servers = λ j y e. elim (set_cases w.links l j now y e) [ inl p ↦ subst (λ z. HasServer A.slots z) (sym p.1) now_served | inr p ↦ others_served j y p.1 (number_or y.to m) ];
    untouched = λ j y e u. elim (set_cases w.links l j now y e) [ inl p ↦ absurd (no_wait (ap (λ (z : Link). z.waits) (sym p.1) ∙ u)) | inr p ↦ is.untouched j y p.1 u ];
    names = λ i j y z e f. one_name i j y z (set_cases w.links l i now y e) (set_cases w.links l j now z f);
    nodes = λ i u e up. node_sound i u (set_cases w.slots m i server u e) up;
    followers = λ i u x f e up q. reader i u x f (set_cases w.slots m i server u e) up q;
  }

pub accepts_keep : AcceptsKeepWorlds
accepts_keep w l m k t at c is waits runs sound o = kept_accepting w l m k t at c is waits runs sound o
