-- What is true of each World is kept by each event.
use Rattle.std.proofs.Common.{◌≡◌, ◌≢◌, ◌≤◌, ◌^◌, ℕ, List, [], Bool, true, false, cond, Option, None, Some, Result, Ok, Err, refl, sym, ap, subst, ◌∙◌, arith}
use Rattle.std.specs.Prelude.{IfSome, slice_get, slice_set}
use Rattle.std.specs.FinMap.{empty, get, get-insert, get-empty, get-remove}
use Rattle.std.proofs.lemmas.Option.{none-some}
use Rattle.mr_links.specs.LinkId.{id_cmp}
use Rattle.mr_links.specs.declared.link_id.LinkId.{LinkId}
use Rattle.mr_links.specs.Links.{Links}
use Rattle.mr_links.proofs.LinkRows.{ids_total}
use Rattle.mr_repl.specs.ReplId.{IsId}
use Rattle.mr_follower.specs.State.{FollowState, Agrees}
use Rattle.mr_node_links.specs.State.{EndState, opened_as, streams}
use Rattle.mr_node_links.specs.State.EndState.{client, upstream}
use Rattle.mr_node_links.proofs.Naming.{at_or_other}
use Rattle.mr_keyspace.specs.Dataset.{Dataset}
use Rattle.mr_node_spec.specs.State.{NodeState, IsNode, end_of, started, stopped_as}
use Rattle.mr_node_spec.specs.Sound.{IsReading, IsSound}
use Rattle.mr_node_spec.specs.LinkRows.{Opens, closed_at, follow_without}
use Rattle.mr_node_state.proofs.Nodes.{closed_node, opened_node}
use Rattle.law_refinement.specs.Way.{IsWay, no_way, sent_on, taken_on, unread}
use Rattle.law_refinement.specs.State.{a_client, a_node, Link, Slot, WorldState}
use Rattle.law_refinement.specs.Worlds.{IsUntouched, IsWorld, end_for}
use Rattle.law_refinement.specs.Carrying.{begun_slot, broken, opened_link, opened, put_node}
use Rattle.law_refinement.specs.Events.{IsServed}
use Rattle.law_refinement.specs.Books.{begun}
use Rattle.law_refinement.proofs.Places.{set_here, set_same}
use Rattle.law_refinement.proofs.Unread.{sent_way, taken_way, unread_sent}
use Rattle.law_refinement.proofs.Unaccepted.{served_not_waiting, untouched_taken}
use Rattle.law_refinement.proofs.Others.{served_end}
use Rattle.mr_world.specs.declared.refusal.Refusal.{Refusal}
use Rattle.mr_world.specs.declared.refusal.Refusal.TheVariants as refusal
use Rattle.mr_world.specs.Calls.{BreakCall, Breaks, StartCall, ClientCall, Clients, CommandCall, TakeCall, LeaveCall, put_link}
use Rattle.mr_world.proofs.Changing.{SameEnds, node_world, link_world, link_comes, node_comes, master_set}

-- ---- a node starts
started_node : (as_replica : Bool) (port backlog : ℕ) (id : List ℕ) (m : Dataset) → IsNode (started as_replica port backlog id m)
started_node as_replica port backlog id m = record {
  followed = tt;
  only = λ x h. absurd (none-some upstream (sym (get-empty id_cmp x) ∙ h));
  sends = λ x h. absurd (no_true (ap streams (sym (get-empty id_cmp x)) ∙ h));
  nobody = λ e. refl;
}
  where
    no_true : false ≡ true → ⊥
    no_true e = cc

pub started_sound : (as_replica : Bool) (port backlog : ℕ) (id : List ℕ) (m : Dataset) → IsId id → 1 ≤ backlog → backlog ≤ 2 ^ 30 → IsSound (started as_replica port backlog id m)
started_sound as_replica port backlog id m is some few = record {
  node = started_node as_replica port backlog id m;
  window = record { within = omega arith; counted = omega arith; some_room = omega (arith, some); limited = few; countable = omega arith };
  id = is;
  second = tt;
  upstream = tt;
  reading = tt;
}

pub start_keeps : (w v : WorldState) (id : List ℕ) (as_replica : Bool) (port backlog : ℕ) (r : Result (Unit {0}) Refusal) → IsWorld w → IsId id → 1 ≤ backlog → backlog ≤ 2 ^ 30 → StartCall w id as_replica port backlog v r → IsWorld v
start_keeps w v id as_replica port backlog (Ok done) is named some few c = subst (λ (z : WorldState). IsWorld z) (sym c.1)
    (node_comes w (begun_slot as_replica port backlog id empty []) (begun w.book id []) is (started_sound as_replica port backlog id empty named some few) (λ name f e. none-some (name, f) e))
start_keeps w v id as_replica port backlog (Err refusal.Drawn) is named some few c = subst (λ (z : WorldState). IsWorld z) (sym c.1) is
start_keeps w v id as_replica port backlog (Err refusal.Memory) is named some few c = subst (λ (z : WorldState). IsWorld z) (sym c.1) is
start_keeps w v id as_replica port backlog (Err refusal.Nobody) is named some few c = absurd c
start_keeps w v id as_replica port backlog (Err refusal.TooMuch) is named some few c = absurd c
start_keeps w v id as_replica port backlog (Err refusal.InputFull) is named some few c = absurd c

-- ---- a client's link
-- a node stops
pub stops_world : (w : WorldState) (n : ℕ) (s : Slot) (b : NodeState) → IsWorld w → slice_get w.slots n ≡ Some s → b.core.up ≡ false → IsWorld (put_node w n s b)
stops_world w n s b is at down = node_world w n s (record s { node = b }) is at (record {
  here = λ j y e to up. absurd (runs up);
  sound = λ up. absurd (runs up);
  own = λ name f up. absurd (runs up);
})
  where
    runs : b.core.up ≡ true → ⊥
    runs up = let wrong : false ≡ true = sym down ∙ up in cc

-- what reads at the link to the master doesn't depend on other ends
pub reads_on : (a : NodeState) (ends : Links EndState) (o : Option (LinkId × FollowState)) → IfSome o (λ f. IsReading a f.1) → IfSome o (λ f. IsReading (record a { ends = ends }) f.1)
reads_on a ends None h = tt
reads_on a ends (Some f) h = record { reader = h.reader; follower = h.follower; port = h.port }

module _ (w : WorldState) (n : ℕ) (s : Slot) (name : LinkId) (b : NodeState) (is : IsWorld w) (at : slice_get w.slots n ≡ Some s) (up : s.node.core.up ≡ true) (o : Opens s.node name b) where
  core_is : b.core ≡ s.node.core
  core_is = ap (λ (z : NodeState). z.core) o.node

  follow_is : b.follow ≡ s.node.follow
  follow_is = ap (λ (z : NodeState). z.follow) o.node

  other_end : (x : LinkId) → x ≢ name → end_of b x ≡ end_of s.node x
  other_end x ne = ap (λ (z : NodeState). end_of z x) o.node ∙ (get-insert ids_total s.node.ends.open_links name (client []) x
      ∙ at_or_other x name (λ v. cond v (Some (client [])) (get s.node.ends.open_links x) ≡ get s.node.ends.open_links x) (λ same. absurd (ne same)) (λ other. refl))

  pub apart : (j : ℕ) (y : Link) → slice_get w.links j ≡ Some y → y.serving ≡ true → y.to ≡ n → y.name ≡ name → ⊥
  apart j y e q to same = let served = served_end w is n s at up j y e to q in none-some (end_for y.streams served.0 (unread y.ask)) (sym o.fresh ∙ (ap (end_of s.node) (sym same) ∙ served.1))

  pub sound_is : IsSound b
  sound_is = subst IsSound (sym o.node) (let i = is.nodes n s at up in record { node = opened_node s.node name [] i.node o.fresh; window = i.window; id = i.id; second = i.second; upstream = i.upstream; reading = reads_on s.node (opened_as s.node.ends name (client [])) s.node.follow i.reading })

  pub between : IsWorld (put_node w n s b)
  between = node_world w n s (record s { node = b }) is at (record {
    here = λ j y e to u q. let served = served_end w is n s at up j y e to q in (served.0, other_end y.name (λ same. apart j y e q to same) ∙ served.1);
    sound = λ u. sound_is;
    own = λ m f u e. let h = is.followers n s m f at up (sym follow_is ∙ e) in record { link = h.link; found = h.found; caller = h.caller; agrees = h.agrees };
  })

  pub opens_world : IsWorld (opened w n s b name)
  opens_world = link_comes (put_node w n s b) (opened_link n name) between no_ways no_ways
      (record { slot = record s { node = b }; found = set_here w.slots n (record s { node = b }) s at; agrees = λ u q. (None, o.agrees.is) }) (λ u. absurd (served u)) apart
    where
      served : false ≡ true → ⊥
      served e = cc

      no_ways : IsWay no_way
      no_ways = record { used_within = omega arith; taken_within = omega arith }

pub client_keeps : (w v : WorldState) (n : ℕ) (r : Result (Unit {0}) Refusal) → IsWorld w → ClientCall w n v r → IsWorld v
client_keeps w v n (Ok done) is c = elim c [
  | Clients.comes d ↦ subst (λ (z : WorldState). IsWorld z) (sym d.is) (opens_world w n d.slot d.name d.node is d.running.at d.running.up d.opens)
  | Clients.stops d ↦ subst (λ (z : WorldState). IsWorld z) (sym d.is) (stops_world w n d.slot (stopped_as d.slot.node) is d.running.at refl)
  | Clients.rests d e ↦ subst (λ (z : WorldState). IsWorld z) (sym e) is
]
client_keeps w v n (Err refusal.Nobody) is c = subst (λ (z : WorldState). IsWorld z) (sym c.1) is
client_keeps w v n (Err refusal.Memory) is c = subst (λ (z : WorldState). IsWorld z) (sym c.1) is
client_keeps w v n (Err refusal.Drawn) is c = absurd c
client_keeps w v n (Err refusal.TooMuch) is c = absurd c
client_keeps w v n (Err refusal.InputFull) is c = absurd c

-- ---- a client's own end
-- A link changes at its caller's end: what was sent there, what was taken, and whether a client is there still.
pub record Calls (k m : Link) : Type 0 where
  pub waits : m.waits ≡ k.waits
  pub untouched : IsUntouched k → IsUntouched m
  pub to : m.to ≡ k.to
  pub name : m.name ≡ k.name
  pub serving : m.serving ≡ k.serving
  pub streams : m.streams ≡ k.streams
  pub ask : IsWay m.ask
  pub tell : IsWay m.tell
  pub heard : unread m.ask ≡ unread k.ask
  pub master : (i : ℕ) (name : LinkId) (f : FollowState) → k.caller ≡ a_node i name → Agrees f (unread k.tell) → (m.caller ≡ a_node i name) × Agrees f (unread m.tell)

pub calls_world : (w : WorldState) (l : ℕ) (k m : Link) → IsWorld w → slice_get w.links l ≡ Some k → Calls k m → IsWorld (put_link w l m)
calls_world w l k m is found c =
    let h = is.servers l k found in
    let ends : SameEnds k m = λ held. ap (λ z. end_for z held (unread k.ask)) (sym c.streams) ∙ ap (end_for m.streams held) (sym c.heard) in
    subst (λ (z : List Slot). IsWorld (record w { slots = z; links = slice_set w.links l m })) (set_same w.slots k.to h.slot h.found)
    (link_world w k.to h.slot h.slot l k m is h.found found (record {
      to = c.to;
      name = c.name;
      serving = λ q. sym c.serving ∙ q;
      ask = c.ask;
      tell = c.tell;
      untouched = λ u. c.untouched (is.untouched l k found (sym c.waits ∙ u));
      here = λ to up q. let v = h.agrees up (sym c.serving ∙ q) in (v.0, ap (end_of h.slot.node) c.name ∙ (v.1 ∙ ap (λ z. Some z) (ends v.0)));
      others = λ j y ne e to up q. served_end w is k.to h.slot h.found up j y e to q;
      there = λ ne q. ends;
      sound = λ up. is.nodes k.to h.slot h.found up;
      own = λ name f up e. master_set w l k m k.to h.slot name f found (c.master k.to name f) (is.followers k.to h.slot name f h.found up e);
      onward = λ i name f ne. c.master i name f;
    }))

pub command_keeps : (w v : WorldState) (l : ℕ) (bytes : List ℕ) (r : Result (Unit {0}) Refusal) → IsWorld w → CommandCall w l bytes v r → IsWorld v
command_keeps w v l bytes (Ok done) is c =
    let way = is.asks l c.link c.at.found in
    subst (λ (z : WorldState). IsWorld z) (sym c.is) (calls_world w l c.link (record c.link { ask = sent_on bytes c.link.ask }) is c.at.found (record {
      waits = refl;
      untouched = λ u. record { serving = u.serving; streams = u.streams; ask = u.ask; tell = u.tell };
      to = refl;
      name = refl;
      serving = refl;
      streams = refl;
      ask = sent_way c.link.ask bytes way;
      tell = is.tells l c.link c.at.found;
      heard = unread_sent c.link.ask bytes way;
      master = λ i name f e a. (e, a);
    }))
command_keeps w v l bytes (Err refusal.Nobody) is c = subst (λ (z : WorldState). IsWorld z) (sym c.1) is
command_keeps w v l bytes (Err refusal.Memory) is c = subst (λ (z : WorldState). IsWorld z) (sym c.2) is
command_keeps w v l bytes (Err refusal.Drawn) is c = absurd c
command_keeps w v l bytes (Err refusal.TooMuch) is c = absurd c
command_keeps w v l bytes (Err refusal.InputFull) is c = absurd c

a_clients : (b : Bool) (n : ℕ) (name : LinkId) → a_client b ≡ a_node n name → ⊥
a_clients b n name e = cc

pub take_keeps : (w v : WorldState) (l count : ℕ) (r : Result (Unit {0}) Refusal) → IsWorld w → TakeCall w l count v r → IsWorld v
take_keeps w v l count (Ok done) is c = subst (λ (z : WorldState). IsWorld z) (sym c.is) (calls_world w l c.link (record c.link { tell = taken_on count c.link.tell }) is c.at.found (record {
  waits = refl;
  untouched = untouched_taken c.link count c.sent;
  to = refl;
  name = refl;
  serving = refl;
  streams = refl;
  ask = is.asks l c.link c.at.found;
  tell = taken_way c.link.tell count (is.tells l c.link c.at.found) c.sent;
  heard = refl;
  master = λ i name f e a. absurd (a_clients true i name (sym c.at.asking ∙ e));
}))
take_keeps w v l count (Err refusal.Nobody) is c = subst (λ (z : WorldState). IsWorld z) (sym c.1) is
take_keeps w v l count (Err refusal.TooMuch) is c = subst (λ (z : WorldState). IsWorld z) (sym c.1) is
take_keeps w v l count (Err refusal.Memory) is c = absurd c
take_keeps w v l count (Err refusal.Drawn) is c = absurd c
take_keeps w v l count (Err refusal.InputFull) is c = absurd c

pub leave_keeps : (w v : WorldState) (l : ℕ) (r : Result (Unit {0}) Refusal) → IsWorld w → LeaveCall w l v r → IsWorld v
leave_keeps w v l (Ok done) is c = subst (λ (z : WorldState). IsWorld z) (sym c.is) (calls_world w l c.link (record c.link { caller = a_client false }) is c.at.found (record {
  waits = refl;
  untouched = λ u. record { serving = u.serving; streams = u.streams; ask = u.ask; tell = u.tell };
  to = refl;
  name = refl;
  serving = refl;
  streams = refl;
  ask = is.asks l c.link c.at.found;
  tell = is.tells l c.link c.at.found;
  heard = refl;
  master = λ i name f e a. absurd (a_clients true i name (sym c.at.asking ∙ e));
}))
leave_keeps w v l (Err refusal.Nobody) is c = subst (λ (z : WorldState). IsWorld z) (sym c.1) is
leave_keeps w v l (Err refusal.TooMuch) is c = absurd c
leave_keeps w v l (Err refusal.Memory) is c = absurd c
leave_keeps w v l (Err refusal.Drawn) is c = absurd c
leave_keeps w v l (Err refusal.InputFull) is c = absurd c

-- ---- a server's end closes
pub follow_was : (l : LinkId) (o : Option (LinkId × FollowState)) (x : LinkId × FollowState) → follow_without l o ≡ Some x → o ≡ Some x
follow_was l None x e = absurd (none-some x e)
follow_was l (Some f) x e = at_or_other f.0 l (λ b. cond b None (Some f) ≡ Some x → Some f ≡ Some x) (λ same q. absurd (none-some x q)) (λ ne q. q) e

pub reads_without : (a : NodeState) (l : LinkId) (o : Option (LinkId × FollowState)) → IfSome o (λ f. IsReading a f.1) → IfSome (follow_without l o) (λ f. IsReading (closed_at l a) f.1)
reads_without a l None h = tt
reads_without a l (Some f) h = at_or_other f.0 l (λ b. IfSome (cond b None (Some f)) (λ g. IsReading (closed_at l a) g.1)) (λ same. tt) (λ ne. record { reader = h.reader; follower = h.follower; port = h.port })

pub closed_end : (a : NodeState) (l x : LinkId) → x ≢ l → end_of (closed_at l a) x ≡ end_of a x
closed_end a l x ne = get-remove ids_total a.ends.open_links l x ∙ at_or_other x l (λ b. cond b None (get a.ends.open_links x) ≡ get a.ends.open_links x) (λ same. absurd (ne same)) (λ other. refl)

breaks_world : (w : WorldState) (l : ℕ) (k : Link) (s : Slot) → IsWorld w → IsServed w l k s → IsWorld (broken w k.to s (closed_at k.name s.node) l k)
breaks_world w l k s is v = link_world w k.to s (record s { node = closed_at k.name s.node }) l k (record k { serving = false }) is v.at v.found (record {
  to = refl;
  name = refl;
  serving = λ q. v.serving;
  ask = is.asks l k v.found;
  tell = is.tells l k v.found;
  untouched = λ u. absurd (served_not_waiting w is l k v.found v.serving u);
  here = λ to up q. absurd (shut q);
  others = λ j y ne e to up q.
      let served = served_end w is k.to s v.at v.up j y e to q in
      (served.0, closed_end s.node k.name y.name (λ same. ne (is.names j l y k e v.found q v.serving to same)) ∙ served.1);
  there = λ ne q. absurd (shut q);
  sound = λ up. let i = is.nodes k.to s v.at v.up in record { node = closed_node s.node k.name i.node; window = i.window; id = i.id; second = i.second; upstream = i.upstream; reading = reads_without s.node k.name s.node.follow i.reading };
  own = λ name f up e. let h = is.followers k.to s name f v.at v.up (follow_was k.name s.node.follow (name, f) e) in
      master_set w l k (record k { serving = false }) k.to (record s { node = closed_at k.name s.node }) name f v.found (λ c a. (c, a)) (record { link = h.link; found = h.found; caller = h.caller; agrees = h.agrees });
  onward = λ i name f ne c a. (c, a);
})
  where
    shut : false ≡ true → ⊥
    shut e = cc

pub break_keeps : (w v : WorldState) (l : ℕ) (r : Result (Unit {0}) Refusal) → IsWorld w → BreakCall w l v r → IsWorld v
break_keeps w v l (Ok done) is c = elim c [
  | Breaks.closes d ↦ subst (λ (z : WorldState). IsWorld z) (sym d.is) (breaks_world w l d.link d.slot is d.served)
  | Breaks.idles k at d e ↦ subst (λ (z : WorldState). IsWorld z) (sym e) is
]
break_keeps w v l (Err refusal.Nobody) is c = subst (λ (z : WorldState). IsWorld z) (sym c.1) is
break_keeps w v l (Err refusal.TooMuch) is c = absurd c
break_keeps w v l (Err refusal.Memory) is c = absurd c
break_keeps w v l (Err refusal.Drawn) is c = absurd c
break_keeps w v l (Err refusal.InputFull) is c = absurd c
