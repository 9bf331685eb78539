-- What goes over a link that a node serves, in order: behind each event, and in a run.
use Rattle.std.proofs.Common.{◌≡◌, ◌≢◌, ◌⊎◌, inl, inr, ◌+◌, ◌-◌, ◌==◌, ℕ, ℤ, List, [], ◌∷◌, ◌++◌, Bool, true, false, Option, None, Some, Ok, map, take, drop, refl, sym, ap, subst, ◌∙◌, append_assoc, arith}
use Rattle.std.specs.Prelude.{slice_get, slice_set, if◌then◌else◌}
use Rattle.std.specs.Option.{option_map}
use Rattle.std.proofs.Math.Seq.{take-add}
use Rattle.std.proofs.lemmas.Option.{slice_get-map}
use Rattle.mr_data.specs.declared.given.Given.{Given}
use Rattle.mr_resp.specs.Request.{IsText}
use Rattle.mr_resp.specs.Usual.{usual}
use Rattle.mr_effect.specs.Spelling.{texts}
use Rattle.mr_groups.specs.Groups.{grown_text}
use Rattle.mr_links.specs.declared.link_id.LinkId.{LinkId}
use Rattle.mr_node_links.specs.State.{EndState, Transaction, begun, unread_in}
use Rattle.mr_node_links.specs.State.EndState.{shut}
use Rattle.mr_node_output.specs.Outs.{OutsState}
use Rattle.mr_node_spec.specs.State.{Core, NodeState, end_of}
use Rattle.mr_node_spec.specs.Requests.{Asks, AsksNothing}
use Rattle.mr_node_spec.specs.Telling.{Around}
use Rattle.mr_node_spec.specs.Served.{Served}
use Rattle.mr_node_spec.specs.ClientRows.{ClientRow}
use Rattle.mr_node_spec.specs.Transactions.{WithinRow}
use Rattle.mr_node_spec.specs.ReplicaRows.{ReplicaRow, IsExpected}
use Rattle.mr_node_spec.specs.TimeRows.{TickRow, Rests}
use Rattle.mr_node_output.specs.Outs.{Output}
use Rattle.law_refinement.specs.Way.{WayState, IsWay, taken_on, unread}
use Rattle.law_refinement.specs.State.{a_client, Link, Slot, WorldState}
use Rattle.law_refinement.specs.Worlds.{IsWorld, end_for}
use Rattle.law_refinement.specs.Carrying.{accepted_by, reached, settled, shut_if, stepped, told}
use Rattle.law_refinement.proofs.Places.{set_here, set_there, some_is}
use Rattle.law_refinement.proofs.Open.{eqb_yes}
use Rattle.law_refinement.proofs.Unaccepted.{served_not_waiting}
use Rattle.law_refinement.specs.Runs.{last_of}
use Rattle.mr_links.specs.declared.side.Side.TheVariants as side
use Rattle.mr_world.specs.declared.event.Event.{Event}
use Rattle.mr_world.specs.declared.event.Event.TheVariants as event
use Rattle.mr_world.specs.Calls.{Clients, ClientCall, CommandCall, TakeCall, LeaveCall, Breaks, BreakCall}
use Rattle.mr_world.specs.Linking.{BreaksOff, Delivers, DeliverCall, DropCall}
use Rattle.mr_world.specs.Hearing.{ListenCall, Tells}
use Rattle.mr_world.specs.Stepping.{TickCall, Ticks}
use Rattle.mr_world.specs.Serving.{HasServed, ServedRow, ServesLink}
use Rattle.mr_world.specs.Following.{Follows}
use Rattle.mr_world.specs.Accepting.{Accepted, Connected}
use Rattle.mr_world.specs.Connecting.{Dialled}
use Rattle.mr_world.specs.Running.{AreMoments, EventCall, TookAll, by_opener, is_between_nodes}
use Rattle.mr_world.specs.Talking.{InOrder, LinksAreInOrder, Turn, TurnsUseTexts, all_said, all_used, turn_of, turns_by, turns_in, turns_of, used_at}
use Rattle.mr_world.proofs.Talking.{Goes, Left, OnlyReplicas, There, all_changed, as_it_was, asked_more, goes_as, heard_more, join, may_still, one_changed, one_more, open_front, may_serve, own, reached_goes, reached_there, said_there, shuts, stays, to_nobody, to_replicas}

-- ---- what a row says of its link
-- The end is open behind it, in this transaction or in none, and a text was used in front of what is left; or it is closed.
data Leaves (b : NodeState) (name : LinkId) (u : List ℕ) (outs : OutsState) : Type 0 where
  goes_on : (streams : Bool) (held : Option Transaction) (text rest : List ℕ) → end_of b name ≡ Some (end_for streams held rest) → u ≡ text ++ rest → IsText usual text → Leaves b name u outs
  ends : end_of b name ≡ Some shut → outs.closes ≡ true → Leaves b name u outs

asks : (b : NodeState) (name : LinkId) (u rest : List ℕ) (outs : OutsState) (words : List (List ℕ)) (streams : Bool) (held : Option Transaction) → end_of b name ≡ Some (end_for streams held rest) → Asks u words rest → Leaves b name u outs
asks b name u rest outs words streams held is r = Leaves.goes_on streams held r.text rest is r.begins (inl (words, r.request))

asks_nothing : (b : NodeState) (name : LinkId) (u rest : List ℕ) (outs : OutsState) (streams : Bool) (held : Option Transaction) → end_of b name ≡ Some (end_for streams held rest) → AsksNothing u rest → Leaves b name u outs
asks_nothing b name u rest outs streams held is r = Leaves.goes_on streams held r.text rest is r.begins (inr r.empty)

module _ (a : NodeState) (name : LinkId) (u : List ℕ) (b : NodeState) (outs : OutsState) where
  served_leaves : (c d : Core) (around : Around) (given : Given) (rest : List ℕ) (out : Output) → end_of b name ≡ Some (end_for false None rest) → Served c around u given d rest out → Leaves b name u outs
  served_leaves c d around given rest out is (Served.request words r answered) = asks b name u rest outs words false None is r
  served_leaves c d around given rest out is (Served.nothing r same gives) = asks_nothing b name u rest outs false None is r

  client_leaves : (given : Given) (fresh : List ℕ) → ClientRow a name u given fresh b outs → Leaves b name u outs
  client_leaves given fresh (ClientRow.serves r) = served_leaves a.core b.core r.around given r.rest r.out r.leaves.is r.served
  client_leaves given fresh (ClientRow.closes r) = Leaves.ends r.shut.is (ap (λ (z : OutsState). z.closes) r.outs_are)
  client_leaves given fresh (ClientRow.halts r) = asks b name u r.rest outs r.asks.words false None r.leaves.is r.asks.asks
  client_leaves given fresh (ClientRow.synchronizes r) = asks b name u r.rest outs r.words true None r.leaves.is r.asks
  client_leaves given fresh (ClientRow.promotes r) = asks b name u r.rest outs r.words false None r.ends.is r.asks
  client_leaves given fresh (ClientRow.turns r) = asks b name u r.rest outs r.words false None r.ends.is r.asks
  client_leaves given fresh (ClientRow.demotes r) = asks b name u r.rest outs r.words false None r.ends.is r.asks
  client_leaves given fresh (ClientRow.begins r) = asks b name u r.rest outs r.words false (Some begun) r.leaves.is r.asks

  within_leaves : (t : Transaction) (given : Given) → WithinRow a name t u given b outs → Leaves b name u outs
  within_leaves t given (WithinRow.stands r) = asks b name u r.rest outs r.words false (Some r.next) r.leaves.is r.asks
  within_leaves t given (WithinRow.passes r) = asks_nothing b name u r.rest outs false (Some t) r.leaves.is r.asks
  within_leaves t given (WithinRow.drops r) = asks b name u r.rest outs r.words false None r.leaves.is r.asks
  within_leaves t given (WithinRow.executes r) = asks b name u r.rest outs r.words false None r.leaves.is r.asks
  within_leaves t given (WithinRow.closes r) = Leaves.ends r.shut.is (ap (λ (z : OutsState). z.closes) r.outs_are)

  expected_leaves : (rest : List ℕ) → end_of b name ≡ Some (end_for true None rest) → IsExpected u rest → Leaves b name u outs
  expected_leaves rest is (IsExpected.acknowledgement words offset r wish) = asks b name u rest outs words true None is r
  expected_leaves rest is (IsExpected.nothing r) = asks_nothing b name u rest outs true None is r

  replica_leaves : ReplicaRow a name u b outs → Leaves b name u outs
  replica_leaves (ReplicaRow.notes r) = expected_leaves r.rest r.leaves.is r.expected
  replica_leaves (ReplicaRow.parts r) = Leaves.ends r.shut.is (ap (λ (z : OutsState). z.closes) r.outs_are)

  -- what goes to replicas
  client_feeds : (given : Given) (fresh : List ℕ) → ClientRow a name u given fresh b outs → OnlyReplicas a outs.fed
  client_feeds given fresh (ClientRow.serves r) = to_replicas r.out.grown a outs.fed r.fed
  client_feeds given fresh (ClientRow.closes r) = to_nobody a outs.fed (ap (λ (z : OutsState). z.fed) r.outs_are)
  client_feeds given fresh (ClientRow.halts r) = to_nobody a outs.fed (ap (λ (z : OutsState). z.fed) r.outs_are)
  client_feeds given fresh (ClientRow.synchronizes r) = to_nobody a outs.fed (ap (λ (z : OutsState). z.fed) r.outs_are)
  client_feeds given fresh (ClientRow.promotes r) = to_nobody a outs.fed (ap (λ (z : OutsState). z.fed) r.outs_are)
  client_feeds given fresh (ClientRow.turns r) = to_nobody a outs.fed (ap (λ (z : OutsState). z.fed) r.outs_are)
  client_feeds given fresh (ClientRow.demotes r) = to_nobody a outs.fed (ap (λ (z : OutsState). z.fed) r.outs_are)
  client_feeds given fresh (ClientRow.begins r) = to_nobody a outs.fed (ap (λ (z : OutsState). z.fed) r.outs_are)

  within_feeds : (t : Transaction) (given : Given) → WithinRow a name t u given b outs → OnlyReplicas a outs.fed
  within_feeds t given (WithinRow.stands r) = to_nobody a outs.fed (ap (λ (z : OutsState). z.fed) r.outs_are)
  within_feeds t given (WithinRow.passes r) = to_nobody a outs.fed (ap (λ (z : OutsState). z.fed) r.outs_are)
  within_feeds t given (WithinRow.drops r) = to_nobody a outs.fed (ap (λ (z : OutsState). z.fed) r.outs_are)
  within_feeds t given (WithinRow.executes r) = to_replicas (grown_text r.effects) a outs.fed r.fed
  within_feeds t given (WithinRow.closes r) = to_nobody a outs.fed (ap (λ (z : OutsState). z.fed) r.outs_are)

  replica_feeds : ReplicaRow a name u b outs → OnlyReplicas a outs.fed
  replica_feeds (ReplicaRow.notes r) = to_nobody a outs.fed (ap (λ (z : OutsState). z.fed) r.outs_are)
  replica_feeds (ReplicaRow.parts r) = to_nobody a outs.fed (ap (λ (z : OutsState). z.fed) r.outs_are)

  -- a replica's end stays one, or is closed
  replica_stays : (k : Link) (reply : List ℕ) → k.streams ≡ true → ReplicaRow a name u b outs → (settled (end_of b name) (told reply k)).streams ≡ true
  replica_stays k reply q (ReplicaRow.notes r) = ap (λ o. (settled o (told reply k)).streams) r.leaves.is
  replica_stays k reply q (ReplicaRow.parts r) = ap (λ o. (settled o (told reply k)).streams) r.shut.is ∙ q

tick_feeds : (a b : NodeState) (now : ℤ) (outs : OutsState) → TickRow a now b outs → OnlyReplicas a outs.fed
tick_feeds a b now outs (TickRow.deletes up r) = to_replicas (texts r.effects) a outs.fed r.fed
tick_feeds a b now outs (TickRow.rests up replica mark r is) = go r
  where
    go : Rests a now mark outs → OnlyReplicas a outs.fed
    go (Rests.marks f e none) = to_nobody a outs.fed (ap (λ (z : OutsState). z.fed) none)
    go (Rests.acknowledges l f p e said) = to_nobody a outs.fed (ap (λ (z : OutsState). z.fed) said)
    go (Rests.waits f e none) = to_nobody a outs.fed (ap (λ (z : OutsState). z.fed) none)
    go (Rests.apart f p e none) = to_nobody a outs.fed (ap (λ (z : OutsState). z.fed) none)

-- ---- the step
both : {P : Type 0} (b : Bool) → b ≡ true → b ≡ false → P
both b p q = absurd (cc)

row_leaves : (w : WorldState) (l : ℕ) (given : Given) (fresh : List ℕ) (t : HasServed w l given fresh) → Leaves t.node t.link.name (unread t.link.ask) t.outs
row_leaves w l given fresh t = elim t.row [
  | ServedRow.client q g r ↦ client_leaves t.slot.node t.link.name (unread t.link.ask) t.node t.outs given fresh r
  | ServedRow.within held q g r ↦ within_leaves t.slot.node t.link.name (unread t.link.ask) t.node t.outs held given r
  | ServedRow.replica q r ↦ replica_leaves t.slot.node t.link.name (unread t.link.ask) t.node t.outs r
]

row_feeds : (w : WorldState) (l : ℕ) (given : Given) (fresh : List ℕ) (t : HasServed w l given fresh) → OnlyReplicas t.slot.node t.outs.fed
row_feeds w l given fresh t = elim t.row [
  | ServedRow.client q g r ↦ client_feeds t.slot.node t.link.name (unread t.link.ask) t.node t.outs given fresh r
  | ServedRow.within held q g r ↦ within_feeds t.slot.node t.link.name (unread t.link.ask) t.node t.outs held given r
  | ServedRow.replica q r ↦ replica_feeds t.slot.node t.link.name (unread t.link.ask) t.node t.outs r
]

row_plain : (w : WorldState) (l : ℕ) (given : Given) (fresh : List ℕ) (t : HasServed w l given fresh) → (settled (end_of t.node t.link.name) (told t.outs.reply t.link)).streams ≡ false → t.link.streams ≡ false
row_plain w l given fresh t e = elim t.row [
  | ServedRow.client q g r ↦ q
  | ServedRow.within held q g r ↦ q
  | ServedRow.replica q r ↦ both _ (replica_stays t.slot.node t.link.name (unread t.link.ask) t.node t.outs t.link t.outs.reply q r) e
]

-- what is left at an end
abbrev rest_at : Option EndState → List ℕ
rest_at None = []
rest_at (Some e) = unread_in e

unread_for : (streams : Bool) (held : Option Transaction) (v : List ℕ) → rest_at (Some (end_for streams held v)) ≡ v
unread_for true held v = refl
unread_for false None v = refl
unread_for false (Some t) v = refl

not_shut : {P : Type 0} (streams : Bool) (held : Option Transaction) (v : List ℕ) → Some shut ≡ Some (end_for streams held v) → P
not_shut true held v e = absurd (cc)
not_shut false None v e = absurd (cc)
not_shut false (Some t) v e = absurd (cc)

left_there : (b : NodeState) (name : LinkId) (u : List ℕ) (outs : OutsState) → Leaves b name u outs → Left (end_of b name) u
left_there b name u outs (Leaves.goes_on streams held text rest is e text_is) other within v q =
    (text, e ∙ ap (λ z. text ++ z) (sym (unread_for streams held rest) ∙ (ap rest_at (sym is ∙ q) ∙ unread_for other within v)))
left_there b name u outs (Leaves.ends is closes) other within v q = not_shut other within v (sym is ∙ q)

pub turns_use_texts : TurnsUseTexts
turns_use_texts w l given fresh t stays = go (row_leaves w l given fresh t)
  where
    go : Leaves t.node t.link.name (unread t.link.ask) t.outs → IsText usual (used_at (end_of t.node t.link.name) (unread t.link.ask))
    go (Leaves.goes_on streams held text rest is e text_is) = subst (IsText usual) (sym (open_front (unread t.link.ask) text rest (end_of t.node t.link.name) streams held is e)) text_is
    go (Leaves.ends is closes) = both t.outs.closes closes stays

same_number : (i j : ℕ) → (i == j) ≡ true → i ≡ j
same_number i j e = grind arith

-- ---- behind one event
module _ (w v : WorldState) (is : IsWorld w) (l : ℕ) (k : Link) (found : slice_get w.links l ≡ Some k) where
  same : v.links ≡ w.links → There v.links l k []
  same e = subst (λ z. There z l k []) (sym e) (as_it_was w.links l k found)

  as_links : (u : WorldState) (ts : List Turn) → v ≡ u → There u.links l k ts → There v.links l k ts
  as_links u ts e there = subst (λ (z : WorldState). There z.links l k ts) (sym e) there

  by_end : (b : Bool) (of_node of_client : Type 0) → (of_node → There v.links l k []) → (of_client → There v.links l k []) → by_opener b of_node of_client → There v.links l k []
  by_end true of_node of_client f g c = f c
  by_end false of_node of_client f g c = g c

  client_goes : (n : ℕ) → ClientCall w n v (Ok tt) → There v.links l k []
  client_goes n (Clients.comes c) = as_links _ [] c.is (one_more w.links _ l k found)
  client_goes n (Clients.stops c) = same (ap (λ (z : WorldState). z.links) c.is)
  client_goes n (Clients.rests d e) = same (ap (λ (z : WorldState). z.links) e)

  command_goes : (m : ℕ) (bytes : List ℕ) → CommandCall w m bytes v (Ok tt) → There v.links l k []
  command_goes m bytes c = as_links _ [] c.is (one_changed w.links m l c.link _ k c.at.found found (asked_more c.link bytes (is.asks m c.link c.at.found)))

  take_goes : (m count : ℕ) → TakeCall w m count v (Ok tt) → There v.links l k []
  take_goes m count c = as_links _ [] c.is (one_changed w.links m l c.link _ k c.at.found found (goes_as c.link (record c.link { tell = taken_on count c.link.tell }) refl (λ e. refl) (λ q. q) refl))

  leave_goes : (m : ℕ) → LeaveCall w m v (Ok tt) → There v.links l k []
  leave_goes m c = as_links _ [] c.is (one_changed w.links m l c.link _ k c.at.found found (goes_as c.link (record c.link { caller = a_client false }) refl (λ e. refl) (λ q. q) refl))

  break_goes : (m : ℕ) → BreakCall w m v (Ok tt) → There v.links l k []
  break_goes m (Breaks.closes c) = as_links _ [] c.is (one_changed w.links m l c.link _ k c.served.found found (shuts true c.link))
  break_goes m (Breaks.idles j at down e) = same (ap (λ (z : WorldState). z.links) e)

  deliver_goes : (m count : ℕ) → DeliverCall w m count v (Ok tt) → There v.links l k []
  deliver_goes m count (Delivers.hears c) =
      as_links _ [] c.is (one_changed w.links m l c.link _ k c.can.served.found found (goes_as c.link (record c.link { ask = taken_on count c.link.ask }) refl (λ e. refl) (λ q. q) refl))
  deliver_goes m count (Delivers.rests r e) = same (ap (λ (z : WorldState). z.links) e)

  listen_goes : (m count : ℕ) → ListenCall w m count v (Ok tt) → There v.links l k []
  listen_goes m count (Tells.listens c) =
      as_links _ [] c.is (one_changed w.links m l c.link _ k (ap (slice_get w.links) (sym c.told.by.dialled) ∙ c.told.by.followed.found) found (goes_as c.link (record c.link { tell = taken_on count c.link.tell }) refl (λ e. refl) (λ q. q) refl))
  listen_goes m count (Tells.rests r e) = same (ap (λ (z : WorldState). z.links) e)

  drop_goes : (m : ℕ) → DropCall w m v (Ok tt) → There v.links l k []
  drop_goes m (BreaksOff.drops c) = same (ap (λ (z : WorldState). z.links) c.is)
  drop_goes m (BreaksOff.rests r e) = same (ap (λ (z : WorldState). z.links) e)

  tick_goes : (n : ℕ) (now : ℤ) → TickCall w n now v (Ok tt) → There v.links l k []
  tick_goes n now (Ticks.carries t e) =
      as_links _ [] e (said_there w is n t.slot t.running.at t.running.up t.outs (tick_feeds t.slot.node t.node now t.outs t.row) t.outs.link t.slot.dialled t.outs.reply l k found)
  tick_goes n now (Ticks.fails t takes e) = same (ap (λ (z : WorldState). z.links) e)
  tick_goes n now (Ticks.rests d e) = same (ap (λ (z : WorldState). z.links) e)

  follow_goes : (m : ℕ) → Follows w m v → There v.links l k []
  follow_goes m (Follows.carries h e) =
      let by = h.who.by.followed in
      as_links _ [] e (one_changed w.links h.who.slot.dialled l h.who.link _ k by.found found (heard_more h.who.link h.node.follow h.outs.reply (is.asks h.who.slot.dialled h.who.link by.found)))
  follow_goes m (Follows.fails h takes e) = same (ap (λ (z : WorldState). z.links) e)
  follow_goes m (Follows.waits h) = same (ap (λ (z : WorldState). z.links) h.is)
  follow_goes m (Follows.spends h) = same (ap (λ (z : WorldState). z.links) h.is)
  follow_goes m (Follows.rests r e) = same (ap (λ (z : WorldState). z.links) e)

  dial_goes : (n m : ℕ) → Dialled w n m v → There v.links l k []
  dial_goes n m (Dialled.connects d) = as_links _ [] d.is (one_more w.links _ l k found)
  dial_goes n m (Dialled.server_stops b d) = same (ap (λ (z : WorldState). z.links) d.is)
  dial_goes n m (Dialled.dialler_stops b d) = same (ap (λ (z : WorldState). z.links) d.is)
  dial_goes n m (Dialled.dialler_rests d e) = same (ap (λ (z : WorldState). z.links) e)
  dial_goes n m (Dialled.server_rests d e) = same (ap (λ (z : WorldState). z.links) e)

  connect_goes : (n : ℕ) → Connected w n v → There v.links l k []
  connect_goes n (Connected.opens d) = as_links _ [] d.is (one_more w.links _ l k found)
  connect_goes n (Connected.stops d) = same (ap (λ (z : WorldState). z.links) d.is)
  connect_goes n (Connected.rests d e) = same (ap (λ (z : WorldState). z.links) e)

  -- what a link that waited has carried stays
  accept_goes : (i m : ℕ) → Accepted w i m v → There v.links l k []
  accept_goes i m (Accepted.accepts d) =
      as_links _ [] d.is (one_changed w.links i l d.link _ k d.waiting.found found (goes_as d.link (accepted_by m d.at d.link) refl (λ e. refl) (λ q. may_still d.link d.waiting.waits) refl))
  accept_goes i m (Accepted.stops d) = same (ap (λ (z : WorldState). z.links) d.is)
  accept_goes i m (Accepted.rests d e) = same (ap (λ (z : WorldState). z.links) e)

  -- a step at the server's end of the link m, which is this one or another
  served_goes : (m : ℕ) (given : Given) (fresh : List ℕ) (t : HasServed w m given fresh) (here : Bool) → (m == l) ≡ here
      → There (stepped w t.link.to t.slot m t.link t.node t.outs).links l k (if here then turn_of w m given fresh t ∷ [] else [])
  served_goes m given fresh t true e =
      let one : m ≡ l = same_number m l e in
      let own_found : slice_get w.links l ≡ Some t.link = ap (slice_get w.links) (sym one) ∙ t.served.found in
      let this : t.link ≡ k = some_is t.link k (sym own_found ∙ found) in record {
        link = settled (end_of t.node t.link.name) (told t.outs.reply t.link);
        found = ap (slice_get (slice_set (map (reached t.link.to t.outs) w.links) m (settled (end_of t.node t.link.name) (told t.outs.reply t.link)))) (sym one)
            ∙ set_here (map (reached t.link.to t.outs) w.links) m (settled (end_of t.node t.link.name) (told t.outs.reply t.link)) (reached t.link.to t.outs t.link)
            (slice_get-map (reached t.link.to t.outs) w.links m ∙ ap (option_map (reached t.link.to t.outs)) t.served.found);
        goes = subst (λ (z : Link). Goes z (settled (end_of t.node t.link.name) (told t.outs.reply t.link)) (turn_of w m given fresh t ∷ [])) this
            (own (end_of t.node t.link.name) t.link t.outs.reply (is.asks m t.link t.served.found) t.served.serving (served_not_waiting w is m t.link t.served.found t.served.serving) (row_plain w m given fresh t)
            (left_there t.node t.link.name (unread t.link.ask) t.outs (row_leaves w m given fresh t)));
      }
  served_goes m given fresh t false e =
      let apart : l ≢ m = λ q. both (m == l) (eqb_yes m l (sym q)) e in
      let there = reached_there w is t.link.to t.slot t.served.at t.served.up t.outs (row_feeds w m given fresh t) l k found in record {
        link = there.link;
        found = set_there (map (reached t.link.to t.outs) w.links) m l (settled (end_of t.node t.link.name) (told t.outs.reply t.link)) apart ∙ there.found;
        goes = there.goes;
      }

  none_here : (here : Bool) → There v.links l k [] → There v.links l k (if here then [] else [])
  none_here true there = there
  none_here false there = there

  step_goes : (m : ℕ) (given : Given) (fresh : List ℕ) (c : ServesLink w m given fresh v) → There v.links l k (if m == l then turns_in w m given fresh v c else [])
  step_goes m given fresh (ServesLink.carries t e) = as_links _ _ e (served_goes m given fresh t (m == l) refl)
  step_goes m given fresh (ServesLink.fails t takes e) = none_here (m == l) (same (ap (λ (z : WorldState). z.links) e))
  step_goes m given fresh (ServesLink.idles t e) = none_here (m == l) (same (ap (λ (z : WorldState). z.links) e))
  step_goes m given fresh (ServesLink.spends t e) = none_here (m == l) (same (ap (λ (z : WorldState). z.links) e))
  step_goes m given fresh (ServesLink.rests j at down e) = none_here (m == l) (same (ap (λ (z : WorldState). z.links) e))

  goes_by : (e : Event) (c : EventCall w e v (Ok tt)) → There v.links l k (turns_by l w e v c)
  goes_by (event.Start id config) c = same (ap (λ (z : WorldState). z.links) c.1)
  goes_by (event.Client n) c = client_goes n c
  goes_by (event.Command m bytes) c = command_goes m bytes.items c
  goes_by (event.Deliver m side.Server count) c = deliver_goes m count c
  goes_by (event.Deliver m side.Opener count) c = by_end (is_between_nodes (slice_get w.links m)) _ _ (listen_goes m count) (take_goes m count) c
  goes_by (event.Step m side.Server given fresh) c = step_goes m given fresh c.1
  goes_by (event.Step m side.Opener given fresh) c = follow_goes m c.1
  goes_by (event.Tick n given) c = tick_goes n given.now c
  goes_by (event.Break m side.Server) c = break_goes m c
  goes_by (event.Break m side.Opener) c = by_end (is_between_nodes (slice_get w.links m)) _ _ (drop_goes m) (leave_goes m) c
  goes_by (event.Dial n m) c = dial_goes n m c.1
  goes_by (event.Connect n) c = connect_goes n c.1
  goes_by (event.Accept i m) c = accept_goes i m c.1
  goes_by (event.Restart n kept id config) c = as_links _ [] c.1.is (all_changed (λ z. shut_if (z.to == n) z) w.links l k found (shuts (k.to == n) k))

-- ---- in a run
run_goes : (w : WorldState) (es : List Event) (vs : List WorldState) → IsWorld w → (are : AreMoments w es vs) (l : ℕ) (k : Link) → slice_get w.links l ≡ Some k
    → There (last_of w vs).links l k (turns_of l w es vs are) × IsWorld (last_of w vs)
run_goes w [] [] is are l k found = (as_it_was w.links l k found, is)
run_goes w [] (v ∷ vs) is are l k found = absurd are
run_goes w (e ∷ es) [] is are l k found = absurd are
run_goes w (e ∷ es) (v ∷ vs) is are l k found =
    let a = goes_by w v is l k found e are.0 in
    let b = run_goes v es vs are.1 are.2 l a.link a.found in
    (record { link = b.0.link; found = b.0.found; goes = join k a.link b.0.link (turns_by l w e v are.0) (turns_of l v es vs are.2) a.goes b.0.goes }, b.1)

taken_front : (w : WayState) → IsWay w → take w.taken w.sent ≡ take w.used w.sent ++ unread w
taken_front w way = let count : w.taken ≡ w.used + (w.taken - w.used) = omega (arith, way.used_within) in ap (λ z. take z w.sent) count ∙ take-add w.used (w.taken - w.used) w.sent

pub links_are_in_order : LinksAreInOrder
links_are_in_order w es v is t l k m found later plain =
    let r = run_goes w es t.moments is t.are l k found in
    let there : slice_get v.links l ≡ Some r.0.link = ap (λ (z : WorldState). slice_get z.links l) (sym t.ends) ∙ r.0.found in
    let goes : Goes k m (turns_of l w es t.moments t.are) = subst (λ z. Goes k z (turns_of l w es t.moments t.are)) (some_is r.0.link m (sym there ∙ later)) r.0.goes in
    let way : IsWay m.ask = (subst IsWorld t.ends r.1).asks l m later in record {
      said = goes.said plain;
      took = λ q. taken_front m.ask way ∙ (ap (λ z. z ++ unread m.ask) (goes.used plain (may_serve m q)) ∙ append_assoc (take k.ask.used k.ask.sent) (all_used (turns_of l w es t.moments t.are)) (unread m.ask));
    }
