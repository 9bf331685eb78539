-- Each row is a few moves.
use Rattle.std.proofs.Common.{ℕ, List, [], ◌∷◌, ◌++◌, ◌+◌, ◌≤◌, ◌≡◌, ◌⊎◌, Bool, Option, None, Some, true, false, cond, length, refl, sym, ◌∙◌, ap, subst, inl, inr, arith, ◌==◌}
use Rattle.law_protocol.specs.Language.{Language, Laws}
use Rattle.law_protocol.specs.Node.{Node}
use Rattle.law_protocol.specs.Node.Phase.{Stream}
use Rattle.law_protocol.specs.World.{Caller, Way, Link, World, IsUntouched, no_bytes, is_to, shut}
use Rattle.law_protocol.specs.World.Caller.{Client, Peer}
use Rattle.law_protocol.specs.Event.{Event}
use Rattle.law_protocol.specs.Event.Side.{Server, Dialler}
use Rattle.law_protocol.specs.Changing.{Still, LinkBecomes, Unless, NodeBecomes}
use Rattle.law_protocol.specs.ServerRows.{ServerRow}
use Rattle.law_protocol.specs.FollowerRows.{FollowerRow}
use Rattle.law_protocol.specs.Rows.{fresh_node, fresh_link, more, StartRow, RestartRow, Opens, ClientRow, Dials, DialRow, Calls, ConnectRow, Accepts, AcceptRow, CommandRow, DeliverToServer, DeliverToReplica, DeliverToClient, BreakOfReplica, BreakOfClient, Acknowledges, Ticks, Row}
use Rattle.law_protocol.specs.Invariant.{Talk, Invariant}
use Rattle.law_protocol.specs.Invariant.Talk.{greeting, greeted, asking, asking_for, refused, answered_full, answered_cont, loading, streaming}
use Rattle.law_protocol.proofs.Moves.{Move, Reaches}
use Rattle.law_protocol.proofs.Moves.Move.{still, leave, close, carry, loose, draw, extend, connect, accept, noted}
use Rattle.law_protocol.proofs.Moves.Reaches.{by_moves}
use Rattle.law_protocol.proofs.Keeping.{none_some, asked_untouched}
use Rattle.law_protocol.proofs.Fronts.{some_is}
use Rattle.law_protocol.proofs.Extend.{to_yes}
use Rattle.law_protocol.proofs.Refine.{one, Free, shut_one, shut_none, stops_reach}
use Rattle.law_protocol.proofs.FollowerReaches.{follower_reaches}
use Rattle.law_protocol.proofs.ServerReaches.{server_reaches}

still_reaches : {L : Language} (w v : World L) → Still w v → Reaches w v
still_reaches w v s = one w v (still s.nodes s.links s.book)

unless : {L : Language} (w v : World L) (a : Node L) (Act : Type 0) → (a.up ≡ true → Act → Reaches w v) → Unless w v a Act → Reaches w v
unless w v a Act f (Unless.acts u x) = f u x
unless w v a Act f (Unless.stopped u s) = still_reaches w v s

start_reaches : {L : Language} (w v : World L) (i : L.Id) (master : Bool) → StartRow w i master v → Reaches w v
start_reaches {L} w v i master r =
    one w v (draw r.node (fresh_node L i master L.empty) r.book.new_id refl refl refl refl (λ l k e h. absurd (r.unnamed l k e h)) r.nodes r.links r.book.book)

restart_reaches : {L : Language} (w v : World L) (n : ℕ) (file : List ℕ) (i : L.Id) → RestartRow w n file i v → Reaches w v
restart_reaches {L} w v n file i r = by_moves (closed ∷ []) (first, second)
  where
    closed : World L
    closed = record { node = w.node; link = v.link; book = w.book }

    first : Move w closed
    first = close (λ j k. is_to n k.to) (λ j. refl) r.no_links r.links (λ j. refl)

    shut_to : (j : ℕ) (k : Link) → v.link j ≡ Some k → k.to ≡ Some n → k.serving ≡ false
    shut_to j k e h = go (w.link j) refl
      where
        go : (o : Option Link) → w.link j ≡ o → k.serving ≡ false
        go None q = none_some (v.link j) k (r.no_links j q) e
        go (Some z) q =
            let same = some_is (shut (is_to n z.to) z) k (sym (r.links j z q) ∙ e) in
            let yes_is : is_to n z.to ≡ true = to_yes n z.to (ap (λ x. x.to) same ∙ h) in
            sym (ap (λ x. x.serving) same) ∙ ap (λ x. cond x false z.serving) yes_is

    second : Move closed v
    second = draw n (fresh_node L i r.old.starts_as_master r.held) r.book.new_id refl refl refl refl shut_to r.nodes (λ j. refl) r.book.book

-- nobody follows a link that isn't there, or that a client asked for
new_is_free : {L : Language} (w : World L) (l : ℕ) → Invariant w → w.link l ≡ None → Free w l
new_is_free w l inv e m a p ea u ef = let o = inv.links m a (record { link = l; phase = p }) ea u ef in none_some (w.link l) o.link e o.found

not_both : (c : Caller) (b : Bool) (m : ℕ) → c ≡ Client b → c ≡ Peer m → ⊥
not_both c b m p q = let e = sym p ∙ q in cc

client_is_free : {L : Language} (w : World L) (l : ℕ) (k : Link) (b : Bool) → Invariant w → w.link l ≡ Some k → k.caller ≡ Client b → Free w l
client_is_free w l k b inv e c m a p ea u ef =
    let o = inv.links m a (record { link = l; phase = p }) ea u ef in
    let i = some_is o.link k (sym o.found ∙ e) in
    not_both k.caller b m c (ap (λ z. z.caller) (sym i) ∙ o.mine)

client_reaches : {L : Language} (w v : World L) (n : ℕ) → Invariant w → ClientRow w n v → Reaches w v
client_reaches {L} w v n inv r = unless w v r.node (Opens w v n r.node) (λ u x. go x) r.does
  where
    go : Opens w v n r.node → Reaches w v
    go (Opens.opens l new b) = one w v (loose l (fresh_link (Client true) (Some n) []) (new_is_free w l inv new) (λ q. none_some (Some n) n q refl) b.nodes b.links b.book)
    go (Opens.stops s) = stops_reach w v n r.node s

dial_reaches : {L : Language} (w v : World L) (n s : ℕ) → DialRow w n s v → Reaches w v
dial_reaches {L} w v n s r = unless w v r.node (Unless w v r.server (Dials w v n s r.node r.server)) (λ u x. unless w v r.server (Dials w v n s r.node r.server) (λ u' y. go y) x) r.does
  where
    go : Dials w v n s r.node r.server → Reaches w v
    go (Dials.connects x) = one w v (connect n x.link (Some s) r.node x.request x.asks r.found r.replica r.waiting x.new_link x.nodes x.links x.book)
    go (Dials.stops x) = stops_reach w v n r.node x
    go (Dials.server_stops x) = stops_reach w v s r.server x

connect_reaches : {L : Language} (w v : World L) (n : ℕ) → ConnectRow w n v → Reaches w v
connect_reaches {L} w v n r = unless w v r.node (Calls w v n r.node) (λ u x. go x) r.does
  where
    go : Calls w v n r.node → Reaches w v
    go (Calls.connects x) = one w v (connect n x.link None r.node x.request x.asks r.found r.replica r.waiting x.new_link x.nodes x.links x.book)
    go (Calls.stops x) = stops_reach w v n r.node x

accept_reaches : {L : Language} (w v : World L) (l m : ℕ) → AcceptRow w l m v → Reaches w v
accept_reaches {L} w v l m r = unless w v r.node (Accepts w v l m r.link r.node) (λ u x. go x) r.does
  where
    go : Accepts w v l m r.link r.node → Reaches w v
    go (Accepts.accepts b) = one w v (accept l m r.link r.found r.waiting b.nodes b.links b.book)
    go (Accepts.stops x) = stops_reach w v m r.node x

command_reaches : {L : Language} (w v : World L) (l : ℕ) (bytes : List ℕ) → Invariant w → CommandRow w l bytes v → Reaches w v
command_reaches {L} w v l bytes inv r =
    one w v (loose l _ (client_is_free w l r.link true inv r.found r.client) (λ q. asked_untouched r.link _ (inv.waiting l r.link r.found q)) r.becomes.nodes r.becomes.links r.becomes.book)

deliver_to_server : {L : Language} (w v : World L) (l n : ℕ) → DeliverToServer w l n v → Reaches w v
deliver_to_server {L} w v l n r = unless w v r.at.node (LinkBecomes w v l (record r.at.link { ask = more n r.at.link.ask }))
    (λ u x. one w v (carry l (r.at.link.ask.taken + n) r.at.link.tell.taken r.at.link r.at.found (λ q. none_some r.at.link.to r.at.n q r.at.to) x.nodes x.links x.book)) r.does

-- of what nobody said no byte is taken
more_none : (n : ℕ) (way : Way) → way ≡ no_bytes → way.taken + n ≤ length way.left → more n way ≡ no_bytes
more_none n way e h =
    let none : n ≡ 0 = (let t = ap (λ z. z.taken) e in let b = ap (λ z. length z.left) e in omega (arith, t, b, h)) in
    ap (λ z. more z way) none ∙ (more_zero way ∙ e)
  where
    more_zero : (way : Way) → more 0 way ≡ way
    more_zero way = let z : way.taken + 0 ≡ way.taken = omega arith in ap (λ t. record way { taken = t }) z

told_untouched : (k : Link) (n : ℕ) → k.tell.taken + n ≤ length k.tell.left → IsUntouched k → IsUntouched (record k { tell = more n k.tell })
told_untouched k n h u = record { serving = u.serving; streams = u.streams; ask = u.ask; tell = more_none n k.tell u.tell h; transaction = u.transaction }

deliver_to_replica : {L : Language} (w v : World L) (l n : ℕ) → Invariant w → DeliverToReplica w l n v → Reaches w v
deliver_to_replica {L} w v l n inv r = unless w v r.at.node (LinkBecomes w v l (record r.at.link { tell = more n r.at.link.tell }))
    (λ u x. one w v (carry l r.at.link.ask.taken (r.at.link.tell.taken + n) r.at.link r.at.found (λ q. told_untouched r.at.link n r.sent (inv.waiting l r.at.link r.at.found q)) x.nodes x.links x.book)) r.does

deliver_to_client : {L : Language} (w v : World L) (l n : ℕ) → Invariant w → DeliverToClient w l n v → Reaches w v
deliver_to_client {L} w v l n inv r =
    one w v (carry l r.at.link.ask.taken (r.at.link.tell.taken + n) r.at.link r.at.found (λ q. told_untouched r.at.link n r.sent (inv.waiting l r.at.link r.at.found q)) r.becomes.nodes r.becomes.links r.becomes.book)

streams_is : {L : Language} (w : World L) (a : Node L) (k : Link) → Talk w a Stream k → k.streams ≡ true
streams_is w a k (greeting x e s y z) = absurd (cc)
streams_is w a k (greeted x t e s y z h) = absurd (cc)
streams_is w a k (asking e s y z) = absurd (cc)
streams_is w a k (asking_for e s y z) = absurd (cc)
streams_is w a k (refused t e s y z h) = absurd (cc)
streams_is w a k (answered_full i o m b e y at f) = f.streams
streams_is w a k (answered_cont i b e y g f) = f.streams
streams_is w a k (loading i o m b e y at f) = f.streams
streams_is w a k (streaming b e y f) = f.streams

acknowledges_reach : {L : Language} (w v : World L) (n : ℕ) (a : Node L) → Invariant w → w.node n ≡ Some a → a.up ≡ true → Acknowledges w v a → Reaches w v
acknowledges_reach {L} w v n a inv ea u r =
    let o = inv.links n a (record { link = r.l; phase = Stream }) ea u r.follow in
    let i = some_is o.link r.link (sym o.found ∙ r.found) in
    one w v (noted r.l r.link (r.link.ask.left ++ r.bytes) r.found (streams_is w a r.link (subst (λ z. Talk w a Stream z) i o.talk)) r.becomes.nodes r.becomes.links r.becomes.book)

tick_reaches : {L : Language} (w v : World L) (n : ℕ) (a : Node L) (given : L.Given) → Invariant w → w.node n ≡ Some a → a.up ≡ true → Ticks w v n a given → Reaches w v
tick_reaches {L} w v n a given inv ea u (Ticks.beats r) =
    one w v (extend n a r.effects r.grown.held r.grown.backlog r.grown.book.history ea u r.master r.grown.good r.grown.folds r.grown.last_bytes r.grown.nodes
    r.no_links r.links r.grown.book.found r.grown.book.book)
tick_reaches w v n a given inv ea u (Ticks.acknowledges r) = acknowledges_reach w v n a inv ea u r
tick_reaches w v n a given inv ea u (Ticks.rests m s) = still_reaches w v s
tick_reaches w v n a given inv ea u (Ticks.stops r) = stops_reach w v n a r

break_of_client : {L : Language} (w v : World L) (l : ℕ) → Invariant w → BreakOfClient w l v → Reaches w v
break_of_client {L} w v l inv r =
    one w v (loose l _ (client_is_free w l r.at.link true inv r.at.found r.at.client) (λ q. gone r.at.link (inv.waiting l r.at.link r.at.found q)) r.becomes.nodes r.becomes.links r.becomes.book)
  where
    gone : (k : Link) → IsUntouched k → IsUntouched (record k { caller = Client false })
    gone k u = record { serving = u.serving; streams = u.streams; ask = u.ask; tell = u.tell; transaction = u.transaction }

either : {A B P : Type 0} → (A → P) → (B → P) → A ⊎ B → P
either f g (inl x) = f x
either f g (inr x) = g x

pub row_reaches : {L : Language} (laws : Laws L) (w : World L) (e : Event L) (v : World L) → Invariant w → Row w e v → Reaches w v
row_reaches laws w (Event.Start i master) v inv r = start_reaches w v i master r
row_reaches laws w (Event.Restart n file i) v inv r = restart_reaches w v n file i r
row_reaches laws w (Event.Client n) v inv r = client_reaches w v n inv r
row_reaches laws w (Event.Dial n s) v inv r = dial_reaches w v n s r
row_reaches laws w (Event.Connect n) v inv r = connect_reaches w v n r
row_reaches laws w (Event.Accept l m) v inv r = accept_reaches w v l m r
row_reaches laws w (Event.Command l bytes) v inv r = command_reaches w v l bytes inv r
row_reaches laws w (Event.Deliver l Server n) v inv r = deliver_to_server w v l n r
row_reaches laws w (Event.Deliver l Dialler n) v inv r = either (λ x. deliver_to_replica w v l n inv x) (λ x. deliver_to_client w v l n inv x) r
row_reaches laws w (Event.Step l Server given fresh) v inv r =
    unless w v r.at.node (ServerRow w v r.at.n l r.at.link r.at.node given fresh) (λ u x. server_reaches laws w v r.at.n l r.at.link r.at.node given fresh inv r.at.found r.at.to r.at.node_found r.at.serving u x) r.does
row_reaches laws w (Event.Step l Dialler given fresh) v inv r =
    unless w v r.at.node (FollowerRow w v r.at.n l r.at.node r.at.phase r.at.link) (λ u x. follower_reaches laws w v r.at.n l r.at.node r.at.phase r.at.link inv r.at.found r.at.node_found r.at.follow u x) r.does
row_reaches laws w (Event.Tick n given) v inv r = unless w v r.node (Ticks w v n r.node given) (λ u x. tick_reaches w v n r.node given inv r.found u x) r.does
row_reaches laws w (Event.Break l Server) v inv r =
    unless w v r.at.node (LinkBecomes w v l (shut true r.at.link)) (λ u x. one w v (close (λ j y. j == l) x.nodes (shut_none w.link v.link l r.at.link _ r.at.found x.links) (shut_one w v l r.at.link r.at.found x.links) x.book)) r.does
row_reaches laws w (Event.Break l Dialler) v inv r = either (λ x. break_of_replica x) (λ x. break_of_client w v l inv x) r
  where
    break_of_replica : BreakOfReplica w l v → Reaches w v
    break_of_replica x = unless w v x.at.node (NodeBecomes w v x.at.n (record x.at.node { follow = None }))
        (λ u b. one w v (leave x.at.n x.at.node x.at.node.offers x.at.node.upstream x.at.node_found b.nodes b.links b.book)) x.does
