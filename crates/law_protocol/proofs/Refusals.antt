-- What no row does.
use Rattle.std.proofs.Common.{ℕ, List, [], ◌++◌, ◌≡◌, ◌≢◌, ◌+◌, ◌⊎◌, Option, None, Some, Bool, true, false, refl, sym, ◌∙◌, ap, subst, inl, inr, arith}
use Rattle.std.specs.Prelude.{cond}
use Rattle.law_protocol.specs.Language.{Language}
use Rattle.law_protocol.specs.Language.Request.{Psync}
use Rattle.law_protocol.specs.Changes.{SetAt, Same}
use Rattle.law_protocol.specs.Node.{Phase, Node, continued, tail}
use Rattle.law_protocol.specs.Node.Phase.{Greet, Stream}
use Rattle.law_protocol.specs.World.{Link, World, unread, no_bytes}
use Rattle.law_protocol.specs.Event.{Event}
use Rattle.law_protocol.specs.Event.Side.{Server, Dialler}
use Rattle.law_protocol.specs.Changing.{Stops, Unless}
use Rattle.law_protocol.specs.ServerRows.{Uses, ServerRow}
use Rattle.law_protocol.specs.FollowerRows.{BadAnswer, BadStream, Leaves, FollowerRow}
use Rattle.law_protocol.specs.FollowerRows.Usable.{a_reply, an_answer, a_snapshot, an_effect}
use Rattle.law_protocol.specs.Rows.{Opens, Connects, Dials, DialRow, Calls, ConnectRow, Accepts, Ticks, Row}
use Rattle.law_protocol.specs.EachEvent.{LeadsAnew, BookChange, BookChangesByThreeWays, MastersTakeNewIds, StartsAnew, RestartsUnderNewIds, ShowsTheSame, PartsChangeNothing, Answer, Answered, AnswersAreOfOneMoment, AsksFromWhereItStands, StreamsAreFollowed, OpensAnEnd, DialledLinksAreEmpty}
use Rattle.law_protocol.proofs.Fronts.{some_is}
use Rattle.law_protocol.proofs.Keeping.{one_or, true_false, none_some}

-- the book

abbrev Booked : {L : Language} → World L → World L → Type 0
Booked w v = BookChange w v

unless_stays : {L : Language} (w v : World L) (a : Node L) (Act : Type 0) → Unless w v a Act → (a.up ≡ true → Act → Booked w v) → Booked w v
unless_stays w v a Act (Unless.acts u x) f = f u x
unless_stays w v a Act (Unless.stopped u s) f = BookChange.stays s.book

server_books : {L : Language} (w v : World L) (n l : ℕ) (k : Link) (s : Node L) (given : L.Given) (fresh : L.Id) → w.node n ≡ Some s → s.up ≡ true
    → ServerRow w v n l k s given fresh → Booked w v
server_books w v n l k s given fresh e u (ServerRow.idles r) = BookChange.stays r.still.book
server_books w v n l k s given fresh e u (ServerRow.stops r) = BookChange.stays r.book
server_books w v n l k s given fresh e u (ServerRow.notes r) = BookChange.stays r.becomes.book
server_books w v n l k s given fresh e u (ServerRow.shuts r) = BookChange.stays r.becomes.book
server_books w v n l k s given fresh e u (ServerRow.skips r) = BookChange.stays r.becomes.book
server_books w v n l k s given fresh e u (ServerRow.faults r) = BookChange.stays r.becomes.book
server_books w v n l k s given fresh e u (ServerRow.greets r) = BookChange.stays r.becomes.book
server_books w v n l k s given fresh e u (ServerRow.refuses r) = BookChange.stays r.becomes.book
server_books w v n l k s given fresh e u (ServerRow.resynchronizes r) = BookChange.stays r.becomes.book
server_books w v n l k s given fresh e u (ServerRow.goes_on r) = BookChange.stays r.becomes.book
server_books w v n l k s given fresh e u (ServerRow.replies r) = BookChange.stays r.becomes.book
server_books w v n l k s given fresh e u (ServerRow.answers r) = BookChange.stays r.becomes.book
server_books w v n l k s given fresh e u (ServerRow.passes_limit r) = BookChange.stays r.becomes.book
server_books w v n l k s given fresh e u (ServerRow.runs r) = BookChange.extends n s r.effects e u r.master r.grown.book
server_books w v n l k s given fresh e u (ServerRow.quits r) = BookChange.stays r.becomes.book
server_books w v n l k s given fresh e u (ServerRow.promotes r) = BookChange.branches n s _ e u r.replica r.nodes.0 refl r.book
server_books w v n l k s given fresh e u (ServerRow.demotes r) = BookChange.stays r.book
server_books w v n l k s given fresh e u (ServerRow.turns r) = BookChange.stays r.book

leaving_books : {L : Language} (w v : World L) (n : ℕ) (a : Node L) (p : Phase L.Id) (k : Link) → Leaves w v n a p k → Booked w v
leaving_books w v n a p k (Leaves.at_an_answer c b) = BookChange.stays b.book
leaving_books w v n a p k (Leaves.at_the_stream c b) = BookChange.stays b.book

follower_books : {L : Language} (w v : World L) (n l : ℕ) (a : Node L) (p : Phase L.Id) (k : Link) → FollowerRow w v n l a p k → Booked w v
follower_books w v n l a p k (FollowerRow.idles r) = BookChange.stays r.still.book
follower_books w v n l a p k (FollowerRow.stops r) = BookChange.stays r.book
follower_books w v n l a p k (FollowerRow.leaves r) = leaving_books w v n a p k r
follower_books w v n l a p k (FollowerRow.hears_reply r) = BookChange.stays r.becomes.book
follower_books w v n l a p k (FollowerRow.hears_last_reply r) = BookChange.stays r.becomes.book
follower_books w v n l a p k (FollowerRow.hears_full_resync r) = BookChange.stays r.becomes.book
follower_books w v n l a p k (FollowerRow.hears_continue r) = BookChange.stays r.becomes.book
follower_books w v n l a p k (FollowerRow.loads r) = BookChange.stays r.becomes.book
follower_books w v n l a p k (FollowerRow.applies r) = BookChange.stays r.becomes.book

opening_books : {L : Language} (w v : World L) (n : ℕ) (a : Node L) → Opens w v n a → Booked w v
opening_books w v n a (Opens.opens l new b) = BookChange.stays b.book
opening_books w v n a (Opens.stops r) = BookChange.stays r.book

dialling_books : {L : Language} (w v : World L) (n s : ℕ) (a b : Node L) → Dials w v n s a b → Booked w v
dialling_books w v n s a b (Dials.connects r) = BookChange.stays r.book
dialling_books w v n s a b (Dials.stops r) = BookChange.stays r.book
dialling_books w v n s a b (Dials.server_stops r) = BookChange.stays r.book

calling_books : {L : Language} (w v : World L) (n : ℕ) (a : Node L) → Calls w v n a → Booked w v
calling_books w v n a (Calls.connects r) = BookChange.stays r.book
calling_books w v n a (Calls.stops r) = BookChange.stays r.book

accepting_books : {L : Language} (w v : World L) (l m : ℕ) (k : Link) (b : Node L) → Accepts w v l m k b → Booked w v
accepting_books w v l m k b (Accepts.accepts r) = BookChange.stays r.book
accepting_books w v l m k b (Accepts.stops r) = BookChange.stays r.book

ticking_books : {L : Language} (w v : World L) (n : ℕ) (a : Node L) (given : L.Given) → w.node n ≡ Some a → a.up ≡ true → Ticks w v n a given → Booked w v
ticking_books w v n a given e u (Ticks.beats r) = BookChange.extends n a r.effects e u r.master r.grown.book
ticking_books w v n a given e u (Ticks.acknowledges r) = BookChange.stays r.becomes.book
ticking_books w v n a given e u (Ticks.rests m s) = BookChange.stays s.book
ticking_books w v n a given e u (Ticks.stops r) = BookChange.stays r.book

either : {A B P : Type 0} → A ⊎ B → (A → P) → (B → P) → P
either (inl x) f g = f x
either (inr x) f g = g x

pub book_changes : {L : Language} → BookChangesByThreeWays L
book_changes {L} w v (Event.Start i master) r = BookChange.draws r.node _ r.nodes.0 refl r.book
book_changes {L} w v (Event.Restart n file i) r = BookChange.draws n _ r.nodes.0 refl r.book
book_changes {L} w v (Event.Client n) r = unless_stays w v r.node _ r.does (λ u x. opening_books w v n r.node x)
book_changes {L} w v (Event.Dial n s) r = unless_stays w v r.node _ r.does (λ u x. unless_stays w v r.server _ x (λ u' y. dialling_books w v n s r.node r.server y))
book_changes {L} w v (Event.Connect n) r = unless_stays w v r.node _ r.does (λ u x. calling_books w v n r.node x)
book_changes {L} w v (Event.Accept l m) r = unless_stays w v r.node _ r.does (λ u x. accepting_books w v l m r.link r.node x)
book_changes {L} w v (Event.Command l bytes) r = BookChange.stays r.becomes.book
book_changes {L} w v (Event.Deliver l Server n) r = unless_stays w v r.at.node _ r.does (λ u x. BookChange.stays x.book)
book_changes {L} w v (Event.Deliver l Dialler n) r = either r (λ x. unless_stays w v x.at.node _ x.does (λ u y. BookChange.stays y.book)) (λ x. BookChange.stays x.becomes.book)
book_changes {L} w v (Event.Step l Server given fresh) r =
    unless_stays w v r.at.node _ r.does (λ u x. server_books w v r.at.n l r.at.link r.at.node given fresh r.at.node_found u x)
book_changes {L} w v (Event.Step l Dialler given fresh) r = unless_stays w v r.at.node _ r.does (λ u x. follower_books w v r.at.n l r.at.node r.at.phase r.at.link x)
book_changes {L} w v (Event.Tick n given) r = unless_stays w v r.node _ r.does (λ u x. ticking_books w v n r.node given r.found u x)
book_changes {L} w v (Event.Break l Server) r = unless_stays w v r.at.node _ r.does (λ u x. BookChange.stays x.book)
book_changes {L} w v (Event.Break l Dialler) r = either r (λ x. unless_stays w v x.at.node _ x.does (λ u y. BookChange.stays y.book)) (λ x. BookChange.stays x.becomes.book)

pub restarts : {L : Language} → RestartsUnderNewIds L
restarts {L} w v n file i r b e =
    let q = some_is _ b (sym r.nodes.0 ∙ e) in
    subst (λ z. StartsAnew w z) q (record { new_id = r.book.new_id; offset = refl; second = refl; follow = refl })

-- ids

continues_master : {L : Language} (a : Node L) (i : L.Id) → (continued a i).master ≡ a.master
continues_master {L} a i = go (L.same a.id i)
  where
    go : (z : Bool) → (cond z a (record a { id = i; second = Some (a.id, a.offset + 1) })).master ≡ a.master
    go true = refl
    go false = refl

pub masters_take_new_ids : {L : Language} → MastersTakeNewIds L
masters_take_new_ids {L} w v e row n a b ea ma eb ub mb = go e row
  where
    same : Same w.node v.node → LeadsAnew w b
    same s = let i = some_is b a (sym eb ∙ (s n ∙ ea)) in true_false b.master mb (ap (λ z. z.master) i ∙ ma)

    changed : (m : ℕ) (x : Node L) → SetAt w.node v.node m x → (n ≡ m → x ≡ b → LeadsAnew w b) → LeadsAnew w b
    changed m x s f = one_or n m
        (λ h. f h (some_is x b (sym s.0 ∙ (ap (λ z. v.node z) (sym h) ∙ eb))))
        (λ h. let i = some_is b a (sym eb ∙ (s.1 n h ∙ ea)) in true_false b.master mb (ap (λ z. z.master) i ∙ ma))

    stopped : (m : ℕ) (x : Node L) → Stops w v m x → LeadsAnew w b
    stopped m x r = changed m r.wreck r.nodes (λ h q. true_false b.up ub (ap (λ z. z.up) (sym q) ∙ r.down))

    as_it_was : (m : ℕ) (x old : Node L) → SetAt w.node v.node m x → w.node m ≡ Some old → x.master ≡ old.master → LeadsAnew w b
    as_it_was m x old s eo em = changed m x s (λ h q.
        let i = some_is old a (sym eo ∙ (ap (λ z. w.node z) (sym h) ∙ ea)) in
        true_false b.master mb (ap (λ z. z.master) (sym q) ∙ (em ∙ (ap (λ z. z.master) i ∙ ma))))

    drawn : (m : ℕ) (x : Node L) → SetAt w.node v.node m x → w.book x.id ≡ None → x.offers ≡ x.master → x.upstream ≡ [] → LeadsAnew w b
    drawn m x s new offers upstream = changed m x s (λ h q. record {
      new_id = subst (λ z. w.book z.id ≡ None) q new;
      offers = subst (λ z. z.offers ≡ z.master) q offers ∙ mb;
      upstream = subst (λ z. z.upstream ≡ []) q upstream;
    })

    at_server : (m l : ℕ) (k : Link) (s : Node L) (given : L.Given) (fresh : L.Id) → w.node m ≡ Some s → ServerRow w v m l k s given fresh → LeadsAnew w b
    at_server m l k s given fresh es (ServerRow.idles r) = same r.still.nodes
    at_server m l k s given fresh es (ServerRow.stops r) = stopped m s r
    at_server m l k s given fresh es (ServerRow.notes r) = same r.becomes.nodes
    at_server m l k s given fresh es (ServerRow.shuts r) = same r.becomes.nodes
    at_server m l k s given fresh es (ServerRow.skips r) = same r.becomes.nodes
    at_server m l k s given fresh es (ServerRow.faults r) = same r.becomes.nodes
    at_server m l k s given fresh es (ServerRow.greets r) = same r.becomes.nodes
    at_server m l k s given fresh es (ServerRow.refuses r) = same r.becomes.nodes
    at_server m l k s given fresh es (ServerRow.resynchronizes r) = same r.becomes.nodes
    at_server m l k s given fresh es (ServerRow.goes_on r) = same r.becomes.nodes
    at_server m l k s given fresh es (ServerRow.replies r) = same r.becomes.nodes
    at_server m l k s given fresh es (ServerRow.answers r) = same r.becomes.nodes
    at_server m l k s given fresh es (ServerRow.passes_limit r) = same r.becomes.nodes
    at_server m l k s given fresh es (ServerRow.runs r) = as_it_was m _ s r.grown.nodes es refl
    at_server m l k s given fresh es (ServerRow.quits r) = same r.becomes.nodes
    at_server m l k s given fresh es (ServerRow.promotes r) = drawn m _ r.nodes r.book.new_id refl refl
    at_server m l k s given fresh es (ServerRow.demotes r) = changed m _ r.nodes (λ h q. true_false b.master mb (ap (λ z. z.master) (sym q)))
    at_server m l k s given fresh es (ServerRow.turns r) = as_it_was m _ s r.nodes es refl

    at_follower : (m l : ℕ) (c : Node L) (p : Phase L.Id) (k : Link) → w.node m ≡ Some c → FollowerRow w v m l c p k → LeadsAnew w b
    at_follower m l c p k ec (FollowerRow.idles r) = same r.still.nodes
    at_follower m l c p k ec (FollowerRow.stops r) = stopped m c r
    at_follower m l c p k ec (FollowerRow.leaves (Leaves.at_an_answer x r)) = as_it_was m _ c r.nodes ec refl
    at_follower m l c p k ec (FollowerRow.leaves (Leaves.at_the_stream x r)) = as_it_was m _ c r.nodes ec refl
    at_follower m l c p k ec (FollowerRow.hears_reply r) = as_it_was m _ c r.becomes.nodes ec refl
    at_follower m l c p k ec (FollowerRow.hears_last_reply r) = as_it_was m _ c r.becomes.nodes ec refl
    at_follower m l c p k ec (FollowerRow.hears_full_resync r) = as_it_was m _ c r.becomes.nodes ec refl
    at_follower m l c p k ec (FollowerRow.hears_continue r) = as_it_was m _ c r.becomes.nodes ec (continues_master c r.id)
    at_follower m l c p k ec (FollowerRow.loads r) = as_it_was m _ c r.becomes.nodes ec refl
    at_follower m l c p k ec (FollowerRow.applies r) = as_it_was m _ c r.becomes.nodes ec refl

    unless : (c : Node L) (Act : Type 0) → Unless w v c Act → (Act → LeadsAnew w b) → LeadsAnew w b
    unless c Act (Unless.acts u x) f = f x
    unless c Act (Unless.stopped u s) f = same s.nodes

    opens : (m : ℕ) (c : Node L) → Opens w v m c → LeadsAnew w b
    opens m c (Opens.opens l new r) = same r.nodes
    opens m c (Opens.stops r) = stopped m c r

    dials : (m s : ℕ) (c d : Node L) → w.node m ≡ Some c → Dials w v m s c d → LeadsAnew w b
    dials m s c d ec (Dials.connects r) = as_it_was m _ c r.nodes ec refl
    dials m s c d ec (Dials.stops r) = stopped m c r
    dials m s c d ec (Dials.server_stops r) = stopped s d r

    calls : (m : ℕ) (c : Node L) → w.node m ≡ Some c → Calls w v m c → LeadsAnew w b
    calls m c ec (Calls.connects r) = as_it_was m _ c r.nodes ec refl
    calls m c ec (Calls.stops r) = stopped m c r

    accepts : (l m : ℕ) (k : Link) (c : Node L) → Accepts w v l m k c → LeadsAnew w b
    accepts l m k c (Accepts.accepts r) = same r.nodes
    accepts l m k c (Accepts.stops r) = stopped m c r

    ticks : (m : ℕ) (c : Node L) (given : L.Given) → w.node m ≡ Some c → Ticks w v m c given → LeadsAnew w b
    ticks m c given ec (Ticks.beats r) = as_it_was m _ c r.grown.nodes ec refl
    ticks m c given ec (Ticks.acknowledges r) = same r.becomes.nodes
    ticks m c given ec (Ticks.rests x s) = same s.nodes
    ticks m c given ec (Ticks.stops r) = stopped m c r

    go : (e : Event L) → Row w e v → LeadsAnew w b
    go (Event.Start i master) r = drawn r.node _ r.nodes r.book.new_id refl refl
    go (Event.Restart m file i) r = drawn m _ r.nodes r.book.new_id refl refl
    go (Event.Client m) r = unless r.node _ r.does (λ x. opens m r.node x)
    go (Event.Dial m s) r = unless r.node _ r.does (λ x. unless r.server _ x (λ y. dials m s r.node r.server r.found y))
    go (Event.Connect m) r = unless r.node _ r.does (λ x. calls m r.node r.found x)
    go (Event.Accept l m) r = unless r.node _ r.does (λ x. accepts l m r.link r.node x)
    go (Event.Command l bytes) r = same r.becomes.nodes
    go (Event.Deliver l Server m) r = unless r.at.node _ r.does (λ x. same x.nodes)
    go (Event.Deliver l Dialler m) r = either r (λ x. unless x.at.node _ x.does (λ y. same y.nodes)) (λ x. same x.becomes.nodes)
    go (Event.Step l Server given fresh) r = unless r.at.node _ r.does (λ x. at_server r.at.n l r.at.link r.at.node given fresh r.at.node_found x)
    go (Event.Step l Dialler given fresh) r = unless r.at.node _ r.does (λ x. at_follower r.at.n l r.at.node r.at.phase r.at.link r.at.node_found x)
    go (Event.Tick m given) r = unless r.node _ r.does (λ x. ticks m r.node given r.found x)
    go (Event.Break l Server) r = unless r.at.node _ r.does (λ x. same x.nodes)
    go (Event.Break l Dialler) r = either r (λ x. unless x.at.node _ x.does (λ y. as_it_was x.at.n _ x.at.node y.nodes x.at.node_found refl)) (λ x. same x.becomes.nodes)

-- parts

pub parts_change_nothing : {L : Language} → PartsChangeNothing L
parts_change_nothing {L} w v n l a b p k ea row nothing eb ub = go row
  where
    is : (x : Node L) → SetAt w.node v.node n x → x ≡ b
    is x s = some_is x b (sym s.0 ∙ eb)

    go : FollowerRow w v n l a p k → ShowsTheSame a b
    go (FollowerRow.idles r) =
        let i = some_is b a (sym eb ∙ (r.still.nodes n ∙ ea)) in record { id = ap (λ z. z.id) i; offset = ap (λ z. z.offset) i; held = ap (λ z. z.held) i }
    go (FollowerRow.stops r) = true_false b.up ub (ap (λ z. z.up) (sym (is r.wreck r.nodes)) ∙ r.down)
    go (FollowerRow.leaves (Leaves.at_an_answer x r)) = subst (λ z. ShowsTheSame a z) (is _ r.nodes) (record { id = refl; offset = refl; held = refl })
    go (FollowerRow.leaves (Leaves.at_the_stream x r)) = subst (λ z. ShowsTheSame a z) (is _ r.nodes) (record { id = refl; offset = refl; held = refl })
    go (FollowerRow.hears_reply r) = absurd (nothing (a_reply r.number r.hears.text r.hears.reads.rest _ r.phase r.hears.says r.hears.reads.begins))
    go (FollowerRow.hears_last_reply r) = absurd (nothing (a_reply 2 r.hears.text r.hears.reads.rest _ r.phase r.hears.says r.hears.reads.begins))
    go (FollowerRow.hears_full_resync r) = absurd (nothing (an_answer r.hears.text r.hears.reads.rest _ r.phase r.hears.says r.hears.reads.begins))
    go (FollowerRow.hears_continue r) = absurd (nothing (an_answer r.hears.text r.hears.reads.rest _ r.phase r.hears.says r.hears.reads.begins))
    go (FollowerRow.loads r) = absurd (nothing (a_snapshot r.id r.offset r.text r.reads.rest r.held r.phase r.loads r.reads.begins))
    go (FollowerRow.applies r) = absurd (nothing (an_effect r.effect r.reads.rest r.phase r.good r.reads.begins))

-- the answer to PSYNC

pub answers : {L : Language} → AnswersAreOfOneMoment L
answers {L} w v n l k k' s given fresh ek row st ek' st' = go row
  where
    no : (x : Link) → v.link l ≡ Some x → x.streams ≡ k.streams → Answered w v s k k'
    no x e es = let i = some_is k' x (sym ek' ∙ e) in true_false k'.streams st' (ap (λ z. z.streams) i ∙ (es ∙ st))

    joins : (query : Option (L.Id × ℕ)) (bytes : List ℕ) (x : Link) → s.master ≡ true → Uses L k (Psync query) → Same w.node v.node → v.link l ≡ Some x → x.tell.left ≡ k.tell.left ++ bytes
        → Answer s query bytes → Answered w v s k k'
    joins query bytes x m u sn e et ans = let i = some_is k' x (sym ek' ∙ e) in record { master = m; nodes = sn; query = query; uses = u; bytes = bytes; sent = ap (λ z. z.tell.left) i ∙ et; answer = ans }

    go : ServerRow w v n l k s given fresh → Answered w v s k k'
    go (ServerRow.idles r) = no k (r.still.links l ∙ ek) refl
    go (ServerRow.stops r) = no _ (r.links l k ek) refl
    go (ServerRow.notes r) = no _ r.becomes.links.0 refl
    go (ServerRow.shuts r) = no _ r.becomes.links.0 refl
    go (ServerRow.skips r) = no _ r.becomes.links.0 refl
    go (ServerRow.faults r) = no _ r.becomes.links.0 refl
    go (ServerRow.greets r) = no _ r.becomes.links.0 refl
    go (ServerRow.refuses r) = no _ r.becomes.links.0 refl
    go (ServerRow.resynchronizes r) =
        joins r.query (r.line ++ r.snapshot) _ r.master r.uses r.becomes.nodes r.becomes.links.0 refl (Answer.resynchronizes r.line r.snapshot r.apart r.says r.loads refl)
    go (ServerRow.goes_on r) = joins (Some (r.id, r.from)) (r.line ++ tail s r.from) _ r.master r.uses r.becomes.nodes r.becomes.links.0 refl (Answer.continues r.id r.from r.line refl r.continues r.says refl)
    go (ServerRow.replies r) = no _ r.becomes.links.0 refl
    go (ServerRow.answers r) = no _ r.becomes.links.0 refl
    go (ServerRow.passes_limit r) = no _ r.becomes.links.0 refl
    go (ServerRow.runs r) = no _ r.link refl
    go (ServerRow.quits r) = no _ r.becomes.links.0 refl
    go (ServerRow.promotes r) = no _ r.links.0 refl
    go (ServerRow.demotes r) = no _ r.link refl
    go (ServerRow.turns r) = no _ r.links.0 refl

-- what a replica asks

pub asks_from_where_it_stands : {L : Language} → AsksFromWhereItStands L
asks_from_where_it_stands {L} w v n l a b k k' ea row offers eb ub ek' ek = go row
  where
    number_is : (j : ℕ) → ◌≡◌ {A = Phase L.Id} (Greet 2) (Greet j) → 2 ≡ j
    number_is j e = cc

    go : FollowerRow w v n l a (Greet 2) k → (k' ≡ k) ⊎ ((request : List ℕ) × L.asks None request (Psync (Some (a.id, a.offset + 1))) × (k'.ask.left ≡ k.ask.left ++ request))
    go (FollowerRow.idles r) = inl (some_is k' k (sym ek' ∙ (r.still.links l ∙ ek)))
    go (FollowerRow.stops r) = let i = some_is r.wreck b (sym r.nodes.0 ∙ eb) in true_false b.up ub (ap (λ z. z.up) (sym i) ∙ r.down)
    go (FollowerRow.leaves (Leaves.at_an_answer x r)) = inl (some_is k' k (sym ek' ∙ (r.links l ∙ ek)))
    go (FollowerRow.leaves (Leaves.at_the_stream x r)) = inl (some_is k' k (sym ek' ∙ (r.links l ∙ ek)))
    go (FollowerRow.hears_reply r) = absurd (let e = number_is r.number r.phase in omega (arith, r.not_last, e))
    go (FollowerRow.hears_last_reply r) =
        let i = some_is k' _ (sym ek' ∙ r.becomes.links.0) in
        inr (r.request, subst (λ z. L.asks None r.request (Psync (cond z (Some (a.id, a.offset + 1)) None))) offers r.asks, ap (λ z. z.ask.left) i)
    go (FollowerRow.hears_full_resync r) = let e = r.phase in absurd (cc)
    go (FollowerRow.hears_continue r) = let e = r.phase in absurd (cc)
    go (FollowerRow.loads r) = let e = r.phase in absurd (cc)
    go (FollowerRow.applies r) = let e = r.phase in absurd (cc)

-- streams

pub streams_are_followed : {L : Language} → StreamsAreFollowed L
streams_are_followed {L} w v n l a b k ea fa row e m more rest good fits within begins eb ub = go row
  where
    is : (x : Node L) → SetAt w.node v.node n x → x ≡ b
    is x s = some_is x b (sym s.0 ∙ eb)

    stays : (x : Node L) → SetAt w.node v.node n x → x.follow ≡ Some (record { link = l; phase = Stream }) → b.follow ≡ Some (record { link = l; phase = Stream })
    stays x s q = ap (λ z. z.follow) (sym (is x s)) ∙ q

    answer : BadAnswer a Stream (unread k.tell) → ⊥
    answer (BadAnswer.no_reply j p x) = cc
    answer (BadAnswer.refused j t r p x y) = cc
    answer (BadAnswer.no_line p x) = cc
    answer (BadAnswer.no_answer t r line p x y z) = cc
    answer (BadAnswer.no_snapshot i o p x) = cc

    stream : BadStream a Stream (unread k.tell) → ⊥
    stream (BadStream.no_snapshot i o p x) = cc
    stream (BadStream.stuck p x) = x more rest e m good fits within begins

    go : FollowerRow w v n l a Stream k → b.follow ≡ Some (record { link = l; phase = Stream })
    go (FollowerRow.idles r) = let i = some_is b a (sym eb ∙ (r.still.nodes n ∙ ea)) in ap (λ z. z.follow) i ∙ fa
    go (FollowerRow.stops r) = true_false b.up ub (ap (λ z. z.up) (sym (is r.wreck r.nodes)) ∙ r.down)
    go (FollowerRow.leaves (Leaves.at_an_answer x r)) = absurd (answer x)
    go (FollowerRow.leaves (Leaves.at_the_stream x r)) = absurd (stream x)
    go (FollowerRow.hears_reply r) = let p = r.phase in absurd (cc)
    go (FollowerRow.hears_last_reply r) = let p = r.phase in absurd (cc)
    go (FollowerRow.hears_full_resync r) = let p = r.phase in absurd (cc)
    go (FollowerRow.hears_continue r) = let p = r.phase in absurd (cc)
    go (FollowerRow.loads r) = let p = r.phase in absurd (cc)
    go (FollowerRow.applies r) = stays _ r.becomes.nodes fa

-- links

same_or : (a c : ℕ) → (a ≡ c) ⊎ (a ≢ c)
same_or a c = grind arith

pub dialled_links_are_empty : {L : Language} → DialledLinksAreEmpty L
dialled_links_are_empty {L} w v n opens b f k eb ub ef ek = go opens
  where
    stays : (a : Node L) → w.node n ≡ Some a → a.follow ≡ None → v.node n ≡ w.node n → k.tell ≡ no_bytes
    stays a ea fa sn = let i = some_is b a (sym eb ∙ (sn ∙ ea)) in none_some a.follow f fa (ap (λ z. z.follow) (sym i) ∙ ef)

    connected : (to : Option ℕ) (a : Node L) → Connects w v n to a → k.tell ≡ no_bytes
    connected to a r =
        let i = some_is _ b (sym r.nodes.0 ∙ eb) in
        let j = some_is (record { link = r.link; phase = Greet 0 }) f (ap (λ z. z.follow) i ∙ ef) in
        let here = some_is _ k (sym r.links.0 ∙ (ap (λ z. v.link z.link) j ∙ ek)) in
        ap (λ z. z.tell) (sym here)

    stopped : (a : Node L) → Stops w v n a → k.tell ≡ no_bytes
    stopped a r = let i = some_is r.wreck b (sym r.nodes.0 ∙ eb) in true_false b.up ub (ap (λ z. z.up) (sym i) ∙ r.down)

    dials : (s : ℕ) (row : DialRow w n s v) → Dials w v n s row.node row.server → k.tell ≡ no_bytes
    dials s row (Dials.connects r) = connected (Some s) row.node r
    dials s row (Dials.stops r) = stopped row.node r
    dials s row (Dials.server_stops r) = elim (same_or n s) [
      | inl q ↦ stopped row.server (subst (λ z. Stops w v z row.server) (sym q) r)
      | inr ne ↦ stays row.node row.found row.waiting (r.nodes.1 n ne)
    ]

    calls : (row : ConnectRow w n v) → Calls w v n row.node → k.tell ≡ no_bytes
    calls row (Calls.connects r) = connected None row.node r
    calls row (Calls.stops r) = stopped row.node r

    unless : (a c : Node L) (Act : Type 0) → w.node n ≡ Some a → a.follow ≡ None → (Act → k.tell ≡ no_bytes) → Unless w v c Act → k.tell ≡ no_bytes
    unless a c Act ea fa act (Unless.acts u x) = act x
    unless a c Act ea fa act (Unless.stopped u x) = stays a ea fa (x.nodes n)

    go : OpensAnEnd w v n → k.tell ≡ no_bytes
    go (OpensAnEnd.dials s row) = unless row.node row.node _ row.found row.waiting (λ x. unless row.node row.server _ row.found row.waiting (λ y. dials s row y) x) row.does
    go (OpensAnEnd.connects row) = unless row.node row.node _ row.found row.waiting (λ x. calls row x) row.does
