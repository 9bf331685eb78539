-- A step at a server's end is a few moves.
use Rattle.std.proofs.Common.{ℕ, List, [], ◌∷◌, ◌++◌, ◌≡◌, None, Some, Bool, true, false, refl, ap, ◌∙◌, ◌==◌}
use Rattle.law_protocol.specs.Language.{Language, Laws}
use Rattle.law_protocol.specs.Language.Request.{Command, ReplicaOfNoOne, ReplicaOf, Empty, Quit}
use Rattle.law_protocol.specs.Changes.{SetAt}
use Rattle.law_protocol.specs.History.{texts}
use Rattle.law_protocol.specs.Node.{Node, tail}
use Rattle.law_protocol.specs.World.{Link, World, hears, shut, told, told_if}
use Rattle.law_protocol.specs.ServerRows.{answered, joined, Skips, Runs, Promotes, Demotes, Turns, ServerRow, concluded}
use Rattle.law_protocol.specs.Invariant.{Invariant}
use Rattle.law_protocol.proofs.Moves.{Move, HasServingEnd, WaitsUntouched, used, Reaches}
use Rattle.law_protocol.proofs.Moves.Move.{still, leave, close, loose, extend, promote, demote, greet, refuse, answer_full, answer_cont, noted}
use Rattle.law_protocol.proofs.Moves.Reaches.{by_moves}
use Rattle.law_protocol.proofs.Theorem.{move_keeps}
use Rattle.law_protocol.proofs.Keeping.{none_some}
use Rattle.law_protocol.proofs.Extend.{mute}
use Rattle.law_protocol.proofs.Refine.{stops_reach, put, put_here, put_sets, put_before, put_over, reads_left, then_counts, one, Free, free_ask, free_doomed, each, each_link, shut_one, shut_none, each_silent, other_command, other_promote, other_obey, other_blank, other_quit, quiet_else}

runs_reach : {L : Language} (laws : Laws L) (w v : World L) (n l : ℕ) (k : Link) (s : Node L) (given : L.Given) → Invariant w → w.link l ≡ Some k → k.to ≡ Some n → w.node n ≡ Some s → s.up ≡ true
    → Runs w v n l k s given → Reaches w v
runs_reach {L} laws w v n l k s given inv ek to en u r = by_moves (mid ∷ []) (first, loose l (concluded k r.uses.left r.reply r.transaction) free wait (λ j. refl) last (λ i. refl))
  where
    -- the link has a server
    wait : WaitsUntouched (concluded k r.uses.left r.reply r.transaction)
    wait q = none_some k.to n q to

    bytes : List ℕ
    bytes = texts L r.effects

    tell_it : ℕ → Link → Link
    tell_it j y = told_if (hears n y) y bytes

    mid : World L
    mid = record { node = v.node; link = λ j. each tell_it j (w.link j); book = v.book }

    first : Move w mid
    first = extend n s r.effects r.grown.held r.grown.backlog r.grown.book.history en u r.master r.grown.good r.grown.folds r.grown.last_bytes r.grown.nodes
        (λ j e. ap (λ z. each tell_it j z) e) (λ j y e. ap (λ z. each tell_it j z) e) r.grown.book.found r.grown.book.book

    last : SetAt mid.link v.link l (concluded k r.uses.left r.reply r.transaction)
    last = each_link w v tell_it l (concluded k r.uses.left r.reply r.transaction) r.no_links r.links r.link

    same : mid.link l ≡ Some k
    same = ap (λ z. each tell_it l z) ek ∙ ap (λ z. Some (told_if z k bytes)) (mute n k r.client)

    free : Free mid l
    free = free_ask laws mid l k r.uses.text Command r.uses.left (move_keeps laws w mid inv first) same r.client r.uses.asks (other_command L.Id) r.uses.reads

promotes_reach : {L : Language} (laws : Laws L) (w v : World L) (n l : ℕ) (k : Link) (s : Node L) (fresh : L.Id) → Invariant w → w.link l ≡ Some k → k.to ≡ Some n → w.node n ≡ Some s → s.up ≡ true
    → Promotes w v n l k s fresh → Reaches w v
promotes_reach {L} laws w v n l k s fresh inv ek to en u r =
    by_moves (gone ∷ up ∷ []) (first, (second, loose l (answered k r.uses.left r.reply) free wait (λ j. refl) r.links (λ i. refl)))
  where
    -- the link has a server
    wait : WaitsUntouched (answered k r.uses.left r.reply)
    wait q = none_some k.to n q to

    alone : Node L
    alone = record s { follow = None; offers = true; upstream = [] }

    gone : World L
    gone = record w { node = put w.node n alone }

    up : World L
    up = record w { node = v.node; book = v.book }

    first : Move w gone
    first = leave n s true [] en (put_sets w.node n alone) (λ j. refl) (λ i. refl)

    second : Move gone up
    second = promote n fresh alone r.book.start r.book.earlier r.book.later (put_here w.node n alone) u r.replica refl r.book.new_id
        (put_over w.node v.node n alone _ r.nodes) (λ j. refl) r.book.front r.book.book

    free : Free up l
    free = free_ask laws up l k r.uses.text ReplicaOfNoOne r.uses.left (move_keeps laws gone up (move_keeps laws w gone inv first) second) ek r.client r.uses.asks (other_promote L.Id) r.uses.reads

demotes_reach : {L : Language} (laws : Laws L) (w v : World L) (n l : ℕ) (k : Link) (s : Node L) → Invariant w → w.link l ≡ Some k → k.to ≡ Some n → w.node n ≡ Some s → s.up ≡ true
    → Demotes w v n l k s → Reaches w v
demotes_reach {L} laws w v n l k s inv ek to en u r =
    by_moves (closed ∷ down ∷ []) (first, (second, loose l (answered k r.uses.left r.reply) free wait (λ j. refl) last r.book))
  where
    -- the link has a server
    wait : WaitsUntouched (answered k r.uses.left r.reply)
    wait q = none_some k.to n q to

    shut_it : ℕ → Link → Link
    shut_it j y = shut (hears n y) y

    closed : World L
    closed = record w { link = λ j. each shut_it j (w.link j) }

    down : World L
    down = record closed { node = v.node }

    first : Move w closed
    first = close (λ j y. hears n y) (λ j. refl) (λ j e. ap (λ z. each shut_it j z) e) (λ j y e. ap (λ z. each shut_it j z) e) (λ i. refl)

    silent : (j : ℕ) (y : Link) → closed.link j ≡ Some y → y.to ≡ Some n → y.serving ≡ true → y.streams ≡ false
    silent j y e = each_silent n j (w.link j) y e

    second : Move closed down
    second = demote n s r.host en ((inv.nodes n s en u).alone r.master) silent r.nodes (λ j. refl) (λ i. refl)

    last : SetAt down.link v.link l (answered k r.uses.left r.reply)
    last = each_link w v shut_it l (answered k r.uses.left r.reply) r.no_links r.links r.link

    same : down.link l ≡ Some k
    same = ap (λ z. each shut_it l z) ek ∙ ap (λ z. Some (shut z k)) (mute n k r.client)

    free : Free down l
    free = free_ask laws down l k r.uses.text (ReplicaOf r.host) r.uses.left (move_keeps laws closed down (move_keeps laws w closed inv first) second) same r.client r.uses.asks (other_obey L.Id r.host) r.uses.reads

turns_reach : {L : Language} (laws : Laws L) (w v : World L) (n l : ℕ) (k : Link) (s : Node L) → Invariant w → w.link l ≡ Some k → k.to ≡ Some n → w.node n ≡ Some s
    → Turns w v n l k s → Reaches w v
turns_reach {L} laws w v n l k s inv ek to en r =
    by_moves (gone ∷ []) (first, loose l (answered k r.uses.left r.reply) free wait (λ j. refl) r.links r.book)
  where
    -- the link has a server
    wait : WaitsUntouched (answered k r.uses.left r.reply)
    wait q = none_some k.to n q to

    gone : World L
    gone = record w { node = v.node }

    first : Move w gone
    first = leave n s s.offers r.host en r.nodes (λ j. refl) (λ i. refl)

    free : Free gone l
    free = free_ask laws gone l k r.uses.text (ReplicaOf r.host) r.uses.left (move_keeps laws w gone inv first) ek r.client r.uses.asks (other_obey L.Id r.host) r.uses.reads

skips_reach : {L : Language} (laws : Laws L) (w v : World L) (n l : ℕ) (k : Link) → Invariant w → w.link l ≡ Some k → k.to ≡ Some n → Skips w v l k → Reaches w v
skips_reach {L} laws w v n l k inv ek to r = by_stage k.streams refl
  where
    -- the link has a server
    wait : WaitsUntouched (record k { ask = r.uses.left })
    wait q = none_some k.to n q to

    by_stage : (b : Bool) → k.streams ≡ b → Reaches w v
    by_stage true st =
        then_counts w v l (record k { ask = record k.ask { left = r.uses.left.left } }) (record k { ask = r.uses.left }) r.becomes.links refl wait
        (noted l k r.uses.left.left ek st r.becomes.nodes (put_before w.link v.link l _ _ r.becomes.links) r.becomes.book)
    by_stage false st =
        one w v (loose l (record k { ask = r.uses.left }) (free_ask laws w l k r.uses.text Empty r.uses.left inv ek st r.uses.asks (other_blank L.Id) r.uses.reads) wait
        r.becomes.nodes r.becomes.links r.becomes.book)

pub server_reaches : {L : Language} (laws : Laws L) (w v : World L) (n l : ℕ) (k : Link) (s : Node L) (given : L.Given) (fresh : L.Id) → Invariant w → w.link l ≡ Some k → k.to ≡ Some n → w.node n ≡ Some s → k.serving ≡ true → s.up ≡ true
    → ServerRow w v n l k s given fresh → Reaches w v
server_reaches {L} laws w v n l k s given fresh inv ek to en eo u row = go row
  where
    se : HasServingEnd w s l k
    se = record { link = ek; n = n; to = to; node = en; up = u; serving = eo }

    served : {P : Type 0} → k.to ≡ None → P
    served q = none_some k.to n q to

    go : ServerRow w v n l k s given fresh → Reaches w v
    go (ServerRow.idles r) = one w v (still r.still.nodes r.still.links r.still.book)
    go (ServerRow.stops r) = stops_reach w v n s r
    go (ServerRow.notes r) =
        then_counts w v l (record k { ask = record k.ask { left = r.uses.left.left } }) (record k { ask = r.uses.left }) r.becomes.links refl (λ q. served q)
        (noted l k r.uses.left.left ek r.streams r.becomes.nodes (put_before w.link v.link l _ _ r.becomes.links) r.becomes.book)
    go (ServerRow.shuts r) = one w v (close (λ j x. j == l) r.becomes.nodes (shut_none w.link v.link l k _ ek r.becomes.links) (shut_one w v l k ek r.becomes.links) r.becomes.book)
    go (ServerRow.skips r) = skips_reach laws w v n l k inv ek to r
    go (ServerRow.faults r) =
        one w v (loose l (shut true (told k r.reply)) (free_doomed laws w l k inv ek r.client r.doomed) (λ q. served q) r.becomes.nodes r.becomes.links r.becomes.book)
    go (ServerRow.greets r) =
        then_counts w v l (used k r.uses.left.left r.reply) (answered k r.uses.left r.reply) r.becomes.links refl (λ q. served q)
        (greet l k s r.uses.text r.uses.left.left r.reply se r.client r.uses.asks r.plain (reads_left k.ask r.uses.left r.uses.text r.uses.reads)
        r.becomes.nodes (put_before w.link v.link l _ _ r.becomes.links) r.becomes.book)
    go (ServerRow.refuses r) =
        then_counts w v l (used k r.uses.left.left r.reply) (answered k r.uses.left r.reply) r.becomes.links refl (λ q. served q)
        (refuse l k s r.query r.uses.text r.uses.left.left r.reply se r.client r.uses.asks r.refusal (reads_left k.ask r.uses.left r.uses.text r.uses.reads)
        r.becomes.nodes (put_before w.link v.link l _ _ r.becomes.links) r.becomes.book)
    go (ServerRow.resynchronizes r) =
        let mid = record (used k r.uses.left.left (r.line ++ r.snapshot)) { streams = true } in
        then_counts w v l mid (joined k r.uses.left (r.line ++ r.snapshot)) r.becomes.links refl (λ q. served q)
        (answer_full l k s r.query r.uses.text r.uses.left.left r.snapshot r.line r.loads r.says se r.client r.master r.uses.asks
        (reads_left k.ask r.uses.left r.uses.text r.uses.reads) r.becomes.nodes (put_before w.link v.link l mid _ r.becomes.links) r.becomes.book)
    go (ServerRow.goes_on r) =
        let mid = record (used k r.uses.left.left (r.line ++ tail s r.from)) { streams = true } in
        then_counts w v l mid (joined k r.uses.left (r.line ++ tail s r.from)) r.becomes.links refl (λ q. served q)
        (answer_cont l r.id r.from k s r.uses.text r.uses.left.left r.line r.says se r.client r.master r.uses.asks
        (reads_left k.ask r.uses.left r.uses.text r.uses.reads) r.continues r.becomes.nodes (put_before w.link v.link l mid _ r.becomes.links) r.becomes.book)
    go (ServerRow.replies r) =
        one w v (loose l (answered k r.uses.left r.reply) (free_ask laws w l k r.uses.text r.request r.uses.left inv ek r.client r.uses.asks (quiet_else s r.request r.quiet) r.uses.reads) (λ q. served q)
        r.becomes.nodes r.becomes.links r.becomes.book)
    go (ServerRow.answers r) =
        one w v (loose l (concluded k r.uses.left r.reply r.transaction) (free_ask laws w l k r.uses.text Command r.uses.left inv ek r.client r.uses.asks (other_command L.Id) r.uses.reads) (λ q. served q)
        r.becomes.nodes r.becomes.links r.becomes.book)
    go (ServerRow.passes_limit r) =
        one w v (loose l (concluded k r.uses.left r.reply r.transaction) (free_ask laws w l k r.uses.text Command r.uses.left inv ek r.client r.uses.asks (other_command L.Id) r.uses.reads) (λ q. served q)
        r.becomes.nodes r.becomes.links r.becomes.book)
    go (ServerRow.runs r) = runs_reach laws w v n l k s given inv ek to en u r
    go (ServerRow.quits r) =
        one w v (loose l (shut true (told k r.reply)) (free_ask laws w l k r.uses.text Quit r.uses.left inv ek r.client r.uses.asks (other_quit L.Id) r.uses.reads) (λ q. served q)
        r.becomes.nodes r.becomes.links r.becomes.book)
    go (ServerRow.promotes r) = promotes_reach laws w v n l k s fresh inv ek to en u r
    go (ServerRow.demotes r) = demotes_reach laws w v n l k s inv ek to en u r
    go (ServerRow.turns r) = turns_reach laws w v n l k s inv ek to en r
