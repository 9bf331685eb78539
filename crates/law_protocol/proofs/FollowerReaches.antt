-- A step at a replica's end is a few moves.
use Rattle.std.proofs.Common.{ℕ, List, [], ◌++◌, ◌+◌, ◌≡◌, ◌≢◌, None, Some, Bool, true, false, cond, refl, subst}
use Rattle.law_protocol.specs.Language.{Language, Laws, Line}
use Rattle.law_protocol.specs.Language.Request.{Psync}
use Rattle.law_protocol.specs.Node.{Phase, Node}
use Rattle.law_protocol.specs.Node.Phase.{Greet, Asked, Loading, Stream}
use Rattle.law_protocol.specs.World.{Link, World}
use Rattle.law_protocol.specs.FollowerRows.{Hears, asked, HearsLastReply, Leaves, FollowerRow}
use Rattle.law_protocol.specs.Invariant.{Invariant}
use Rattle.law_protocol.proofs.Moves.{Follows, heard, Reaches}
use Rattle.law_protocol.proofs.Moves.Move.{still, leave, go_on, ask_all, ask_on, take_full, take_cont, load, follow}
use Rattle.law_protocol.proofs.FollowerMoves.{spoken}
use Rattle.law_protocol.proofs.Refine.{stops_reach, put_before, reads_left, then_counts, one}

pub follower_reaches : {L : Language} (laws : Laws L) (w v : World L) (n l : ℕ) (a : Node L) (p : Phase L.Id) (k : Link) → Invariant w → w.link l ≡ Some k → w.node n ≡ Some a → a.follow ≡ Some (record { link = l; phase = p }) → a.up ≡ true
    → FollowerRow w v n l a p k → Reaches w v
follower_reaches {L} laws w v n l a p k inv ek ea ef u row = go row
  where
    fo : Follows w n a l p k
    fo = record { node = ea; up = u; follow = ef; link = ek }

    at : (q : Phase L.Id) → p ≡ q → Follows w n a l q k
    at q e = subst (λ z. Follows w n a l z k) e fo

    -- where the replica reads something the link has a server
    heard_on : {P : Type 0} (t rest : List ℕ) → t ≢ [] → k.tell.left ≡ t ++ rest → k.to ≡ None → P
    heard_on t rest some e q = absurd (spoken t rest k some e (inv.waiting l k ek q).tell)

    line_on : {P : Type 0} {line : Line L.Id} (h : Hears L k line) → k.to ≡ None → P
    line_on {line = line} h q = heard_on h.text h.left.left (laws.says_some h.text line h.says) (reads_left k.tell h.left h.text h.reads) q

    left : Leaves w v n a p k → Reaches w v
    left (Leaves.at_an_answer c b) = one w v (leave n a a.offers a.upstream ea b.nodes b.links b.book)
    left (Leaves.at_the_stream c b) = one w v (leave n a false a.upstream ea b.nodes b.links b.book)

    last : (r : HearsLastReply w v n l a p k) → (b : Bool) → a.offers ≡ b → Reaches w v
    last r true q =
        then_counts w v l (heard k r.hears.left.left r.request) (asked k r.hears.left r.request) r.becomes.links refl (λ z. line_on r.hears z)
        (ask_on n l 2 r.line a k r.hears.text r.hears.left.left r.request (subst (λ z. L.asks None r.request (Psync (cond z (Some (a.id, a.offset + 1)) None))) q r.asks)
        (at (Greet 2) r.phase) r.hears.says (reads_left k.tell r.hears.left r.hears.text r.hears.reads) r.becomes.nodes (put_before w.link v.link l _ _ r.becomes.links) r.becomes.book)
    last r false q =
        then_counts w v l (heard k r.hears.left.left r.request) (asked k r.hears.left r.request) r.becomes.links refl (λ z. line_on r.hears z)
        (ask_all n l 2 r.line a k r.hears.text r.hears.left.left r.request (subst (λ z. L.asks None r.request (Psync (cond z (Some (a.id, a.offset + 1)) None))) q r.asks)
        (at (Greet 2) r.phase) r.hears.says (reads_left k.tell r.hears.left r.hears.text r.hears.reads) r.becomes.nodes (put_before w.link v.link l _ _ r.becomes.links) r.becomes.book)

    go : FollowerRow w v n l a p k → Reaches w v
    go (FollowerRow.idles r) = one w v (still r.still.nodes r.still.links r.still.book)
    go (FollowerRow.stops r) = stops_reach w v n a r
    go (FollowerRow.leaves r) = left r
    go (FollowerRow.hears_reply r) =
        then_counts w v l (heard k r.hears.left.left r.request) (asked k r.hears.left r.request) r.becomes.links refl (λ z. line_on r.hears z)
        (go_on n l r.number r.line a k r.hears.text r.hears.left.left r.request r.asks (at (Greet r.number) r.phase) r.hears.says
        (reads_left k.tell r.hears.left r.hears.text r.hears.reads) r.becomes.nodes (put_before w.link v.link l _ _ r.becomes.links) r.becomes.book)
    go (FollowerRow.hears_last_reply r) = last r a.offers refl
    go (FollowerRow.hears_full_resync r) =
        then_counts w v l (heard k r.hears.left.left []) (asked k r.hears.left []) r.becomes.links refl (λ z. line_on r.hears z)
        (take_full n l r.id r.offset a k r.hears.text r.hears.left.left (at Asked r.phase) r.hears.says
        (reads_left k.tell r.hears.left r.hears.text r.hears.reads) r.becomes.nodes (put_before w.link v.link l _ _ r.becomes.links) r.becomes.book)
    go (FollowerRow.hears_continue r) =
        then_counts w v l (heard k r.hears.left.left []) (asked k r.hears.left []) r.becomes.links refl (λ z. line_on r.hears z)
        (take_cont n l r.id a k r.hears.text r.hears.left.left (at Asked r.phase) r.hears.says
        (reads_left k.tell r.hears.left r.hears.text r.hears.reads) r.becomes.nodes (put_before w.link v.link l _ _ r.becomes.links) r.becomes.book)
    go (FollowerRow.loads r) =
        then_counts w v l (heard k r.left.left []) (asked k r.left []) r.becomes.links refl (λ z. heard_on r.text r.left.left (laws.loads_some r.text r.held r.loads) (reads_left k.tell r.left r.text r.reads) z)
        (load n l r.id r.offset a r.held k r.text r.left.left (at (Loading r.id r.offset) r.phase) r.loads
        (reads_left k.tell r.left r.text r.reads) r.becomes.nodes (put_before w.link v.link l _ _ r.becomes.links) r.becomes.book)
    go (FollowerRow.applies r) =
        then_counts w v l (heard k r.left.left []) (asked k r.left []) r.becomes.links refl (λ z. heard_on (L.text r.effect) r.left.left (laws.text_some r.effect) (reads_left k.tell r.left (L.text r.effect) r.reads) z)
        (follow n l a r.effect r.held k r.left.left r.backlog (at Stream r.phase) (reads_left k.tell r.left (L.text r.effect) r.reads)
        r.good r.applies r.last_bytes r.becomes.nodes (put_before w.link v.link l _ _ r.becomes.links) r.becomes.book)
