-- The invariant is kept by a change at one node, at one link, or at a replica and its link.
use Rattle.std.proofs.Common.{ℕ, List, [], ◌++◌, ◌≡◌, ◌≢◌, ◌+◌, ◌-◌, Option, None, Some, Bool, true, false, refl, sym, ◌∙◌, ap, subst, inl, inr, ◌⊎◌}
use Rattle.std.proofs.lemmas.Bool.Decides.{eqb_tells}
use Rattle.law_protocol.specs.Language.{Language, Laws}
use Rattle.law_protocol.specs.Language.Request.{Handshake, Psync}
use Rattle.law_protocol.specs.Changes.{SetAt, Same}
use Rattle.law_protocol.specs.History.{Book, Agree}
use Rattle.law_protocol.specs.Node.{Phase, Follow, Node}
use Rattle.law_protocol.specs.World.{Link, World, IsUntouched, dropped, shut, no_bytes}
use Rattle.law_protocol.specs.World.Caller.{Peer}
use Rattle.law_protocol.specs.Invariant.{IsGoodBook, NodeIsSound, AtTip, Flow, Talk, LinkIsSound, Invariant}
use Rattle.law_protocol.specs.Invariant.Talk.{greeting, greeted, asking, asking_for, refused, answered_full, answered_cont, loading, streaming}
use Rattle.law_protocol.proofs.Moves.{Follows, WaitsUntouched, NoneComes}
use Rattle.law_protocol.proofs.Fronts.{Keeps, some_is, at_grows, agree_grows, front_keeps, keeps_grows}

pub same_keeps : (L : Language) (b c : Book L) → Same b c → Keeps L b c
same_keeps L b c s i h e = s i ∙ e

pub same_good : (L : Language) (b c : Book L) → Same b c → IsGoodBook L b → IsGoodBook L c
same_good L b c s g i h e = g i h (sym (s i) ∙ e)

pub node_keeps : {L : Language} (b c : Book L) (a : Node L) → Keeps L b c → NodeIsSound b a → NodeIsSound c a
node_keeps {L} b c a k o = record {
  start = o.start;
  earlier = o.earlier;
  later = o.later;
  front = front_keeps L b c a.id a.offset o.start o.earlier o.later k o.front;
  folds = o.folds;
  before = o.before;
  backlog = o.backlog;
  tip = o.tip;
  alone = o.alone;
  second = λ i p e. agree_grows L b c i a.id (p - 1) (keeps_grows L b c k) (o.second i p e);
}

pub flow_keeps : {L : Language} (w v : World L) (k k' : Link) (i : L.Id) (o : ℕ) (bytes : List ℕ) → Keeps L w.book v.book → k'.streams ≡ k.streams
    → ((j : L.Id) (post : List L.Effect) → AtTip w k j post → AtTip v k' j post) → Flow w k i o bytes → Flow v k' i o bytes
flow_keeps {L} w v k k' i o bytes keeps es tips f = record {
  start = f.start;
  earlier = f.earlier;
  mid = f.mid;
  post = f.post;
  front = front_keeps L w.book v.book i o f.start f.earlier (f.mid ++ f.post) keeps f.front;
  bytes_are = f.bytes_are;
  tip = tips i f.post f.tip;
  streams = es ∙ f.streams;
}

-- a link stays as it was, for a node with the same id and offset; what is open on it may be dropped
pub talk_keeps : {L : Language} (w v : World L) (a b : Node L) (p : Phase L.Id) (k k' : Link) → Keeps L w.book v.book
    → b.id ≡ a.id → b.offset ≡ a.offset → k'.streams ≡ k.streams → (k.transaction ≡ None → k'.transaction ≡ k.transaction) → k'.ask.left ≡ k.ask.left → k'.tell.left ≡ k.tell.left
    → ((i : L.Id) (post : List L.Effect) → AtTip w k i post → AtTip v k' i post) → Talk w a p k → Talk v b p k'
talk_keeps {L} w v a b p k k' keeps ei eo es en ea et tips (greeting n e s x y) = greeting n e (es ∙ s.0, en s.1 ∙ s.1) (subst (λ z. L.asks z k'.ask.left Handshake) (sym (en s.1)) (subst (λ z. L.asks k.transaction z Handshake) (sym ea) x)) (et ∙ y)
talk_keeps {L} w v a b p k k' keeps ei eo es en ea et tips (greeted n t e s x y z) = greeted n t e (es ∙ s.0, en s.1 ∙ s.1) (ea ∙ x) (et ∙ y) z
talk_keeps {L} w v a b p k k' keeps ei eo es en ea et tips (asking e s x y) = asking e (es ∙ s.0, en s.1 ∙ s.1) (subst (λ z. L.asks z k'.ask.left (Psync None)) (sym (en s.1)) (subst (λ z. L.asks k.transaction z (Psync None)) (sym ea) x)) (et ∙ y)
talk_keeps {L} w v a b p k k' keeps ei eo es en ea et tips (asking_for e s x y) =
    asking_for e (es ∙ s.0, en s.1 ∙ s.1) (subst (λ z. L.asks z k'.ask.left (Psync (Some (b.id, b.offset + 1)))) (sym (en s.1)) (subst (λ z. L.asks k.transaction k'.ask.left (Psync (Some (z, b.offset + 1)))) (sym ei) (subst (λ z. L.asks k.transaction k'.ask.left (Psync (Some (a.id, z + 1)))) (sym eo) (subst (λ z. L.asks k.transaction z (Psync (Some (a.id, a.offset + 1)))) (sym ea) x)))) (et ∙ y)
talk_keeps {L} w v a b p k k' keeps ei eo es en ea et tips (refused t e s x y z) = refused t e (es ∙ s.0, en s.1 ∙ s.1) (ea ∙ x) (et ∙ y) z
talk_keeps {L} w v a b p k k' keeps ei eo es en ea et tips (answered_full i o m bytes e y at f) =
    answered_full i o m bytes e (et ∙ y) (at_grows L w.book v.book i o m.held (keeps_grows L w.book v.book keeps) at) (flow_keeps w v k k' i o bytes keeps es tips f)
talk_keeps {L} w v a b p k k' keeps ei eo es en ea et tips (answered_cont i bytes e y g f) =
    answered_cont i bytes e (et ∙ y)
    (subst (λ x. Agree L v.book x i.id b.offset) (sym ei) (subst (λ x. Agree L v.book a.id i.id x) (sym eo) (agree_grows L w.book v.book a.id i.id a.offset (keeps_grows L w.book v.book keeps) g)))
    (subst (λ x. Flow v k' i.id x bytes) (sym eo) (flow_keeps w v k k' i.id a.offset bytes keeps es tips f))
talk_keeps {L} w v a b p k k' keeps ei eo es en ea et tips (loading i o m bytes e y at f) =
    loading i o m bytes e (et ∙ y) (at_grows L w.book v.book i o m.held (keeps_grows L w.book v.book keeps) at) (flow_keeps w v k k' i o bytes keeps es tips f)
talk_keeps {L} w v a b p k k' keeps ei eo es en ea et tips (streaming bytes e y f) =
    streaming bytes e (et ∙ y)
    (subst (λ x. Flow v k' x b.offset bytes) (sym ei) (subst (λ x. Flow v k' a.id x bytes) (sym eo) (flow_keeps w v k k' a.id a.offset bytes keeps es tips f)))

-- whether two numbers are one, as a choice
pub one_or : {P : Type 0} (m n : ℕ) → (m ≡ n → P) → (m ≢ n → P) → P
one_or m n f g = elim (eqb_tells m n) [ inl x ↦ f x.1 | inr x ↦ g x.1 ]

-- what the test of two ids tells
pub same_tells : (L : Language) (laws : Laws L) (i j : L.Id) → ((L.same i j ≡ true) × (i ≡ j)) ⊎ ((L.same i j ≡ false) × (i ≢ j))
same_tells L laws i j = go (L.same i j) refl
  where
    go : (b : Bool) → L.same i j ≡ b → ((L.same i j ≡ true) × (i ≡ j)) ⊎ ((L.same i j ≡ false) × (i ≢ j))
    go true e = inl (e, (laws.same_decides i j).0 e)
    go false e = inr (e, λ h. let k = (laws.same_decides i j).1 h in cc)

pub id_or : {P : Type 0} (L : Language) (laws : Laws L) (i j : L.Id) → (i ≡ j → P) → (i ≢ j → P) → P
id_or L laws i j f g = elim (same_tells L laws i j) [ inl x ↦ f x.1 | inr x ↦ g x.1 ]

pub true_false : {P : Type 0} (b : Bool) → b ≡ true → b ≡ false → P
true_false b x y = absurd (cc)

pub none_some : {A P : Type 0} (o : Option A) (x : A) → o ≡ None → o ≡ Some x → P
none_some o x p q = absurd (cc)

-- what a link was before each became another
pub origin : {L : Language} (w v : World L) (g : ℕ → Link → Link) → NoneComes w v → ((l : ℕ) (k : Link) → w.link l ≡ Some k → v.link l ≡ Some (g l k))
    → (l : ℕ) (y : Link) → v.link l ≡ Some y → (k : Link) × (w.link l ≡ Some k) × (g l k ≡ y)
origin w v g none some l y e = go (w.link l) refl
  where
    go : (o : Option Link) → w.link l ≡ o → (k : Link) × (w.link l ≡ Some k) × (g l k ≡ y)
    go None q = none_some (v.link l) y (none l q) e
    go (Some k) q = (k, q, some_is (g l k) y (sym (some l k q) ∙ e))

pub dropped_untouched : (b : Bool) (k : Link) → IsUntouched k → IsUntouched (dropped b k)
dropped_untouched true k h = record { serving = h.serving; streams = h.streams; ask = h.ask; tell = h.tell; transaction = refl }
dropped_untouched false k h = record { serving = h.serving; streams = h.streams; ask = h.ask; tell = h.tell; transaction = h.transaction }

pub shut_untouched : (b : Bool) (k : Link) → IsUntouched k → IsUntouched (shut b k)
shut_untouched true k h = record { serving = refl; streams = h.streams; ask = h.ask; tell = h.tell; transaction = refl }
shut_untouched false k h = record { serving = h.serving; streams = h.streams; ask = h.ask; tell = h.tell; transaction = h.transaction }

-- more is sent to who may accept the link
pub asked_untouched : (k : Link) (bytes : List ℕ) → IsUntouched k → IsUntouched (record k { ask = record k.ask { left = bytes } })
asked_untouched k bytes h = record { serving = h.serving; streams = h.streams; ask = h.ask; tell = h.tell; transaction = h.transaction }

-- the links that wait, after a change at one link
waiting_after : {L : Language} (w v : World L) (l : ℕ) (k' : Link) → Invariant w → SetAt w.link v.link l k' → WaitsUntouched k' → (j : ℕ) (y : Link) → v.link j ≡ Some y → WaitsUntouched y
waiting_after w v l k' inv sl here j y e q = one_or j l
    (λ h. let i = some_is k' y (sym sl.0 ∙ (ap (λ z. v.link z) (sym h) ∙ e)) in subst (λ z. IsUntouched z) i (here (ap (λ z. z.to) i ∙ q)))
    (λ h. inv.waiting j y (sym (sl.1 j h) ∙ e) q)

-- A change at node n alone.
pub node_change : {L : Language} (w v : World L) (n : ℕ) (b : Node L) → Invariant w → SetAt w.node v.node n b → Same w.link v.link → Keeps L w.book v.book → IsGoodBook L v.book
    → (b.up ≡ true → NodeIsSound v.book b)
    → (b.up ≡ true → b.master ≡ true → (m : ℕ) (c : Node L) → m ≢ n → w.node m ≡ Some c → c.up ≡ true → c.master ≡ true → b.id ≢ c.id)
    → ((l : ℕ) (k : Link) (i : L.Id) (post : List L.Effect) → w.link l ≡ Some k → k.to ≡ Some n → k.streams ≡ true → k.serving ≡ true → b.up ≡ true
    → AtTip w k i post → (b.master ≡ true) × (b.id ≡ i) × (post ≡ []))
    → ((f : Follow L.Id) → b.up ≡ true → b.follow ≡ Some f → LinkIsSound v n b f)
    → Invariant v
node_change {L} w v n b inv sn sl keeps good self rank tips mine = record {
  good = good;
  nodes = λ m a e u. one_or m n
      (λ q. subst (λ x. NodeIsSound v.book x) (is_b m a q e) (self (ap (λ x. x.up) (is_b m a q e) ∙ u)))
      (λ q. node_keeps w.book v.book a keeps (inv.nodes m a (was m a q e) u));
  masters = λ m m' a c e e' u u' x x' y. one_or m n
      (λ q. one_or m' n (λ q'. q ∙ sym q')
      (λ q'. absurd (rank (up_b m a q e u) (master_b m a q e x) m' c q' (was m' c q' e') u' x' (ap (λ z. z.id) (is_b m a q e) ∙ y))))
      (λ q. one_or m' n
      (λ q'. absurd (rank (up_b m' c q' e' u') (master_b m' c q' e' x') m a q (was m a q e) u x (ap (λ z. z.id) (is_b m' c q' e') ∙ sym y)))
      (λ q'. inv.masters m m' a c (was m a q e) (was m' c q' e') u u' x x' y));
  links = λ m a f e u g. one_or m n
      (λ q. let i = is_b m a q e in subst (λ x. LinkIsSound v m x f) i (subst (λ x. LinkIsSound v x b f) (sym q) (mine f (ap (λ x. x.up) i ∙ u) (ap (λ x. x.follow) i ∙ g))))
      (λ q. kept m a f (inv.links m a f (was m a q e) u g));
  waiting = λ l k e q. inv.waiting l k (sym (sl l) ∙ e) q;
}
  where
    is_b : (m : ℕ) (a : Node L) → m ≡ n → v.node m ≡ Some a → b ≡ a
    is_b m a q e = some_is b a (sym sn.0 ∙ (ap (λ x. v.node x) (sym q) ∙ e))

    up_b : (m : ℕ) (a : Node L) → m ≡ n → v.node m ≡ Some a → a.up ≡ true → b.up ≡ true
    up_b m a q e u = ap (λ x. x.up) (is_b m a q e) ∙ u

    master_b : (m : ℕ) (a : Node L) → m ≡ n → v.node m ≡ Some a → a.master ≡ true → b.master ≡ true
    master_b m a q e u = ap (λ x. x.master) (is_b m a q e) ∙ u

    was : (m : ℕ) (a : Node L) → m ≢ n → v.node m ≡ Some a → w.node m ≡ Some a
    was m a q e = sym (sn.1 m q) ∙ e

    tip : (l : ℕ) (k : Link) → w.link l ≡ Some k → k.streams ≡ true → (i : L.Id) (post : List L.Effect) → AtTip w k i post → AtTip v k i post
    tip l k e s i post t m x to ex u o = one_or m n
        (λ q. let j = is_b m x q ex in let r = tips l k i post e (to ∙ ap (λ z. Some z) q) s o (ap (λ z. z.up) j ∙ u) t in
        (sym (ap (λ z. z.master) j) ∙ r.0, sym (ap (λ z. z.id) j) ∙ r.1, r.2))
        (λ q. t m x to (was m x q ex) u o)

    tip_if : (l : ℕ) (k : Link) (a : Node L) (p : Phase L.Id) → w.link l ≡ Some k → Talk w a p k → Talk v a p k
    tip_if l k a p e (greeting n x s y z) = greeting n x s y z
    tip_if l k a p e (greeted n t x s y z q) = greeted n t x s y z q
    tip_if l k a p e (asking x s y z) = asking x s y z
    tip_if l k a p e (asking_for x s y z) = asking_for x s y z
    tip_if l k a p e (refused t x s y z q) = refused t x s y z q
    tip_if l k a p e (answered_full i o m bytes x y at f) = talk_keeps w v a a p k k keeps refl refl refl (λ i. refl) refl refl (tip l k e f.streams) (answered_full i o m bytes x y at f)
    tip_if l k a p e (answered_cont i bytes x y g f) = talk_keeps w v a a p k k keeps refl refl refl (λ i. refl) refl refl (tip l k e f.streams) (answered_cont i bytes x y g f)
    tip_if l k a p e (loading i o m bytes x y at f) = talk_keeps w v a a p k k keeps refl refl refl (λ i. refl) refl refl (tip l k e f.streams) (loading i o m bytes x y at f)
    tip_if l k a p e (streaming bytes x y f) = talk_keeps w v a a p k k keeps refl refl refl (λ i. refl) refl refl (tip l k e f.streams) (streaming bytes x y f)

    kept : (m : ℕ) (a : Node L) (f : Follow L.Id) → LinkIsSound w m a f → LinkIsSound v m a f
    kept m a f o = record { link = o.link; found = sl f.link ∙ o.found; mine = o.mine; talk = tip_if f.link o.link a f.phase o.found o.talk }

peer_is : (m n : ℕ) → Peer m ≡ Peer n → m ≡ n
peer_is m n e = cc

-- A change at link l alone.
pub link_change : {L : Language} (w v : World L) (l : ℕ) (k' : Link) → Invariant w → Same w.node v.node → SetAt w.link v.link l k' → Same w.book v.book → WaitsUntouched k'
    → ((m : ℕ) (c : Node L) (p : Phase L.Id) (k : Link) → w.node m ≡ Some c → c.up ≡ true → c.follow ≡ Some (record { link = l; phase = p })
    → w.link l ≡ Some k → k.caller ≡ Peer m → Talk w c p k → (k'.caller ≡ Peer m) × Talk v c p k')
    → Invariant v
link_change {L} w v l k' inv sn sl sb wait at = record {
  good = same_good L w.book v.book sb inv.good;
  nodes = λ m a e u. node_keeps w.book v.book a keeps (inv.nodes m a (was m a e) u);
  masters = λ m m' a c e e' u u' x x' y. inv.masters m m' a c (was m a e) (was m' c e') u u' x x' y;
  links = λ m a f e u g. one_or f.link l (λ q. here m a f e u g q) (λ q. there m a f e u g q);
  waiting = waiting_after w v l k' inv sl wait;
}
  where
    keeps : Keeps L w.book v.book
    keeps = same_keeps L w.book v.book sb

    was : (m : ℕ) (a : Node L) → v.node m ≡ Some a → w.node m ≡ Some a
    was m a e = sym (sn m) ∙ e

    tip : (k : Link) → (i : L.Id) (post : List L.Effect) → AtTip w k i post → AtTip v k i post
    tip k i post t m x to ex u o = t m x to (was m x ex) u o

    here : (m : ℕ) (a : Node L) (f : Follow L.Id) → v.node m ≡ Some a → a.up ≡ true → a.follow ≡ Some f → f.link ≡ l → LinkIsSound v m a f
    here m a f e u g q =
        let o = inv.links m a f (was m a e) u g in
        let r = at m a f.phase o.link (was m a e) u (g ∙ ap (λ x. Some (record { link = x; phase = f.phase })) q) (ap (λ x. w.link x) (sym q) ∙ o.found) o.mine o.talk in
        record { link = k'; found = ap (λ x. v.link x) q ∙ sl.0; mine = r.0; talk = r.1 }

    there : (m : ℕ) (a : Node L) (f : Follow L.Id) → v.node m ≡ Some a → a.up ≡ true → a.follow ≡ Some f → f.link ≢ l → LinkIsSound v m a f
    there m a f e u g q =
        let o = inv.links m a f (was m a e) u g in
        record { link = o.link; found = sl.1 f.link q ∙ o.found; mine = o.mine; talk = talk_keeps w v a a f.phase o.link o.link keeps refl refl refl (λ i. refl) refl refl (tip o.link) o.talk }

-- A change at a replica and at the link that it follows.
pub follower_change : {L : Language} (w v : World L) (n l : ℕ) (a b : Node L) (p q : Phase L.Id) (k k' : Link) → Invariant w → Follows w n a l p k
    → SetAt w.node v.node n b → SetAt w.link v.link l k' → Same w.book v.book
    → b.master ≡ a.master → b.up ≡ a.up → b.follow ≡ Some (record { link = l; phase = q }) → k'.caller ≡ k.caller → k'.to ≡ k.to → k.tell ≢ no_bytes
    → (NodeIsSound w.book a → Talk w a p k → NodeIsSound w.book b)
    → (NodeIsSound w.book a → ((x y : Link) → y.to ≡ x.to → y.serving ≡ x.serving → (i : L.Id) (post : List L.Effect) → AtTip w x i post → AtTip v y i post)
    → Talk w a p k → Talk v b q k')
    → Invariant v
follower_change {L} w v n l a b p q k k' inv fo sn sl sb em eu ef efrom eto said self talk = record {
  good = same_good L w.book v.book sb inv.good;
  nodes = λ m c e u. one_or m n
      (λ h. subst (λ x. NodeIsSound v.book x) (is_b m c h e) (node_keeps w.book v.book b keeps (self ok its.1)))
      (λ h. node_keeps w.book v.book c keeps (inv.nodes m c (was m c h e) u));
  masters = λ m m' c d e e' u u' x x' y. one_or m n
      (λ h. replica (sym em ∙ (ap (λ z. z.master) (is_b m c h e) ∙ x)))
      (λ h. one_or m' n
      (λ h'. replica (sym em ∙ (ap (λ z. z.master) (is_b m' d h' e') ∙ x')))
      (λ h'. inv.masters m m' c d (was m c h e) (was m' d h' e') u u' x x' y));
  links = λ m c f e u g. one_or m n
      (λ h. mine m c f h e g)
      (λ h. theirs m c f h e u g);
  waiting = waiting_after w v l k' inv sl (λ q. absurd (said (inv.waiting l k fo.link (sym eto ∙ q)).tell));
}
  where
    keeps : Keeps L w.book v.book
    keeps = same_keeps L w.book v.book sb

    ok : NodeIsSound w.book a
    ok = inv.nodes n a fo.node fo.up

    its : (k.caller ≡ Peer n) × Talk w a p k
    its =
        let o = inv.links n a (record { link = l; phase = p }) fo.node fo.up fo.follow in
        let e = some_is o.link k (sym o.found ∙ fo.link) in
        (ap (λ x. x.caller) (sym e) ∙ o.mine, subst (λ x. Talk w a p x) e o.talk)

    replica : {P : Type 0} → a.master ≡ true → P
    replica {P} x = none_some {P = P} a.follow (record { link = l; phase = p }) (ok.alone x) fo.follow

    is_b : (m : ℕ) (c : Node L) → m ≡ n → v.node m ≡ Some c → b ≡ c
    is_b m c h e = some_is b c (sym sn.0 ∙ (ap (λ x. v.node x) (sym h) ∙ e))

    was : (m : ℕ) (c : Node L) → m ≢ n → v.node m ≡ Some c → w.node m ≡ Some c
    was m c h e = sym (sn.1 m h) ∙ e

    tip : (x y : Link) → y.to ≡ x.to → y.serving ≡ x.serving → (i : L.Id) (post : List L.Effect) → AtTip w x i post → AtTip v y i post
    tip x y et es i post t m s to ex u o = one_or m n
        (λ h. replica (t n a (sym et ∙ (to ∙ ap (λ z. Some z) h)) fo.node fo.up (sym es ∙ o)).0)
        (λ h. t m s (sym et ∙ to) (was m s h ex) u (sym es ∙ o))

    follow_is : (m : ℕ) (c : Node L) (f : Follow L.Id) → m ≡ n → v.node m ≡ Some c → c.follow ≡ Some f → record { link = l; phase = q } ≡ f
    follow_is m c f h e g = some_is (record { link = l; phase = q }) f (sym ef ∙ (ap (λ z. z.follow) (is_b m c h e) ∙ g))

    mine : (m : ℕ) (c : Node L) (f : Follow L.Id) → m ≡ n → v.node m ≡ Some c → c.follow ≡ Some f → LinkIsSound v m c f
    mine m c f h e g =
        let i = follow_is m c f h e g in
        let t = talk ok tip its.1 in
        record {
          link = k';
          found = ap (λ z. v.link z.link) (sym i) ∙ sl.0;
          mine = efrom ∙ (its.0 ∙ ap (λ z. Peer z) (sym h));
          talk = subst (λ z. Talk v z f.phase k') (is_b m c h e) (subst (λ z. Talk v b z.phase k') i t);
        }

    theirs : (m : ℕ) (c : Node L) (f : Follow L.Id) → m ≢ n → v.node m ≡ Some c → c.up ≡ true → c.follow ≡ Some f → LinkIsSound v m c f
    theirs m c f h e u g =
        let o = inv.links m c f (was m c h e) u g in
        let other = λ (x : f.link ≡ l).
        let same = some_is o.link k (sym o.found ∙ (ap (λ z. w.link z) x ∙ fo.link)) in
        h (peer_is m n (sym o.mine ∙ (ap (λ z. z.caller) same ∙ its.0))) in
        record {
          link = o.link;
          found = sl.1 f.link other ∙ o.found;
          mine = o.mine;
          talk = talk_keeps w v c c f.phase o.link o.link keeps refl refl refl (λ i. refl) refl refl (tip o.link o.link refl refl) o.talk;
        }
