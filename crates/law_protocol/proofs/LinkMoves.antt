-- The moves that change a link and no node keep the invariant.
use Rattle.std.proofs.Common.{ℕ, List, [], ◌∷◌, ◌++◌, ◌≡◌, ◌+◌, Option, None, Some, Bool, true, false, refl, sym, ◌∙◌, ap, subst}
use Rattle.std.proofs.lemmas.List.{append_cancel_left}
use Rattle.law_protocol.specs.Language.{Language, Laws, Transaction, Request}
use Rattle.law_protocol.specs.Language.Line.{FullResync, Continue, Plain, Refusal}
use Rattle.law_protocol.specs.Language.Request.{Handshake, Psync, Ack, Command, ReplicaOfNoOne, ReplicaOf, Empty, Quit}
use Rattle.law_protocol.specs.Changes.{SetAt, Same}
use Rattle.law_protocol.specs.History.{Front}
use Rattle.law_protocol.specs.Node.{Phase, Node, Continues, tail}
use Rattle.law_protocol.specs.Node.Phase.{Asked}
use Rattle.law_protocol.specs.World.{Link, World, IsUntouched, accepted, dropped, shut}
use Rattle.law_protocol.specs.Invariant.{NodeIsSound, AtTip, Flow, Talk, Invariant}
use Rattle.law_protocol.specs.Invariant.Talk.{greeting, greeted, asking, asking_for, refused, answered_full, answered_cont, loading, streaming}
use Rattle.law_protocol.proofs.Moves.{HasServingEnd, WaitsUntouched, NoneComes, used}
use Rattle.law_protocol.proofs.Histories.{append_nil}
use Rattle.law_protocol.proofs.Fronts.{Keeps, some_is, at_grows, agree_grows, front_keeps, keeps_grows, Continuing, continues}
use Rattle.law_protocol.proofs.Keeping.{same_keeps, same_good, node_keeps, flow_keeps, talk_keeps, link_change, true_false, none_some, origin, dropped_untouched, shut_untouched, asked_untouched}

-- the answer's tips: with the same nodes
pub same_tip : {L : Language} (w v : World L) (k k' : Link) → Same w.node v.node → k'.to ≡ k.to → (k'.serving ≡ true → k.serving ≡ true)
    → (i : L.Id) (post : List L.Effect) → AtTip w k i post → AtTip v k' i post
same_tip w v k k' sn et es i post t n s to e u o = t n s (sym et ∙ to) (sym (sn n) ∙ e) u (es o)

shut_open : (b : Bool) (k : Link) → (shut b k).serving ≡ true → k.serving ≡ true
shut_open true k e = true_false false e refl
shut_open false k e = e

-- where nothing is open nothing is dropped
drop_none : (b : Bool) (k : Link) → k.transaction ≡ None → (dropped b k).transaction ≡ k.transaction
drop_none true k e = sym e
drop_none false k e = refl

pub close_keeps : {L : Language} (w v : World L) (f : ℕ → Link → Bool) → Invariant w → Same w.node v.node → NoneComes w v
    → ((l : ℕ) (k : Link) → w.link l ≡ Some k → v.link l ≡ Some (shut (f l k) k)) → Same w.book v.book → Invariant v
close_keeps {L} w v f inv sn none sl sb = record {
  good = same_good L w.book v.book sb inv.good;
  nodes = λ n a e u. node_keeps w.book v.book a keeps (inv.nodes n a (sym (sn n) ∙ e) u);
  masters = λ n m a b e e' u u' x x' y. inv.masters n m a b (sym (sn n) ∙ e) (sym (sn m) ∙ e') u u' x x' y;
  links = λ n a g e u h. let o = inv.links n a g (sym (sn n) ∙ e) u h in record {
    link = shut (f g.link o.link) o.link;
    found = sl g.link o.link o.found;
    mine = o.mine;
    talk = talk_keeps w v a a g.phase o.link (shut (f g.link o.link) o.link) keeps refl refl refl (drop_none (f g.link o.link) o.link) refl refl
        (same_tip w v o.link (shut (f g.link o.link) o.link) sn refl (shut_open (f g.link o.link) o.link)) o.talk;
  };
  waiting = λ l y e q. let o = origin w v (λ j k. shut (f j k) k) none sl l y e in
      subst (λ z. IsUntouched z) o.2 (shut_untouched (f l o.0) o.0 (inv.waiting l o.0 o.1 (ap (λ z. z.to) o.2 ∙ q)));
}
  where
    keeps : Keeps L w.book v.book
    keeps = same_keeps L w.book v.book sb

pub drop_keeps : {L : Language} (w v : World L) (f : ℕ → Link → Bool) → Invariant w → Same w.node v.node → NoneComes w v
    → ((l : ℕ) (k : Link) → w.link l ≡ Some k → v.link l ≡ Some (dropped (f l k) k)) → Same w.book v.book → Invariant v
drop_keeps {L} w v f inv sn none sl sb = record {
  good = same_good L w.book v.book sb inv.good;
  nodes = λ n a e u. node_keeps w.book v.book a keeps (inv.nodes n a (sym (sn n) ∙ e) u);
  masters = λ n m a b e e' u u' x x' y. inv.masters n m a b (sym (sn n) ∙ e) (sym (sn m) ∙ e') u u' x x' y;
  links = λ n a g e u h. let o = inv.links n a g (sym (sn n) ∙ e) u h in record {
    link = dropped (f g.link o.link) o.link;
    found = sl g.link o.link o.found;
    mine = o.mine;
    talk = talk_keeps w v a a g.phase o.link (dropped (f g.link o.link) o.link) keeps refl refl refl (drop_none (f g.link o.link) o.link) refl refl
        (same_tip w v o.link (dropped (f g.link o.link) o.link) sn refl (λ s. s)) o.talk;
  };
  waiting = λ l y e q. let o = origin w v (λ j k. dropped (f j k) k) none sl l y e in
      subst (λ z. IsUntouched z) o.2 (dropped_untouched (f l o.0) o.0 (inv.waiting l o.0 o.1 (ap (λ z. z.to) o.2 ∙ q)));
}
  where
    keeps : Keeps L w.book v.book
    keeps = same_keeps L w.book v.book sb

pub carry_keeps : {L : Language} (w v : World L) (l x y : ℕ) (k : Link) → Invariant w → w.link l ≡ Some k
    → WaitsUntouched (record k { ask = record k.ask { taken = x }; tell = record k.tell { taken = y } }) → Same w.node v.node
    → SetAt w.link v.link l (record k { ask = record k.ask { taken = x }; tell = record k.tell { taken = y } }) → Same w.book v.book → Invariant v
carry_keeps {L} w v l x y k inv e wait sn sl sb =
    link_change w v l k' inv sn sl sb wait (λ m c p z ec uc fc ez fz t.
    let i = some_is z k (sym ez ∙ e) in (
      ap (λ z. z.caller) (sym i) ∙ fz,
      talk_keeps w v c c p k k' (same_keeps L w.book v.book sb) refl refl refl (λ i. refl) refl refl
          (same_tip w v k k' sn refl (λ o. o))
          (subst (λ z. Talk w c p z) i t),
    ))
  where
    k' : Link
    k' = record k { ask = record k.ask { taken = x }; tell = record k.tell { taken = y } }

pub loose_keeps : {L : Language} (w v : World L) (l : ℕ) (k : Link) → Invariant w
    → ((n : ℕ) (a : Node L) (p : Phase L.Id) → w.node n ≡ Some a → a.up ≡ true → a.follow ≡ Some (record { link = l; phase = p }) → ⊥)
    → WaitsUntouched k → Same w.node v.node → SetAt w.link v.link l k → Same w.book v.book → Invariant v
loose_keeps {L} w v l k inv free wait sn sl sb =
    link_change w v l k inv sn sl sb wait (λ m c p z ec uc fc ez fz t. absurd (free m c p ec uc fc))

-- a node accepts a link, on which a follower has asked and heard nothing
pub accept_keeps : {L : Language} (w v : World L) (l m : ℕ) (k : Link) → Invariant w → w.link l ≡ Some k → k.to ≡ None → Same w.node v.node
    → SetAt w.link v.link l (accepted m k) → Same w.book v.book → Invariant v
accept_keeps {L} w v l m k inv ek wait sn sl sb =
    link_change w v l (accepted m k) inv sn sl sb (λ q. none_some (Some m) m q refl) (λ n c p x ec uc fc ex fx y.
    let i = some_is x k (sym ex ∙ ek) in
    (ap (λ z. z.caller) (sym i) ∙ fx, go c p (subst (λ z. Talk w c p z) i y)))
  where
    quiet : k.streams ≡ false
    quiet = (inv.waiting l k ek wait).streams

    go : (c : Node L) (p : Phase L.Id) → Talk w c p k → Talk v c p (accepted m k)
    go c p (greeting n e x y z) = greeting n e x y z
    go c p (greeted n t e x y z h) = greeted n t e x y z h
    go c p (asking e x y z) = asking e x y z
    go c p (asking_for e x y z) = asking_for e x y z
    go c p (refused t e x y z h) = refused t e x y z h
    go c p (answered_full i o d bytes e y at f) = true_false k.streams f.streams quiet
    go c p (answered_cont i bytes e y g f) = true_false k.streams f.streams quiet
    go c p (loading i o d bytes e y at f) = true_false k.streams f.streams quiet
    go c p (streaming bytes e y f) = true_false k.streams f.streams quiet

-- what is read of a text that is there whole is that text
pub whole_ask : (L : Language) (laws : Laws L) (n : Option Transaction) (s t rest : List ℕ) (a b : Request L.Id) → L.asks n s a → L.asks n t b → s ≡ t ++ rest → (rest ≡ []) × (a ≡ b)
whole_ask L laws n s t rest a b x y e =
    let h = laws.asks_cut n s t a b [] rest x y (append_nil s ∙ e) in
    (append_cancel_left t rest [] (sym e ∙ (h.0 ∙ sym (append_nil t))), h.1)

-- the stages in which the server may read a request that isn't answered yet
pub stage_left : {P : Type 0} (L : Language) (laws : Laws L) (m : Option Transaction) (t rest : List ℕ) (a : Request L.Id) (xs : List ℕ) → L.asks m t a → xs ≡ t ++ rest → xs ≡ [] → P
stage_left L laws m t rest a xs h e n = absurd (nothing t rest (laws.asks_some m t a h) (sym e ∙ n))
  where
    nothing : (t rest : List ℕ) → (t ≡ [] → ⊥) → t ++ rest ≡ [] → ⊥
    nothing [] rest f g = f refl
    nothing (x ∷ t) rest f g = cc

pub greet_keeps : {L : Language} (laws : Laws L) (w v : World L) (l : ℕ) (k : Link) (s : Node L) (t rest r : List ℕ) → Invariant w → HasServingEnd w s l k → k.streams ≡ false → L.asks k.transaction t Handshake → L.says r Plain
    → k.ask.left ≡ t ++ rest → Same w.node v.node → SetAt w.link v.link l (used k rest r) → Same w.book v.book → Invariant v
greet_keeps {L} laws w v l k s t rest r inv se st ask say el sn sl sb =
    link_change w v l (used k rest r) inv sn sl sb (λ q. none_some k.to se.n q se.to) (λ m c p x ec uc fc ex fx y.
    let i = some_is x k (sym ex ∙ se.link) in
    (ap (λ z. z.caller) (sym i) ∙ fx, go c p (subst (λ z. Talk w c p z) i y)))
  where
    go : (c : Node L) (p : Phase L.Id) → Talk w c p k → Talk v c p (used k rest r)
    go c p (greeting n e x y z) =
        greeted n r e x (whole_ask L laws k.transaction k.ask.left t rest Handshake Handshake y ask el).0 (ap (λ q. q ++ r) z) say
    go c p (greeted n q e x y z g) = stage_left L laws k.transaction t rest Handshake k.ask.left ask el y
    go c p (asking e x y z) = absurd (let h = (whole_ask L laws k.transaction k.ask.left t rest (Psync None) Handshake y ask el).1 in cc)
    go c p (asking_for e x y z) = absurd (let q = Some (c.id, c.offset + 1) in let h = (whole_ask L laws k.transaction k.ask.left t rest (Psync q) Handshake y ask el).1 in cc)
    go c p (refused q e x y z g) = stage_left L laws k.transaction t rest Handshake k.ask.left ask el y
    go c p (answered_full i o m bytes e y at f) = true_false k.streams f.streams st
    go c p (answered_cont i bytes e y g f) = true_false k.streams f.streams st
    go c p (loading i o m bytes e y at f) = true_false k.streams f.streams st
    go c p (streaming bytes e y f) = true_false k.streams f.streams st

pub refuse_keeps : {L : Language} (laws : Laws L) (w v : World L) (l : ℕ) (k : Link) (s : Node L) (q : Option (L.Id × ℕ)) (t rest r : List ℕ) → Invariant w → HasServingEnd w s l k → k.streams ≡ false → L.asks k.transaction t (Psync q) → L.says r Refusal
    → k.ask.left ≡ t ++ rest → Same w.node v.node → SetAt w.link v.link l (used k rest r) → Same w.book v.book → Invariant v
refuse_keeps {L} laws w v l k s q t rest r inv se st ask say el sn sl sb =
    link_change w v l (used k rest r) inv sn sl sb (λ q. none_some k.to se.n q se.to) (λ m c p x ec uc fc ex fx y.
    let i = some_is x k (sym ex ∙ se.link) in
    (ap (λ z. z.caller) (sym i) ∙ fx, go c p (subst (λ z. Talk w c p z) i y)))
  where
    go : (c : Node L) (p : Phase L.Id) → Talk w c p k → Talk v c p (used k rest r)
    go c p (greeting n e x y z) = absurd (let h = (whole_ask L laws k.transaction k.ask.left t rest Handshake (Psync q) y ask el).1 in cc)
    go c p (greeted n z e x y u g) = stage_left L laws k.transaction t rest (Psync q) k.ask.left ask el y
    go c p (asking e x y z) =
        refused r e x (whole_ask L laws k.transaction k.ask.left t rest (Psync None) (Psync q) y ask el).0 (ap (λ u. u ++ r) z) say
    go c p (asking_for e x y z) = let a = Some (c.id, c.offset + 1) in
        refused r e x (whole_ask L laws k.transaction k.ask.left t rest (Psync a) (Psync q) y ask el).0 (ap (λ u. u ++ r) z) say
    go c p (refused z e x y u g) = stage_left L laws k.transaction t rest (Psync q) k.ask.left ask el y
    go c p (answered_full i o m bytes e y at f) = true_false k.streams f.streams st
    go c p (answered_cont i bytes e y g f) = true_false k.streams f.streams st
    go c p (loading i o m bytes e y at f) = true_false k.streams f.streams st
    go c p (streaming bytes e y f) = true_false k.streams f.streams st

of_psync : {I : Type 0} → Request I → Option (I × ℕ)
of_psync (Psync q) = q
of_psync Handshake = None
of_psync Ack = None
of_psync Command = None
of_psync ReplicaOfNoOne = None
of_psync (ReplicaOf t) = None
of_psync Empty = None
of_psync Quit = None

psync_is : {I : Type 0} (a b : I × ℕ) → Psync (Some a) ≡ Psync (Some b) → a ≡ b
unfolding of_psync
psync_is a b e = some_is a b (ap of_psync e)

serves_is : {L : Language} (w v : World L) (l : ℕ) (k : Link) (s x : Node L) (se : HasServingEnd w s l k) (n : ℕ) → k.to ≡ Some n → Same w.node v.node → v.node n ≡ Some x → s ≡ x
serves_is w v l k s x se n to sn e = let i = some_is se.n n (sym se.to ∙ to) in some_is s x (sym se.node ∙ (ap (λ z. w.node z) i ∙ (sym (sn n) ∙ e)))

pub answer_full_keeps : {L : Language} (laws : Laws L) (w v : World L) (l : ℕ) (k : Link) (s : Node L) (q : Option (L.Id × ℕ)) (t rest x y : List ℕ) → L.loads x s.held → L.says y (FullResync s.id s.offset) → Invariant w → HasServingEnd w s l k → k.streams ≡ false → s.master ≡ true → L.asks k.transaction t (Psync q)
    → k.ask.left ≡ t ++ rest → Same w.node v.node
    → SetAt w.link v.link l (record (used k rest (y ++ x)) { streams = true }) → Same w.book v.book → Invariant v
answer_full_keeps {L} laws w v l k s q t rest snap line ld ls inv se st ms ask el sn sl sb =
    link_change w v l k' inv sn sl sb (λ q. none_some k.to se.n q se.to) (λ m c p x ec uc fc ex fx y.
    let i = some_is x k (sym ex ∙ se.link) in
    (ap (λ z. z.caller) (sym i) ∙ fx, go c p (subst (λ z. Talk w c p z) i y)))
  where
    k' : Link
    k' = record (used k rest (line ++ snap)) { streams = true }

    ok : NodeIsSound v.book s
    ok = node_keeps w.book v.book s (same_keeps L w.book v.book sb) (inv.nodes se.n s se.node se.up)

    answered : (c : Node L) (p : Phase L.Id) → p ≡ Asked → k.tell.left ≡ [] → Talk v c p k'
    answered c p e z = answered_full s.id s.offset (record { line = line; says = ls; text = snap; held = s.held; loads = ld }) [] e
        (ap (λ u. u ++ (line ++ snap)) z ∙ ap (λ u. line ++ u) (sym (append_nil snap)))
        (record { start = ok.start; earlier = ok.earlier; later = ok.later; front = ok.front; folds = ok.folds })
        (record {
          start = ok.start;
          earlier = ok.earlier;
          mid = [];
          post = ok.later;
          front = ok.front;
          bytes_are = refl;
          streams = refl;
          tip = λ n x to e u o. let i = serves_is w v l k s x se n to sn e in (sym (ap (λ z. z.master) i) ∙ ms, sym (ap (λ z. z.id) i), ok.tip ms);
        })

    go : (c : Node L) (p : Phase L.Id) → Talk w c p k → Talk v c p k'
    go c p (greeting n e x y z) = absurd (let h = (whole_ask L laws k.transaction k.ask.left t rest Handshake (Psync q) y ask el).1 in cc)
    go c p (greeted n z e x y u g) = stage_left L laws k.transaction t rest (Psync q) k.ask.left ask el y
    go c p (asking e x y z) = answered c p e z
    go c p (asking_for e x y z) = answered c p e z
    go c p (refused z e x y u g) = stage_left L laws k.transaction t rest (Psync q) k.ask.left ask el y
    go c p (answered_full i o m bytes e y at f) = true_false k.streams f.streams st
    go c p (answered_cont i bytes e y g f) = true_false k.streams f.streams st
    go c p (loading i o m bytes e y at f) = true_false k.streams f.streams st
    go c p (streaming bytes e y f) = true_false k.streams f.streams st

pub answer_cont_keeps : {L : Language} (laws : Laws L) (w v : World L) (l : ℕ) (i : L.Id) (o : ℕ) (k : Link) (s : Node L) (t rest y : List ℕ) → L.says y (Continue s.id) → Invariant w → HasServingEnd w s l k → k.streams ≡ false → s.master ≡ true → L.asks k.transaction t (Psync (Some (i, o)))
    → k.ask.left ≡ t ++ rest → Continues s i o → Same w.node v.node
    → SetAt w.link v.link l (record (used k rest (y ++ tail s o)) { streams = true }) → Same w.book v.book → Invariant v
answer_cont_keeps {L} laws w v l i o k s t rest line ls inv se st ms ask el co sn sl sb =
    link_change w v l k' inv sn sl sb (λ q. none_some k.to se.n q se.to) (λ m c p x ec uc fc ex fx y.
    let j = some_is x k (sym ex ∙ se.link) in
    (ap (λ z. z.caller) (sym j) ∙ fx, go c p (inv.nodes m c ec uc) (subst (λ z. Talk w c p z) j y)))
  where
    q : Option (L.Id × ℕ)
    q = Some (i, o)

    k' : Link
    k' = record (used k rest (line ++ tail s o)) { streams = true }

    keeps : Keeps L w.book v.book
    keeps = same_keeps L w.book v.book sb

    ok : NodeIsSound w.book s
    ok = inv.nodes se.n s se.node se.up

    answered : (c : Node L) (p : Phase L.Id) → p ≡ Asked → k.tell.left ≡ [] → NodeIsSound w.book c → Continuing L w.book s c (tail s o) → Talk v c p k'
    answered c p e z oc g = answered_cont (record { id = s.id; line = line; says = ls }) (tail s o) e
        (ap (λ u. u ++ (line ++ tail s o)) z)
        (agree_grows L w.book v.book c.id s.id c.offset (keeps_grows L w.book v.book keeps) g.agree)
        (record {
          start = g.start;
          earlier = g.earlier;
          mid = g.mid;
          post = [];
          front = subst (λ x. Front L v.book s.id c.offset g.start g.earlier x) (sym (append_nil g.mid)) (front_keeps L w.book v.book s.id c.offset g.start g.earlier g.mid keeps g.front);
          bytes_are = g.bytes_are;
          streams = refl;
          tip = λ n x to e u o. let j = serves_is w v l k s x se n to sn e in (sym (ap (λ z. z.master) j) ∙ ms, sym (ap (λ z. z.id) j), refl);
        })

    go : (c : Node L) (p : Phase L.Id) → NodeIsSound w.book c → Talk w c p k → Talk v c p k'
    go c p oc (greeting n e x y z) = absurd (let h = (whole_ask L laws k.transaction k.ask.left t rest Handshake (Psync q) y ask el).1 in cc)
    go c p oc (greeted n z e x y u g) = stage_left L laws k.transaction t rest (Psync q) k.ask.left ask el y
    go c p oc (asking e x y z) = absurd (let h = (whole_ask L laws k.transaction k.ask.left t rest (Psync None) (Psync q) y ask el).1 in cc)
    go c p oc (asking_for e x y z) =
        let a : Option (L.Id × ℕ) = Some (c.id, c.offset + 1) in
        let h = psync_is (c.id, c.offset + 1) (i, o) (whole_ask L laws k.transaction k.ask.left t rest (Psync a) (Psync q) y ask el).1 in
        let ei : i ≡ c.id = sym (ap (λ x. x.0) h) in
        let eo : o ≡ c.offset + 1 = sym (ap (λ x. x.1) h) in
        let co' = subst (λ x. Continues s x (c.offset + 1)) ei (subst (λ x. Continues s i x) eo co) in
        answered c p e z oc (subst (λ x. Continuing L w.book s c (tail s x)) (sym eo) (continues laws w.book s c ok oc ms co'))
    go c p oc (refused z e x y u g) = stage_left L laws k.transaction t rest (Psync q) k.ask.left ask el y
    go c p oc (answered_full i o m bytes e y at f) = true_false k.streams f.streams st
    go c p oc (answered_cont i bytes e y g f) = true_false k.streams f.streams st
    go c p oc (loading i o m bytes e y at f) = true_false k.streams f.streams st
    go c p oc (streaming bytes e y f) = true_false k.streams f.streams st

pub noted_keeps : {L : Language} (w v : World L) (l : ℕ) (k : Link) (bytes : List ℕ) → Invariant w → w.link l ≡ Some k → k.streams ≡ true → Same w.node v.node
    → SetAt w.link v.link l (record k { ask = record k.ask { left = bytes } }) → Same w.book v.book → Invariant v
noted_keeps {L} w v l k b inv se st sn sl sb =
    link_change w v l k' inv sn sl sb (λ q. asked_untouched k b (inv.waiting l k se q)) (λ m c p x ec uc fc ex fx y.
    let i = some_is x k (sym ex ∙ se) in
    (ap (λ z. z.caller) (sym i) ∙ fx, go c p (subst (λ z. Talk w c p z) i y)))
  where
    k' : Link
    k' = record k { ask = record k.ask { left = b } }

    keeps : Keeps L w.book v.book
    keeps = same_keeps L w.book v.book sb

    flow : (i : L.Id) (o : ℕ) (bytes : List ℕ) → Flow w k i o bytes → Flow v k' i o bytes
    flow i o bytes f = flow_keeps w v k k' i o bytes keeps refl (same_tip w v k k' sn refl (λ z. z)) f

    go : (c : Node L) (p : Phase L.Id) → Talk w c p k → Talk v c p k'
    go c p (greeting n e x y z) = true_false k.streams st x.0
    go c p (greeted n z e x y u g) = true_false k.streams st x.0
    go c p (asking e x y z) = true_false k.streams st x.0
    go c p (asking_for e x y z) = true_false k.streams st x.0
    go c p (refused z e x y u g) = true_false k.streams st x.0
    go c p (answered_full i o m bytes e y at f) = answered_full i o m bytes e y (at_grows L w.book v.book i o m.held (keeps_grows L w.book v.book keeps) at) (flow i o bytes f)
    go c p (answered_cont i bytes e y g f) = answered_cont i bytes e y (agree_grows L w.book v.book c.id i.id c.offset (keeps_grows L w.book v.book keeps) g) (flow i.id c.offset bytes f)
    go c p (loading i o m bytes e y at f) = loading i o m bytes e y (at_grows L w.book v.book i o m.held (keeps_grows L w.book v.book keeps) at) (flow i o bytes f)
    go c p (streaming bytes e y f) = streaming bytes e y (flow c.id c.offset bytes f)
