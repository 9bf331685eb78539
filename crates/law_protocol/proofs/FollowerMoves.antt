-- The moves of a replica that reads its master's link keep the invariant.
use Rattle.std.proofs.Common.{ℕ, List, [], ◌∷◌, ◌++◌, ◌≡◌, ◌≢◌, ◌+◌, ◌-◌, ◌⊎◌, None, Some, Bool, true, false, cond, length, refl, sym, ◌∙◌, ap, subst, inl, inr, arith}
use Rattle.std.proofs.lemmas.List.{append_cancel_left}
use Rattle.std.proofs.lemmas.List.Elements.{All-head}
use Rattle.law_protocol.specs.Language.{Language, Laws, Line}
use Rattle.law_protocol.specs.Language.Line.{FullResync, Continue, Plain, Refusal}
use Rattle.law_protocol.specs.Language.Request.{Handshake, Psync}
use Rattle.law_protocol.specs.Changes.{SetAt, Same}
use Rattle.law_protocol.specs.History.{Book, IsAt, Front, Agree, texts, fold}
use Rattle.law_protocol.specs.Node.{Phase, Follow, Node, at_phase, continued, EndsAs}
use Rattle.law_protocol.specs.Node.Phase.{Greet, Asked, Loading, Stream}
use Rattle.law_protocol.specs.World.{Link, World, IsPlain, no_bytes}
use Rattle.law_protocol.specs.Invariant.{IsGoodBook, NodeIsSound, AtTip, Flow, Talk, Invariant}
use Rattle.law_protocol.specs.Invariant.Talk.{greeting, greeted, asking, asking_for, refused, answered_full, answered_cont, loading, streaming}
use Rattle.law_protocol.proofs.Moves.{Follows, heard}
use Rattle.law_protocol.proofs.Histories.{append_nil, all_back}
use Rattle.law_protocol.proofs.Fronts.{Keeps, some_is, at_grows, front_keeps, keeps_grows, front_same}
use Rattle.law_protocol.proofs.Keeping.{same_keeps, same_tells, flow_keeps, follower_change, none_some}
use Rattle.law_protocol.proofs.Advance.{advanced, front_on, texts_one, fold_one}

nothing : {P : Type 0} (t rest : List ℕ) → t ≢ [] → t ++ rest ≡ [] → P
nothing [] rest f g = absurd (f refl)
nothing (x ∷ t) rest f g = absurd (cc)

-- where something can be read something was said
pub spoken : (t rest : List ℕ) (k : Link) → t ≢ [] → k.tell.left ≡ t ++ rest → k.tell ≢ no_bytes
spoken t rest k some e none = nothing t rest some (sym e ∙ ap (λ z. z.left) none)

-- no line is read where none is left
no_line : {P : Type 0} (L : Language) (laws : Laws L) (t rest : List ℕ) (a : Line L.Id) (xs : List ℕ) → L.says t a → xs ≡ t ++ rest → xs ≡ [] → P
no_line {P} L laws t rest a xs h e n = nothing {P = P} t rest (laws.says_some t a h) (sym e ∙ n)

-- what is read of a line and more is that line
read_line : (L : Language) (laws : Laws L) (s t more rest : List ℕ) (a b : Line L.Id) → L.says s a → L.says t b → s ++ more ≡ t ++ rest → (rest ≡ more) × (b ≡ a)
read_line L laws s t more rest a b x y e =
    let h = laws.says_cut s t a b more rest x y e in
    (append_cancel_left t rest more (sym e ∙ ap (λ z. z ++ more) h.0), sym h.1)

replica_ok : {L : Language} (book : Book L) (a : Node L) (f g : Follow L.Id) → a.follow ≡ Some f → NodeIsSound book a → NodeIsSound book (record a { follow = Some g })
replica_ok {L} book a f g e o = record {
  start = o.start;
  earlier = o.earlier;
  later = o.later;
  front = o.front;
  folds = o.folds;
  before = o.before;
  backlog = o.backlog;
  tip = o.tip;
  alone = λ x. none_some a.follow f (o.alone x) e;
  second = o.second;
}

-- the next line of the handshake
next_line : {L : Language} (laws : Laws L) (w v : World L) (n l j : ℕ) (said : Line L.Id) (a : Node L) (q : Phase L.Id) (k : Link) (t rest bytes : List ℕ) → Invariant w → Follows w n a l (Greet j) k → L.says t said → k.tell.left ≡ t ++ rest
    → SetAt w.node v.node n (at_phase a l q) → SetAt w.link v.link l (heard k rest bytes) → Same w.book v.book
    → (IsPlain k → (heard k rest bytes).ask.left ≡ bytes → rest ≡ [] → Talk v (at_phase a l q) q (heard k rest bytes)) → Invariant v
next_line {L} laws w v n l j said a q k t rest bytes inv fo say el sn sl sb then =
    follower_change w v n l a (at_phase a l q) (Greet j) q k (heard k rest bytes) inv fo sn sl sb refl refl refl refl refl (spoken t rest k (laws.says_some t said say) el)
    (λ o y. replica_ok w.book a _ _ fo.follow o)
    (λ o tips y. go y)
  where
    go : Talk w a (Greet j) k → Talk v (at_phase a l q) q (heard k rest bytes)
    go (greeting m e x y z) = no_line L laws t rest said k.tell.left say el z
    go (greeted m s e x y z h) =
        then x (ap (λ u. u ++ bytes) y) (read_line L laws s t [] rest Plain said h say (append_nil s ∙ (sym z ∙ el))).0
    go (asking e x y z) = absurd (cc)
    go (asking_for e x y z) = absurd (cc)
    go (refused s e x y z h) = absurd (cc)
    go (answered_full i o m b e y at f) = absurd (cc)
    go (answered_cont i b e y g f) = absurd (cc)
    go (loading i o m b e y at f) = absurd (cc)
    go (streaming b e y f) = absurd (cc)

pub go_on_keeps : {L : Language} (laws : Laws L) (w v : World L) (n l j : ℕ) (said : Line L.Id) (a : Node L) (k : Link) (t rest h : List ℕ) → L.asks None h Handshake → Invariant w → Follows w n a l (Greet j) k → L.says t said → k.tell.left ≡ t ++ rest
    → SetAt w.node v.node n (at_phase a l (Greet (j + 1))) → SetAt w.link v.link l (heard k rest h) → Same w.book v.book → Invariant v
go_on_keeps {L} laws w v n l j said a k t rest h hh inv fo say el sn sl sb =
    next_line laws w v n l j said a (Greet (j + 1)) k t rest h inv fo say el sn sl sb (λ x y z. greeting (j + 1) refl x (subst (λ u. L.asks u (heard k rest h).ask.left Handshake) (sym x.1) (subst (λ u. L.asks None u Handshake) (sym y) hh)) z)

pub ask_all_keeps : {L : Language} (laws : Laws L) (w v : World L) (n l j : ℕ) (said : Line L.Id) (a : Node L) (k : Link) (t rest h : List ℕ) → L.asks None h (Psync None) → Invariant w → Follows w n a l (Greet j) k → L.says t said → k.tell.left ≡ t ++ rest
    → SetAt w.node v.node n (at_phase a l Asked) → SetAt w.link v.link l (heard k rest h) → Same w.book v.book → Invariant v
ask_all_keeps {L} laws w v n l j said a k t rest h hh inv fo say el sn sl sb =
    next_line laws w v n l j said a Asked k t rest h inv fo say el sn sl sb (λ x y z. asking refl x (subst (λ u. L.asks u (heard k rest h).ask.left (Psync None)) (sym x.1) (subst (λ u. L.asks None u (Psync None)) (sym y) hh)) z)

pub ask_on_keeps : {L : Language} (laws : Laws L) (w v : World L) (n l j : ℕ) (said : Line L.Id) (a : Node L) (k : Link) (t rest h : List ℕ) → L.asks None h (Psync (Some (a.id, a.offset + 1))) → Invariant w → Follows w n a l (Greet j) k → L.says t said → k.tell.left ≡ t ++ rest
    → SetAt w.node v.node n (at_phase a l Asked) → SetAt w.link v.link l (heard k rest h) → Same w.book v.book → Invariant v
ask_on_keeps {L} laws w v n l j said a k t rest h hh inv fo say el sn sl sb =
    next_line laws w v n l j said a Asked k t rest h inv fo say el sn sl sb (λ x y z. asking_for refl x (subst (λ u. L.asks u (heard k rest h).ask.left (Psync (Some (a.id, a.offset + 1)))) (sym x.1) (subst (λ u. L.asks None u (Psync (Some (a.id, a.offset + 1)))) (sym y) hh)) z)

pub take_full_keeps : {L : Language} (laws : Laws L) (w v : World L) (n l : ℕ) (i : L.Id) (o : ℕ) (a : Node L) (k : Link) (t rest : List ℕ) → Invariant w → Follows w n a l Asked k → L.says t (FullResync i o) → k.tell.left ≡ t ++ rest
    → SetAt w.node v.node n (at_phase a l (Loading i o)) → SetAt w.link v.link l (heard k rest []) → Same w.book v.book → Invariant v
take_full_keeps {L} laws w v n l i o a k t rest inv fo say el sn sl sb =
    follower_change w v n l a (at_phase a l (Loading i o)) Asked (Loading i o) k (heard k rest []) inv fo sn sl sb refl refl refl refl refl (spoken t rest k (laws.says_some t (FullResync i o) say) el)
    (λ o y. replica_ok w.book a _ _ fo.follow o)
    (λ o tips y. go (tips k (heard k rest []) refl refl) y)
  where
    keeps : Keeps L w.book v.book
    keeps = same_keeps L w.book v.book sb

    go : ((j : L.Id) (post : List L.Effect) → AtTip w k j post → AtTip v (heard k rest []) j post) → Talk w a Asked k → Talk v (at_phase a l (Loading i o)) (Loading i o) (heard k rest [])
    go tips (greeting m e x y z) = absurd (cc)
    go tips (greeted m s e x y z h) = absurd (cc)
    go tips (asking e x y z) = no_line L laws t rest (FullResync i o) k.tell.left say el z
    go tips (asking_for e x y z) = no_line L laws t rest (FullResync i o) k.tell.left say el z
    go tips (refused s e x y z h) = absurd (let r = (read_line L laws s t [] rest Refusal (FullResync i o) h say (append_nil s ∙ (sym z ∙ el))).1 in cc)
    go tips (answered_full i' o' m b e y at f) =
        let r = read_line L laws m.line t (m.text ++ b) rest (FullResync i' o') (FullResync i o) m.says say (sym y ∙ el) in
        let s = r.1 in
        loading i' o' (record { text = m.text; held = m.held; loads = m.loads }) b (full_is i o i' o' s) r.0 (at_grows L w.book v.book i' o' m.held (keeps_grows L w.book v.book keeps) at) (flow_keeps w v k (heard k rest []) i' o' b keeps refl tips f)
      where
        full_is : (i : L.Id) (o : ℕ) (i' : L.Id) (o' : ℕ) → FullResync i o ≡ FullResync i' o' → Loading i o ≡ Loading i' o'
        full_is i o i' o' e = cc
    go tips (answered_cont j b e y g f) = absurd (let r = (read_line L laws j.line t b rest (Continue j.id) (FullResync i o) j.says say (sym y ∙ el)).1 in cc)
    go tips (loading i o m b e y at f) = absurd (cc)
    go tips (streaming b e y f) = absurd (cc)

pub load_keeps : {L : Language} (laws : Laws L) (w v : World L) (n l : ℕ) (i : L.Id) (o : ℕ) (a : Node L) (m : L.Dataset) (k : Link) (t rest : List ℕ) → Invariant w → Follows w n a l (Loading i o) k → L.loads t m → k.tell.left ≡ t ++ rest
    → SetAt w.node v.node n (at_phase (record a { id = i; offset = o; second = None; backlog = []; held = m; offers = true }) l Stream)
    → SetAt w.link v.link l (heard k rest []) → Same w.book v.book → Invariant v
load_keeps {L} laws w v n l i o a m k t rest inv fo ld el sn sl sb =
    follower_change w v n l a b (Loading i o) Stream k (heard k rest []) inv fo sn sl sb refl refl refl refl refl (spoken t rest k (laws.loads_some t m ld) el)
    (λ ok y. loaded ok (read y).0)
    (λ ok tips y. let r = read y in streaming rest refl refl (flow_keeps w v k (heard k rest []) i o rest keeps refl (tips k (heard k rest []) refl refl) r.1))
  where
    keeps : Keeps L w.book v.book
    keeps = same_keeps L w.book v.book sb

    b : Node L
    b = at_phase (record a { id = i; offset = o; second = None; backlog = []; held = m; offers = true }) l Stream

    loaded : NodeIsSound w.book a → IsAt L w.book i o m → NodeIsSound w.book b
    loaded ok h = record {
      start = h.start;
      earlier = h.earlier;
      later = h.later;
      front = h.front;
      folds = h.folds;
      before = texts L h.earlier;
      backlog = sym (append_nil (texts L h.earlier));
      tip = λ x. none_some a.follow _ (ok.alone x) fo.follow;
      alone = λ x. none_some a.follow _ (ok.alone x) fo.follow;
      second = λ j p x. none_some None (j, p) refl x;
    }

    loading_is : (i : L.Id) (o : ℕ) (i' : L.Id) (o' : ℕ) → Loading i o ≡ Loading i' o' → (i ≡ i') × (o ≡ o')
    loading_is i o i' o' e = (cc, cc)

    read : Talk w a (Loading i o) k → IsAt L w.book i o m × Flow w k i o rest
    read (greeting m e x y z) = absurd (cc)
    read (greeted m s e x y z h) = absurd (cc)
    read (asking e x y z) = absurd (cc)
    read (asking_for e x y z) = absurd (cc)
    read (refused s e x y z h) = absurd (cc)
    read (answered_full i' o' m b e y at f) = absurd (cc)
    read (answered_cont j b e y g f) = absurd (cc)
    read (loading i' o' m' b e y at f) =
        let q = loading_is i o i' o' e in
        let h = laws.loads_cut m'.text t m'.held m b rest m'.loads ld (sym y ∙ el) in
        let r : b ≡ rest = append_cancel_left t b rest (ap (λ z. z ++ b) (sym h.0) ∙ (sym y ∙ el)) in (
          subst (λ x. IsAt L w.book i x m) (sym q.1) (subst (λ x. IsAt L w.book x o' m) (sym q.0) (subst (λ x. IsAt L w.book i' o' x) h.1 at)),
          subst (λ x. Flow w k i o x) r (subst (λ x. Flow w k i x b) (sym q.1) (subst (λ x. Flow w k x o' b) (sym q.0) f)),
        )
    read (streaming b e y f) = absurd (cc)

-- What holds of both is held by the choice.
chosen : {A X : Type 0} (f : A → X) (z : Bool) (x y : A) (v : X) → f x ≡ v → f y ≡ v → f (cond z x y) ≡ v
chosen f true x y v p q = p
chosen f false x y v p q = q

continued_id : {L : Language} (laws : Laws L) (a : Node L) (i : L.Id) → (continued a i).id ≡ i
continued_id {L} laws a i = go (L.same a.id i) (same_tells L laws a.id i)
  where
    go : (z : Bool) → ((z ≡ true) × (a.id ≡ i)) ⊎ ((z ≡ false) × (a.id ≢ i)) → (cond z a (record a { id = i; second = Some (a.id, a.offset + 1) })).id ≡ i
    go true (inl x) = x.1
    go true (inr x) = absurd (let e = x.0 in cc)
    go false h = refl

continued_second : {L : Language} (laws : Laws L) (a : Node L) (i j : L.Id) (o : ℕ) → (continued a i).second ≡ Some (j, o)
    → ((a.id ≡ i) × (a.second ≡ Some (j, o))) ⊎ ((j ≡ a.id) × (o ≡ a.offset + 1))
continued_second {L} laws a i j o = go (L.same a.id i) (same_tells L laws a.id i)
  where
    go : (z : Bool) → ((z ≡ true) × (a.id ≡ i)) ⊎ ((z ≡ false) × (a.id ≢ i)) → (cond z a (record a { id = i; second = Some (a.id, a.offset + 1) })).second ≡ Some (j, o)
        → ((a.id ≡ i) × (a.second ≡ Some (j, o))) ⊎ ((j ≡ a.id) × (o ≡ a.offset + 1))
    go true (inl x) e = inl (x.1, e)
    go true (inr x) e = absurd (let q = x.0 in cc)
    go false h e = let p = some_is (a.id, a.offset + 1) (j, o) e in inr (sym (ap (λ z. z.0) p), sym (ap (λ z. z.1) p))

pub take_cont_keeps : {L : Language} (laws : Laws L) (w v : World L) (n l : ℕ) (i : L.Id) (a : Node L) (k : Link) (t rest : List ℕ) → Invariant w → Follows w n a l Asked k → L.says t (Continue i) → k.tell.left ≡ t ++ rest
    → SetAt w.node v.node n (at_phase (continued a i) l Stream) → SetAt w.link v.link l (heard k rest []) → Same w.book v.book → Invariant v
take_cont_keeps {L} laws w v n l i a k t rest inv fo say el sn sl sb =
    follower_change w v n l a b Asked Stream k (heard k rest []) inv fo sn sl sb
    (chosen (λ x. x.master) (L.same a.id i) a _ a.master refl refl) (chosen (λ x. x.up) (L.same a.id i) a _ a.up refl refl) refl refl refl (spoken t rest k (laws.says_some t (Continue i) say) el)
    (λ ok y. gone_on ok (read y).0)
    (λ ok tips y. let r = read y in streaming rest refl refl
    (subst (λ x. Flow v (heard k rest []) x b.offset rest) (sym ei) (subst (λ x. Flow v (heard k rest []) i x rest) (sym eo)
    (flow_keeps w v k (heard k rest []) i a.offset rest keeps refl (tips k (heard k rest []) refl refl) r.1))))
  where
    keeps : Keeps L w.book v.book
    keeps = same_keeps L w.book v.book sb

    b : Node L
    b = at_phase (continued a i) l Stream

    ei : b.id ≡ i
    ei = continued_id laws a i

    eo : b.offset ≡ a.offset
    eo = chosen (λ x. x.offset) (L.same a.id i) a _ a.offset refl refl

    eh : b.held ≡ a.held
    eh = chosen (λ x. x.held) (L.same a.id i) a _ a.held refl refl

    er : b.backlog ≡ a.backlog
    er = chosen (λ x. x.backlog) (L.same a.id i) a _ a.backlog refl refl

    em : b.master ≡ a.master
    em = chosen (λ x. x.master) (L.same a.id i) a _ a.master refl refl

    gone_on : NodeIsSound w.book a → Agree L w.book a.id i a.offset → NodeIsSound w.book b
    gone_on ok g =
        let same = front_same L laws w.book a.id a.offset _ _ _ _ _ _ g.one ok.front in
        record {
          start = g.start;
          earlier = g.earlier;
          later = g.other;
          front = subst (λ x. Front L w.book x b.offset g.start g.earlier g.other) (sym ei) (subst (λ x. Front L w.book i x g.start g.earlier g.other) (sym eo) g.two);
          folds = ap (λ x. fold L x g.start) same.1 ∙ (ap (λ x. fold L ok.earlier x) same.0 ∙ (ok.folds ∙ ap (λ x. Some x) (sym eh)));
          before = ok.before;
          backlog = ap (λ x. texts L x) same.1 ∙ (ok.backlog ∙ ap (λ x. ok.before ++ x) (sym er));
          tip = λ x. none_some a.follow _ (ok.alone (sym em ∙ x)) fo.follow;
          alone = λ x. none_some a.follow _ (ok.alone (sym em ∙ x)) fo.follow;
          second = λ j o x. seconds ok g j o (continued_second laws a i j o x);
        }
      where
        seconds : NodeIsSound w.book a → Agree L w.book a.id i a.offset → (j : L.Id) (o : ℕ) → ((a.id ≡ i) × (a.second ≡ Some (j, o))) ⊎ ((j ≡ a.id) × (o ≡ a.offset + 1)) → Agree L w.book j b.id (o - 1)
        seconds ok g j o (inl x) = subst (λ z. Agree L w.book j z (o - 1)) (x.0 ∙ sym ei) (ok.second j o x.1)
        seconds ok g j o (inr x) =
            let q : a.offset ≡ o - 1 = (let r = x.1 in omega arith) in
            subst (λ z. Agree L w.book j z (o - 1)) (sym ei) (subst (λ z. Agree L w.book z i (o - 1)) (sym x.0) (subst (λ z. Agree L w.book a.id i z) q g))

    cont_is : (i j : L.Id) → Continue i ≡ Continue j → j ≡ i
    cont_is i j e = cc

    read : Talk w a Asked k → Agree L w.book a.id i a.offset × Flow w k i a.offset rest
    read (greeting m e x y z) = absurd (cc)
    read (greeted m s e x y z h) = absurd (cc)
    read (asking e x y z) = no_line L laws t rest (Continue i) k.tell.left say el z
    read (asking_for e x y z) = no_line L laws t rest (Continue i) k.tell.left say el z
    read (refused s e x y z h) = absurd (let r = (read_line L laws s t [] rest Refusal (Continue i) h say (append_nil s ∙ (sym z ∙ el))).1 in cc)
    read (answered_full i' o' m b e y at f) = absurd (let r = (read_line L laws m.line t (m.text ++ b) rest (FullResync i' o') (Continue i) m.says say (sym y ∙ el)).1 in cc)
    read (answered_cont j b e y g f) =
        let r = read_line L laws j.line t b rest (Continue j.id) (Continue i) j.says say (sym y ∙ el) in
        let q = cont_is i j.id r.1 in
        (subst (λ x. Agree L w.book a.id x a.offset) q g, subst (λ x. Flow w k i a.offset x) (sym r.0) (subst (λ x. Flow w k x a.offset b) q f))
    read (loading i' o' m b e y at f) = absurd (cc)
    read (streaming b e y f) = absurd (cc)

-- the stream begins with e, and rest is the rest of it
pub record Ahead {L : Language} (w : World L) (k : Link) (a : Node L) (e : L.Effect) (rest : List ℕ) : Type 0 where
  pub start : L.Dataset
  pub earlier : List L.Effect
  pub mid : List L.Effect
  pub post : List L.Effect
  pub front : Front L w.book a.id a.offset start earlier ((e ∷ []) ++ (mid ++ post))
  pub rest_is : rest ≡ texts L mid
  pub tip : AtTip w k a.id post
  pub streams : k.streams ≡ true

pub stream_on : {L : Language} (laws : Laws L) (w : World L) (k : Link) (a : Node L) (e : L.Effect) (rest bytes : List ℕ) → IsGoodBook L w.book → L.IsGood e → Flow w k a.id a.offset bytes → bytes ≡ L.text e ++ rest
    → Ahead w k a e rest
stream_on {L} laws w k a e rest bytes good ge f q = go f.mid f.front (sym q ∙ f.bytes_are)
  where
    go : (mid : List L.Effect) → Front L w.book a.id a.offset f.start f.earlier (mid ++ f.post) → L.text e ++ rest ≡ texts L mid → Ahead w k a e rest
    go [] fr h = nothing (L.text e) rest (laws.text_some e) h
    go (x ∷ mid) fr h =
        let same : e ≡ x = laws.text_cut e x rest (texts L mid) ge
        (All-head L.IsGood x (mid ++ f.post) (all_back L.IsGood f.earlier ((x ∷ mid) ++ f.post) (good a.id _ fr.found))) h in
        record {
          start = f.start;
          earlier = f.earlier;
          mid = mid;
          post = f.post;
          front = subst (λ z. Front L w.book a.id a.offset f.start f.earlier (z ∷ (mid ++ f.post))) (sym same) fr;
          rest_is = append_cancel_left (L.text e) rest (texts L mid) (h ∙ ap (λ z. L.text z ++ texts L mid) (sym same));
          tip = f.tip;
          streams = f.streams;
        }

pub follow_keeps : {L : Language} (laws : Laws L) (w v : World L) (n l : ℕ) (a : Node L) (e : L.Effect) (m : L.Dataset) (k : Link) (rest backlog : List ℕ) → Invariant w → Follows w n a l Stream k → k.tell.left ≡ L.text e ++ rest
    → L.IsGood e → L.apply e a.held ≡ Some m → EndsAs a.backlog (L.text e) backlog
    → SetAt w.node v.node n (record a { held = m; offset = a.offset + length (L.text e); backlog = backlog })
    → SetAt w.link v.link l (heard k rest []) → Same w.book v.book → Invariant v
follow_keeps {L} laws w v n l a e m k rest backlog inv fo el ge ea er sn sl sb =
    follower_change w v n l a b Stream Stream k (heard k rest []) inv fo sn sl sb refl refl fo.follow refl refl (spoken (L.text e) rest k (laws.text_some e) el)
    (λ ok y. applied ok (read y))
    (λ ok tips y. told (tips k (heard k rest []) refl refl) (read y))
  where
    keeps : Keeps L w.book v.book
    keeps = same_keeps L w.book v.book sb

    b : Node L
    b = record a { held = m; offset = a.offset + length (L.text e); backlog = backlog }

    one : length (texts L (e ∷ [])) ≡ length (L.text e)
    one = ap (λ z. length z) (texts_one L e)

    applied : NodeIsSound w.book a → Ahead w k a e rest → NodeIsSound w.book b
    applied ok r =
        let same = front_same L laws w.book a.id a.offset _ _ _ _ _ _ r.front ok.front in
        subst (λ z. NodeIsSound w.book (record a { held = m; offset = a.offset + z; backlog = backlog })) one
        (advanced w.book a m backlog r.start r.earlier (e ∷ []) (r.mid ++ r.post) ok.before r.front
        (ap (λ x. fold L x r.start) same.1 ∙ (ap (λ x. fold L ok.earlier x) same.0 ∙ ok.folds)) (ap (λ x. texts L x) same.1 ∙ ok.backlog)
        (fold_one L e a.held m ea) (er.0, ap (λ z. a.backlog ++ z) (texts_one L e) ∙ er.1)
        (λ x. none_some a.follow _ (ok.alone x) fo.follow) (λ x. none_some a.follow _ (ok.alone x) fo.follow) ok.second)

    told : ((j : L.Id) (post : List L.Effect) → AtTip w k j post → AtTip v (heard k rest []) j post) → Ahead w k a e rest → Talk v b Stream (heard k rest [])
    told tips r = streaming rest refl refl
        (record {
          start = r.start;
          earlier = r.earlier ++ (e ∷ []);
          mid = r.mid;
          post = r.post;
          front = front_keeps L w.book v.book a.id b.offset r.start (r.earlier ++ (e ∷ [])) (r.mid ++ r.post) keeps
              (subst (λ z. Front L w.book a.id (a.offset + z) r.start (r.earlier ++ (e ∷ [])) (r.mid ++ r.post)) one (front_on L w.book a.id a.offset r.start r.earlier (e ∷ []) (r.mid ++ r.post) r.front));
          bytes_are = r.rest_is;
          tip = tips a.id r.post r.tip;
          streams = r.streams;
        })

    read : Talk w a Stream k → Ahead w k a e rest
    read (greeting m e x y z) = absurd (cc)
    read (greeted m s e x y z h) = absurd (cc)
    read (asking e x y z) = absurd (cc)
    read (asking_for e x y z) = absurd (cc)
    read (refused s e x y z h) = absurd (cc)
    read (answered_full i' o' m b e y at f) = absurd (cc)
    read (answered_cont j b e y g f) = absurd (cc)
    read (loading i' o' m b e y at f) = absurd (cc)
    read (streaming b x y f) = stream_on laws w k a e rest b inv.good ge f (sym y ∙ el)
