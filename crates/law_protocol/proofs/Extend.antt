-- A master that applies effects, and a replica that opens its end of a link, keep the invariant.
use Rattle.std.proofs.Common.{ℕ, List, [], ◌++◌, ◌≡◌, ◌≢◌, ◌+◌, ◌-◌, Option, None, Some, Bool, true, false, length, refl, sym, ◌∙◌, ap, subst, inl, inr, append_assoc, ◌==◌, ◌&&◌, All}
use Rattle.std.specs.Prelude.{is_some}
use Rattle.std.proofs.lemmas.List.Elements.{All-append}
use Rattle.std.proofs.lemmas.Bool.Decides.{eqb_tells}
use Rattle.law_protocol.specs.Language.{Language, Laws}
use Rattle.law_protocol.specs.Language.Request.{Handshake}
use Rattle.law_protocol.specs.Changes.{SetAt, Same}
use Rattle.law_protocol.specs.History.{Book, History, Front, Agree, Grows, texts, fold}
use Rattle.law_protocol.specs.Node.{Phase, Follow, Node, at_phase, EndsAs}
use Rattle.law_protocol.specs.Node.Phase.{Greet}
use Rattle.law_protocol.specs.World.{Link, World, IsUntouched, is_to, hears, told, told_if}
use Rattle.law_protocol.specs.World.Caller.{Peer}
use Rattle.law_protocol.specs.Rows.{fresh_link}
use Rattle.law_protocol.specs.Invariant.{NodeIsSound, AtTip, Flow, Talk, LinkIsSound, Invariant}
use Rattle.law_protocol.specs.Invariant.Talk.{greeting, greeted, asking, asking_for, refused, answered_full, answered_cont, loading, streaming}
use Rattle.law_protocol.proofs.Moves.{NoneComes}
use Rattle.law_protocol.proofs.Histories.{append_nil, texts_append}
use Rattle.law_protocol.proofs.Fronts.{Keeps, some_is, at_grows, agree_grows, history_is}
use Rattle.law_protocol.proofs.Keeping.{same_keeps, same_good, node_keeps, one_or, id_or, node_change, true_false, none_some, origin}
use Rattle.law_protocol.proofs.NodeMoves.{set_good}
use Rattle.law_protocol.proofs.LinkMoves.{loose_keeps}
use Rattle.law_protocol.proofs.Advance.{advanced}

pub connect_keeps : {L : Language} (w v : World L) (n l : ℕ) (to : Option ℕ) (a : Node L) (h : List ℕ) → L.asks None h Handshake → Invariant w → w.node n ≡ Some a → a.master ≡ false → a.follow ≡ None → w.link l ≡ None
    → SetAt w.node v.node n (at_phase a l (Greet 0)) → SetAt w.link v.link l (fresh_link (Peer n) to h) → Same w.book v.book → Invariant v
connect_keeps {L} w v n l to a h hh inv e em ef el sn sl sb =
    node_change u v n b inv_u sn (λ m. refl) keeps (same_good L u.book v.book sb inv_u.good)
    (λ x. ok x)
    (λ x y. true_false a.master y em)
    (λ j k i post x y z o x' t. true_false a.master (t n a y e x' o).0 em)
    (λ f x y.
    let i = some_is (record { link = l; phase = Greet 0 }) f y in
    subst (λ z. LinkIsSound v n b z) i (record { link = k; found = sl.0; mine = refl; talk = greeting 0 refl (refl, refl) hh refl }))
  where
    b : Node L
    b = at_phase a l (Greet 0)

    k : Link
    k = fresh_link (Peer n) to h

    u : World L
    u = record w { link = v.link }

    keeps : Keeps L u.book v.book
    keeps = same_keeps L u.book v.book sb

    inv_u : Invariant u
    inv_u = loose_keeps w u l k inv
        (λ m c p ec uc fc. let o = inv.links m c (record { link = l; phase = p }) ec uc fc in none_some (w.link l) o.link el o.found)
        (λ q. record { serving = ap (λ z. is_some z) q; streams = refl; ask = refl; tell = refl; transaction = refl })
        (λ m. refl) sl (λ m. refl)

    ok : a.up ≡ true → NodeIsSound v.book b
    ok x = let o = inv.nodes n a e x in node_keeps w.book v.book b keeps (record {
      start = o.start;
      earlier = o.earlier;
      later = o.later;
      front = o.front;
      folds = o.folds;
      before = o.before;
      backlog = o.backlog;
      tip = o.tip;
      alone = λ y. true_false a.master y em;
      second = o.second;
    })

-- The book of a master's effects.
pub record BookExtends (L : Language) (old new : Book L) (i : L.Id) (es : List L.Effect) (h : History L) : Type 0 where
  pub was : old i ≡ Some h
  pub is : new i ≡ Some (record h { effects = h.effects ++ es })
  pub others : (j : L.Id) → j ≢ i → new j ≡ old j

pub extends_grows : (L : Language) (laws : Laws L) (b c : Book L) (i : L.Id) (es : List L.Effect) (h : History L) → BookExtends L b c i es h → Grows L b c
extends_grows L laws b c i es h x j st xs e = id_or L laws j i
    (λ q.
    let r = history_is L b i (record { start = st; effects = xs }) h (ap (λ z. b z) (sym q) ∙ e) x.was in
    (es, ap (λ z. c z) q ∙ (x.is ∙ ap (λ z. Some z) (record_is L h.start st (h.effects ++ es) (xs ++ es) (sym r.0) (ap (λ z. z ++ es) (sym r.1))))))
    (λ q. ([], x.others j q ∙ (e ∙ ap (λ z. Some (record { start = st; effects = z })) (sym (append_nil xs)))))
  where
    record_is : (L : Language) (s t : L.Dataset) (xs ys : List L.Effect) → s ≡ t → xs ≡ ys
        → let h : History L = record { start = s; effects = xs } in let g : History L = record { start = t; effects = ys } in h ≡ g
    record_is L s t xs ys p q = cc

-- a front of the id itself, and of another
pub front_here : (L : Language) (b c : Book L) (i j : L.Id) (o : ℕ) (es : List L.Effect) (h : History L) (st : L.Dataset) (earlier later : List L.Effect) → BookExtends L b c i es h → j ≡ i
    → Front L b j o st earlier later → Front L c j o st earlier (later ++ es)
front_here L b c i j o es h st earlier later x q f =
    let r = history_is L b i (record { start = st; effects = earlier ++ later }) h (ap (λ z. b z) (sym q) ∙ f.found) x.was in
    record {
      found = ap (λ z. c z) q ∙ (x.is ∙ ap (λ z. Some z) (record_is L h.start st (h.effects ++ es) (earlier ++ (later ++ es)) (sym r.0) (ap (λ z. z ++ es) (sym r.1) ∙ append_assoc earlier later es)));
      place = f.place;
    }
  where
    record_is : (L : Language) (s t : L.Dataset) (xs ys : List L.Effect) → s ≡ t → xs ≡ ys
        → let h : History L = record { start = s; effects = xs } in let g : History L = record { start = t; effects = ys } in h ≡ g
    record_is L s t xs ys p q = cc

pub front_there : (L : Language) (b c : Book L) (i j : L.Id) (o : ℕ) (es : List L.Effect) (h : History L) (st : L.Dataset) (earlier later : List L.Effect) → BookExtends L b c i es h → j ≢ i
    → Front L b j o st earlier later → Front L c j o st earlier later
front_there L b c i j o es h st earlier later x q f = record { found = x.others j q ∙ f.found; place = f.place }

and_is : (x y : Bool) → x ≡ true → y ≡ true → x && y ≡ true
and_is x y p q = cc

pub same_eqb : (n : ℕ) → n == n ≡ true
same_eqb n = elim (eqb_tells n n) [ inl x ↦ x.0 | inr x ↦ absurd (x.1 refl) ]

pub to_yes : (n : ℕ) (o : Option ℕ) → o ≡ Some n → is_to n o ≡ true
to_yes n o e = ap (λ z. is_to n z) e ∙ same_eqb n

pub to_is : (n : ℕ) (o : Option ℕ) → is_to n o ≡ true → o ≡ Some n
to_is n None h = absurd (cc)
to_is n (Some m) h = elim (eqb_tells m n) [ inl x ↦ ap (λ z. Some z) x.1 | inr x ↦ true_false (m == n) h x.0 ]

pub hears_by : (n : ℕ) (k : Link) → k.to ≡ Some n → k.serving ≡ true → k.streams ≡ true → hears n k ≡ true
hears_by n k e o s = and_is (is_to n k.to) (k.serving && k.streams) (to_yes n k.to e) (and_is k.serving k.streams o s)

pub both_of : (x y : Bool) → x && y ≡ true → (x ≡ true) × (y ≡ true)
both_of true y e = (refl, e)
both_of false y e = absurd (cc)

pub hears_is : (n : ℕ) (k : Link) → hears n k ≡ true → (k.to ≡ Some n) × (k.serving ≡ true) × (k.streams ≡ true)
hears_is n k e =
    let p = both_of (is_to n k.to) (k.serving && k.streams) e in
    let q = both_of k.serving k.streams p.1 in
    (to_is n k.to p.0, q.0, q.1)

-- a link that doesn't stream isn't sent what the stream grows by
pub mute : (n : ℕ) (k : Link) → k.streams ≡ false → hears n k ≡ false
mute n k e = go (hears n k) refl
  where
    go : (b : Bool) → hears n k ≡ b → hears n k ≡ false
    go true h = true_false k.streams (hears_is n k h).2 e
    go false h = h

pub extend_keeps : {L : Language} (laws : Laws L) (w v : World L) (n : ℕ) (a : Node L) (es : List L.Effect) (m : L.Dataset) (backlog : List ℕ) (h : History L) → Invariant w
    → w.node n ≡ Some a → a.up ≡ true → a.master ≡ true → All L.IsGood es → fold L es a.held ≡ Some m → EndsAs a.backlog (texts L es) backlog
    → SetAt w.node v.node n (record a { held = m; offset = a.offset + length (texts L es); backlog = backlog })
    → NoneComes w v → ((l : ℕ) (k : Link) → w.link l ≡ Some k → v.link l ≡ Some (told_if (hears n k) k (texts L es)))
    → w.book a.id ≡ Some h → SetAt w.book v.book a.id (record h { effects = h.effects ++ es }) → Invariant v
extend_keeps {L} laws w v n a es m backlog h inv ea ua ma gd fx rx sn none sl was sb = record {
  good = set_good L laws w.book v.book a.id _ (All-append L.IsGood h.effects es (inv.good a.id h was) gd) sb inv.good;
  nodes = λ j c e u. one_or j n
      (λ q. subst (λ x. NodeIsSound v.book x) (is_b j c q e) self)
      (λ q. other j c q (before j c q e) u);
  masters = λ j j' c d e e' u u' x x' y.
      let p = as_was j c e in
      let p' = as_was j' d e' in
      inv.masters j j' p.0 p'.0 p.1 p'.1 (p.2 ∙ u) (p'.2 ∙ u') (p.3 ∙ x) (p'.3 ∙ x') (p.4 ∙ (y ∙ sym p'.4));
  links = λ j c f e u g. one_or j n
      (λ q. none_some a.follow f old.alone_now (ap (λ z. z.follow) (is_b j c q e) ∙ g))
      (λ q. linked j c f (inv.links j c f (before j c q e) u g));
  waiting = λ l y e q. let o = origin w v (λ j k. told_if (hears n k) k (texts L es)) none sl l y e in untold o.0 y o.2 (hears n o.0) refl (λ x. inv.waiting l o.0 o.1 x) q;
}
  where
    b : Node L
    b = record a { held = m; offset = a.offset + length (texts L es); backlog = backlog }

    ext : BookExtends L w.book v.book a.id es h
    ext = record { was = was; is = sb.0; others = sb.1 }

    grows : Grows L w.book v.book
    grows = extends_grows L laws w.book v.book a.id es h ext

    ok : NodeIsSound w.book a
    ok = inv.nodes n a ea ua

    old : record { alone_now : a.follow ≡ None; tip_now : ok.later ≡ [] }
    old = record { alone_now = ok.alone ma; tip_now = ok.tip ma }

    seconds : (c : Node L) → NodeIsSound w.book c → (i : L.Id) (o : ℕ) → c.second ≡ Some (i, o) → Agree L v.book i c.id (o - 1)
    seconds c oc i o e = agree_grows L w.book v.book i c.id (o - 1) grows (oc.second i o e)

    self : NodeIsSound v.book b
    self = advanced v.book a m backlog ok.start ok.earlier es [] ok.before
        (subst (λ z. Front L v.book a.id a.offset ok.start ok.earlier z) (ap (λ z. z ++ es) old.tip_now ∙ sym (append_nil es))
        (front_here L w.book v.book a.id a.id a.offset es h ok.start ok.earlier ok.later ext refl ok.front))
        ok.folds ok.backlog fx rx (λ x. refl) ok.alone (seconds a ok)

    is_b : (j : ℕ) (c : Node L) → j ≡ n → v.node j ≡ Some c → b ≡ c
    is_b j c q e = some_is b c (sym sn.0 ∙ (ap (λ x. v.node x) (sym q) ∙ e))

    before : (j : ℕ) (c : Node L) → j ≢ n → v.node j ≡ Some c → w.node j ≡ Some c
    before j c q e = sym (sn.1 j q) ∙ e

    as_was : (j : ℕ) (c : Node L) → v.node j ≡ Some c → (d : Node L) × (w.node j ≡ Some d) × (d.up ≡ c.up) × (d.master ≡ c.master) × (d.id ≡ c.id)
    as_was j c e = one_or j n
        (λ q. let i = is_b j c q e in (a, ap (λ z. w.node z) q ∙ ea, ap (λ z. z.up) i, ap (λ z. z.master) i, ap (λ z. z.id) i))
        (λ q. (c, before j c q e, refl, refl, refl))

    other : (j : ℕ) (c : Node L) → j ≢ n → w.node j ≡ Some c → c.up ≡ true → NodeIsSound v.book c
    other j c q e u =
        let oc = inv.nodes j c e u in
        id_or L laws c.id a.id
        (λ i. record {
          start = oc.start;
          earlier = oc.earlier;
          later = oc.later ++ es;
          front = front_here L w.book v.book a.id c.id c.offset es h oc.start oc.earlier oc.later ext i oc.front;
          folds = oc.folds;
          before = oc.before;
          backlog = oc.backlog;
          tip = λ x. absurd (q (inv.masters j n c a e ea u ua x ma i));
          alone = oc.alone;
          second = seconds c oc;
        })
        (λ i. record {
          start = oc.start;
          earlier = oc.earlier;
          later = oc.later;
          front = front_there L w.book v.book a.id c.id c.offset es h oc.start oc.earlier oc.later ext i oc.front;
          folds = oc.folds;
          before = oc.before;
          backlog = oc.backlog;
          tip = oc.tip;
          alone = oc.alone;
          second = seconds c oc;
        })

    untold : (k y : Link) → told_if (hears n k) k (texts L es) ≡ y → (b : Bool) → hears n k ≡ b → (k.to ≡ None → IsUntouched k) → y.to ≡ None → IsUntouched y
    untold k y e true h f q =
        let z = ap (λ x. told_if x k (texts L es)) (sym h) ∙ e in
        none_some k.to n (ap (λ x. x.to) z ∙ q) (hears_is n k h).0
    untold k y e false h f q =
        let z = ap (λ x. told_if x k (texts L es)) (sym h) ∙ e in
        subst (λ x. IsUntouched x) z (f (ap (λ x. x.to) z ∙ q))

    -- a link that doesn't hear this
    tip_there : (k : Link) (i : L.Id) (post : List L.Effect) → i ≢ a.id → AtTip w k i post → AtTip v k i post
    tip_there k i post ne t m s to e u o = one_or m n
        (λ q. absurd (ne (sym (t n a (to ∙ ap (λ z. Some z) q) ea ua o).1)))
        (λ q. t m s to (before m s q e) u o)

    tip_here : (k : Link) (i : L.Id) (post more : List L.Effect) → i ≡ a.id → k.streams ≡ true → hears n k ≡ false → AtTip w k i post → AtTip v k i more
    tip_here k i post more q st mute t m s to e u o = one_or m n
        (λ x. true_false (hears n k) (hears_by n k (to ∙ ap (λ z. Some z) x) o st) mute)
        (λ x. let r = t m s to (before m s x e) u o in
        absurd (x (inv.masters m n s a (before m s x e) ea u ua r.0 ma (r.1 ∙ q))))

    quiet : (k : Link) (i : L.Id) (o : ℕ) (bytes : List ℕ) → hears n k ≡ false → Flow w k i o bytes → Flow v k i o bytes
    quiet k i o bytes mute f = id_or L laws i a.id
        (λ q. record {
          start = f.start;
          earlier = f.earlier;
          mid = f.mid;
          post = f.post ++ es;
          front = subst (λ z. Front L v.book i o f.start f.earlier z) (append_assoc f.mid f.post es)
              (front_here L w.book v.book a.id i o es h f.start f.earlier (f.mid ++ f.post) ext q f.front);
          bytes_are = f.bytes_are;
          streams = f.streams;
          tip = tip_here k i f.post (f.post ++ es) q f.streams mute f.tip;
        })
        (λ q. record {
          start = f.start;
          earlier = f.earlier;
          mid = f.mid;
          post = f.post;
          front = front_there L w.book v.book a.id i o es h f.start f.earlier (f.mid ++ f.post) ext q f.front;
          bytes_are = f.bytes_are;
          streams = f.streams;
          tip = tip_there k i f.post q f.tip;
        })

    quietly : (k : Link) (c : Node L) (p : Phase L.Id) → hears n k ≡ false → Talk w c p k → Talk v c p k
    quietly k c p mute (greeting x e s y z) = greeting x e s y z
    quietly k c p mute (greeted x t e s y z q) = greeted x t e s y z q
    quietly k c p mute (asking e s y z) = asking e s y z
    quietly k c p mute (asking_for e s y z) = asking_for e s y z
    quietly k c p mute (refused t e s y z q) = refused t e s y z q
    quietly k c p mute (answered_full i o d bytes e y at f) = answered_full i o d bytes e y (at_grows L w.book v.book i o d.held grows at) (quiet k i o bytes mute f)
    quietly k c p mute (answered_cont i bytes e y g f) = answered_cont i bytes e y (agree_grows L w.book v.book c.id i.id c.offset grows g) (quiet k i.id c.offset bytes mute f)
    quietly k c p mute (loading i o d bytes e y at f) = loading i o d bytes e y (at_grows L w.book v.book i o d.held grows at) (quiet k i o bytes mute f)
    quietly k c p mute (streaming bytes e y f) = streaming bytes e y (quiet k c.id c.offset bytes mute f)

    -- a link that hears this
    loud : (k : Link) (i : L.Id) (o : ℕ) (bytes : List ℕ) → hears n k ≡ true → Flow w k i o bytes → Flow v (told k (texts L es)) i o (bytes ++ texts L es)
    loud k i o bytes heard f =
        let y = hears_is n k heard in
        let r = f.tip n a y.0 ea ua y.1 in
        let q : f.mid ++ f.post ++ es ≡ f.mid ++ es ++ [] = ap (λ z. f.mid ++ z ++ es) r.2 ∙ (ap (λ z. z ++ es) (append_nil f.mid) ∙ sym (append_nil (f.mid ++ es))) in
        record {
          start = f.start;
          earlier = f.earlier;
          mid = f.mid ++ es;
          post = [];
          front = subst (λ z. Front L v.book i o f.start f.earlier z) q
              (front_here L w.book v.book a.id i o es h f.start f.earlier (f.mid ++ f.post) ext (sym r.1) f.front);
          bytes_are = ap (λ z. z ++ texts L es) f.bytes_are ∙ sym (texts_append L f.mid es);
          streams = f.streams;
          tip = λ m s to e u o. let i = is_b m s (some_is m n (sym to ∙ y.0)) e in (sym (ap (λ z. z.master) i) ∙ ma, sym (ap (λ z. z.id) i) ∙ r.1, refl);
        }

    loudly : (k : Link) (c : Node L) (p : Phase L.Id) → hears n k ≡ true → Talk w c p k → Talk v c p (told k (texts L es))
    loudly k c p heard (greeting x e s y z) = true_false k.streams (hears_is n k heard).2 s.0
    loudly k c p heard (greeted x t e s y z q) = true_false k.streams (hears_is n k heard).2 s.0
    loudly k c p heard (asking e s y z) = true_false k.streams (hears_is n k heard).2 s.0
    loudly k c p heard (asking_for e s y z) = true_false k.streams (hears_is n k heard).2 s.0
    loudly k c p heard (refused t e s y z q) = true_false k.streams (hears_is n k heard).2 s.0
    loudly k c p heard (answered_full i o d bytes e y at f) =
        answered_full i o d (bytes ++ texts L es) e
        (ap (λ z. z ++ texts L es) y ∙ (append_assoc (d.line) (d.text ++ bytes) (texts L es) ∙ ap (λ z. d.line ++ z) (append_assoc (d.text) bytes (texts L es))))
        (at_grows L w.book v.book i o d.held grows at) (loud k i o bytes heard f)
    loudly k c p heard (answered_cont i bytes e y g f) =
        answered_cont i (bytes ++ texts L es) e (ap (λ z. z ++ texts L es) y ∙ append_assoc i.line bytes (texts L es))
        (agree_grows L w.book v.book c.id i.id c.offset grows g) (loud k i.id c.offset bytes heard f)
    loudly k c p heard (loading i o d bytes e y at f) =
        loading i o d (bytes ++ texts L es) e (ap (λ z. z ++ texts L es) y ∙ append_assoc (d.text) bytes (texts L es))
        (at_grows L w.book v.book i o d.held grows at) (loud k i o bytes heard f)
    loudly k c p heard (streaming bytes e y f) = streaming (bytes ++ texts L es) e (ap (λ z. z ++ texts L es) y) (loud k c.id c.offset bytes heard f)

    linked : (j : ℕ) (c : Node L) (f : Follow L.Id) → LinkIsSound w j c f → LinkIsSound v j c f
    linked j c f o = go (hears n o.link) refl
      where
        go : (z : Bool) → hears n o.link ≡ z → LinkIsSound v j c f
        go true z = record { link = told o.link (texts L es); found = sl f.link o.link o.found ∙ ap (λ x. Some (told_if x o.link (texts L es))) z; mine = o.mine; talk = loudly o.link c f.phase z o.talk }
        go false z = record { link = o.link; found = sl f.link o.link o.found ∙ ap (λ x. Some (told_if x o.link (texts L es))) z; mine = o.mine; talk = quietly o.link c f.phase z o.talk }
