-- The moves that change a node and no link keep the invariant.
use Rattle.std.proofs.Common.{ℕ, List, [], ◌++◌, ◌≡◌, ◌≢◌, ◌+◌, ◌-◌, None, Some, Bool, true, false, refl, sym, ◌∙◌, ap, subst, arith, All, length}
use Rattle.std.proofs.lemmas.List.Elements.{All-nil, All-take}
use Rattle.std.proofs.lemmas.List.{take_at}
use Rattle.law_protocol.specs.Language.{Language, Laws}
use Rattle.law_protocol.specs.Changes.{SetAt, Same}
use Rattle.law_protocol.specs.History.{Book, History, Front, Agree, texts, fold}
use Rattle.law_protocol.specs.Node.{Node}
use Rattle.law_protocol.specs.World.{Link, World}
use Rattle.law_protocol.specs.Invariant.{IsGoodBook, NodeIsSound, Invariant}
use Rattle.law_protocol.proofs.Histories.{append_nil}
use Rattle.law_protocol.proofs.Fronts.{Keeps, some_is, front_same, front_keeps}
use Rattle.law_protocol.proofs.Keeping.{same_keeps, same_good, node_keeps, id_or, node_change, true_false, none_some}

pub stop_keeps : {L : Language} (w v : World L) (n : ℕ) (b : Node L) → Invariant w → b.up ≡ false
    → SetAt w.node v.node n b → Same w.link v.link → Same w.book v.book → Invariant v
stop_keeps {L} w v n b inv e sn sl sb =
    node_change w v n b inv sn sl (same_keeps L w.book v.book sb) (same_good L w.book v.book sb inv.good)
    (λ u. true_false b.up u e)
    (λ u. true_false b.up u e)
    (λ l k i post x y s o u. true_false b.up u e)
    (λ f u. true_false b.up u e)

pub leave_keeps : {L : Language} (w v : World L) (n : ℕ) (a : Node L) (offers : Bool) (h : List ℕ) → Invariant w → w.node n ≡ Some a
    → SetAt w.node v.node n (record a { follow = None; offers = offers; upstream = h }) → Same w.link v.link → Same w.book v.book → Invariant v
leave_keeps {L} w v n a offers h inv e sn sl sb =
    node_change w v n b inv sn sl (same_keeps L w.book v.book sb) (same_good L w.book v.book sb inv.good)
    (λ u. node_keeps w.book v.book b (same_keeps L w.book v.book sb) (ok u))
    (λ u x m c q ec uc xc i. q (inv.masters m n c a ec e uc u xc x (sym i)))
    (λ l k i post x y s o u t. t n a y e u o)
    (λ f u x. none_some None f refl x)
  where
    b : Node L
    b = record a { follow = None; offers = offers; upstream = h }

    ok : a.up ≡ true → NodeIsSound w.book b
    ok u = let o = inv.nodes n a e u in record {
      start = o.start;
      earlier = o.earlier;
      later = o.later;
      front = o.front;
      folds = o.folds;
      before = o.before;
      backlog = o.backlog;
      tip = o.tip;
      alone = λ x. refl;
      second = o.second;
    }

-- what was never drawn names no node, and isn't in the book before
pub fresh_id : {L : Language} (w : World L) (i : L.Id) (m : ℕ) (c : Node L) → Invariant w → w.book i ≡ None → w.node m ≡ Some c → c.up ≡ true → i ≢ c.id
fresh_id {L} w i m c inv e ec uc q =
    let o = inv.nodes m c ec uc in
    none_some (w.book i) (record { start = o.start; effects = o.earlier ++ o.later }) e (ap (λ z. w.book z) q ∙ o.front.found)

pub set_keeps : (L : Language) (laws : Laws L) (b c : Book L) (i : L.Id) (h : History L) → b i ≡ None → SetAt b c i h → Keeps L b c
set_keeps L laws b c i h e s j g x = id_or L laws j i
    (λ q. none_some (b i) g e (ap (λ z. b z) (sym q) ∙ x))
    (λ q. s.1 j q ∙ x)

pub set_good : (L : Language) (laws : Laws L) (b c : Book L) (i : L.Id) (h : History L) → All L.IsGood h.effects → SetAt b c i h → IsGoodBook L b → IsGoodBook L c
set_good L laws b c i h a s g j x e = id_or L laws j i
    (λ q. subst (λ z. All L.IsGood z.effects) (some_is h x (sym s.0 ∙ (ap (λ z. c z) (sym q) ∙ e))) a)
    (λ q. g j x (sym (s.1 j q) ∙ e))

pub draw_keeps : {L : Language} (laws : Laws L) (w v : World L) (n : ℕ) (b : Node L) → Invariant w → w.book b.id ≡ None → b.offset ≡ 0 → b.second ≡ None → b.backlog ≡ [] → b.follow ≡ None
    → ((l : ℕ) (k : Link) → w.link l ≡ Some k → k.to ≡ Some n → k.serving ≡ false)
    → SetAt w.node v.node n b → Same w.link v.link → SetAt w.book v.book b.id (record { start = b.held; effects = [] }) → Invariant v
draw_keeps {L} laws w v n b inv fresh eo es er ef shut sn sl sb =
    node_change w v n b inv sn sl (set_keeps L laws w.book v.book b.id _ fresh sb)
    (set_good L laws w.book v.book b.id _ (All-nil L.IsGood) sb inv.good)
    (λ u. record {
      start = b.held;
      earlier = [];
      later = [];
      front = record { found = sb.0; place = sym eo };
      folds = refl;
      before = [];
      backlog = sym er;
      tip = λ x. refl;
      alone = λ x. ef;
      second = λ i o x. none_some b.second (i, o) es x;
    })
    (λ u x m c q ec uc xc. fresh_id w b.id m c inv fresh ec uc)
    (λ l k i post x y s o. true_false k.serving o (shut l k x y))
    (λ f u x. none_some b.follow f ef x)

pub promote_keeps : {L : Language} (laws : Laws L) (w v : World L) (n : ℕ) (i : L.Id) (a : Node L) (start : L.Dataset) (earlier later : List L.Effect) → Invariant w
    → w.node n ≡ Some a → a.up ≡ true → a.master ≡ false → a.follow ≡ None → w.book i ≡ None
    → SetAt w.node v.node n (record a { master = true; id = i; second = Some (a.id, a.offset + 1) })
    → Same w.link v.link → Front L w.book a.id a.offset start earlier later → SetAt w.book v.book i (record { start = start; effects = earlier }) → Invariant v
promote_keeps {L} laws w v n i a start earlier later inv e u em ef fresh sn sl fr sb =
    node_change w v n b inv sn sl keeps
    (set_good L laws w.book v.book i _ (subst (λ z. All L.IsGood z) (take_at earlier later (length earlier) refl) (All-take L.IsGood (length earlier) (earlier ++ later) (inv.good a.id _ fr.found))) sb inv.good)
    (λ u. ok)
    (λ u x m c q ec uc xc. fresh_id w i m c inv fresh ec uc)
    (λ l k j post x y s o u t. true_false a.master (t n a y e u o).0 em)
    (λ f u x. none_some a.follow f ef x)
  where
    b : Node L
    b = record a { master = true; id = i; second = Some (a.id, a.offset + 1) }

    keeps : Keeps L w.book v.book
    keeps = set_keeps L laws w.book v.book i _ fresh sb

    old : NodeIsSound w.book a
    old = inv.nodes n a e u

    new_front : Front L v.book i a.offset start earlier []
    new_front = record { found = sb.0 ∙ ap (λ x. Some (record { start = start; effects = x })) (sym (append_nil earlier)); place = fr.place }

    same : (start ≡ old.start) × (earlier ≡ old.earlier) × (later ≡ old.later)
    same = front_same L laws w.book a.id a.offset _ _ _ _ _ _ fr old.front

    ok : NodeIsSound v.book b
    ok = record {
      start = start;
      earlier = earlier;
      later = [];
      front = new_front;
      folds = ap (λ x. fold L x start) same.1 ∙ (ap (λ x. fold L old.earlier x) same.0 ∙ old.folds);
      before = old.before;
      backlog = ap (λ x. texts L x) same.1 ∙ old.backlog;
      tip = λ x. refl;
      alone = λ x. ef;
      second = λ j o x.
          let p = some_is (a.id, a.offset + 1) (j, o) x in
          let g : Agree L v.book a.id i a.offset = record { start = start; earlier = earlier; later = later; other = []; one = front_keeps L w.book v.book a.id a.offset start earlier later keeps fr; two = new_front } in
          let q : a.offset ≡ o - 1 = (let r = ap (λ z. z.1) p in omega arith) in
          subst (λ z. Agree L v.book z i (o - 1)) (ap (λ z. z.0) p) (subst (λ z. Agree L v.book a.id i z) q g);
    }

pub demote_keeps : {L : Language} (w v : World L) (n : ℕ) (a : Node L) (h : List ℕ) → Invariant w → w.node n ≡ Some a → a.follow ≡ None
    → ((l : ℕ) (k : Link) → w.link l ≡ Some k → k.to ≡ Some n → k.serving ≡ true → k.streams ≡ false)
    → SetAt w.node v.node n (record a { master = false; offers = true; upstream = h }) → Same w.link v.link → Same w.book v.book → Invariant v
demote_keeps {L} w v n a h inv e ef shut sn sl sb =
    node_change w v n b inv sn sl (same_keeps L w.book v.book sb) (same_good L w.book v.book sb inv.good)
    (λ u. node_keeps w.book v.book b (same_keeps L w.book v.book sb) (ok u))
    (λ u x. true_false false x refl)
    (λ l k i post x y s o u t. true_false k.streams s (shut l k x y o))
    (λ f u x. none_some a.follow f ef x)
  where
    b : Node L
    b = record a { master = false; offers = true; upstream = h }

    ok : a.up ≡ true → NodeIsSound w.book b
    ok u = let o = inv.nodes n a e u in record {
      start = o.start;
      earlier = o.earlier;
      later = o.later;
      front = o.front;
      folds = o.folds;
      before = o.before;
      backlog = o.backlog;
      tip = λ x. true_false false x refl;
      alone = λ x. true_false false x refl;
      second = o.second;
    }
