-- The invariant holds at every moment, and what follows from it.
use Rattle.std.proofs.Common.{ℕ, List, [], ◌∷◌, ◌++◌, ◌≡◌, None, Some, length, refl, sym, ◌∙◌, ap, subst, append_assoc}
use Rattle.std.proofs.lemmas.List.Elements.{All-head}
use Rattle.std.proofs.lemmas.List.{take_all}
use Rattle.law_protocol.specs.Language.{Language, Laws}
use Rattle.law_protocol.specs.Language.Line.{FullResync, Continue}
use Rattle.law_protocol.specs.Changes.{Same}
use Rattle.law_protocol.specs.History.{Book, IsAt, Front, Grows, texts}
use Rattle.law_protocol.specs.Node.{Phase, Node}
use Rattle.law_protocol.specs.Node.Phase.{Stream}
use Rattle.law_protocol.specs.World.{World, Shows}
use Rattle.law_protocol.specs.FollowerRows.{Usable}
use Rattle.law_protocol.specs.Runs.{nowhere, CaughtUp}
use Rattle.law_protocol.specs.Promises.{IsLevel}
use Rattle.law_protocol.specs.FollowerRows.Usable.{a_snapshot, an_effect, an_answer}
use Rattle.law_protocol.specs.Invariant.{AtTip, Talk, Invariant, NodeIsSound}
use Rattle.law_protocol.specs.Invariant.Talk.{greeting, greeted, asking, asking_for, refused, answered_full, answered_cont, loading, streaming}
use Rattle.law_protocol.proofs.Moves.{Move, Chain, Reaches}
use Rattle.law_protocol.proofs.Moves.Move.{still, stop, leave, close, drop_open, carry, loose, draw, extend, promote, demote, connect, accept, greet, refuse, answer_full, answer_cont, noted, go_on, ask_all, ask_on, take_full, take_cont, load, follow}
use Rattle.law_protocol.proofs.Moves.Reaches.{by_moves}
use Rattle.law_protocol.proofs.Histories.{append_nil, all_back}
use Rattle.law_protocol.proofs.Fronts.{Keeps, some_is, at_unique, keeps_grows, history_is}
use Rattle.law_protocol.proofs.Keeping.{same_keeps, same_good, node_keeps, talk_keeps, true_false, none_some}
use Rattle.law_protocol.proofs.NodeMoves.{stop_keeps, leave_keeps, draw_keeps, promote_keeps, demote_keeps, set_keeps}
use Rattle.law_protocol.proofs.LinkMoves.{close_keeps, drop_keeps, carry_keeps, loose_keeps, accept_keeps, greet_keeps, refuse_keeps, answer_full_keeps, answer_cont_keeps, noted_keeps}
use Rattle.law_protocol.proofs.FollowerMoves.{go_on_keeps, ask_all_keeps, ask_on_keeps, take_full_keeps, take_cont_keeps, load_keeps, follow_keeps}
use Rattle.law_protocol.proofs.Extend.{extend_keeps, connect_keeps, extends_grows}

still_keeps : {L : Language} (w v : World L) → Invariant w → Same w.node v.node → Same w.link v.link → Same w.book v.book → Invariant v
still_keeps {L} w v inv sn sl sb = record {
  good = same_good L w.book v.book sb inv.good;
  nodes = λ n a e u. node_keeps w.book v.book a keeps (inv.nodes n a (sym (sn n) ∙ e) u);
  masters = λ n m a b e e' u u' x x' y. inv.masters n m a b (sym (sn n) ∙ e) (sym (sn m) ∙ e') u u' x x' y;
  links = λ n a f e u g. let o = inv.links n a f (sym (sn n) ∙ e) u g in record {
    link = o.link;
    found = sl f.link ∙ o.found;
    mine = o.mine;
    talk = talk_keeps w v a a f.phase o.link o.link keeps refl refl refl (λ i. refl) refl refl (λ i post t m s to e' u' z. t m s to (sym (sn m) ∙ e') u' z) o.talk;
  };
  waiting = λ l k e q. inv.waiting l k (sym (sl l) ∙ e) q;
}
  where
    keeps : Keeps L w.book v.book
    keeps = same_keeps L w.book v.book sb

pub move_keeps : {L : Language} (laws : Laws L) (w v : World L) → Invariant w → Move w v → Invariant v
move_keeps laws w v inv (still sn sl sb) = still_keeps w v inv sn sl sb
move_keeps laws w v inv (stop n a e sn sl sb) = stop_keeps w v n a inv e sn sl sb
move_keeps laws w v inv (leave n a x h e sn sl sb) = leave_keeps w v n a x h inv e sn sl sb
move_keeps laws w v inv (close f sn none sl sb) = close_keeps w v f inv sn none sl sb
move_keeps laws w v inv (drop_open f sn none sl sb) = drop_keeps w v f inv sn none sl sb
move_keeps laws w v inv (carry l x y k e wait sn sl sb) = carry_keeps w v l x y k inv e wait sn sl sb
move_keeps laws w v inv (loose l k f wait sn sl sb) = loose_keeps w v l k inv f wait sn sl sb
move_keeps laws w v inv (draw n b x1 x2 x3 x4 x5 x6 sn sl sb) = draw_keeps laws w v n b inv x1 x2 x3 x4 x5 x6 sn sl sb
move_keeps laws w v inv (extend n a es m backlog h x1 x2 x3 x0 x4 x5 sn none sl x6 sb) = extend_keeps laws w v n a es m backlog h inv x1 x2 x3 x0 x4 x5 sn none sl x6 sb
move_keeps laws w v inv (promote n i a st earlier later x1 x2 x3 x4 x5 sn sl x6 sb) = promote_keeps laws w v n i a st earlier later inv x1 x2 x3 x4 x5 sn sl x6 sb
move_keeps laws w v inv (demote n a h x1 x2 x3 sn sl sb) = demote_keeps w v n a h inv x1 x2 x3 sn sl sb
move_keeps laws w v inv (connect n l to a h h0 x1 x2 x3 x4 sn sl sb) = connect_keeps w v n l to a h h0 inv x1 x2 x3 x4 sn sl sb
move_keeps laws w v inv (accept l m k x1 x2 sn sl sb) = accept_keeps w v l m k inv x1 x2 sn sl sb
move_keeps laws w v inv (greet l k s t rest r x1 x2 x3 x4 x5 sn sl sb) = greet_keeps laws w v l k s t rest r inv x1 x2 x3 x4 x5 sn sl sb
move_keeps laws w v inv (refuse l k s q t rest r x1 x2 x3 x4 x5 sn sl sb) = refuse_keeps laws w v l k s q t rest r inv x1 x2 x3 x4 x5 sn sl sb
move_keeps laws w v inv (answer_full l k s q t rest x y x0 y0 x1 x2 x3 x4 x5 sn sl sb) = answer_full_keeps laws w v l k s q t rest x y x0 y0 inv x1 x2 x3 x4 x5 sn sl sb
move_keeps laws w v inv (answer_cont l i o k s t rest y y0 x1 x2 x3 x4 x5 x6 sn sl sb) = answer_cont_keeps laws w v l i o k s t rest y y0 inv x1 x2 x3 x4 x5 x6 sn sl sb
move_keeps laws w v inv (noted l k b x1 x2 sn sl sb) = noted_keeps w v l k b inv x1 x2 sn sl sb
move_keeps laws w v inv (go_on n l j said a k t rest h h0 x1 x2 x3 sn sl sb) = go_on_keeps laws w v n l j said a k t rest h h0 inv x1 x2 x3 sn sl sb
move_keeps laws w v inv (ask_all n l j said a k t rest h h0 x1 x2 x3 sn sl sb) = ask_all_keeps laws w v n l j said a k t rest h h0 inv x1 x2 x3 sn sl sb
move_keeps laws w v inv (ask_on n l j said a k t rest h h0 x1 x2 x3 sn sl sb) = ask_on_keeps laws w v n l j said a k t rest h h0 inv x1 x2 x3 sn sl sb
move_keeps laws w v inv (take_full n l i o a k t rest x1 x2 x3 sn sl sb) = take_full_keeps laws w v n l i o a k t rest inv x1 x2 x3 sn sl sb
move_keeps laws w v inv (take_cont n l i a k t rest x1 x2 x3 sn sl sb) = take_cont_keeps laws w v n l i a k t rest inv x1 x2 x3 sn sl sb
move_keeps laws w v inv (load n l i o a m k t rest x1 x2 x3 sn sl sb) = load_keeps laws w v n l i o a m k t rest inv x1 x2 x3 sn sl sb
move_keeps laws w v inv (follow n l a e m k rest backlog x1 x2 x0 x3 x4 sn sl sb) = follow_keeps laws w v n l a e m k rest backlog inv x1 x2 x0 x3 x4 sn sl sb

same_grows : {L : Language} (w v : World L) → Same w.book v.book → Grows L w.book v.book
same_grows {L} w v sb = keeps_grows L w.book v.book (same_keeps L w.book v.book sb)

-- the book only grows
pub move_grows : {L : Language} (laws : Laws L) (w v : World L) → Move w v → Grows L w.book v.book
move_grows {L} laws w v (draw n b x1 x2 x3 x4 x5 x6 sn sl sb) = keeps_grows L w.book v.book (set_keeps L laws w.book v.book b.id _ x1 sb)
move_grows {L} laws w v (extend n a es m backlog h x1 x2 x3 x0 x4 x5 sn none sl x6 sb) = extends_grows L laws w.book v.book a.id es h (record { was = x6; is = sb.0; others = sb.1 })
move_grows {L} laws w v (promote n i a st earlier later x1 x2 x3 x4 x5 sn sl x6 sb) = keeps_grows L w.book v.book (set_keeps L laws w.book v.book i _ x5 sb)
move_grows laws w v (still sn sl sb) = same_grows w v sb
move_grows laws w v (stop n a e sn sl sb) = same_grows w v sb
move_grows laws w v (leave n a x h e sn sl sb) = same_grows w v sb
move_grows laws w v (close f sn none sl sb) = same_grows w v sb
move_grows laws w v (drop_open f sn none sl sb) = same_grows w v sb
move_grows laws w v (carry l x y k e wait sn sl sb) = same_grows w v sb
move_grows laws w v (loose l k f wait sn sl sb) = same_grows w v sb
move_grows laws w v (demote n a h x1 x2 x3 sn sl sb) = same_grows w v sb
move_grows laws w v (connect n l to a h h0 x1 x2 x3 x4 sn sl sb) = same_grows w v sb
move_grows laws w v (accept l m k x1 x2 sn sl sb) = same_grows w v sb
move_grows laws w v (greet l k s t rest r x1 x2 x3 x4 x5 sn sl sb) = same_grows w v sb
move_grows laws w v (refuse l k s q t rest r x1 x2 x3 x4 x5 sn sl sb) = same_grows w v sb
move_grows laws w v (answer_full l k s q t rest x y x0 y0 x1 x2 x3 x4 x5 sn sl sb) = same_grows w v sb
move_grows laws w v (answer_cont l i o k s t rest y y0 x1 x2 x3 x4 x5 x6 sn sl sb) = same_grows w v sb
move_grows laws w v (noted l k b x1 x2 sn sl sb) = same_grows w v sb
move_grows laws w v (go_on n l j said a k t rest h h0 x1 x2 x3 sn sl sb) = same_grows w v sb
move_grows laws w v (ask_all n l j said a k t rest h h0 x1 x2 x3 sn sl sb) = same_grows w v sb
move_grows laws w v (ask_on n l j said a k t rest h h0 x1 x2 x3 sn sl sb) = same_grows w v sb
move_grows laws w v (take_full n l i o a k t rest x1 x2 x3 sn sl sb) = same_grows w v sb
move_grows laws w v (take_cont n l i a k t rest x1 x2 x3 sn sl sb) = same_grows w v sb
move_grows laws w v (load n l i o a m k t rest x1 x2 x3 sn sl sb) = same_grows w v sb
move_grows laws w v (follow n l a e m k rest backlog x1 x2 x0 x3 x4 sn sl sb) = same_grows w v sb

pub grows_on : (L : Language) (b c d : Book L) → Grows L b c → Grows L c d → Grows L b d
grows_on L b c d g h i st es e =
    let x = g i st es e in
    let y = h i st (es ++ x.0) x.1 in
    (x.0 ++ y.0, y.1 ∙ ap (λ z. Some (record { start = st; effects = z })) (append_assoc es x.0 y.0))

pub chain_keeps : {L : Language} (laws : Laws L) (w : World L) (us : List (World L)) (v : World L) → Invariant w → Chain w us v → Invariant v × Grows L w.book v.book
chain_keeps laws w [] v inv c = (move_keeps laws w v inv c, move_grows laws w v c)
chain_keeps {L} laws w (u ∷ us) v inv c =
    let r = chain_keeps laws u us v (move_keeps laws w u inv c.0) c.1 in
    (r.0, grows_on L w.book u.book v.book (move_grows laws w u c.0) r.1)

pub reach_keeps : {L : Language} (laws : Laws L) (w v : World L) → Invariant w → Reaches w v → Invariant v × Grows L w.book v.book
reach_keeps laws w v inv (by_moves us c) = chain_keeps laws w us v inv c

pub nowhere_ok : (L : Language) → Invariant (nowhere L)
nowhere_ok L = record {
  good = λ i h e. none_some None h refl e;
  nodes = λ n a e. none_some None a refl e;
  masters = λ n m a b e. none_some None a refl e;
  links = λ n a f e. none_some None a refl e;
  waiting = λ l k e. none_some None k refl e;
}

pub inv_true : {L : Language} (w : World L) → Invariant w → (n : ℕ) (i : L.Id) (o : ℕ) (m : L.Dataset) → Shows w n i o m → IsAt L w.book i o m
inv_true {L} w inv n i o m s =
    let k = inv.nodes n s.node s.found s.up in
    subst (λ x. IsAt L w.book x o m) s.id (subst (λ x. IsAt L w.book s.node.id x m) s.offset (subst (λ x. IsAt L w.book s.node.id s.node.offset x) s.held
    (record { start = k.start; earlier = k.earlier; later = k.later; front = k.front; folds = k.folds })))

-- a replica that is caught up stands where its master does
pub caught_up : {L : Language} (laws : Laws L) (w : World L) (l : ℕ) (a s : Node L) → Invariant w → CaughtUp w l a s → IsLevel a s
caught_up {L} laws w l a s inv c =
    let o = inv.links c.n a (record { link = l; phase = c.phase }) c.replica_found c.replica_up c.follow in
    let i = some_is o.link c.link (sym o.found ∙ c.found) in
    let r = go c.phase refl (subst (λ x. Talk w a c.phase x) i o.talk) in
    record { id = r.0; offset = r.1; held = same_held r.0 r.1 }
  where
    ok : NodeIsSound w.book a
    ok = inv.nodes c.n a c.replica_found c.replica_up

    master_ok : NodeIsSound w.book s
    master_ok = inv.nodes c.m s c.master_found c.master_up

    same_held : a.id ≡ s.id → a.offset ≡ s.offset → a.held ≡ s.held
    same_held ei eo = at_unique L laws w.book s.id s.offset a.held s.held
        (subst (λ x. IsAt L w.book x s.offset a.held) ei (subst (λ x. IsAt L w.book a.id x a.held) eo
        (record { start = ok.start; earlier = ok.earlier; later = ok.later; front = ok.front; folds = ok.folds })))
        (record { start = master_ok.start; earlier = master_ok.earlier; later = master_ok.later; front = master_ok.front; folds = master_ok.folds })

    nothing : Usable L c.phase c.link.tell.left → ⊥
    nothing u = c.nothing_left (subst (λ z. Usable L c.phase z) (sym (take_all c.link.tell.taken c.link.tell.left c.all_taken)) u)

    level : (mid : List L.Effect) (st : L.Dataset) (earlier post : List L.Effect) → Front L w.book a.id a.offset st earlier (mid ++ post) → AtTip w c.link a.id post
        → c.link.tell.left ≡ texts L mid → Stream ≡ c.phase → (a.id ≡ s.id) × (a.offset ≡ s.offset)
    level [] st earlier post f tip e q =
        let r = tip c.m s c.to c.master_found c.master_up c.serving in
        let h = history_is L w.book s.id _ _ (ap (λ z. w.book z) r.1 ∙ f.found) master_ok.front.found in
        let p : earlier ≡ master_ok.earlier = sym (append_nil earlier) ∙ (ap (λ z. earlier ++ z) (sym r.2) ∙ (h.1 ∙ (ap (λ z. master_ok.earlier ++ z) (master_ok.tip r.0) ∙ append_nil master_ok.earlier))) in
        (sym r.1, sym f.place ∙ (ap (λ z. length (texts L z)) p ∙ master_ok.front.place))
    level (x ∷ mid) st earlier post f tip e q = absurd (nothing (an_effect x (texts L mid) (sym q)
        (All-head L.IsGood x (mid ++ post) (all_back L.IsGood earlier ((x ∷ mid) ++ post) (inv.good a.id _ f.found))) e))

    go : (p : Phase L.Id) → p ≡ c.phase → Talk w a p c.link → (a.id ≡ s.id) × (a.offset ≡ s.offset)
    go p q (greeting x e st y z) = true_false c.link.streams c.streams st.0
    go p q (greeted x t e st y z h) = true_false c.link.streams c.streams st.0
    go p q (asking e st y z) = true_false c.link.streams c.streams st.0
    go p q (asking_for e st y z) = true_false c.link.streams c.streams st.0
    go p q (refused t e st y z h) = true_false c.link.streams c.streams st.0
    go p q (answered_full i o d bytes e y at f) = absurd (nothing (an_answer d.line _ (FullResync i o) (sym q ∙ e) d.says y))
    go p q (answered_cont i bytes e y g f) = absurd (nothing (an_answer i.line _ (Continue i.id) (sym q ∙ e) i.says y))
    go p q (loading i o d bytes e y at f) = absurd (nothing (a_snapshot i o d.text _ d.held (sym q ∙ e) d.loads y))
    go p q (streaming bytes e y f) = level f.mid f.start f.earlier f.post f.front f.tip (y ∙ f.bytes_are) (sym e ∙ q)
