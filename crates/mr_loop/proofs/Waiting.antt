-- What waits at the node's ends, and what other calls leave of it.
use Rattle.std.proofs.Common.{◌≡◌, ◌≢◌, ℕ, ℤ, List, [], Bool, true, false, cond, Option, None, Some, refl, sym, ap, subst, ◌∙◌, if◌then◌else◌}
use Rattle.std.specs.Ordering.{eq_by_cmp}
use Rattle.std.specs.FinMap.{get, get-insert, get-remove}
use Rattle.std.proofs.lemmas.Cmp.{eq_by_cmp_equiv}
use Rattle.std.proofs.lemmas.Map.Views.{tells_apart}
pub use Rattle.std.proofs.lemmas.Option.{same_Some as some_is, none-some as none_some}
use Rattle.mr_links.specs.LinkId.{id_cmp}
use Rattle.mr_links.specs.Links.{Links}
use Rattle.mr_links.specs.declared.link_id.LinkId.{LinkId}
use Rattle.mr_links.proofs.LinkRows.{ids_total, exact_ids}
use Rattle.mr_replication.specs.State.{name_of}
use Rattle.mr_node_links.specs.State.{EndState, Transaction}
use Rattle.mr_node_links.specs.State.EndState.{client, waiting, replica, shut, upstream}
use Rattle.mr_follower.specs.State.{FollowState}
use Rattle.mr_node_output.specs.Outs.{OutState, OutsState}
use Rattle.mr_node_spec.specs.State.{NodeState, OthersStay, end_of}
use Rattle.mr_node_spec.specs.LinkRows.{Opens, Dials, Feeds, closed_at, follow_without}
use Rattle.mr_node_spec.specs.Requests.{Waits}
use Rattle.mr_node_spec.specs.TimeRows.{TickRow, deletes, rests}
use Rattle.mr_node_spec.proofs.Nothing.{waits_nothing}
use Rattle.mr_loop.specs.Stage.{Stage}
use Rattle.mr_loop.specs.Carrying.{Carried}
use Rattle.mr_loop.specs.Causes.{Fed, TurnsOff, dials_and_closes, ended_at, opens_and_closes, stays}
use Rattle.mr_loop.specs.Quiet.{AllWait, Awaits, IsStill, OthersWait}
use Rattle.mr_loop.proofs.Carried.{carried_node}
use Rattle.mr_loop.proofs.Nothing.{awaits_first}

client_is : (u v : List ℕ) → client u ≡ client v → u ≡ v
client_is u v e = cc

replica_is : (u v : List ℕ) → replica u ≡ replica v → u ≡ v
replica_is u v e = cc

client_no_replica : (u v : List ℕ) → client u ≡ replica v → ⊥
client_no_replica u v e = cc

client_no_waiting : (t : Transaction) (u v : List ℕ) → client u ≡ waiting t v → ⊥
client_no_waiting t u v e = cc

upstream_no_waiting : (t : Transaction) (u : List ℕ) → upstream ≡ waiting t u → ⊥
upstream_no_waiting t u e = cc

shut_no_waiting : (t : Transaction) (u : List ℕ) → shut ≡ waiting t u → ⊥
shut_no_waiting t u e = cc

upstream_no_client : (u : List ℕ) → upstream ≡ client u → ⊥
upstream_no_client u e = cc

upstream_no_replica : (u : List ℕ) → upstream ≡ replica u → ⊥
upstream_no_replica u e = cc

shut_no_client : (u : List ℕ) → shut ≡ client u → ⊥
shut_no_client u e = cc

shut_no_replica : (u : List ℕ) → shut ≡ replica u → ⊥
shut_no_replica u e = cc

pub itself : (l : LinkId) → eq_by_cmp id_cmp l l ≡ true
itself l = (eq_by_cmp_equiv ids_total).refl l

pub apart : (x l : LinkId) → eq_by_cmp id_cmp x l ≡ false → x ≢ l
apart x l h e = let wrong : true ≡ false = sym (itself l) ∙ (ap (λ y. eq_by_cmp id_cmp y l) (sym e) ∙ h) in cc

pub is_one : (x l : LinkId) → eq_by_cmp id_cmp x l ≡ true → x ≡ l
is_one x l h = tells_apart exact_ids x l h

-- by whether two names are one
pub by_name : (P : Type 0) (x l : LinkId) → (x ≡ l → P) → (x ≢ l → P) → P
by_name P x l one other = elim (eq_by_cmp id_cmp x l) as (λ v. eq_by_cmp id_cmp x l ≡ v → P) [ true ↦ λ h. one (is_one x l h) | false ↦ λ h. other (apart x l h) ] refl

-- ---- one end

-- what it is by its end and by what reads at the link to the master
pub record StillBy (end : Option EndState) (follow : Option (LinkId × FollowState)) (l : LinkId) : Type 0 where
  pub at_client : (u : List ℕ) → end ≡ Some (client u) → Waits u
  pub at_waiting : (t : Transaction) (u : List ℕ) → end ≡ Some (waiting t u) → Waits u
  pub at_replica : (u : List ℕ) → end ≡ Some (replica u) → Waits u
  pub at_master : (f : FollowState) → follow ≡ Some (l, f) → Awaits f

pub still_by : (a : NodeState) (l : LinkId) → StillBy (end_of a l) a.follow l → IsStill a l
still_by a l s = record { at_client = λ u ag. s.at_client u ag.is; at_waiting = λ t u ag. s.at_waiting t u ag.is; at_replica = λ u ag. s.at_replica u ag.is; at_master = s.at_master }

pub by_still : (a : NodeState) (l : LinkId) → IsStill a l → StillBy (end_of a l) a.follow l
by_still a l s = record { at_client = λ u e. s.at_client u (record { is = e }); at_waiting = λ t u e. s.at_waiting t u (record { is = e }); at_replica = λ u e. s.at_replica u (record { is = e }); at_master = s.at_master }

pub still_same : (a b : NodeState) (x : LinkId) → end_of b x ≡ end_of a x → b.follow ≡ a.follow → IsStill a x → IsStill b x
still_same a b x end follow s = still_by b x (subst (λ e. StillBy e b.follow x) (sym end) (subst (λ f. StillBy (end_of a x) f x) (sym follow) (by_still a x s)))

-- no end, with nothing that reads there
pub still_none : (b : NodeState) (x : LinkId) → end_of b x ≡ None → ((f : FollowState) → b.follow ≡ Some (x, f) → ⊥) → IsStill b x
still_none b x end nobody = record {
  at_client = λ u ag. absurd (none_some (client u) (sym end ∙ ag.is));
  at_waiting = λ t u ag. absurd (none_some (waiting t u) (sym end ∙ ag.is));
  at_replica = λ u ag. absurd (none_some (replica u) (sym end ∙ ag.is));
  at_master = λ f e. absurd (nobody f e);
}

pub still_shut : (b : NodeState) (x : LinkId) → end_of b x ≡ Some shut → ((f : FollowState) → b.follow ≡ Some (x, f) → ⊥) → IsStill b x
still_shut b x end nobody = record {
  at_client = λ u ag. absurd (shut_no_client u (some_is shut (client u) (sym end ∙ ag.is)));
  at_waiting = λ t u ag. absurd (shut_no_waiting t u (some_is shut (waiting t u) (sym end ∙ ag.is)));
  at_replica = λ u ag. absurd (shut_no_replica u (some_is shut (replica u) (sym end ∙ ag.is)));
  at_master = λ f e. absurd (nobody f e);
}

-- ---- all, and all but one

pub others_of : {a : NodeState} (l : LinkId) → AllWait a → OthersWait a l
others_of l q = record { each = λ x ne. q.each x }

pub all_of : {a : NodeState} (l : LinkId) → OthersWait a l → IsStill a l → AllWait a
all_of {a} l q here = record { each = λ x. by_name (IsStill a x) x l (λ e. subst (IsStill a) (sym e) here) (λ ne. q.each x ne) }

pub all_same : {a b : NodeState} → b.ends ≡ a.ends → b.follow ≡ a.follow → AllWait a → AllWait b
all_same {a} {b} ends follow q = record { each = λ x. still_same a b x (ap (λ (z : Links EndState). get z.open_links x) ends) follow (q.each x) }

pub all_is : {a b : NodeState} → b ≡ a → AllWait a → AllWait b
all_is e q = subst AllWait (sym e) q

pub others_is : {a b : NodeState} (l : LinkId) → b ≡ a → OthersWait a l → OthersWait b l
others_is l e q = subst (λ z. OthersWait z l) (sym e) q

-- the ends of the other links stay, and whom the node follows
pub others_stay : {a b : NodeState} {l : LinkId} → OthersStay a b l → b.follow ≡ a.follow → OthersWait a l → OthersWait b l
others_stay {a} {b} o follow q = record { each = λ x ne. still_same a b x (o.stay x ne) follow (q.each x ne) }

-- ---- a link that is closed

removed_end : (b : Bool) (o : Option EndState) (e : EndState) → cond b None o ≡ Some e → o ≡ Some e
removed_end true o e h = absurd (none_some e h)
removed_end false o e h = h

without_follows : (l x : LinkId) (o : Option (LinkId × FollowState)) (f : FollowState) → follow_without l o ≡ Some (x, f) → o ≡ Some (x, f)
without_follows l x None f h = h
without_follows l x (Some g) f h = kept (eq_by_cmp id_cmp g.0 l) h where
  kept : (b : Bool) → (if b then None else Some g) ≡ Some (x, f) → Some g ≡ Some (x, f)
  kept true e = absurd (none_some (x, f) e)
  kept false e = e

left_by : (l : LinkId) (o : Option (LinkId × FollowState)) (f : FollowState) → follow_without l o ≡ Some (l, f) → ⊥
left_by l None f h = none_some (l, f) h
left_by l (Some g) f h = kept (eq_by_cmp id_cmp g.0 l) refl h where
  first : (g h : LinkId × FollowState) → g ≡ h → g.0 ≡ h.0
  first g h e = ap (λ (z : LinkId × FollowState). z.0) e

  kept : (b : Bool) → eq_by_cmp id_cmp g.0 l ≡ b → (if b then None else Some g) ≡ Some (l, f) → ⊥
  kept true is e = none_some (l, f) e
  kept false is e = apart g.0 l is (first g (l, f) (some_is g (l, f) e))

pub closed_still : (l : LinkId) (a : NodeState) (x : LinkId) → IsStill a x → IsStill (closed_at l a) x
closed_still l a x s = record {
  at_client = λ u ag. s.at_client u (record { is = removed_end (eq_by_cmp id_cmp x l) (end_of a x) (client u) (sym (get-remove ids_total a.ends.open_links l x) ∙ ag.is) });
  at_waiting = λ t u ag. s.at_waiting t u (record { is = removed_end (eq_by_cmp id_cmp x l) (end_of a x) (waiting t u) (sym (get-remove ids_total a.ends.open_links l x) ∙ ag.is) });
  at_replica = λ u ag. s.at_replica u (record { is = removed_end (eq_by_cmp id_cmp x l) (end_of a x) (replica u) (sym (get-remove ids_total a.ends.open_links l x) ∙ ag.is) });
  at_master = λ f e. s.at_master f (without_follows l x a.follow f e);
}

pub closed_gone : (l : LinkId) (a : NodeState) → IsStill (closed_at l a) l
closed_gone l a = still_none (closed_at l a) l (get-remove ids_total a.ends.open_links l l ∙ ap (λ b. cond b None (end_of a l)) (itself l)) (λ f e. left_by l a.follow f e)

pub closed_all : (l : LinkId) (a : NodeState) → AllWait a → AllWait (closed_at l a)
closed_all l a q = record { each = λ x. closed_still l a x (q.each x) }

pub closed_others : (m l : LinkId) (a : NodeState) → OthersWait a m → OthersWait (closed_at l a) m
closed_others m l a q = record { each = λ x ne. closed_still l a x (q.each x ne) }

pub closed_waits : (l : LinkId) (a : NodeState) → OthersWait a l → AllWait (closed_at l a)
closed_waits l a q = all_of l (closed_others l l a q) (closed_gone l a)

pub ended_all : (link : Option LinkId) (a : NodeState) → AllWait a → AllWait (ended_at link a)
ended_all None a q = q
ended_all (Some l) a q = closed_all l a q

-- .. by outs
pub carried_all : (outs : List OutState) (s t : Stage) → Carried outs s t → AllWait s.node → AllWait t.node
carried_all outs s t c q = carried_node AllWait closed_all outs s t c q

pub carried_others : (l : LinkId) (outs : List OutState) (s t : Stage) → Carried outs s t → OthersWait s.node l → OthersWait t.node l
carried_others l outs s t c q = carried_node (λ z. OthersWait z l) (closed_others l) outs s t c q

-- ---- a link that is opened or dialled

put_end : (b : Bool) (e f : EndState) (o : Option EndState) → cond b (Some e) o ≡ Some f → (P : Type 0) → (e ≡ f → P) → (o ≡ Some f → P) → P
put_end true e f o h P new old = new (some_is e f h)
put_end false e f o h P new old = old h

pub opened_all : {a b : NodeState} {l : LinkId} → Opens a l b → AllWait a → AllWait b
opened_all {a} {b} {l} o q =
    let end : (x : LinkId) → end_of b x ≡ cond (eq_by_cmp id_cmp x l) (Some (client [])) (end_of a x) = λ x. ap (λ (z : NodeState). end_of z x) o.node ∙ get-insert ids_total a.ends.open_links l (client []) x in
    record {
      each = λ x. record {
        at_client = λ u ag. put_end (eq_by_cmp id_cmp x l) (client []) (client u) (end_of a x) (sym (end x) ∙ ag.is) (Waits u) (λ e. subst Waits (client_is [] u e) waits_nothing) (λ e. (q.each x).at_client u (record { is = e }));
        at_waiting = λ t u ag. put_end (eq_by_cmp id_cmp x l) (client []) (waiting t u) (end_of a x) (sym (end x) ∙ ag.is) (Waits u) (λ e. absurd (client_no_waiting t [] u e)) (λ e. (q.each x).at_waiting t u (record { is = e }));
        at_replica = λ u ag. put_end (eq_by_cmp id_cmp x l) (client []) (replica u) (end_of a x) (sym (end x) ∙ ag.is) (Waits u) (λ e. absurd (client_no_replica [] u e)) (λ e. (q.each x).at_replica u (record { is = e }));
        at_master = λ f e. (q.each x).at_master f (sym (ap (λ (z : NodeState). z.follow) o.node) ∙ e);
      };
    }

second_is : (n : LinkId) (g : FollowState) (x : LinkId) (f : FollowState) → ◌≡◌ {A = LinkId × FollowState} (n, g) (x, f) → g ≡ f
second_is n g x f e = ap (λ (z : LinkId × FollowState). z.1) e

pub dialled_all : {a b : NodeState} {l : LinkId} {outs : OutsState} → Dials a l b outs → AllWait a → AllWait b
dialled_all {a} {b} {l} {outs} d q =
    let end : (x : LinkId) → end_of b x ≡ cond (eq_by_cmp id_cmp x l) (Some upstream) (end_of a x) = λ x. ap (λ (z : NodeState). end_of z x) d.node ∙ get-insert ids_total a.ends.open_links l upstream x in
    record {
      each = λ x. record {
        at_client = λ u ag. put_end (eq_by_cmp id_cmp x l) upstream (client u) (end_of a x) (sym (end x) ∙ ag.is) (Waits u) (λ e. absurd (upstream_no_client u e)) (λ e. (q.each x).at_client u (record { is = e }));
        at_waiting = λ t u ag. put_end (eq_by_cmp id_cmp x l) upstream (waiting t u) (end_of a x) (sym (end x) ∙ ag.is) (Waits u) (λ e. absurd (upstream_no_waiting t u e)) (λ e. (q.each x).at_waiting t u (record { is = e }));
        at_replica = λ u ag. put_end (eq_by_cmp id_cmp x l) upstream (replica u) (end_of a x) (sym (end x) ∙ ag.is) (Waits u) (λ e. absurd (upstream_no_replica u e)) (λ e. (q.each x).at_replica u (record { is = e }));
        at_master = λ f e. subst Awaits (second_is l _ x f (some_is _ (x, f) (sym (ap (λ (z : NodeState). z.follow) d.node) ∙ e))) (awaits_first _ _);
      };
    }

pub off_all : (a b : NodeState) → TurnsOff a b → AllWait a → AllWait b
off_all a b (stays same) q = all_is same q
off_all a b (opens_and_closes mid link opens is) q = all_is is (closed_all link mid (opened_all opens q))
off_all a b (dials_and_closes mid link outs dials sound is) q = all_is is (closed_all link mid (dialled_all dials q))

-- ---- bytes that are fed

-- who is followed at the link goes on being so
fed_follow : (a b : NodeState) (l x : LinkId) (bytes : List ℕ) (f : FollowState) (o : Option (LinkId × FollowState)) → a.follow ≡ o → Feeds a l bytes b → AllWait a → x ≢ l → b.follow ≡ Some (x, f) → a.follow ≡ Some (x, f)
fed_follow a b l x bytes f None is feeds q ne e = sym (feeds.follow (λ n. none_some l (sym (ap name_of is) ∙ n))) ∙ e
fed_follow a b l x bytes f (Some g) is feeds q ne e = by_name (a.follow ≡ Some (x, f)) g.0 l
    (λ one.
    let found : a.follow ≡ Some (l, g.1) = is ∙ ap (λ (n : LinkId). Some (n, g.1)) one in
    let awaits = (q.each l).at_master g.1 found in
    let behind = feeds.at_master awaits.unread (record { reader = g.1; found = found; agrees = awaits.agrees }) in
    absurd (ne (ap (λ (z : LinkId × FollowState). z.0) (some_is (x, f) (l, behind.reader) (sym e ∙ behind.found)))))
    (λ other. sym (feeds.follow (λ n. other (some_is g.0 l (sym (ap name_of is) ∙ n)))) ∙ e)

pub fed_others : (a b : NodeState) (l : LinkId) (bytes : List ℕ) → Fed a l bytes b → AllWait a → OthersWait b l
fed_others a b l bytes fed q = record {
  each = λ x ne. record {
    at_client = λ u ag. (q.each x).at_client u (record { is = sym (fed.feeds.others.stay x ne) ∙ ag.is });
    at_waiting = λ t u ag. (q.each x).at_waiting t u (record { is = sym (fed.feeds.others.stay x ne) ∙ ag.is });
    at_replica = λ u ag. (q.each x).at_replica u (record { is = sym (fed.feeds.others.stay x ne) ∙ ag.is });
    at_master = λ f e. (q.each x).at_master f (fed_follow a b l x bytes f a.follow refl fed.feeds q ne e);
  };
}

-- ---- time that passes

pub ticked_all : {a b : NodeState} {now : ℤ} {outs : OutsState} → TickRow a now b outs → AllWait a → AllWait b
ticked_all (deletes up row) q = all_same row.ends row.follow q
ticked_all (rests up no_master mark row is) q = all_same (ap (λ (z : NodeState). z.ends) is) (ap (λ (z : NodeState). z.follow) is) q
