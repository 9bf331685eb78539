-- What is true of each node stays so.
use Rattle.std.proofs.Common.{◌≡◌, ℕ, List, true, false, cond, Option, None, Some, refl, sym, ap, subst, ◌∙◌}
use Rattle.std.specs.Prelude.{is_some}
use Rattle.std.specs.FinMap.{FinMap, get, get-insert, get-remove, insert}
use Rattle.std.proofs.lemmas.Option.{same_Some, none-some}
use Rattle.mr_links.specs.LinkId.{id_cmp}
use Rattle.mr_links.specs.Links.{Links}
use Rattle.mr_links.specs.declared.link_id.LinkId.{LinkId}
use Rattle.mr_links.proofs.LinkRows.{ids_total}
use Rattle.mr_follower.specs.State.{FollowState}
use Rattle.mr_replication.specs.State.{name_of}
use Rattle.mr_node_links.specs.State.{EndState, end_at, put_end, without, opened_as, streams}
use Rattle.mr_node_links.specs.State.EndState.{client, waiting, replica, upstream, shut}
use Rattle.mr_node_links.specs.Replicas.{shut_where, ShutsReplicas}
use Rattle.mr_node_links.proofs.Naming.{at_or_not, at_or_other, silent}
use Rattle.mr_node_spec.specs.State.{Core, NodeState, FollowedAt, IsNode}
use Rattle.mr_node_spec.specs.LinkRows.{follow_without}
use Rattle.mr_node_state.specs.Parts.{HasOne, shut_one}

no_true : false ≡ true → ⊥
no_true e = cc

pub get_put : (m : FinMap id_cmp EndState) (l : LinkId) (e : EndState) → get (insert m l e) l ≡ Some e
get_put m l e = get-insert ids_total m l e l ∙ at_or_other l l (λ b. cond b (Some e) (get m l) ≡ Some e) (λ same. refl) (λ other. absurd (other refl))

-- ---- a served end becomes another, or goes on
at_put : (m : Links EndState) (l : LinkId) (e f : EndState) (r : Option (LinkId × FollowState)) → end_at m l ≡ Some e → (e ≡ upstream → ⊥) → FollowedAt m r → FollowedAt (put_end m l f) r
at_put m l e f None found not h = tt
at_put m l e f (Some r) found not h = get-insert ids_total m.open_links l f r.0
    ∙ at_or_not r.0 l (λ b. cond b (Some f) (get m.open_links r.0) ≡ Some upstream) (λ is. absurd (not (same_Some e upstream (sym found ∙ (ap (get m.open_links) (sym is) ∙ h))))) h

pub put_node : (a : NodeState) (l : LinkId) (e f : EndState) → IsNode a → end_at a.ends l ≡ Some e → (e ≡ upstream → ⊥) → (f ≡ upstream → ⊥) → (streams (Some f) ≡ true → a.core.master ≡ true)
    → IsNode (record a { ends = put_end a.ends l f })
put_node a l e f i found was is goes = record {
  followed = at_put a.ends l e f a.follow found was i.followed;
  only = λ x h. at_or_not x l (λ b. cond b (Some f) (get a.ends.open_links x) ≡ Some upstream → name_of a.follow ≡ Some x) (λ same q. absurd (is (same_Some f upstream q))) (λ q. i.only x q)
      (sym (get-insert ids_total a.ends.open_links l f x) ∙ h);
  sends = λ x h. at_or_not x l (λ b. streams (cond b (Some f) (get a.ends.open_links x)) ≡ true → a.core.master ≡ true) (λ same q. goes q) (λ q. i.sends x q)
      (ap streams (sym (get-insert ids_total a.ends.open_links l f x)) ∙ h);
  nobody = i.nobody;
}

-- ---- a new end
at_opened : (m : Links EndState) (l : LinkId) (f : EndState) (r : Option (LinkId × FollowState)) → end_at m l ≡ None → FollowedAt m r → FollowedAt (opened_as m l f) r
at_opened m l f None fresh h = tt
at_opened m l f (Some r) fresh h = get-insert ids_total m.open_links l f r.0
    ∙ at_or_not r.0 l (λ b. cond b (Some f) (get m.open_links r.0) ≡ Some upstream) (λ is. absurd (none-some upstream (sym fresh ∙ (ap (get m.open_links) (sym is) ∙ h)))) h

pub opened_node : (a : NodeState) (l : LinkId) (u : List ℕ) → IsNode a → end_at a.ends l ≡ None → IsNode (record a { ends = opened_as a.ends l (client u) })
opened_node a l u i fresh = record {
  followed = at_opened a.ends l (client u) a.follow fresh i.followed;
  only = λ x h. at_or_not x l (λ b. cond b (Some (client u)) (get a.ends.open_links x) ≡ Some upstream → name_of a.follow ≡ Some x) (λ same q. absurd (no_client q)) (λ q. i.only x q)
      (sym (get-insert ids_total a.ends.open_links l (client u) x) ∙ h);
  sends = λ x h. at_or_not x l (λ b. streams (cond b (Some (client u)) (get a.ends.open_links x)) ≡ true → a.core.master ≡ true) (λ same q. absurd (no_true q)) (λ q. i.sends x q)
      (ap streams (sym (get-insert ids_total a.ends.open_links l (client u) x)) ∙ h);
  nobody = i.nobody;
}
  where
    no_client : ◌≡◌ {A = Option EndState} (Some (client u)) (Some upstream) → ⊥
    no_client e = cc

-- .. that is taken back
un_opened : (m : Links EndState) (l : LinkId) (u : List ℕ) (r : Option (LinkId × FollowState)) → FollowedAt (opened_as m l (client u)) r → FollowedAt m r
un_opened m l u None h = tt
un_opened m l u (Some r) h = at_or_not r.0 l (λ b. cond b (Some (client u)) (get m.open_links r.0) ≡ Some upstream → get m.open_links r.0 ≡ Some upstream) (λ is q. absurd (no_client q)) (λ q. q)
    (sym (get-insert ids_total m.open_links l (client u) r.0) ∙ h)
  where
    no_client : ◌≡◌ {A = Option EndState} (Some (client u)) (Some upstream) → ⊥
    no_client e = cc

pub unopened_node : (a : NodeState) (l : LinkId) (u : List ℕ) → end_at a.ends l ≡ None → IsNode (record a { ends = opened_as a.ends l (client u) }) → IsNode a
unopened_node a l u fresh i = record {
  followed = un_opened a.ends l u a.follow i.followed;
  only = λ x h. i.only x (get-insert ids_total a.ends.open_links l (client u) x
      ∙ at_or_not x l (λ b. cond b (Some (client u)) (get a.ends.open_links x) ≡ Some upstream) (λ same. absurd (none-some upstream (sym fresh ∙ (ap (get a.ends.open_links) (sym same) ∙ h)))) h);
  sends = λ x h. i.sends x (ap streams (get-insert ids_total a.ends.open_links l (client u) x)
      ∙ at_or_not x l (λ b. streams (cond b (Some (client u)) (get a.ends.open_links x)) ≡ true) (λ same. absurd (no_true (sym (ap streams fresh) ∙ (ap (λ z. streams (get a.ends.open_links z)) (sym same) ∙ h)))) h);
  nobody = i.nobody;
}

-- .. of the link to a master
pub dialled_node : (a : NodeState) (l : LinkId) (f : FollowState) → IsNode a → a.follow ≡ None → a.core.master ≡ false → IsNode (record a { ends = opened_as a.ends l upstream; follow = Some (l, f) })
dialled_node a l f i alone follows = record {
  followed = get_put a.ends.open_links l upstream;
  only = λ x h. at_or_not x l (λ b. cond b (Some upstream) (get a.ends.open_links x) ≡ Some upstream → ◌≡◌ {A = Option LinkId} (Some l) (Some x)) (λ same q. ap Some (sym same))
      (λ q. absurd (none-some x (sym (ap name_of alone) ∙ i.only x q))) (sym (get-insert ids_total a.ends.open_links l upstream x) ∙ h);
  sends = λ x h. at_or_not x l (λ b. streams (cond b (Some upstream) (get a.ends.open_links x)) ≡ true → a.core.master ≡ true) (λ same q. absurd (no_true q)) (λ q. i.sends x q)
      (ap streams (sym (get-insert ids_total a.ends.open_links l upstream x)) ∙ h);
  nobody = λ m. absurd (no_true (sym follows ∙ m));
}

-- ---- an end that goes
-- the end of the link to the master is there
pub has_followed : (ends : Links EndState) (f : Option (LinkId × FollowState)) (name : Option LinkId) → FollowedAt ends f → name ≡ name_of f → HasOne name ends
has_followed ends f name at is = subst (λ n. HasOne n ends) (sym is) (there f at)
  where
    there : (g : Option (LinkId × FollowState)) → FollowedAt ends g → HasOne (name_of g) ends
    there None h = tt
    there (Some g) h = ap is_some h

only_gone : (m : Links EndState) (f : Option (LinkId × FollowState)) → ((x : LinkId) → get m.open_links x ≡ Some upstream → name_of f ≡ Some x) → (x : LinkId)
    → get (shut_one (name_of f) m).open_links x ≡ Some upstream → ◌≡◌ {A = Option LinkId} None (Some x)
only_gone m None h x q = h x q
only_gone m (Some f) h x q = at_or_other x f.0 (λ b. cond b (Some shut) (get m.open_links x) ≡ Some upstream → ◌≡◌ {A = Option LinkId} None (Some x))
    (λ is z. absurd (no_shut z)) (λ ne z. absurd (ne (sym (same_Some f.0 x (h x z))))) (sym (get-insert ids_total m.open_links f.0 shut x) ∙ q)
  where
    no_shut : ◌≡◌ {A = Option EndState} (Some shut) (Some upstream) → ⊥
    no_shut e = cc

sends_gone : (m : Links EndState) (n : Option LinkId) (P : Type 0) → ((x : LinkId) → streams (get m.open_links x) ≡ true → P) → (x : LinkId) → streams (get (shut_one n m).open_links x) ≡ true → P
sends_gone m None P h x q = h x q
sends_gone m (Some n) P h x q = at_or_not x n (λ b. streams (cond b (Some shut) (get m.open_links x)) ≡ true → P) (λ is z. absurd (no_true z)) (λ z. h x z) (ap streams (sym (get-insert ids_total m.open_links n shut x)) ∙ q)

-- that of the link to the master
pub alone_node : (a : NodeState) (core : Core) → IsNode a → (a.core.master ≡ true → core.master ≡ true) → IsNode (record { core = core; ends = shut_one (name_of a.follow) a.ends; follow = None })
alone_node a core i same = record {
  followed = tt;
  only = only_gone a.ends a.follow i.only;
  sends = sends_gone a.ends (name_of a.follow) (core.master ≡ true) (λ x h. same (i.sends x h));
  nobody = λ m. refl;
}

-- .. or of any
at_closed : (m : Links EndState) (l : LinkId) (r : Option (LinkId × FollowState)) → FollowedAt m r → FollowedAt (without m l) (follow_without l r)
at_closed m l None h = tt
at_closed m l (Some r) h = at_or_other r.0 l (λ b. FollowedAt (without m l) (cond b None (Some r))) (λ is. tt)
    (λ ne. get-remove ids_total m.open_links l r.0 ∙ at_or_other r.0 l (λ b. cond b None (get m.open_links r.0) ≡ Some upstream) (λ is. absurd (ne is)) (λ other. h))

only_closed : (m : Links EndState) (l : LinkId) (f : Option (LinkId × FollowState)) → ((x : LinkId) → get m.open_links x ≡ Some upstream → name_of f ≡ Some x) → (x : LinkId)
    → get (without m l).open_links x ≡ Some upstream → name_of (follow_without l f) ≡ Some x
only_closed m l f h x q = at_or_other x l (λ b. cond b None (get m.open_links x) ≡ Some upstream → name_of (follow_without l f) ≡ Some x)
    (λ is z. absurd (none-some upstream z)) (λ ne z. kept f (h x z) ne) (sym (get-remove ids_total m.open_links l x) ∙ q)
  where
    kept : (f : Option (LinkId × FollowState)) → name_of f ≡ Some x → (x ≡ l → ⊥) → name_of (follow_without l f) ≡ Some x
    kept None is ne = is
    kept (Some r) is ne = at_or_other r.0 l (λ b. name_of (cond b None (Some r)) ≡ Some x) (λ same. absurd (ne (sym (same_Some r.0 x is) ∙ same))) (λ other. is)

follow_none : (l : LinkId) (f : Option (LinkId × FollowState)) → f ≡ None → follow_without l f ≡ None
follow_none l f is = ap (follow_without l) is

pub closed_node : (a : NodeState) (l : LinkId) → IsNode a → IsNode (record a { ends = without a.ends l; follow = follow_without l a.follow })
closed_node a l i = record {
  followed = at_closed a.ends l a.follow i.followed;
  only = only_closed a.ends l a.follow i.only;
  sends = λ x h. at_or_not x l (λ b. streams (cond b None (get a.ends.open_links x)) ≡ true → a.core.master ≡ true) (λ is z. absurd (no_true z)) (λ z. i.sends x z)
      (ap streams (sym (get-remove ids_total a.ends.open_links l x)) ∙ h);
  nobody = λ m. follow_none l a.follow (i.nobody m);
}

-- ---- all replicas' ends are shut
upstream_was : (o : Option EndState) → shut_where (streams o) o ≡ Some upstream → o ≡ Some upstream
upstream_was None e = e
upstream_was (Some (client u)) e = e
upstream_was (Some (waiting t u)) e = e
upstream_was (Some (replica u)) e = absurd (shut_no e)
  where
    shut_no : ◌≡◌ {A = Option EndState} (Some shut) (Some upstream) → ⊥
    shut_no e = cc
upstream_was (Some upstream) e = e
upstream_was (Some shut) e = e

at_shut : (m after : Links EndState) (f : Option (LinkId × FollowState)) → ShutsReplicas m after → FollowedAt m f → FollowedAt after f
at_shut m after None s h = tt
at_shut m after (Some f) s h = s.each f.0 ∙ ap (λ o. shut_where (streams o) o) h

pub obeying_node : (a : NodeState) (core : Core) (ends : Links EndState) → IsNode a → ShutsReplicas a.ends ends → a.core.master ≡ true → IsNode (record { core = core; ends = ends; follow = a.follow })
obeying_node a core ends i s master = record {
  followed = at_shut a.ends ends a.follow s i.followed;
  only = λ x h. i.only x (upstream_was (get a.ends.open_links x) (sym (s.each x) ∙ h));
  sends = λ x h. absurd (no_true (sym (ap streams (s.each x) ∙ silent (get a.ends.open_links x)) ∙ h));
  nobody = λ m. i.nobody master;
}

-- ---- the ends and who is followed stay
pub same_node : (a : NodeState) (core : Core) → IsNode a → core.master ≡ a.core.master → IsNode (record a { core = core })
same_node a core i same = record { followed = i.followed; only = i.only; sends = λ x h. same ∙ i.sends x h; nobody = λ m. i.nobody (sym same ∙ m) }

-- .. but for what reads at the link to the master
pub reading_node : (a : NodeState) (core : Core) (name : LinkId) (f g : FollowState) → IsNode a → a.follow ≡ Some (name, f) → core.master ≡ a.core.master → IsNode (record { core = core; ends = a.ends; follow = Some (name, g) })
reading_node a core name f g i found same = record {
  followed = subst (FollowedAt a.ends) found i.followed;
  only = λ x h. subst (λ z. name_of z ≡ Some x) found (i.only x h);
  sends = λ x h. same ∙ i.sends x h;
  nobody = λ q. absurd (none-some (name, f) (sym (i.nobody (sym same ∙ q)) ∙ found));
}
