-- What each change makes of a node is one.
use Rattle.std.proofs.Common.{◌≡◌, ◌≤◌, ◌+◌, ◌-◌, ℕ, ℤ, List, [], ◌∷◌, ◌++◌, append-nil, Bool, true, false, cond, drop, length, Option, None, Some, refl, sym, ap, subst, ◌∙◌, arith}
use Rattle.std.specs.Prelude.{Result, Ok, Err, OnOk, OnErr, IfOk}
use Rattle.mr_links.specs.Links.{Links}
use Rattle.mr_links.specs.declared.link_id.LinkId.{LinkId}
use Rattle.mr_effect.specs.Spelling.{texts}
use Rattle.mr_effect.specs.declared.effect.Effect.{Effect}
use Rattle.mr_keyspace.specs.Dataset.{Dataset}
use Rattle.mr_data.specs.Meaning.{apply_all}
use Rattle.mr_repl.specs.Backlog.{IsWindow, Window, after_bytes, last_of}
use Rattle.mr_follower.specs.State.{FollowState, started}
use Rattle.mr_replication.specs.State.{CourseState, dialled, grows, left, name_of, offer_of, promoted}
use Rattle.mr_node_links.specs.State.{EndState, end_at, opened_as, put_end, serves, streams, without}
use Rattle.mr_node_links.specs.State.EndState.{client, waiting, replica, upstream, shut}
use Rattle.mr_node_links.specs.Ending.{HasUnread, Takes, heard_of, used_of}
use Rattle.mr_node_links.specs.Parts.{HasAhead, HasRoom, HearsAt, IsClient, TurnsAt, UsesAt}
use Rattle.mr_node_links.proofs.Naming.{heard_streams, used_streams}
use Rattle.mr_node_output.specs.Address.{AddressState}
use Rattle.mr_node_spec.specs.State.{Agrees, IsNode, NodeState}
use Rattle.mr_node_spec.specs.LinkRows.{Opens, follow_without}
use Rattle.mr_node_state.specs.Parts.{Commits, Holds, node_of, streams_on, shut_one, with_ends}
use Rattle.mr_node_state.specs.Listening.{is_name}
use Rattle.mr_node_state.proofs.Nodes.{alone_node, closed_node, dialled_node, get_put, opened_node, put_node, unopened_node}

-- ---- an end that the node serves goes on as one
takes_not : (n : ℕ) (e : EndState) → Takes n e → e ≡ upstream → ⊥
takes_not n (client u) t is = cc
takes_not n (waiting w u) t is = cc
takes_not n (replica u) t is = cc
takes_not n upstream t is = t
takes_not n shut t is = t

has_not : (n : ℕ) (e : EndState) → HasUnread n e → e ≡ upstream → ⊥
has_not n (client u) t is = cc
has_not n (waiting w u) t is = cc
has_not n (replica u) t is = cc
has_not n upstream t is = t
has_not n shut t is = t

heard_not : (bytes : List ℕ) (e : EndState) → (e ≡ upstream → ⊥) → heard_of bytes e ≡ upstream → ⊥
heard_not bytes (client u) other is = cc
heard_not bytes (waiting t u) other is = cc
heard_not bytes (replica u) other is = cc
heard_not bytes upstream other is = other refl
heard_not bytes shut other is = cc

used_not : (n : ℕ) (e : EndState) → (e ≡ upstream → ⊥) → used_of n e ≡ upstream → ⊥
used_not n (client u) other is = cc
used_not n (waiting t u) other is = cc
used_not n (replica u) other is = cc
used_not n upstream other is = other refl
used_not n shut other is = cc

going : (a : NodeState) (l : LinkId) (e f : EndState) → IsNode a → end_at a.ends l ≡ Some e → (e ≡ upstream → ⊥) → (f ≡ upstream → ⊥) → streams (Some f) ≡ streams (Some e) → IsNode (with_ends a (put_end a.ends l f))
going a l e f i found was is same = put_node a l e f i found was is (λ goes. i.sends l (ap streams found ∙ (sym same ∙ goes)))

pub heard_node : {A E : Type 0} (a : NodeState) (l : LinkId) (bytes : List ℕ) (ends : Links EndState) (r : Result A E) → IsNode a → HasRoom a.ends l (length bytes) → OnOk r (HearsAt a.ends l bytes ends) → OnErr r (ends ≡ a.ends) → IsNode (with_ends a ends)
heard_node a l bytes ends (Ok x) i room h k =
    let other = takes_not (length bytes) room.end room.enough in
    subst (λ z. IsNode (with_ends a z)) (sym (h room.end room.found)) (going a l room.end (heard_of bytes room.end) i room.found other (heard_not bytes room.end other) (heard_streams bytes room.end))
heard_node a l bytes ends (Err x) i room h k = subst (λ z. IsNode (with_ends a z)) (sym k) i

pub used_node : (a : NodeState) (l : LinkId) (n : ℕ) (ends : Links EndState) → IsNode a → HasAhead a.ends l n → UsesAt a.ends l n ends → IsNode (with_ends a ends)
used_node a l n ends i ahead uses =
    let other = has_not n ahead.end ahead.enough in
    subst (λ z. IsNode (with_ends a z)) (sym (uses ahead.end ahead.found)) (going a l ahead.end (used_of n ahead.end) i ahead.found other (used_not n ahead.end other) (used_streams n ahead.end))

pub turned_node : {A E : Type 0} (a : NodeState) (l : LinkId) (n : ℕ) (ends : Links EndState) (r : Result A E) → IsNode a → IsClient a.ends l n → a.core.master ≡ true → OnOk r (TurnsAt a.ends l n ends) → OnErr r (ends ≡ a.ends) → IsNode (with_ends a ends)
turned_node a l n ends (Ok x) i is master h k =
    subst (λ z. IsNode (with_ends a z)) (sym (h is.unread is.found)) (put_node a l (client is.unread) (replica (drop n is.unread)) i is.found (no_client is.unread) (no_replica (drop n is.unread)) (λ goes. master))
  where
    no_client : (u : List ℕ) → client u ≡ upstream → ⊥
    no_client u e = cc

    no_replica : (u : List ℕ) → replica u ≡ upstream → ⊥
    no_replica u e = cc
turned_node a l n ends (Err x) i is master h k = subst (λ z. IsNode (with_ends a z)) (sym k) i

served_not : (e : EndState) → serves e ≡ true → e ≡ upstream → ⊥
served_not e s is = no_true (sym (ap serves is) ∙ s)
  where
    no_true : false ≡ true → ⊥
    no_true q = cc

pub shut_node : (a : NodeState) (l : LinkId) (e : EndState) (ends : Links EndState) → IsNode a → end_at a.ends l ≡ Some e → serves e ≡ true → ends ≡ put_end a.ends l shut → IsNode (with_ends a ends)
shut_node a l e ends i found served is = subst (λ z. IsNode (with_ends a z)) (sym is) (put_node a l e shut i found (served_not e served) no_shut (λ goes. absurd (no_true goes)))
  where
    no_shut : shut ≡ upstream → ⊥
    no_shut q = cc

    no_true : false ≡ true → ⊥
    no_true q = cc

-- ---- a new end
pub opens_node : {E : Type 0} (a : NodeState) (ends : Links EndState) (r : Result LinkId E) → IsNode a → IfOk r (λ l. end_at a.ends l ≡ None) → IfOk r (λ l. ends ≡ opened_as a.ends l (client [])) → OnErr r (ends ≡ a.ends) → IsNode (with_ends a ends)
opens_node a ends (Ok l) i fresh opens k = subst (λ z. IsNode (with_ends a z)) (sym opens) (opened_node a l [] i fresh)
opens_node a ends (Err x) i fresh opens k = subst (λ z. IsNode (with_ends a z)) (sym k) i

pub opens_row : {E : Type 0} (a b : NodeState) (ends : Links EndState) (r : Result LinkId E) → a ≡ b → IfOk r (λ l. end_at a.ends l ≡ None) → IfOk r (λ l. l.generation ≡ a.ends.opened)
    → IfOk r (λ l. ends ≡ opened_as a.ends l (client [])) → IfOk r (λ l. Opens b l (with_ends a ends))
opens_row a b ends (Ok l) same fresh generation opens =
    subst (λ (z : NodeState). Opens z l (with_ends a ends)) same (record {
      fresh = fresh;
      generation = generation;
      agrees = record { is = ap (λ z. end_at z l) opens ∙ get_put a.ends.open_links l (client []) };
      node = ap (with_ends a) opens;
    })
opens_row a b ends (Err x) same fresh generation opens = opens

-- .. that is taken back
pub taken_back_node : (a : NodeState) (l : LinkId) (ends : Links EndState) → IsNode a → end_at ends l ≡ None → a.ends ≡ opened_as ends l (client []) → IsNode (with_ends a ends)
taken_back_node a l ends i fresh opens = unopened_node (with_ends a ends) l [] fresh (subst (λ z. IsNode (with_ends a z)) opens i)

pub taken_back_row : (a b : NodeState) (l : LinkId) (ends : Links EndState) → a ≡ b → Agrees b l [] → end_at ends l ≡ None → l.generation ≡ ends.opened → a.ends ≡ opened_as ends l (client []) → Opens (with_ends a ends) l b
taken_back_row a b l ends same agrees fresh generation opens = record { fresh = fresh; generation = generation; agrees = agrees; node = sym same ∙ ap (with_ends a) opens }

module _ (up : Bool) (port : ℕ) (told : Option AddressState) (mark : Option ℤ) (c : CourseState) (m : Dataset) (ends : Links EndState) (i : IsNode (node_of up port told mark c m ends)) where
  pub dials_node : (l : LinkId) (d : CourseState) (after : Links EndState) → c.follow ≡ None → c.master ≡ false → d ≡ dialled l port c → after ≡ opened_as ends l upstream → IsNode (node_of up port told mark d m after)
  dials_node l d after nobody follows is opens = subst (λ z. IsNode (node_of up port told mark z m after)) (sym is)
      (subst (λ z. IsNode (node_of up port told mark (dialled l port c) m z)) (sym opens) (dialled_node (node_of up port told mark c m ends) l (started (offer_of c.offers c.lineage) port) i nobody follows))

  -- ---- an end that goes
  pub stays_node : (l : LinkId) (after : Links EndState) → is_name (name_of c.follow) l ≡ false → after ≡ without ends l → IsNode (node_of up port told mark c m after)
  stays_node l after other is = subst (λ z. IsNode (node_of up port told mark c m z)) (sym is)
      (subst (λ z. IsNode (node_of up port told mark (record c { follow = z }) m (without ends l))) (kept c.follow other) (closed_node (node_of up port told mark c m ends) l i))
    where
      kept : (f : Option (LinkId × FollowState)) → is_name (name_of f) l ≡ false → follow_without l f ≡ f
      kept None h = refl
      kept (Some f) h = ap (λ b. cond b None (Some f)) h

  pub leaves_node : (l : LinkId) (d : CourseState) (after : Links EndState) → is_name (name_of c.follow) l ≡ true → d ≡ left c → after ≡ without ends l → IsNode (node_of up port told mark d m after)
  leaves_node l d after named is gone = subst (λ z. IsNode (node_of up port told mark z m after)) (sym is) (subst (λ z. IsNode (node_of up port told mark (left c) m z)) (sym gone)
      (subst (λ z. IsNode (node_of up port told mark (record c { follow = z }) m (without ends l))) (dropped c.follow named) (closed_node (node_of up port told mark c m ends) l i)))
    where
      dropped : (f : Option (LinkId × FollowState)) → is_name (name_of f) l ≡ true → follow_without l f ≡ None
      dropped None h = refl
      dropped (Some f) h = ap (λ b. cond b None (Some f)) h

  -- .. of the link to the master
  pub promotes_node : (fresh : List ℕ) (told_now : Option AddressState) (mark_now : Option ℤ) (d : CourseState) (name : Option LinkId) (after : Links EndState) → d ≡ promoted fresh c → name ≡ name_of c.follow → after ≡ shut_one name ends
      → IsNode (node_of up port told_now mark_now d m after)
  promotes_node fresh told_now mark_now d name after is named gone = subst (λ z. IsNode (node_of up port told_now mark_now z m after)) (sym is)
      (subst (λ z. IsNode (node_of up port told_now mark_now (promoted fresh c) m z)) (sym (gone ∙ ap (λ n. shut_one n ends) named))
      (alone_node (node_of up port told mark c m ends) (node_of up port told_now mark_now (promoted fresh c) m ends).core i (λ q. refl)))

  pub turns_node : (told_now : Option AddressState) (d : CourseState) (name : Option LinkId) (after : Links EndState) → d ≡ left c → name ≡ name_of c.follow → after ≡ shut_one name ends → IsNode (node_of up port told_now mark d m after)
  turns_node told_now d name after is named gone = subst (λ z. IsNode (node_of up port told_now mark z m after)) (sym is)
      (subst (λ z. IsNode (node_of up port told_now mark (left c) m z)) (sym (gone ∙ ap (λ n. shut_one n ends) named))
      (alone_node (node_of up port told mark c m ends) (node_of up port told_now mark (left c) m ends).core i (λ q. q)))

-- ---- effects
whole : (n : ℕ) (xs : List ℕ) → length xs ≤ n → drop (length xs - n) xs ≡ xs
whole n xs few = ap (λ (k : ℕ). drop k xs) (let none : length xs - n ≡ 0 = omega (arith, few) in none)

-- a window behind no bytes
after_nothing : (w : Window) → IsWindow w → after_bytes w [] ≡ w
after_nothing w is =
    let held : last_of w.capacity (w.held ++ []) ≡ w.held = ap (λ xs. last_of w.capacity xs) (append-nil w.held) ∙ whole w.capacity w.held is.within in
    let offset : w.offset + 0 ≡ w.offset = omega arith in
    λ k. record { held = held k; capacity = w.capacity; offset = offset k }

-- where there are none, nothing changes
pub holds_nothing : (a : NodeState) (es : List Effect) → es ≡ [] → Holds a es a
holds_nothing a es none = record { held = a.core.held; applied = ap (λ (xs : List Effect). apply_all xs a.core.held) none; node = refl }

pub grows_nothing : (a : NodeState) (bytes : List ℕ) → IsWindow a.core.lineage.stream → bytes ≡ [] → a ≡ streams_on bytes a
grows_nothing a bytes w none =
    sym (ap (λ (z : List ℕ). streams_on z a) none ∙ ap (λ (s : Window). record a { core = record a.core { lineage = record a.core.lineage { stream = s } } }) (after_nothing a.core.lineage.stream w))

-- they are applied, and their texts put behind the stream
pub commits_of : (a b c : NodeState) (es : List Effect) (bytes : List ℕ) → Holds a es b → bytes ≡ texts es → c ≡ streams_on bytes b → Commits a es c
commits_of a b c es bytes h is grows = record {
  held = h.held;
  applied = h.applied;
  node = grows ∙ (ap (λ (z : List ℕ). streams_on z b) is ∙ ap (streams_on (texts es)) h.node);
}

pub none_there : (es : List Effect) → length es ≡ 0 → es ≡ []
none_there [] none = refl
none_there (e ∷ es) none = absurd (omega (arith, none))
