-- What goes over a link that a node serves, in order: one link, from one moment to the next.
use Rattle.std.proofs.Common.{zero, suc, ◌≡◌, ◌≢◌, ◌⊎◌, inl, inr, ◌+◌, ◌-◌, ◌≤◌, ◌==◌, ◌&&◌, ◌||◌, ℕ, List, [], ◌∷◌, ◌++◌, Bool, true, false, Option, None, Some, length, length-append, map, take, drop, refl, sym, ap, subst, ◌∙◌, append-nil, append_assoc, arith}
use Rattle.std.specs.Prelude.{slice_get, slice_set}
use Rattle.std.specs.Option.{option_map}
use Rattle.std.proofs.Math.Seq.{take-add}
use Rattle.std.proofs.lemmas.List.{take-append-drop}
use Rattle.std.proofs.lemmas.Option.{slice_get-map}
use Rattle.mr_links.specs.declared.link_id.LinkId.{LinkId}
use Rattle.mr_node_links.specs.State.{EndState, Transaction, streams}
use Rattle.mr_node_links.specs.State.EndState.{client, waiting, replica, upstream, shut}
use Rattle.mr_node_links.specs.Replicas.{is_named}
use Rattle.mr_node_output.specs.Outs.{OutsState}
use Rattle.mr_node_spec.specs.State.{NodeState, end_of}
use Rattle.mr_node_spec.specs.Growing.{FedTo}
use Rattle.mr_follower.specs.State.{FollowState}
use Rattle.law_refinement.specs.Way.{WayState, IsWay, sent_on, unread}
use Rattle.law_refinement.specs.State.{Link, Slot, WorldState}
use Rattle.law_refinement.specs.Worlds.{IsWorld, end_for}
use Rattle.law_refinement.specs.Carrying.{fed_if, heard_as, is_at, reached, said_by, said_on, settled, shut_if, told, unread_count}
use Rattle.law_refinement.proofs.Places.{push_old, set_here, set_there, some_is}
use Rattle.law_refinement.proofs.Unread.{left_used, take_front}
use Rattle.law_refinement.proofs.Others.{served_end, streams_for}
use Rattle.mr_world.specs.Talking.{Turn, all_said, all_used, used_at}

said_join : (xs ys : List Turn) → all_said (xs ++ ys) ≡ all_said xs ++ all_said ys
said_join [] ys = refl
said_join (x ∷ xs) ys = ap (λ z. x.said ++ z) (said_join xs ys) ∙ sym (append_assoc x.said (all_said xs) (all_said ys))

used_join : (xs ys : List Turn) → all_used (xs ++ ys) ≡ all_used xs ++ all_used ys
used_join [] ys = refl
used_join (x ∷ xs) ys = ap (λ z. x.used ++ z) (used_join xs ys) ∙ sym (append_assoc x.used (all_used xs) (all_used ys))

-- ---- one link
-- Its server's end is open, or may still be opened.
abbrev pub MayServe : Link → Type 0
MayServe k = (k.serving || k.waits) ≡ true

pub record Goes (k m : Link) (ts : List Turn) : Type 0 where
  pub plain : m.streams ≡ false → k.streams ≡ false
  pub said : m.streams ≡ false → m.tell.sent ≡ k.tell.sent ++ all_said ts
  pub serves : MayServe m → MayServe k
  pub used : m.streams ≡ false → MayServe m → take m.ask.used m.ask.sent ≡ take k.ask.used k.ask.sent ++ all_used ts

pub join : (k m p : Link) (xs ys : List Turn) → Goes k m xs → Goes m p ys → Goes k p (xs ++ ys)
join k m p xs ys g h = record {
  plain = λ e. g.plain (h.plain e);
  said = λ e. h.said e ∙ (ap (λ z. z ++ all_said ys) (g.said (h.plain e)) ∙ (append_assoc k.tell.sent (all_said xs) (all_said ys) ∙ ap (λ z. k.tell.sent ++ z) (sym (said_join xs ys))));
  serves = λ q. g.serves (h.serves q);
  used = λ e q. h.used e q ∙ (ap (λ z. z ++ all_used ys) (g.used (h.plain e) (h.serves q))
      ∙ (append_assoc (take k.ask.used k.ask.sent) (all_used xs) (all_used ys) ∙ ap (λ z. take k.ask.used k.ask.sent ++ z) (sym (used_join xs ys))));
}

-- it is what it was, but for what is no turn
pub goes_as : (k m : Link) → m.streams ≡ k.streams → (m.streams ≡ false → m.tell.sent ≡ k.tell.sent) → (MayServe m → MayServe k) → take m.ask.used m.ask.sent ≡ take k.ask.used k.ask.sent → Goes k m []
goes_as k m same said serves used = record {
  plain = λ e. sym same ∙ e;
  said = λ e. said e ∙ sym (append-nil k.tell.sent);
  serves = serves;
  used = λ e q. used ∙ sym (append-nil (take k.ask.used k.ask.sent));
}

pub stays : (k : Link) → Goes k k []
stays k = goes_as k k refl (λ e. refl) (λ q. q) refl

-- more was sent to the server
pub asked_more : (k : Link) (bytes : List ℕ) → IsWay k.ask → Goes k (record k { ask = sent_on bytes k.ask }) []
asked_more k bytes way = goes_as k (record k { ask = sent_on bytes k.ask }) refl (λ e. refl) (λ q. q) (take_front k.ask.used k.ask.sent bytes (omega (arith, way.used_within, way.taken_within)))

pub heard_more : (k : Link) (o : Option (LinkId × FollowState)) (reply : List ℕ) → IsWay k.ask → Goes k (heard_as o reply k) []
heard_more k None reply way = stays k
heard_more k (Some f) reply way =
    goes_as k (heard_as (Some f) reply k) refl (λ e. refl) (λ q. q) (take_front k.ask.used k.ask.sent reply (omega (arith, way.used_within, way.taken_within)))

not_true : {P : Type 0} → ◌≡◌ {A = Bool} false true → P
not_true e = absurd (cc)

both : {P : Type 0} (b : Bool) → b ≡ true → b ≡ false → P
both b p q = absurd (cc)

-- .. since it is open, or since the link waits
pub may_serve : (k : Link) → k.serving ≡ true → MayServe k
may_serve k q = ap (λ b. b || k.waits) q

still_may : (b c : Bool) → c ≡ true → b || c ≡ true
still_may true c q = refl
still_may false c q = q

pub may_still : (k : Link) → k.waits ≡ true → MayServe k
may_still k q = still_may k.serving k.waits q

pub shuts : (c : Bool) (k : Link) → Goes k (shut_if c k) []
shuts true k = goes_as k (shut_if true k) refl (λ e. refl) (still_may k.serving k.waits) refl
shuts false k = stays k

-- what goes to replicas reaches only links on which PSYNC was answered
reaches : (c d : Bool) (bytes : List ℕ) (k : Link) → (d ≡ true → k.streams ≡ true) → Goes k (shut_if c (fed_if d bytes k)) []
reaches c false bytes k h = shuts c k
reaches true true bytes k h = goes_as k (shut_if true (fed_if true bytes k)) refl (λ e. both k.streams (h refl) e) (still_may k.serving k.waits) refl
reaches false true bytes k h = goes_as k (shut_if false (fed_if true bytes k)) refl (λ e. both k.streams (h refl) e) (λ q. q) refl

-- ---- a step's own link
-- where the rest is left, the text in front of it is used
front_is : (u text rest : List ℕ) → u ≡ text ++ rest → take (length u - length rest) u ≡ text
front_is u text rest e =
    let size : length u ≡ length text + length rest = ap length e ∙ length-append text rest in
    let count : length u - length rest ≡ length text = omega (arith, size) in
    ap (λ z. take z u) count ∙ (ap (take (length text)) e ∙ front text rest)
  where
    front : (a b : List ℕ) → take (length a) (a ++ b) ≡ a
    front [] b = refl
    front (x ∷ a) b = ap (λ z. x ∷ z) (front a b)

pub used_front : (w : WayState) (text rest : List ℕ) → IsWay w → unread w ≡ text ++ rest → take (w.taken - length rest) w.sent ≡ take w.used w.sent ++ take (length (unread w) - length rest) (unread w)
used_front w text rest way e =
    let place : w.taken - length rest ≡ w.used + length text = ap (λ (z : WayState). z.used) (left_used w text rest (length rest) way e refl) in
    let size : length (unread w) ≡ length text + length rest = ap length e ∙ length-append text rest in
    let all = drop w.used w.sent in
    let count = w.taken - w.used in
    let there : take (length text) all ≡ take (length text) (unread w) =
    ap (take (length text)) (sym (take-append-drop count all)) ∙ take_front (length text) (unread w) (drop count all) (omega (arith, size)) in
    let less : length text ≡ length (unread w) - length rest = omega (arith, size) in
    ap (λ z. take z w.sent) place ∙ (take-add w.used (length text) w.sent ∙ ap (λ z. take w.used w.sent ++ z) (there ∙ ap (λ z. take z (unread w)) less))

pub open_front : (u text rest : List ℕ) (o : Option EndState) (streams : Bool) (held : Option Transaction) → o ≡ Some (end_for streams held rest) → u ≡ text ++ rest → used_at o u ≡ text
open_front u text rest o true held is e = ap (λ z. used_at z u) is ∙ front_is u text rest e
open_front u text rest o false None is e = ap (λ z. used_at z u) is ∙ front_is u text rest e
open_front u text rest o false (Some t) is e = ap (λ z. used_at z u) is ∙ front_is u text rest e

abbrev pub Left : Option EndState → List ℕ → Type 0
Left o u = (streams : Bool) (held : Option Transaction) (v : List ℕ) → o ≡ Some (end_for streams held v) → (text : List ℕ) × (u ≡ text ++ v)

one_said : (xs ys : List ℕ) → xs ++ ys ≡ xs ++ (ys ++ [])
one_said xs ys = ap (λ z. xs ++ z) (sym (append-nil ys))

pub own : (o : Option EndState) (k : Link) (reply : List ℕ) → IsWay k.ask → k.serving ≡ true → (k.waits ≡ true → ⊥) → ((settled o (told reply k)).streams ≡ false → k.streams ≡ false) → Left o (unread k.ask)
    → Goes k (settled o (told reply k)) (record { used = used_at o (unread k.ask); said = reply } ∷ [])
own None k reply way serving served plain left = record { plain = plain; said = λ e. one_said k.tell.sent reply; serves = λ q. may_serve k serving; used = λ e q. absurd (served q) }
own (Some (client u)) k reply way serving served plain left = let t = left false None u refl in record {
  plain = plain;
  said = λ e. one_said k.tell.sent reply;
  serves = λ q. may_serve k serving;
  used = λ e q. used_front k.ask t.0 u way t.1 ∙ one_said (take k.ask.used k.ask.sent) (used_at (Some (client u)) (unread k.ask));
}
own (Some (waiting h u)) k reply way serving served plain left = let t = left false (Some h) u refl in record {
  plain = plain;
  said = λ e. one_said k.tell.sent reply;
  serves = λ q. may_serve k serving;
  used = λ e q. used_front k.ask t.0 u way t.1 ∙ one_said (take k.ask.used k.ask.sent) (used_at (Some (waiting h u)) (unread k.ask));
}
own (Some (replica u)) k reply way serving served plain left = let t = left true None u refl in record {
  plain = plain;
  said = λ e. one_said k.tell.sent reply;
  serves = λ q. may_serve k serving;
  used = λ e q. used_front k.ask t.0 u way t.1 ∙ one_said (take k.ask.used k.ask.sent) (used_at (Some (replica u)) (unread k.ask));
}
own (Some upstream) k reply way serving served plain left = record { plain = plain; said = λ e. one_said k.tell.sent reply; serves = λ q. may_serve k serving; used = λ e q. absurd (served q) }
own (Some shut) k reply way serving served plain left = record { plain = plain; said = λ e. one_said k.tell.sent reply; serves = λ q. may_serve k serving; used = λ e q. absurd (served q) }

-- ---- the link at a place among all
pub record There (links : List Link) (l : ℕ) (k : Link) (ts : List Turn) : Type 0 where
  pub link : Link
  pub found : slice_get links l ≡ Some link
  pub goes : Goes k link ts

pub as_it_was : (links : List Link) (l : ℕ) (k : Link) → slice_get links l ≡ Some k → There links l k []
as_it_was links l k e = record { link = k; found = e; goes = stays k }

pub one_changed : (links : List Link) (i l : ℕ) (y x k : Link) → slice_get links i ≡ Some y → slice_get links l ≡ Some k → Goes y x [] → There (slice_set links i x) l k []
one_changed [] i l y x k a e g = absurd (cc)
one_changed (z ∷ links) zero zero y x k a e g = let same : y ≡ k = cc in record { link = x; found = refl; goes = subst (λ q. Goes q x []) same g }
one_changed (z ∷ links) zero (suc l) y x k a e g = record { link = k; found = e; goes = stays k }
one_changed (z ∷ links) (suc i) zero y x k a e g = record { link = k; found = e; goes = stays k }
one_changed (z ∷ links) (suc i) (suc l) y x k a e g = let r = one_changed links i l y x k a e g in record { link = r.link; found = r.found; goes = r.goes }

pub all_changed : (f : Link → Link) (links : List Link) (l : ℕ) (k : Link) → slice_get links l ≡ Some k → Goes k (f k) [] → There (map f links) l k []
all_changed f links l k e g = record { link = f k; found = slice_get-map f links l ∙ ap (option_map f) e; goes = g }

pub one_more : (links : List Link) (x : Link) (l : ℕ) (k : Link) → slice_get links l ≡ Some k → There (links ++ x ∷ []) l k []
one_more links x l k e = record { link = k; found = push_old links x l k e; goes = stays k }

-- ---- what a node gives out reaches its other links
three : (a c d : Bool) → ((a && c) && d) ≡ true → (a ≡ true) × (c ≡ true) × (d ≡ true)
three true true true e = (refl, refl, refl)
three true true false e = absurd (cc)
three true false d e = absurd (cc)
three false c d e = absurd (cc)

same_number : (m n : ℕ) → (m == n) ≡ true → m ≡ n
same_number m n e = grind arith

-- what the stream grew by is sent to replicas alone
abbrev pub OnlyReplicas : NodeState → List LinkId → Type 0
OnlyReplicas a fed = (x : LinkId) → is_named fed x ≡ true → streams (end_of a x) ≡ true

pub to_nobody : (a : NodeState) (fed : List LinkId) → fed ≡ [] → OnlyReplicas a fed
to_nobody a fed none x e = not_true (ap (λ z. is_named z x) (sym none) ∙ e)

pub to_replicas : (bytes : List ℕ) (a : NodeState) (fed : List LinkId) → FedTo bytes a fed → OnlyReplicas a fed
to_replicas [] a fed none = to_nobody a fed none
to_replicas (b ∷ bytes) a fed lists = λ x e. sym (lists.each x) ∙ e

module _ (w : WorldState) (is : IsWorld w) (n : ℕ) (s : Slot) (at : slice_get w.slots n ≡ Some s) (up : s.node.core.up ≡ true) (outs : OutsState) (only : OnlyReplicas s.node outs.fed) where
  pub reached_goes : (l : ℕ) (k : Link) → slice_get w.links l ≡ Some k → Goes k (reached n outs k) []
  reached_goes l k found = reaches (is_at n k && is_named outs.closed k.name) (is_at n k && is_named outs.fed k.name) outs.grown k (λ e.
      let p = three (k.to == n) k.serving (is_named outs.fed k.name) e in
      let end = served_end w is n s at up l k found (same_number k.to n p.0) p.1 in
      sym (streams_for k.streams end.0 (unread k.ask)) ∙ (ap streams (sym end.1) ∙ only k.name p.2))

  pub reached_there : (l : ℕ) (k : Link) → slice_get w.links l ≡ Some k → There (map (reached n outs) w.links) l k []
  reached_there l k found = all_changed (reached n outs) w.links l k found (reached_goes l k found)

  -- .. and what it says to its master goes on the link that it dialled
  reached_ask : (c d : Bool) (bytes : List ℕ) (k : Link) → (shut_if c (fed_if d bytes k)).ask ≡ k.ask
  reached_ask true true bytes k = refl
  reached_ask true false bytes k = refl
  reached_ask false true bytes k = refl
  reached_ask false false bytes k = refl

  back : (o : Option Link) (x : Link) → option_map (reached n outs) o ≡ Some x → (y : Link) × (o ≡ Some y) × (reached n outs y ≡ x)
  back None x e = absurd (cc)
  back (Some y) x e = (y, refl, some_is (reached n outs y) x e)

  way_there : (j : ℕ) (x : Link) → slice_get (map (reached n outs) w.links) j ≡ Some x → IsWay x.ask
  way_there j x e =
      let p = back (slice_get w.links j) x (sym (slice_get-map (reached n outs) w.links j) ∙ e) in
      subst (λ (z : Link). IsWay z.ask) p.2 (subst IsWay (sym (reached_ask (is_at n p.0 && is_named outs.closed p.0.name) (is_at n p.0 && is_named outs.fed p.0.name) outs.grown p.0)) (is.asks j p.0 p.1))

  pub said_there : (link : Option LinkId) (d : ℕ) (reply : List ℕ) (l : ℕ) (k : Link) → slice_get w.links l ≡ Some k → There (said_on link d reply (map (reached n outs) w.links)) l k []
  said_there None d reply l k found = reached_there l k found
  said_there (Some name) d reply l k found = go (slice_get (map (reached n outs) w.links) d) refl
    where
      go : (o : Option Link) → slice_get (map (reached n outs) w.links) d ≡ o → There (said_by o d reply (map (reached n outs) w.links)) l k []
      go None e = reached_there l k found
      go (Some x) e =
          let r = reached_there l k found in
          let q = one_changed (map (reached n outs) w.links) d l x (record x { ask = sent_on reply x.ask }) r.link e r.found (asked_more x reply (way_there d x e)) in
          record { link = q.link; found = q.found; goes = join k r.link q.link [] [] r.goes q.goes }
