-- Links that are dialled, fed and asked about.
use Rattle.std.proofs.Common.{◌≡◌, ◌+◌, ◌<◌, ◌≤◌, ◌++◌, ◌∷◌, ◌⊎◌, inl, inr, ℕ, List, [], true, false, Option, None, Some, codes, length, refl, sym, ap, subst, ◌∙◌, arith, lit<}
use Rattle.std.specs.Prelude.{Result, Ok, Err, OnOk}
use Rattle.std.specs.Result.{is_err}
use Rattle.std.specs.Fmt.{decimal}
use Rattle.std.proofs.lemmas.Fmt.{decimal_digit}
use Rattle.mr_links.specs.declared.link_id.LinkId.{LinkId}
use Rattle.mr_resp.specs.Spelling.{line_end}
use Rattle.mr_effect.specs.Spelling.{words}
use Rattle.mr_follower.specs.Handshake.{ping_line}
use Rattle.mr_follower.specs.State.{FedIsUnread, FollowState, heard}
use Rattle.mr_replication.specs.State.{hears_more}
use Rattle.mr_node_links.specs.State.{EndState, Transaction, full, put_end, serves, unread_in}
use Rattle.mr_node_links.specs.State.EndState.{client, waiting, replica, shut, upstream}
use Rattle.mr_node_links.specs.Ending.{IsRoom, heard_of, kind_of}
use Rattle.mr_node_links.specs.declared.kind.Kind.TheVariants as kind
use Rattle.mr_node_output.specs.Outs.{OutsState, no_outs}
use Rattle.mr_node_spec.specs.State.{FollowedAt, IsNode, IsTooMuch, MasterAgrees, NodeState, end_of}
use Rattle.mr_node_spec.specs.LinkRows.{Dials, Feeds}
use Rattle.mr_node_spec.specs.UpstreamRows.{beat}
use Rattle.mr_node_state.specs.Parts.{dialled_as, fed_as, with_ends}
use Rattle.mr_node.specs.Calls.{FitsMore, IsClients}
use Rattle.mr_node.proofs.Ends.{one_end, one_open, one_replica, put_leaves, some_is}

-- ---- what is true where a call succeeds, once it has
pub went : {T E P : Type 0} (r : Result T E) (x : T) → r ≡ Ok x → OnOk r P → P
went (Ok y) x is p = p
went (Err y) x is p = cc

-- .. where it is told that it did
pub went_well : {T E P : Type 0} (r : Result T E) → is_err r ≡ false → OnOk r P → P
went_well (Ok y) is p = p
went_well (Err y) is p = cc

-- ---- the line that the handshake begins with, which is the text of a heartbeat too
abbrev pub ping : List ℕ
ping = 42 ∷ 49 ∷ 13 ∷ 10 ∷ 36 ∷ 52 ∷ 13 ∷ 10 ∷ 80 ∷ 73 ∷ 78 ∷ 71 ∷ 13 ∷ 10 ∷ []

-- its words are one, PING
pub ping_bytes : ping ≡ ping_line
ping_bytes =
    let one : decimal 1 ≡ 49 ∷ [] = decimal_digit 1 (lit< tt) in
    let four : decimal 4 ≡ 52 ∷ [] = decimal_digit 4 (lit< tt) in
    λ i. (42 ∷ (sym one i ++ line_end)) ++ (((36 ∷ (sym four i ++ line_end)) ++ (codes "PING" ++ line_end)) ++ [])

pub beat_is : ping_line ≡ beat
unfolding words
beat_is = refl

-- ---- the master is dialled
pub dials_row : (a m b : NodeState) (l : LinkId) (outs : OutsState) → m ≡ a → a.core.master ≡ false → a.follow ≡ None → end_of m l ≡ None → l.generation ≡ m.ends.opened → b ≡ dialled_as l m → outs ≡ record no_outs { link = Some l; reply = ping_line } → Dials a l b outs
dials_row a m b l outs same follows alone fresh generation node outs_are = subst (λ (z : NodeState). Dials z l b outs) same
    (record { replica = ap (λ (z : NodeState). z.core.master) same ∙ follows; alone = ap (λ (z : NodeState). z.follow) same ∙ alone; fresh = fresh; generation = generation; node = node; outs_are = outs_are })

-- ---- bytes come on a link
-- The end of a link that is followed is the master's
followed_at : (a : NodeState) (l : LinkId) (f : FollowState) → IsNode a → a.follow ≡ Some (l, f) → end_of a l ≡ Some upstream
followed_at a l f node at = subst (FollowedAt a.ends) at node.followed

followed_end : (a : NodeState) (l : LinkId) (u : List ℕ) → IsNode a → MasterAgrees a l u → end_of a l ≡ Some upstream
followed_end a l u node at = followed_at a l at.reader node at.found

-- .. of a client's
pub feeds_client : (a b : NodeState) (l : LinkId) (unread bytes : List ℕ) → IsNode a → end_of a l ≡ Some (client unread) → b ≡ with_ends a (put_end a.ends l (client (unread ++ bytes))) → Feeds a l bytes b
feeds_client a b l unread bytes node found is =
    let leaves = put_leaves a b l (client (unread ++ bytes)) is in
    record {
      at_client = λ u at. record { is = leaves.is ∙ ap (λ (z : List ℕ). Some (client (z ++ bytes))) (one_end a l unread u found at) };
      at_waiting = λ t u at. absurd (other_waiting t u (sym found ∙ at.is));
      at_replica = λ u at. absurd (other_replica u (sym found ∙ at.is));
      at_master = λ u at. absurd (other_upstream (sym found ∙ followed_end a l u node at));
      at_shut = λ at. absurd (other_shut (sym found ∙ at.is));
      others = leaves.others;
      core = ap (λ (z : NodeState). z.core) is;
      follow = λ other. ap (λ (z : NodeState). z.follow) is;
      heard = λ f at. absurd (other_upstream (sym found ∙ followed_at a l f node at));
    }
  where
    other_waiting : (t : Transaction) (u : List ℕ) → ◌≡◌ {A = Option EndState} (Some (client unread)) (Some (waiting t u)) → ⊥
    other_waiting t u e = cc

    other_replica : (u : List ℕ) → ◌≡◌ {A = Option EndState} (Some (client unread)) (Some (replica u)) → ⊥
    other_replica u e = cc

    other_upstream : ◌≡◌ {A = Option EndState} (Some (client unread)) (Some upstream) → ⊥
    other_upstream e = cc

    other_shut : ◌≡◌ {A = Option EndState} (Some (client unread)) (Some shut) → ⊥
    other_shut e = cc

-- .. where a transaction is open
pub feeds_waiting : (a b : NodeState) (l : LinkId) (t : Transaction) (unread bytes : List ℕ) → IsNode a → end_of a l ≡ Some (waiting t unread) → b ≡ with_ends a (put_end a.ends l (waiting t (unread ++ bytes))) → Feeds a l bytes b
feeds_waiting a b l t unread bytes node found is =
    let leaves = put_leaves a b l (waiting t (unread ++ bytes)) is in
    record {
      at_client = λ u at. absurd (other_client u (sym found ∙ at.is));
      at_waiting = λ s u at.
          let one = one_open a l t s unread u found at in
          record { is = leaves.is ∙ (ap (λ (z : List ℕ). Some (waiting t (z ++ bytes))) one.1 ∙ ap (λ (z : Transaction). Some (waiting z (u ++ bytes))) one.0) };
      at_replica = λ u at. absurd (other_replica u (sym found ∙ at.is));
      at_master = λ u at. absurd (other_upstream (sym found ∙ followed_end a l u node at));
      at_shut = λ at. absurd (other_shut (sym found ∙ at.is));
      others = leaves.others;
      core = ap (λ (z : NodeState). z.core) is;
      follow = λ other. ap (λ (z : NodeState). z.follow) is;
      heard = λ f at. absurd (other_upstream (sym found ∙ followed_at a l f node at));
    }
  where
    other_client : (u : List ℕ) → ◌≡◌ {A = Option EndState} (Some (waiting t unread)) (Some (client u)) → ⊥
    other_client u e = cc

    other_replica : (u : List ℕ) → ◌≡◌ {A = Option EndState} (Some (waiting t unread)) (Some (replica u)) → ⊥
    other_replica u e = cc

    other_upstream : ◌≡◌ {A = Option EndState} (Some (waiting t unread)) (Some upstream) → ⊥
    other_upstream e = cc

    other_shut : ◌≡◌ {A = Option EndState} (Some (waiting t unread)) (Some shut) → ⊥
    other_shut e = cc

-- .. of a replica's
pub feeds_replica : (a b : NodeState) (l : LinkId) (unread bytes : List ℕ) → IsNode a → end_of a l ≡ Some (replica unread) → b ≡ with_ends a (put_end a.ends l (replica (unread ++ bytes))) → Feeds a l bytes b
feeds_replica a b l unread bytes node found is =
    let leaves = put_leaves a b l (replica (unread ++ bytes)) is in
    record {
      at_client = λ u at. absurd (other_client u (sym found ∙ at.is));
      at_waiting = λ t u at. absurd (other_waiting t u (sym found ∙ at.is));
      at_replica = λ u at. record { is = leaves.is ∙ ap (λ (z : List ℕ). Some (replica (z ++ bytes))) (one_replica a l unread u found at) };
      at_master = λ u at. absurd (other_upstream (sym found ∙ followed_end a l u node at));
      at_shut = λ at. absurd (other_shut (sym found ∙ at.is));
      others = leaves.others;
      core = ap (λ (z : NodeState). z.core) is;
      follow = λ other. ap (λ (z : NodeState). z.follow) is;
      heard = λ f at. absurd (other_upstream (sym found ∙ followed_at a l f node at));
    }
  where
    other_waiting : (t : Transaction) (u : List ℕ) → ◌≡◌ {A = Option EndState} (Some (replica unread)) (Some (waiting t u)) → ⊥
    other_waiting t u e = cc

    other_client : (u : List ℕ) → ◌≡◌ {A = Option EndState} (Some (replica unread)) (Some (client u)) → ⊥
    other_client u e = cc

    other_upstream : ◌≡◌ {A = Option EndState} (Some (replica unread)) (Some upstream) → ⊥
    other_upstream e = cc

    other_shut : ◌≡◌ {A = Option EndState} (Some (replica unread)) (Some shut) → ⊥
    other_shut e = cc

-- .. of any of these
pub feeds_served : (a b : NodeState) (l : LinkId) (end : EndState) (bytes : List ℕ) → IsNode a → end_of a l ≡ Some end → serves end ≡ true → b ≡ with_ends a (put_end a.ends l (heard_of bytes end)) → Feeds a l bytes b
feeds_served a b l (client unread) bytes node found served is = feeds_client a b l unread bytes node found is
feeds_served a b l (waiting t unread) bytes node found served is = feeds_waiting a b l t unread bytes node found is
feeds_served a b l (replica unread) bytes node found served is = feeds_replica a b l unread bytes node found is
feeds_served a b l upstream bytes node found served is = absurd (no_true served)
  where
    no_true : false ≡ true → ⊥
    no_true e = cc
feeds_served a b l shut bytes node found served is = absurd (no_true served)
  where
    no_true : false ≡ true → ⊥
    no_true e = cc

-- .. of the one to the master
pub feeds_master : (a b : NodeState) (l : LinkId) (bytes : List ℕ) → IsNode a → FedIsUnread → end_of a l ≡ Some upstream → b ≡ fed_as bytes a → Feeds a l bytes b
feeds_master a b l bytes node fed found is = record {
  at_client = λ u at. absurd (other_client u (sym found ∙ at.is));
  at_waiting = λ t u at. absurd (other_waiting t u (sym found ∙ at.is));
  at_replica = λ u at. absurd (other_replica u (sym found ∙ at.is));
  at_master = λ u at. record { reader = heard at.reader bytes; found = ap (λ (z : NodeState). z.follow) is ∙ ap (hears_more bytes) at.found; agrees = fed at.reader u bytes at.agrees };
  at_shut = λ at. absurd (other_shut (sym found ∙ at.is));
  others = record { stay = λ x ne. ap (λ (z : NodeState). end_of z x) is; opened = ap (λ (z : NodeState). z.ends.opened) is };
  core = ap (λ (z : NodeState). z.core) is;
  follow = λ other. absurd (other (node.only l found));
  heard = λ f at. ap (λ (z : NodeState). z.follow) is ∙ ap (hears_more bytes) at;
}
  where
    other_waiting : (t : Transaction) (u : List ℕ) → ◌≡◌ {A = Option EndState} (Some upstream) (Some (waiting t u)) → ⊥
    other_waiting t u e = cc

    other_client : (u : List ℕ) → ◌≡◌ {A = Option EndState} (Some upstream) (Some (client u)) → ⊥
    other_client u e = cc

    other_replica : (u : List ℕ) → ◌≡◌ {A = Option EndState} (Some upstream) (Some (replica u)) → ⊥
    other_replica u e = cc

    other_shut : ◌≡◌ {A = Option EndState} (Some upstream) (Some shut) → ⊥
    other_shut e = cc

-- .. of one that the node closed: they are dropped
pub feeds_shut : (a b : NodeState) (l : LinkId) (bytes : List ℕ) → IsNode a → end_of a l ≡ Some shut → b ≡ a → Feeds a l bytes b
feeds_shut a b l bytes node found is = record {
  at_client = λ u at. absurd (other_client u (sym found ∙ at.is));
  at_waiting = λ t u at. absurd (other_waiting t u (sym found ∙ at.is));
  at_replica = λ u at. absurd (other_replica u (sym found ∙ at.is));
  at_master = λ u at. absurd (other_upstream (sym found ∙ followed_end a l u node at));
  at_shut = λ at. is;
  others = record { stay = λ x ne. ap (λ (z : NodeState). end_of z x) is; opened = ap (λ (z : NodeState). z.ends.opened) is };
  core = ap (λ (z : NodeState). z.core) is;
  follow = λ other. ap (λ (z : NodeState). z.follow) is;
  heard = λ f at. absurd (other_upstream (sym found ∙ followed_at a l f node at));
}
  where
    other_waiting : (t : Transaction) (u : List ℕ) → ◌≡◌ {A = Option EndState} (Some shut) (Some (waiting t u)) → ⊥
    other_waiting t u e = cc

    other_client : (u : List ℕ) → ◌≡◌ {A = Option EndState} (Some shut) (Some (client u)) → ⊥
    other_client u e = cc

    other_replica : (u : List ℕ) → ◌≡◌ {A = Option EndState} (Some shut) (Some (replica u)) → ⊥
    other_replica u e = cc

    other_upstream : ◌≡◌ {A = Option EndState} (Some shut) (Some upstream) → ⊥
    other_upstream e = cc

-- ---- the kind of an end
pub kind_serves : (end : EndState) → (kind_of end ≡ kind.Client) ⊎ (kind_of end ≡ kind.Replica) → serves end ≡ true
kind_serves (client unread) k = refl
kind_serves (waiting t unread) k = refl
kind_serves (replica unread) k = refl
kind_serves upstream (inl e) = absurd (no_client e)
  where
    no_client : kind.Upstream ≡ kind.Client → ⊥
    no_client e = cc
kind_serves upstream (inr e) = absurd (no_replica e)
  where
    no_replica : kind.Upstream ≡ kind.Replica → ⊥
    no_replica e = cc
kind_serves shut (inl e) = absurd (no_client e)
  where
    no_client : kind.Shut ≡ kind.Client → ⊥
    no_client e = cc
kind_serves shut (inr e) = absurd (no_replica e)
  where
    no_replica : kind.Shut ≡ kind.Replica → ⊥
    no_replica e = cc

pub kind_upstream : (end : EndState) → kind_of end ≡ kind.Upstream → end ≡ upstream
kind_upstream (client unread) k = cc
kind_upstream (waiting t unread) k = cc
kind_upstream (replica unread) k = cc
kind_upstream upstream k = refl
kind_upstream shut k = cc

pub kind_shut : (end : EndState) → kind_of end ≡ kind.Shut → end ≡ shut
kind_shut (client unread) k = cc
kind_shut (waiting t unread) k = cc
kind_shut (replica unread) k = cc
kind_shut upstream k = cc
kind_shut shut k = refl

-- more than there is room for is too much
over_room : (end : EndState) (room count : ℕ) → serves end ≡ true → IsRoom room end → room < count → full < length (unread_in end) + count
over_room (client unread) room count served is more = omega (arith, is, more)
over_room (waiting t unread) room count served is more = omega (arith, is, more)
over_room (replica unread) room count served is more = omega (arith, is, more)
over_room upstream room count served is more = absurd is
over_room shut room count served is more = absurd is

pub too_much : (a : NodeState) (l : LinkId) (end : EndState) (room count : ℕ) → a.core.up ≡ true → end_of a l ≡ Some end → serves end ≡ true → IsRoom room end → room < count → IsTooMuch a l count
too_much a l end room count up found served is more = record { up = up; end = end; found = found; served = served; over = over_room end room count served is more }

-- no more than there is room for isn't
fits_room : (end : EndState) (room count : ℕ) → IsRoom room end → count ≤ room → full < length (unread_in end) + count → ⊥
fits_room (client unread) room count is few over = omega (arith, is, few, over)
fits_room (waiting t unread) room count is few over = omega (arith, is, few, over)
fits_room (replica unread) room count is few over = omega (arith, is, few, over)
fits_room upstream room count is few over = absurd is
fits_room shut room count is few over = absurd is

pub fits_there : (a : NodeState) (l : LinkId) (end : EndState) (room count : ℕ) → end_of a l ≡ Some end → IsRoom room end → count ≤ room → FitsMore a l count
fits_there a l end room count found is few some much =
    fits_room end room count is few (subst (λ (e : EndState). full < length (unread_in e) + count) (some_is much.end end (sym much.found ∙ found)) much.over)

-- .. nor is anything for an end that the node doesn't serve
pub fits_unserved : (a : NodeState) (l : LinkId) (end : EndState) (count : ℕ) → end_of a l ≡ Some end → serves end ≡ false → FitsMore a l count
fits_unserved a l end count found unserved some much = no_true (sym unserved ∙ (ap serves (some_is end much.end (sym found ∙ much.found)) ∙ much.served))
  where
    no_true : false ≡ true → ⊥
    no_true e = cc

-- .. nor are no bytes
pub fits_none : (a : NodeState) (l : LinkId) (bytes : List ℕ) → bytes ≡ [] → FitsMore a l (length bytes)
fits_none a l bytes none some much = some (ap length none)

-- ---- a client's end
pub client_end : (a : NodeState) (l : LinkId) (end : EndState) → end_of a l ≡ Some end → kind_of end ≡ kind.Client → IsClients a l
client_end a l (client unread) found k = IsClients.alone unread (record { is = found })
client_end a l (waiting t unread) found k = IsClients.within t unread (record { is = found })
client_end a l (replica unread) found k = absurd (cc)
client_end a l upstream found k = absurd (cc)
client_end a l shut found k = absurd (cc)
