-- A change of roles, from what becomes of the ends.
use Rattle.std.proofs.Common.{◌≡◌, ◌≢◌, ◌<◌, ℕ, ℤ, List, Bool, true, false, cond, drop, Option, None, Some, refl, sym, ap, ◌∙◌}
use Rattle.std.specs.Ordering.{eq_by_cmp}
use Rattle.std.specs.FinMap.{get, get-insert}
use Rattle.mr_links.specs.LinkId.{id_cmp}
use Rattle.mr_links.specs.Links.{Links}
use Rattle.mr_links.specs.declared.link_id.LinkId.{LinkId}
use Rattle.mr_links.proofs.LinkRows.{ids_total}
use Rattle.mr_resp.specs.Replies.{reply_text}
use Rattle.mr_cmd_shared.specs.Answered.{done}
use Rattle.mr_cmd_node.specs.declared.node_ask.NodeAsk.TheVariants as node
use Rattle.mr_data.specs.declared.given.Given.{Given}
use Rattle.mr_repl.specs.Lineage.{renamed}
use Rattle.mr_follower.specs.State.{FollowState}
use Rattle.mr_replication.specs.State.{name_of}
use Rattle.mr_node_links.specs.State.{EndState, end_at, streams}
use Rattle.mr_node_links.specs.State.EndState.{client, waiting, replica, upstream, shut}
use Rattle.mr_node_links.specs.Parts.{TurnsAt}
use Rattle.mr_node_links.specs.Replicas.{Lists, ShutsReplicas, is_named, shut_where}
use Rattle.mr_node_links.proofs.Naming.{at_or_other}
use Rattle.mr_node_output.specs.Address.{AddressState}
use Rattle.mr_node_output.specs.Outs.{no_outs}
use Rattle.mr_node_spec.specs.State.{Core, NodeState, Agrees, FollowedAt, IsNode, end_of}
use Rattle.mr_node_spec.specs.Sound.{ports}
use Rattle.mr_node_spec.specs.Ends.{Leaves, Settles, names_of}
use Rattle.mr_node_spec.specs.ClientRows.{ClientRow, IsAnswerToPsync}
use Rattle.mr_node_state.specs.Parts.{Obeys, OnlyEnds, promoted_as, shut_one, turned_to, with_ends}
use Rattle.mr_node.specs.Parts.{Uses}
use Rattle.mr_node.specs.Reading.{Wishes}
use Rattle.mr_node.specs.Steps.{IsAt}
use Rattle.mr_node.proofs.Ends.{none_some, put_leaves, some_is}

no_true : false ≡ true → ⊥
no_true e = cc

-- ---- the end of the link to the master is closed
left_end : (name : Option LinkId) (m : Links EndState) (x : LinkId) → is_named (names_of name) x ≡ false → end_at (shut_one name m) x ≡ end_at m x
left_end None m x other = refl
left_end (Some g) m x other = get-insert ids_total m.open_links g shut x ∙ by_name (eq_by_cmp id_cmp x g) other
  where
    by_name : (b : Bool) → cond b true false ≡ false → cond b (Some shut) (get m.open_links x) ≡ get m.open_links x
    by_name true e = absurd (no_true (sym e))
    by_name false e = refl

closed_end : (name : Option LinkId) (m : Links EndState) (x : LinkId) → is_named (names_of name) x ≡ true → end_at (shut_one name m) x ≡ Some shut
closed_end None m x named = absurd (no_true named)
closed_end (Some g) m x named = get-insert ids_total m.open_links g shut x ∙ by_name (eq_by_cmp id_cmp x g) named
  where
    by_name : (b : Bool) → cond b true false ≡ true → cond b (Some shut) (get m.open_links x) ≡ Some shut
    by_name true e = refl
    by_name false e = absurd (no_true e)

other_name : (name : Option LinkId) (x : LinkId) → (name ≡ Some x → ⊥) → is_named (names_of name) x ≡ false
other_name None x other = refl
other_name (Some g) x other = at_or_other x g (λ b. cond b true false ≡ false) (λ same. absurd (other (ap Some (sym same)))) (λ ne. refl)

opened_as_before : (name : Option LinkId) (m : Links EndState) → (shut_one name m).opened ≡ m.opened
opened_as_before None m = refl
opened_as_before (Some g) m = refl

followed_end : (ends : Links EndState) (f : Option (LinkId × FollowState)) (x : LinkId) → FollowedAt ends f → name_of f ≡ Some x → end_at ends x ≡ Some upstream
followed_end ends None x at is = absurd (none_some x is)
followed_end ends (Some f) x at is = ap (end_at ends) (sym (some_is f.0 x is)) ∙ at

-- a client's end is none that is followed
not_followed : (a : NodeState) (l : LinkId) (u : List ℕ) → IsNode a → Agrees a l u → name_of a.follow ≡ Some l → ⊥
not_followed a l u is_node at is = no_client (sym at.is ∙ followed_end a.ends a.follow l is_node.followed is)
  where
    no_client : ◌≡◌ {A = Option EndState} (Some (client u)) (Some upstream) → ⊥
    no_client e = cc

settles_alone : (a mid b : NodeState) (l : LinkId) (u rest : List ℕ) → IsNode a → Agrees a l u → Leaves a l mid (client rest) → b.ends ≡ shut_one (name_of mid.follow) mid.ends
    → Settles a l b (client rest) (names_of (name_of a.follow))
settles_alone a mid b l u rest is_node at leaves is =
    let ends : b.ends ≡ shut_one (name_of a.follow) mid.ends = is ∙ ap (λ (f : Option (LinkId × FollowState)). shut_one (name_of f) mid.ends) leaves.follow in
    record {
      is = ap (λ z. end_at z l) ends ∙ (left_end (name_of a.follow) mid.ends l (other_name (name_of a.follow) l (not_followed a l u is_node at)) ∙ leaves.is);
      shuts = λ x named. ap (λ z. end_at z x) ends ∙ closed_end (name_of a.follow) mid.ends x named;
      others = λ x ne named. ap (λ z. end_at z x) ends ∙ (left_end (name_of a.follow) mid.ends x named ∙ leaves.others.stay x ne);
      opened = ap (λ (z : Links EndState). z.opened) ends ∙ (opened_as_before (name_of a.follow) mid.ends ∙ leaves.others.opened);
    }

pub promote_row : (a mid b : NodeState) (l : LinkId) (u : List ℕ) (given : Given) (fresh : List ℕ) (used : ℕ) → IsAt a l u → a.core.master ≡ false → Wishes u used node.NoOne → Uses a l used mid → b ≡ promoted_as fresh mid
    → ClientRow a l u given fresh b (record no_outs { link = Some l; reply = reply_text done; closed = names_of (name_of a.follow); used = Some fresh })
promote_row a mid b l u given fresh used at follows w uses is =
    let leaves = uses.leaves (client u) at.agrees.is in
    ClientRow.promotes (record {
      up = at.up;
      replica = follows;
      words = w.words;
      rest = drop used u;
      asks = w.reads.asks;
      wish = w.asks;
      core = ap (λ (z : NodeState). z.core) is ∙ ap (λ (c : Core). record c { master = true; offers = true; upstream = None; mark = None; lineage = renamed fresh c.lineage }) uses.core;
      follow = ap (λ (z : NodeState). z.follow) is;
      ends = settles_alone a mid b l u (drop used u) uses.is_node at.agrees leaves (ap (λ (z : NodeState). z.ends) is);
      outs_are = refl;
    })

pub turn_row : (a mid b : NodeState) (l : LinkId) (u : List ℕ) (given : Given) (fresh : List ℕ) (used : ℕ) (address : AddressState) → IsAt a l u → a.core.master ≡ false → address.port < ports → a.core.upstream ≢ Some address
    → Wishes u used (node.ReplicaOf address.host address.port) → Uses a l used mid → b ≡ turned_to address mid
    → ClientRow a l u given fresh b (record no_outs { link = Some l; reply = reply_text done; closed = names_of (name_of a.follow); follows = Some address })
turn_row a mid b l u given fresh used address at follows port another w uses is =
    let leaves = uses.leaves (client u) at.agrees.is in
    ClientRow.turns (record {
      up = at.up;
      replica = follows;
      words = w.words;
      rest = drop used u;
      asks = w.reads.asks;
      address = address;
      wish = w.asks;
      port = port;
      another = another;
      core = ap (λ (z : NodeState). z.core) is ∙ ap (λ (c : Core). record c { upstream = Some address }) uses.core;
      follow = ap (λ (z : NodeState). z.follow) is;
      ends = settles_alone a mid b l u (drop used u) uses.is_node at.agrees leaves (ap (λ (z : NodeState). z.ends) is);
      outs_are = refl;
    })

-- ---- all replicas' ends are closed
quiet_stays : (o : Option EndState) → streams o ≡ false → shut_where (streams o) o ≡ o
quiet_stays None e = refl
quiet_stays (Some (client u)) e = refl
quiet_stays (Some (waiting t u)) e = refl
quiet_stays (Some (replica u)) e = absurd (no_false e)
  where
    no_false : true ≡ false → ⊥
    no_false e = cc
quiet_stays (Some upstream) e = refl
quiet_stays (Some shut) e = refl

streaming_is_shut : (o : Option EndState) → streams o ≡ true → shut_where (streams o) o ≡ Some shut
streaming_is_shut None e = absurd (no_true e)
streaming_is_shut (Some (client u)) e = absurd (no_true e)
streaming_is_shut (Some (waiting t u)) e = absurd (no_true e)
streaming_is_shut (Some (replica u)) e = refl
streaming_is_shut (Some upstream) e = absurd (no_true e)
streaming_is_shut (Some shut) e = absurd (no_true e)

settles_obeying : (a mid b : NodeState) (l : LinkId) (u rest : List ℕ) (names : List LinkId) → Agrees a l u → Leaves a l mid (client rest) → ShutsReplicas mid.ends b.ends → Lists names a.ends.open_links
    → Settles a l b (client rest) names
settles_obeying a mid b l u rest names at leaves shuts listed = record {
  is = shuts.each l ∙ (ap (λ o. shut_where (streams o) o) leaves.is);
  shuts = λ x named.
      let goes : streams (end_of a x) ≡ true = sym (listed.each x) ∙ named in
      let other : x ≢ l = λ is. no_true (sym (ap streams (ap (end_of a) is ∙ at.is)) ∙ goes) in
      shuts.each x ∙ (ap (λ o. shut_where (streams o) o) (leaves.others.stay x other) ∙ streaming_is_shut (end_of a x) goes);
  others = λ x ne named.
      shuts.each x ∙ (ap (λ o. shut_where (streams o) o) (leaves.others.stay x ne) ∙ quiet_stays (end_of a x) (sym (listed.each x) ∙ named));
  opened = shuts.opened ∙ leaves.others.opened;
}

pub demote_row : (a mid b : NodeState) (l : LinkId) (u : List ℕ) (given : Given) (fresh : List ℕ) (used : ℕ) (address : AddressState) (names : List LinkId) → IsAt a l u → a.core.master ≡ true → address.port < ports
    → Wishes u used (node.ReplicaOf address.host address.port) → Uses a l used mid → Obeys mid address b → Lists names a.ends.open_links
    → ClientRow a l u given fresh b (record no_outs { link = Some l; reply = reply_text done; closed = names; follows = Some address })
demote_row a mid b l u given fresh used address names at master port w uses obeys listed =
    let leaves = uses.leaves (client u) at.agrees.is in
    ClientRow.demotes (record {
      up = at.up;
      master = master;
      words = w.words;
      rest = drop used u;
      asks = w.reads.asks;
      address = address;
      wish = w.asks;
      port = port;
      core = obeys.core ∙ ap (λ (c : Core). record c { master = false; offers = true; upstream = Some address; mark = None }) uses.core;
      follow = obeys.follow ∙ (leaves.follow ∙ uses.is_node.nobody master);
      closed = listed;
      ends = settles_obeying a mid b l u (drop used u) names at.agrees leaves obeys.shuts listed;
      outs_are = refl;
    })

-- ---- a client's end becomes a replica's
pub synchronize_row : (a b : NodeState) (l : LinkId) (u : List ℕ) (given : Given) (fresh : List ℕ) (used : ℕ) (id : List ℕ) (wanted : ℤ) (text : List ℕ) → IsAt a l u → a.core.master ≡ true → Wishes u used (node.Psync id wanted)
    → IsAnswerToPsync a.core.lineage a.core.held id wanted text → TurnsAt a.ends l used b.ends → OnlyEnds a b
    → ClientRow a l u given fresh b (record no_outs { link = Some l; reply = text })
synchronize_row a b l u given fresh used id wanted text at master w answer turns only =
    ClientRow.synchronizes (record {
      up = at.up;
      master = master;
      words = w.words;
      rest = drop used u;
      asks = w.reads.asks;
      id = id;
      wanted = wanted;
      wish = w.asks;
      text = text;
      answer = answer;
      core = ap (λ (z : NodeState). z.core) only;
      leaves = put_leaves a b l (replica (drop used u)) (only ∙ ap (with_ends a) (turns u at.agrees.is));
      outs_are = refl;
    })
