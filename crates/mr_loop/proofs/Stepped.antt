-- What a step leaves: of other links what was there, and of its own link nothing whole, or less.
use Rattle.std.proofs.Common.{◌≡◌, ◌≢◌, ℕ, List, true, false, cond, Option, None, Some, Result, Ok, refl, sym, ap, subst, ◌∙◌}
use Rattle.std.specs.Ordering.{eq_by_cmp}
use Rattle.std.specs.FinMap.{get, insert, get-insert}
use Rattle.mr_links.specs.LinkId.{id_cmp}
use Rattle.mr_links.specs.Links.{Links}
use Rattle.mr_links.specs.declared.link_id.LinkId.{LinkId}
use Rattle.mr_links.proofs.LinkRows.{ids_total}
use Rattle.mr_data.specs.declared.given.Given.{Given}
use Rattle.mr_keyspace.specs.Dataset.{Dataset}
use Rattle.mr_replication.specs.State.{CourseState, name_of}
use Rattle.mr_replication.specs.Rows.{Listens, UpstreamRow}
use Rattle.mr_replication.specs.declared.upstream.UpstreamStep.{UpstreamStep}
use Rattle.mr_replication.specs.declared.upstream.UpstreamStep.TheVariants as outcome
use Rattle.mr_node_links.specs.State.{EndState, Transaction}
use Rattle.mr_node_links.specs.State.EndState.{client, waiting, replica, shut, upstream}
use Rattle.mr_node_links.specs.Replicas.{is_named}
use Rattle.mr_follower.specs.State.{FollowState, Agrees as FollowAgrees}
use Rattle.mr_node_output.specs.Outs.{OutsState}
use Rattle.mr_follower.specs.Rows as follow
use Rattle.mr_node_spec.specs.State.{FollowedAt, IsNode, NodeState, Agrees, AgreesWithin, IsShut, MasterAgrees, ReplicaAgrees, course_of, end_of}
use Rattle.mr_node_spec.specs.Ends.{Leaves, Settles}
use Rattle.mr_node_spec.specs.Requests.{Waits}
use Rattle.mr_node_spec.specs.ClientRows.{ClientRow, serves, closes, halts, synchronizes, promotes, turns, demotes, begins}
use Rattle.mr_node_spec.specs.Transactions.{WithinRow}
use Rattle.mr_node_spec.specs.ReplicaRows.{ReplicaRow, notes, parts}
use Rattle.mr_node_spec.specs.UpstreamRows as master
use Rattle.mr_node.specs.Calls.{Agreeing}
use Rattle.mr_node.specs.Calls.Agreeing.{client as of_client, waiting as of_waiting, replica as of_replica, master as of_master, shut as of_shut}
use Rattle.mr_node.specs.Steps.{Steps}
use Rattle.mr_node.specs.declared.fault.NodeFault.{NodeFault}
use Rattle.mr_node.specs.declared.step.Step.{Step}
use Rattle.mr_node.specs.declared.step.Step.TheVariants as step
use Rattle.mr_loop.specs.Causes.{Stepped}
use Rattle.mr_loop.specs.Quiet.{AllWait, Awaits, IsStill, OthersWait}
use Rattle.mr_loop.proofs.Waiting.{all_is, all_of, is_one, none_some, others_stay, some_is, still_none, still_shut}

-- ---- a client's end

leaves_others : (a b : NodeState) (l : LinkId) (e : EndState) → Leaves a l b e → OthersWait a l → OthersWait b l
leaves_others a b l e h q = others_stay h.others h.follow q

followed_none : (b : NodeState) (x : LinkId) → b.follow ≡ None → (f : FollowState) → b.follow ≡ Some (x, f) → ⊥
followed_none b x none f e = none_some (x, f) (sym none ∙ e)

-- an end that is one of the closed, or as it was
settled_still : (a b : NodeState) (l : LinkId) (e : EndState) (closed : List LinkId) → Settles a l b e closed → b.follow ≡ None → (x : LinkId) → x ≢ l → IsStill a x → IsStill b x
settled_still a b l e closed h none x ne s = elim (is_named closed x) as (λ v. is_named closed x ≡ v → IsStill b x) [
  | true ↦ λ named. still_shut b x (h.shuts x named) (followed_none b x none)
  | false ↦ λ other. ends_only (h.others x ne other)
] refl where
  ends_only : end_of b x ≡ end_of a x → IsStill b x
  ends_only same = record {
    at_client = λ u ag. s.at_client u (record { is = sym same ∙ ag.is });
    at_waiting = λ t u ag. s.at_waiting t u (record { is = sym same ∙ ag.is });
    at_replica = λ u ag. s.at_replica u (record { is = sym same ∙ ag.is });
    at_master = λ f e. absurd (followed_none b x none f e);
  }

settled_others : (a b : NodeState) (l : LinkId) (e : EndState) (closed : List LinkId) → Settles a l b e closed → b.follow ≡ None → OthersWait a l → OthersWait b l
settled_others a b l e closed h none q = record { each = λ x ne. settled_still a b l e closed h none x ne (q.each x ne) }

client_others : (a b : NodeState) (l : LinkId) (u : List ℕ) (given : Given) (fresh : List ℕ) (outs : OutsState) → ClientRow a l u given fresh b outs → OthersWait a l → OthersWait b l
client_others a b l u given fresh outs (serves s) q = leaves_others a b l _ s.leaves q
client_others a b l u given fresh outs (closes s) q = others_stay s.others s.follow q
client_others a b l u given fresh outs (halts s) q = leaves_others a b l _ s.leaves q
client_others a b l u given fresh outs (synchronizes s) q = leaves_others a b l _ s.leaves q
client_others a b l u given fresh outs (promotes s) q = settled_others a b l _ _ s.ends s.follow q
client_others a b l u given fresh outs (turns s) q = settled_others a b l _ _ s.ends s.follow q
client_others a b l u given fresh outs (demotes s) q = settled_others a b l _ _ s.ends s.follow q
client_others a b l u given fresh outs (begins s) q = leaves_others a b l _ s.leaves q

-- .. where a transaction is open
within_others : (a b : NodeState) (l : LinkId) (t : Transaction) (u : List ℕ) (given : Given) (outs : OutsState) → WithinRow a l t u given b outs → OthersWait a l → OthersWait b l
within_others a b l t u given outs (WithinRow.stands s) q = leaves_others a b l _ s.leaves q
within_others a b l t u given outs (WithinRow.passes s) q = leaves_others a b l _ s.leaves q
within_others a b l t u given outs (WithinRow.drops s) q = leaves_others a b l _ s.leaves q
within_others a b l t u given outs (WithinRow.executes s) q = leaves_others a b l _ s.leaves q
within_others a b l t u given outs (WithinRow.closes s) q = others_stay s.others s.follow q

-- ---- a replica's

replica_others : (a b : NodeState) (l : LinkId) (u : List ℕ) (outs : OutsState) → ReplicaRow a l u b outs → OthersWait a l → OthersWait b l
replica_others a b l u outs (notes s) q = leaves_others a b l _ s.leaves q
replica_others a b l u outs (parts s) q = others_stay s.others s.follow q

-- ---- the link to the master

-- what reads there behind a step: on the same link, or nobody
reads_at : (c : CourseState) (m : Dataset) (l : LinkId) (f : FollowState) (u : List ℕ) (g : FollowState) (came : UpstreamStep) (d : CourseState) (n : Dataset) (told : List ℕ)
    → UpstreamRow c m l f u g (Ok came) d n told → (x : LinkId) (h : FollowState) → d.follow ≡ Some (x, h) → x ≡ l
reads_at c m l f u g outcome.Idle d n told row x h e = ap (λ (z : LinkId × FollowState). z.0) (some_is (x, h) (l, g) (sym e ∙ ap (λ (z : CourseState). z.follow) row.is))
reads_at c m l f u g outcome.Said d n told row x h e = ap (λ (z : LinkId × FollowState). z.0) (some_is (x, h) (l, g) (sym e ∙ ap (λ (z : CourseState). z.follow) row.is))
reads_at c m l f u g outcome.Announced d n told row x h e = ap (λ (z : LinkId × FollowState). z.0) (some_is (x, h) (l, g) (sym e ∙ ap (λ (z : CourseState). z.follow) row.is))
reads_at c m l f u g outcome.Continued d n told row x h e = ap (λ (z : LinkId × FollowState). z.0) (some_is (x, h) (l, g) (sym e ∙ ap (λ (z : CourseState). z.follow) row.is))
reads_at c m l f u g outcome.Loaded d n told row x h e = ap (λ (z : LinkId × FollowState). z.0) (some_is (x, h) (l, g) (sym e ∙ ap (λ (z : CourseState). z.follow) row.is))
reads_at c m l f u g outcome.Applied d n told row x h e = ap (λ (z : LinkId × FollowState). z.0) (some_is (x, h) (l, g) (sym e ∙ ap (λ (z : CourseState). z.follow) row.is))
reads_at c m l f u g outcome.Left d n told row x h e = absurd (none_some (x, h) (sym (ap (λ (z : CourseState). z.follow) row.is) ∙ e))
reads_at c m l f u g outcome.Spoiled d n told row x h e = absurd (none_some (x, h) (sym (ap (λ (z : CourseState). z.follow) row.is) ∙ e))

shut_end : (l x : LinkId) (ends : Links EndState) → x ≢ l → get (insert ends.open_links l shut) x ≡ get ends.open_links x
shut_end l x ends ne = get-insert ids_total ends.open_links l shut x ∙ elim (eq_by_cmp id_cmp x l) as (λ v. eq_by_cmp id_cmp x l ≡ v → cond v (Some shut) (get ends.open_links x) ≡ get ends.open_links x) [ true ↦ λ h. absurd (ne (is_one x l h)) | false ↦ λ h. refl ] refl

-- the ends of the other links stay
behind_end : (came : UpstreamStep) (l x : LinkId) (ends : Links EndState) → x ≢ l → get (master.ends_behind came l ends).open_links x ≡ get ends.open_links x
behind_end outcome.Idle l x ends ne = refl
behind_end outcome.Said l x ends ne = refl
behind_end outcome.Announced l x ends ne = refl
behind_end outcome.Continued l x ends ne = refl
behind_end outcome.Loaded l x ends ne = refl
behind_end outcome.Applied l x ends ne = refl
behind_end outcome.Left l x ends ne = shut_end l x ends ne
behind_end outcome.Spoiled l x ends ne = shut_end l x ends ne

-- the row at bytes that can be unread there
pub record Heard (a : NodeState) (l : LinkId) (u : List ℕ) (came : UpstreamStep) (b : NodeState) : Type 0 where
  pub reader : FollowState
  pub found : a.follow ≡ Some (l, reader)
  pub next : FollowState
  pub course : CourseState
  pub told : List ℕ
  pub row : UpstreamRow (course_of a) a.core.held l reader u next (Ok came) course b.core.held told
  pub ends : b.ends ≡ master.ends_behind came l a.ends
  pub follow : b.follow ≡ course.follow

-- what reads at the link is what the row speaks of
pub row_of : (a b : NodeState) (l : LinkId) (u : List ℕ) (came : UpstreamStep) (course : CourseState) (told : List ℕ) (h : Listens (course_of a) a.core.held (Ok came) course b.core.held told) → h.name ≡ l
    → (m : MasterAgrees a l u) → UpstreamRow (course_of a) a.core.held l m.reader u h.next (Ok came) course b.core.held told
row_of a b l u came course told h named m =
    let same = some_is (h.name, h.follow) (l, m.reader) (sym h.found ∙ m.found) in
    let reader : h.follow ≡ m.reader = ap (λ (z : LinkId × FollowState). z.1) same in
    subst (λ n. UpstreamRow (course_of a) a.core.held n m.reader u h.next (Ok came) course b.core.held told) named
    (subst (λ f. UpstreamRow (course_of a) a.core.held h.name f u h.next (Ok came) course b.core.held told) reader
    (h.row u (subst (λ f. FollowAgrees f u) (sym reader) m.agrees)))

pub heard : (a b : NodeState) (l : LinkId) (u : List ℕ) (came : UpstreamStep) (outs : OutsState) → MasterAgrees a l u → master.Hears a l came b outs → Heard a l u came b
heard a b l u came outs m h = record {
  reader = m.reader;
  found = m.found;
  next = h.listens.next;
  course = h.course;
  told = h.told;
  row = row_of a b l u came h.course h.told h.listens h.named m;
  ends = ap (λ (z : NodeState). z.ends) h.node;
  follow = ap (λ (z : NodeState). z.follow) h.node;
}

waited : (a b : NodeState) (l : LinkId) (u : List ℕ) → MasterAgrees a l u → master.Waits a l b → Heard a l u outcome.Idle b
waited a b l u m h = record {
  reader = m.reader;
  found = m.found;
  next = h.listens.next;
  course = h.course;
  told = h.told;
  row = row_of a b l u outcome.Idle h.course h.told h.listens h.named m;
  ends = ap (λ (z : NodeState). z.ends) h.node;
  follow = ap (λ (z : NodeState). z.follow) h.node;
}

heard_others : (a b : NodeState) (l : LinkId) (u : List ℕ) (came : UpstreamStep) → Heard a l u came b → OthersWait a l → OthersWait b l
heard_others a b l u came h q = record {
  each = λ x ne.
      let end : end_of b x ≡ end_of a x = ap (λ (z : Links EndState). get z.open_links x) h.ends ∙ behind_end came l x a.ends ne in
      record {
        at_client = λ v ag. (q.each x ne).at_client v (record { is = sym end ∙ ag.is });
        at_waiting = λ t v ag. (q.each x ne).at_waiting t v (record { is = sym end ∙ ag.is });
        at_replica = λ v ag. (q.each x ne).at_replica v (record { is = sym end ∙ ag.is });
        at_master = λ f e. absurd (ne (reads_at (course_of a) a.core.held l h.reader u h.next came h.course b.core.held h.told h.row x f (sym h.follow ∙ e)));
      };
}

-- ---- whatever the link is

done_agreeing : (a b : NodeState) (l : LinkId) (u : List ℕ) (given : Given) (fresh : List ℕ) (outs : OutsState) → a.core.up ≡ true → Agreeing a l u → Steps a l given fresh b (Ok (step.Done outs)) → OthersWait a l → OthersWait b l
done_agreeing a b l u given fresh outs up (of_client agrees) row q = client_others a b l u given fresh outs (row.at_client u (record { up = up; agrees = agrees })) q
done_agreeing a b l u given fresh outs up (of_waiting t agrees) row q = within_others a b l t u given outs (row.at_waiting t u (record { up = up; agrees = agrees })) q
done_agreeing a b l u given fresh outs up (of_replica agrees) row q = replica_others a b l u outs (row.at_replica u (record { up = up; agrees = agrees })) q
done_agreeing a b l u given fresh outs up (of_master agrees) row q = let h = row.at_master up (ap name_of agrees.found) in heard_others a b l u h.0 (heard a b l u h.0 outs agrees h.2) q
done_agreeing a b l u given fresh outs up (of_shut is none) row q = absurd (done_closed (row.at_shut up is).0) where
  done_closed : ◌≡◌ {A = Result Step NodeFault} (Ok (step.Done outs)) (Ok step.Closed) → ⊥
  done_closed e = cc

-- a step that used something leaves the other links as they were
pub done_others : (a b : NodeState) (l : LinkId) (given : Given) (fresh : List ℕ) (outs : OutsState) → Stepped a l given fresh b (Ok (step.Done outs)) → OthersWait a l → OthersWait b l
done_others a b l given fresh outs s q = done_agreeing a b l s.input.unread.bytes given fresh outs s.input.unread.up s.input.unread.agree s.row q

-- ---- a step that used nothing

client_one : (u v : List ℕ) → client u ≡ client v → u ≡ v
client_one u v e = cc

waiting_one : (s t : Transaction) (u v : List ℕ) → waiting s u ≡ waiting t v → u ≡ v
waiting_one s t u v e = cc

replica_one : (u v : List ℕ) → replica u ≡ replica v → u ≡ v
replica_one u v e = cc

client_replica : (u v : List ℕ) → client u ≡ replica v → ⊥
client_replica u v e = cc

client_waiting : (t : Transaction) (u v : List ℕ) → client u ≡ waiting t v → ⊥
client_waiting t u v e = cc

waiting_replica : (t : Transaction) (u v : List ℕ) → waiting t u ≡ replica v → ⊥
waiting_replica t u v e = cc

waiting_upstream : (t : Transaction) (u : List ℕ) → waiting t u ≡ upstream → ⊥
waiting_upstream t u e = cc

pub client_upstream : (u : List ℕ) → client u ≡ upstream → ⊥
client_upstream u e = cc

replica_upstream : (u : List ℕ) → replica u ≡ upstream → ⊥
replica_upstream u e = cc

shut_upstream : shut ≡ upstream → ⊥
shut_upstream e = cc

-- the end of a link that is followed
pub followed_end : (a : NodeState) (l : LinkId) (f : FollowState) → IsNode a → a.follow ≡ Some (l, f) → end_of a l ≡ Some upstream
followed_end a l f node found = let P : Option (LinkId × FollowState) → Type 0 = λ o. FollowedAt a.ends o in subst P found node.followed

pub client_still : (a : NodeState) (l : LinkId) (u : List ℕ) → IsNode a → Agrees a l u → Waits u → IsStill a l
client_still a l u node ag w = record {
  at_client = λ v other. subst Waits (client_one u v (some_is (client u) (client v) (sym ag.is ∙ other.is))) w;
  at_waiting = λ t v other. absurd (client_waiting t u v (some_is (client u) (waiting t v) (sym ag.is ∙ other.is)));
  at_replica = λ v other. absurd (client_replica u v (some_is (client u) (replica v) (sym ag.is ∙ other.is)));
  at_master = λ f found. absurd (client_upstream u (some_is (client u) upstream (sym ag.is ∙ followed_end a l f node found)));
}

pub waiting_still : (a : NodeState) (l : LinkId) (t : Transaction) (u : List ℕ) → IsNode a → AgreesWithin a l t u → Waits u → IsStill a l
waiting_still a l t u node ag w = record {
  at_client = λ v other. absurd (client_waiting t v u (some_is (client v) (waiting t u) (sym other.is ∙ ag.is)));
  at_waiting = λ s v other. subst Waits (waiting_one t s u v (some_is (waiting t u) (waiting s v) (sym ag.is ∙ other.is))) w;
  at_replica = λ v other. absurd (waiting_replica t u v (some_is (waiting t u) (replica v) (sym ag.is ∙ other.is)));
  at_master = λ f found. absurd (waiting_upstream t u (some_is (waiting t u) upstream (sym ag.is ∙ followed_end a l f node found)));
}

pub replica_still : (a : NodeState) (l : LinkId) (u : List ℕ) → IsNode a → ReplicaAgrees a l u → Waits u → IsStill a l
replica_still a l u node ag w = record {
  at_client = λ v other. absurd (client_replica v u (some_is (client v) (replica u) (sym other.is ∙ ag.is)));
  at_waiting = λ t v other. absurd (waiting_replica t v u (some_is (waiting t v) (replica u) (sym other.is ∙ ag.is)));
  at_replica = λ v other. subst Waits (replica_one u v (some_is (replica u) (replica v) (sym ag.is ∙ other.is))) w;
  at_master = λ f found. absurd (replica_upstream u (some_is (replica u) upstream (sym ag.is ∙ followed_end a l f node found)));
}

pub shut_still : (a : NodeState) (l : LinkId) → IsNode a → IsShut a l → IsStill a l
shut_still a l node is = still_shut a l is.is (λ f found. shut_upstream (some_is shut upstream (sym is.is ∙ followed_end a l f node found)))

pub absent_still : (a : NodeState) (l : LinkId) → IsNode a → end_of a l ≡ None → IsStill a l
absent_still a l node none = still_none a l none (λ f found. none_some upstream (sym none ∙ followed_end a l f node found))

-- the end is the master's, whatever reads there
pub master_still : (a : NodeState) (l : LinkId) → end_of a l ≡ Some upstream → ((f : FollowState) → a.follow ≡ Some (l, f) → Awaits f) → IsStill a l
master_still a l is awaits = record {
  at_client = λ v ag. absurd (client_upstream v (some_is (client v) upstream (sym ag.is ∙ is)));
  at_waiting = λ t v ag. absurd (waiting_upstream t v (some_is (waiting t v) upstream (sym ag.is ∙ is)));
  at_replica = λ v ag. absurd (replica_upstream v (some_is (replica v) upstream (sym ag.is ∙ is)));
  at_master = awaits;
}

-- the follower waits: the unread bytes are the same
idle_awaits : (c : CourseState) (m : Dataset) (l : LinkId) (f : FollowState) (u : List ℕ) (g : FollowState) (d : CourseState) (n : Dataset) (told : List ℕ) → UpstreamRow c m l f u g (Ok outcome.Idle) d n told → Awaits g
idle_awaits c m l f u g d n told row = record {
  unread = u;
  agrees = row.stays.state.agrees;
  waits = subst (λ p. follow.Waits p u g.kept) (sym row.stays.state.waits) row.waits;
}

idle_follow : (c : CourseState) (m : Dataset) (l : LinkId) (f : FollowState) (u : List ℕ) (g : FollowState) (d : CourseState) (n : Dataset) (told : List ℕ) → UpstreamRow c m l f u g (Ok outcome.Idle) d n told → d.follow ≡ Some (l, g)
idle_follow c m l f u g d n told row = ap (λ (z : CourseState). z.follow) row.is

heard_still : (a b : NodeState) (l : LinkId) (u : List ℕ) → IsNode a → Heard a l u outcome.Idle b → IsStill b l
heard_still a b l u node h =
    let end : end_of b l ≡ Some upstream = ap (λ (z : Links EndState). get z.open_links l) h.ends ∙ followed_end a l h.reader node h.found in
    let reads : b.follow ≡ Some (l, h.next) = h.follow ∙ idle_follow (course_of a) a.core.held l h.reader u h.next h.course b.core.held h.told h.row in
    master_still b l end (λ f found. subst Awaits (ap (λ (z : LinkId × FollowState). z.1) (some_is (l, h.next) (l, f) (sym reads ∙ found))) (idle_awaits (course_of a) a.core.held l h.reader u h.next h.course b.core.held h.told h.row))

idle_agreeing : (a b : NodeState) (l : LinkId) (u : List ℕ) (given : Given) (fresh : List ℕ) → IsNode a → a.core.up ≡ true → Agreeing a l u → Steps a l given fresh b (Ok step.Idle) → OthersWait a l → AllWait b
idle_agreeing a b l u given fresh node up (of_client agrees) row q =
    let idles = row.at_client u (record { up = up; agrees = agrees }) in
    all_is idles.same (all_of l q (client_still a l u node agrees idles.waits))
idle_agreeing a b l u given fresh node up (of_waiting t agrees) row q =
    let idles = row.at_waiting t u (record { up = up; agrees = agrees }) in
    all_is idles.same (all_of l q (waiting_still a l t u node agrees idles.waits))
idle_agreeing a b l u given fresh node up (of_replica agrees) row q =
    let idles = row.at_replica u (record { up = up; agrees = agrees }) in
    all_is idles.same (all_of l q (replica_still a l u node agrees idles.waits))
idle_agreeing a b l u given fresh node up (of_master agrees) row q =
    let h = waited a b l u agrees (row.at_master up (ap name_of agrees.found)) in
    all_of l (heard_others a b l u outcome.Idle h q) (heard_still a b l u node h)
idle_agreeing a b l u given fresh node up (of_shut is none) row q = absurd (idle_closed (row.at_shut up is).0) where
  idle_closed : ◌≡◌ {A = Result Step NodeFault} (Ok step.Idle) (Ok step.Closed) → ⊥
  idle_closed e = cc

-- a step that used nothing leaves nothing that could be stepped
pub idle_all : (a b : NodeState) (l : LinkId) (given : Given) (fresh : List ℕ) → Stepped a l given fresh b (Ok step.Idle) → OthersWait a l → AllWait b
idle_all a b l given fresh s q = idle_agreeing a b l s.input.unread.bytes given fresh s.input.node s.input.unread.up s.input.unread.agree s.row q
