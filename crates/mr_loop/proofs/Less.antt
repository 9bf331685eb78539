-- That a step which uses something leaves less.
use Rattle.std.proofs.Common.{◌≡◌, ◌<◌, ◌≤◌, ◌+◌, ◌++◌, inl, inr, ℕ, List, [], ◌∷◌, Bool, true, false, length, length-append, arith, cond, Option, None, Some, Result, Ok, refl, sym, ap, subst, ◌∙◌, if◌then◌else◌}
use Rattle.std.specs.Ordering.{eq_by_cmp}
use Rattle.std.specs.FinMap.{get, insert, get-insert, get-remove}
use Rattle.mr_links.specs.LinkId.{id_cmp}
use Rattle.mr_links.specs.Links.{Links}
use Rattle.mr_links.specs.declared.link_id.LinkId.{LinkId}
use Rattle.mr_links.proofs.LinkRows.{ids_total}
use Rattle.mr_data.specs.declared.given.Given.{Given}
use Rattle.mr_resp.specs.Spelling.{line_end}
use Rattle.mr_inline.specs.Limits.{line_limit}
use Rattle.mr_resp.specs.Request.{IsText, IsInArray}
use Rattle.mr_resp.specs.Usual.{usual}
use Rattle.mr_resp.proofs.Forms.{array_star, form_of, line_some}
use Rattle.mr_peer_lines.specs.Lines.{IsMarked, IsPeerLine, Line}
use Rattle.mr_replication.specs.State.{CourseState, name_of}
use Rattle.mr_replication.specs.declared.upstream.UpstreamStep.{UpstreamStep}
use Rattle.mr_replication.specs.declared.upstream.UpstreamStep.TheVariants as outcome
use Rattle.mr_node_links.specs.State.{EndState, Transaction, put_end}
use Rattle.mr_node_links.specs.State.EndState.{shut, upstream}
use Rattle.mr_follower.specs.State.{AgreesBy, FollowState, Agrees as FollowAgrees}
use Rattle.mr_follower.specs.Lines.{Begins}
use Rattle.mr_follower.specs.declared.phase.Phase.{Phase}
use Rattle.mr_follower.specs.declared.phase.Phase.TheVariants.{Ping, Port, Capabilities, Psync, Snapshot, Stream}
use Rattle.mr_follower.specs.declared.taking.Taking.{Taking}
use Rattle.mr_groups.specs.Groups.{IsGoodGroup, group_text}
use Rattle.mr_groups.proofs.Runs.{some_text as some_in_group}
use Rattle.mr_effect.specs.declared.effect.Effect.{Effect}
use Rattle.mr_node_output.specs.Outs.{OutState, OutsState, Output}
use Rattle.mr_node_spec.specs.State.{IsNode, NodeState, Core, Agrees, AgreesWithin, MasterAgrees, ReplicaAgrees, end_of}
use Rattle.mr_node_spec.specs.Telling.{Around}
use Rattle.mr_node_spec.specs.Requests.{Asks, AsksNothing}
use Rattle.mr_node_spec.specs.Served.{Served, request, nothing}
use Rattle.mr_node_spec.specs.ClientRows.{ClientRow, serves, closes, halts, synchronizes, promotes, turns, demotes, begins}
use Rattle.mr_node_spec.specs.Transactions.{WithinRow}
use Rattle.mr_node_spec.specs.ReplicaRows.{IsExpected, ReplicaRow, acknowledgement, nothing as expects_nothing, notes, parts}
use Rattle.mr_node_spec.specs.LinkRows.{closed_at, follow_without}
use Rattle.mr_node.specs.Calls.{Agreeing}
use Rattle.mr_node.specs.Calls.Agreeing.{client as of_client, waiting as of_waiting, replica as of_replica, master as of_master, shut as of_shut}
use Rattle.mr_node.specs.Steps.{Steps}
use Rattle.mr_node.specs.declared.fault.NodeFault.{NodeFault}
use Rattle.mr_node.specs.declared.step.Step.{Step}
use Rattle.mr_node.specs.declared.step.Step.TheVariants as step
use Rattle.mr_loop.specs.Stage.{Stage}
use Rattle.mr_loop.specs.Carrying.{Carried}
use Rattle.mr_loop.specs.Causes.{Stepped}
use Rattle.mr_loop.specs.Quiet.{left_at, left_in, left_of, taken_so_far}
use Rattle.mr_loop.proofs.Carried.{carried_node}
use Rattle.mr_loop.proofs.Stepped.{Heard, followed_end, heard}
use Rattle.mr_loop.proofs.Waiting.{itself, some_is}

-- ---- what is used is some bytes

starred : (text : List ℕ) → IsInArray text → 0 < length text
starred [] h = absurd h
starred (b ∷ bytes) h = omega arith

-- no request and no empty one is spelled by no bytes
some_text : (text : List ℕ) → IsText usual text → 0 < length text
some_text text is = elim (form_of usual text is) [
  | inl a ↦ starred text (array_star usual text a)
  | inr l ↦ line_some line_limit text l
]

shorter : (u text rest : List ℕ) → u ≡ text ++ rest → 0 < length text → length rest < length u
shorter u text rest e some = omega (arith, ap length e, length-append text rest, some)

asked_less : (u : List ℕ) (words : List (List ℕ)) (rest : List ℕ) → Asks u words rest → length rest < length u
asked_less u words rest asks = shorter u asks.text rest asks.begins (some_text asks.text (inl (words, asks.request)))

passed_less : (u rest : List ℕ) → AsksNothing u rest → length rest < length u
passed_less u rest asks = shorter u asks.text rest asks.begins (some_text asks.text (inr asks.empty))

served_less : (c d : Core) (around : Around) (u rest : List ℕ) (given : Given) (out : Output) → Served c around u given d rest out → length rest < length u
served_less c d around u rest given out (request words asks answered) = asked_less u words rest asks
served_less c d around u rest given out (nothing asks same none) = passed_less u rest asks

expected_less : (u rest : List ℕ) → IsExpected u rest → length rest < length u
expected_less u rest (acknowledgement words offset asks ack) = asked_less u words rest asks
expected_less u rest (expects_nothing asks) = passed_less u rest asks

marked_some : (front : List ℕ) → IsMarked front → 0 < length front
marked_some [] h = absurd h
marked_some (b ∷ rest) h = omega arith

line_length : (text : List ℕ) (line : Line) → IsPeerLine text line → 0 < length text
line_length text line is = omega (arith, ap length is.whole.ended, length-append is.front line_end, marked_some is.front is.whole.marked)

begins_less : (u : List ℕ) (line : Line) (rest : List ℕ) → Begins u line rest → length rest < length u
begins_less u line rest b = shorter u b.text rest b.is (line_length b.text line b.says)

behind_less : (u : List ℕ) (line : Line) (bytes rest : List ℕ) → Begins u line (bytes ++ rest) → length rest < length u
behind_less u line bytes rest b = omega (arith, begins_less u line (bytes ++ rest) b, length-append bytes rest)

-- ---- a served end

-- whom the node follows is the same, or nobody
same_left : (l : LinkId) (f g : Option (LinkId × FollowState)) → g ≡ f → left_of l g ≤ left_of l f
same_left l f g e = let is : left_of l g ≡ left_of l f = ap (left_of l) e in omega (arith, is)

nobody_left : (l : LinkId) (f g : Option (LinkId × FollowState)) → g ≡ None → left_of l g ≤ left_of l f
nobody_left l f g e = let is : left_of l g ≡ 0 = ap (left_of l) e in omega (arith, is)

less_by : (a b : NodeState) (l : LinkId) (n m : ℕ) → left_in (end_of a l) ≡ n → left_in (end_of b l) ≡ m → m < n → left_of l b.follow ≤ left_of l a.follow → left_at b l < left_at a l
less_by a b l n m here there less follow = omega (arith, here, there, less, follow)

client_left : {a : NodeState} {l : LinkId} {u : List ℕ} → Agrees a l u → left_in (end_of a l) ≡ 1 + length u
client_left ag = ap left_in ag.is

waiting_left : {a : NodeState} {l : LinkId} {t : Transaction} {u : List ℕ} → AgreesWithin a l t u → left_in (end_of a l) ≡ 1 + length u
waiting_left ag = ap left_in ag.is

replica_left : {a : NodeState} {l : LinkId} {u : List ℕ} → ReplicaAgrees a l u → left_in (end_of a l) ≡ 1 + length u
replica_left ag = ap left_in ag.is

one_less : (m n : ℕ) → m < n → 1 + m < 1 + n
one_less m n h = omega (arith, h)

none_less : (n : ℕ) → 0 < 1 + n
none_less n = omega arith

client_less : (a b : NodeState) (l : LinkId) (u : List ℕ) (given : Given) (fresh : List ℕ) (outs : OutsState) → Agrees a l u → ClientRow a l u given fresh b outs → left_at b l < left_at a l
client_less a b l u given fresh outs ag (serves s) = less_by a b l _ _ (client_left ag) (ap left_in s.leaves.is) (one_less _ _ (served_less a.core b.core s.around u s.rest given s.out s.served)) (same_left l a.follow b.follow s.leaves.follow)
client_less a b l u given fresh outs ag (closes s) = less_by a b l _ _ (client_left ag) (ap left_in s.shut.is) (none_less (length u)) (same_left l a.follow b.follow s.follow)
client_less a b l u given fresh outs ag (halts s) = less_by a b l _ _ (client_left ag) (ap left_in s.leaves.is) (one_less _ _ (asked_less u s.asks.words s.rest s.asks.asks)) (same_left l a.follow b.follow s.leaves.follow)
client_less a b l u given fresh outs ag (synchronizes s) = less_by a b l _ _ (client_left ag) (ap left_in s.leaves.is) (one_less _ _ (asked_less u s.words s.rest s.asks)) (same_left l a.follow b.follow s.leaves.follow)
client_less a b l u given fresh outs ag (promotes s) = less_by a b l _ _ (client_left ag) (ap left_in s.ends.is) (one_less _ _ (asked_less u s.words s.rest s.asks)) (nobody_left l a.follow b.follow s.follow)
client_less a b l u given fresh outs ag (turns s) = less_by a b l _ _ (client_left ag) (ap left_in s.ends.is) (one_less _ _ (asked_less u s.words s.rest s.asks)) (nobody_left l a.follow b.follow s.follow)
client_less a b l u given fresh outs ag (demotes s) = less_by a b l _ _ (client_left ag) (ap left_in s.ends.is) (one_less _ _ (asked_less u s.words s.rest s.asks)) (nobody_left l a.follow b.follow s.follow)
client_less a b l u given fresh outs ag (begins s) = less_by a b l _ _ (client_left ag) (ap left_in s.leaves.is) (one_less _ _ (asked_less u s.words s.rest s.asks)) (same_left l a.follow b.follow s.leaves.follow)

within_less : (a b : NodeState) (l : LinkId) (t : Transaction) (u : List ℕ) (given : Given) (outs : OutsState) → AgreesWithin a l t u → WithinRow a l t u given b outs → left_at b l < left_at a l
within_less a b l t u given outs ag (WithinRow.stands s) = less_by a b l _ _ (waiting_left ag) (ap left_in s.leaves.is) (one_less _ _ (asked_less u s.words s.rest s.asks)) (same_left l a.follow b.follow s.leaves.follow)
within_less a b l t u given outs ag (WithinRow.passes s) = less_by a b l _ _ (waiting_left ag) (ap left_in s.leaves.is) (one_less _ _ (passed_less u s.rest s.asks)) (same_left l a.follow b.follow s.leaves.follow)
within_less a b l t u given outs ag (WithinRow.drops s) = less_by a b l _ _ (waiting_left ag) (ap left_in s.leaves.is) (one_less _ _ (asked_less u s.words s.rest s.asks)) (same_left l a.follow b.follow s.leaves.follow)
within_less a b l t u given outs ag (WithinRow.executes s) = less_by a b l _ _ (waiting_left ag) (ap left_in s.leaves.is) (one_less _ _ (asked_less u s.words s.rest s.asks)) (same_left l a.follow b.follow s.leaves.follow)
within_less a b l t u given outs ag (WithinRow.closes s) = less_by a b l _ _ (waiting_left ag) (ap left_in s.shut.is) (none_less (length u)) (same_left l a.follow b.follow s.follow)

replica_less : (a b : NodeState) (l : LinkId) (u : List ℕ) (outs : OutsState) → ReplicaAgrees a l u → ReplicaRow a l u b outs → left_at b l < left_at a l
replica_less a b l u outs ag (notes s) = less_by a b l _ _ (replica_left ag) (ap left_in s.leaves.is) (one_less _ _ (expected_less u s.rest s.expected)) (same_left l a.follow b.follow s.leaves.follow)
replica_less a b l u outs ag (parts s) = less_by a b l _ _ (replica_left ag) (ap left_in s.shut.is) (none_less (length u)) (same_left l a.follow b.follow s.follow)

-- ---- the link to the master

-- so many bytes are unread there
agreed_length : (p : Phase) (t : Option Taking) (kept u : List ℕ) → AgreesBy p t kept u → taken_so_far t + length kept ≡ length u
agreed_length p None kept u by = let e : length u ≡ length kept = ap length by in omega (arith, e)
agreed_length Ping (Some t) kept u by = absurd by
agreed_length Port (Some t) kept u by = absurd by
agreed_length Capabilities (Some t) kept u by = absurd by
agreed_length Psync (Some t) kept u by = absurd by
agreed_length (Snapshot id offset) (Some t) kept u by = omega (arith, ap length by.is, length-append by.line (by.front ++ kept), length-append by.front kept, by.head, by.done)
agreed_length Stream (Some t) kept u by = absurd by

read_left : (l : LinkId) (f : FollowState) (u : List ℕ) → FollowAgrees f u → left_of l (Some (l, f)) ≡ length u
read_left l f u agrees = ap (λ b. if b then taken_so_far f.taking + length f.kept else 0) (itself l) ∙ agreed_length f.phase f.taking f.kept u agrees.by

-- by what came there is less, or nobody is followed
heard_less : (a b : NodeState) (l : LinkId) (u : List ℕ) (came : UpstreamStep) (h : Heard a l u came b) → FollowAgrees h.reader u → end_of a l ≡ Some upstream → end_of b l ≡ Some upstream → (g : FollowState) → b.follow ≡ Some (l, g) → (rest : List ℕ) → FollowAgrees g rest → length rest < length u → left_at b l < left_at a l
heard_less a b l u came h agrees here there g reads rest behind less =
    let before : left_of l a.follow ≡ length u = ap (left_of l) h.found ∙ read_left l h.reader u agrees in
    let after : left_of l b.follow ≡ length rest = ap (left_of l) reads ∙ read_left l g rest behind in
    let a_in : left_in (end_of a l) ≡ 1 = ap left_in here in
    let b_in : left_in (end_of b l) ≡ 1 = ap left_in there in
    omega (arith, before, after, a_in, b_in, less)

shut_less : (a b : NodeState) (l : LinkId) → end_of a l ≡ Some upstream → end_of b l ≡ Some shut → b.follow ≡ None → left_at b l < left_at a l
shut_less a b l here closed nobody =
    let a_in : left_in (end_of a l) ≡ 1 = ap left_in here in
    let b_in : left_in (end_of b l) ≡ 0 = ap left_in closed in
    let none : left_of l b.follow ≡ 0 = ap (left_of l) nobody in
    omega (arith, a_in, b_in, none)

shut_there : (l : LinkId) (ends : Links EndState) → get (insert ends.open_links l shut) l ≡ Some shut
shut_there l ends = get-insert ids_total ends.open_links l shut l ∙ ap (λ b. cond b (Some shut) (get ends.open_links l)) (itself l)

group_some : (told : List ℕ) (group : List Effect) → IsGoodGroup group → told ≡ group_text group → 0 < length told
group_some told group good is = omega (arith, ap length is, some_in_group group good)

module _ (a b : NodeState) (l : LinkId) (u : List ℕ) where
  -- the end stays, and what reads there has less
  reads_less : (came : UpstreamStep) (h : Heard a l u came b) → FollowAgrees h.reader u → end_of a l ≡ Some upstream → b.ends ≡ a.ends → h.course.follow ≡ Some (l, h.next) → (rest : List ℕ) → FollowAgrees h.next rest → length rest < length u → left_at b l < left_at a l
  reads_less came h agrees here ends reads rest behind less = heard_less a b l u came h agrees here (ap (λ (z : Links EndState). get z.open_links l) ends ∙ here) h.next (h.follow ∙ reads) rest behind less

  leaves_less : (came : UpstreamStep) (h : Heard a l u came b) → end_of a l ≡ Some upstream → b.ends ≡ put_end a.ends l shut → h.course.follow ≡ None → left_at b l < left_at a l
  leaves_less came h here ends nobody = shut_less a b l here (ap (λ (z : Links EndState). get z.open_links l) ends ∙ shut_there l a.ends) (h.follow ∙ nobody)

  master_less : (came : UpstreamStep) (h : Heard a l u came b) → (came ≡ outcome.Idle → ⊥) → FollowAgrees h.reader u → end_of a l ≡ Some upstream → left_at b l < left_at a l
  master_less outcome.Idle h some agrees here = absurd (some refl)
  master_less outcome.Said h some agrees here = reads_less outcome.Said h agrees here h.ends (ap (λ (z : CourseState). z.follow) h.row.is) h.row.greets.rest h.row.greets.state.agrees (begins_less u _ h.row.greets.rest h.row.greets.answer)
  master_less outcome.Announced h some agrees here = reads_less outcome.Announced h agrees here h.ends (ap (λ (z : CourseState). z.follow) h.row.is) h.row.answers.rest h.row.answers.state.agrees (begins_less u _ h.row.answers.rest h.row.answers.answer)
  master_less outcome.Continued h some agrees here = reads_less outcome.Continued h agrees here h.ends (ap (λ (z : CourseState). z.follow) h.row.is) h.row.answers.rest h.row.answers.state.agrees (begins_less u _ h.row.answers.rest h.row.answers.answer)
  master_less outcome.Loaded h some agrees here = reads_less outcome.Loaded h agrees here h.ends (ap (λ (z : CourseState). z.follow) h.row.is) h.row.installs.rest h.row.installs.state.agrees (behind_less u _ h.row.installs.bytes h.row.installs.rest h.row.installs.begins)
  master_less outcome.Applied h some agrees here = reads_less outcome.Applied h agrees here h.ends (ap (λ (z : CourseState). z.follow) h.row.is) h.row.follows.rest h.row.follows.state.agrees (shorter u h.told h.row.follows.rest h.row.follows.begins (group_some h.told h.row.follows.group h.row.follows.good h.row.follows.is_text))
  master_less outcome.Left h some agrees here = leaves_less outcome.Left h here h.ends (ap (λ (z : CourseState). z.follow) h.row.is)
  master_less outcome.Spoiled h some agrees here = leaves_less outcome.Spoiled h here h.ends (ap (λ (z : CourseState). z.follow) h.row.is)

-- what reads there is what the bytes agree with
heard_agrees : (a b : NodeState) (l : LinkId) (u : List ℕ) (came : UpstreamStep) (h : Heard a l u came b) → (m : MasterAgrees a l u) → FollowAgrees h.reader u
heard_agrees a b l u came h m = subst (λ f. FollowAgrees f u) (ap (λ (z : LinkId × FollowState). z.1) (some_is (l, m.reader) (l, h.reader) (sym m.found ∙ h.found))) m.agrees

-- ---- whatever the link is

done_less_at : (a b : NodeState) (l : LinkId) (u : List ℕ) (given : Given) (fresh : List ℕ) (outs : OutsState) → IsNode a → a.core.up ≡ true → Agreeing a l u → Steps a l given fresh b (Ok (step.Done outs)) → left_at b l < left_at a l
done_less_at a b l u given fresh outs node up (of_client agrees) row = client_less a b l u given fresh outs agrees (row.at_client u (record { up = up; agrees = agrees }))
done_less_at a b l u given fresh outs node up (of_waiting t agrees) row = within_less a b l t u given outs agrees (row.at_waiting t u (record { up = up; agrees = agrees }))
done_less_at a b l u given fresh outs node up (of_replica agrees) row = replica_less a b l u outs agrees (row.at_replica u (record { up = up; agrees = agrees }))
done_less_at a b l u given fresh outs node up (of_master agrees) row =
    let h = row.at_master up (ap name_of agrees.found) in
    let now = heard a b l u h.0 outs agrees h.2 in
    master_less a b l u h.0 now h.1 (heard_agrees a b l u h.0 now agrees) (followed_end a l agrees.reader node agrees.found)
done_less_at a b l u given fresh outs node up (of_shut is none) row = absurd (done_closed (row.at_shut up is).0) where
  done_closed : ◌≡◌ {A = Result Step NodeFault} (Ok (step.Done outs)) (Ok step.Closed) → ⊥
  done_closed e = cc

pub done_less : (a b : NodeState) (l : LinkId) (given : Given) (fresh : List ℕ) (outs : OutsState) → Stepped a l given fresh b (Ok (step.Done outs)) → left_at b l < left_at a l
done_less a b l given fresh outs s = done_less_at a b l s.input.unread.bytes given fresh outs s.input.node s.input.unread.up s.input.unread.agree s.row

-- ---- what is closed leaves no more

closed_end : (b : Bool) (o : Option EndState) → left_in (cond b None o) ≤ left_in o
closed_end true o = omega arith
closed_end false o = omega arith

closed_follow : (m l : LinkId) (o : Option (LinkId × FollowState)) → left_of l (follow_without m o) ≤ left_of l o
closed_follow m l None = omega arith
closed_follow m l (Some f) = by (eq_by_cmp id_cmp f.0 m) where
  by : (b : Bool) → left_of l (if b then None else Some f) ≤ left_of l (Some f)
  by true = omega arith
  by false = omega arith

closed_left : (m l : LinkId) (a : NodeState) → left_at (closed_at m a) l ≤ left_at a l
closed_left m l a =
    let end : left_in (end_of (closed_at m a) l) ≡ left_in (cond (eq_by_cmp id_cmp l m) None (end_of a l)) = ap left_in (get-remove ids_total a.ends.open_links m l) in
    omega (arith, end, closed_end (eq_by_cmp id_cmp l m) (end_of a l), closed_follow m l a.follow)

most_of : (x y n : ℕ) → y ≤ x → x ≤ n → y ≤ n
most_of x y n h k = omega (arith, h, k)

pub carried_left : (l : LinkId) (n : ℕ) (outs : List OutState) (s t : Stage) → Carried outs s t → left_at s.node l ≤ n → left_at t.node l ≤ n
carried_left l n outs s t c h = carried_node (λ z. left_at z l ≤ n) (λ m a k. most_of (left_at a l) (left_at (closed_at m a) l) n (closed_left m l a) k) outs s t c h
