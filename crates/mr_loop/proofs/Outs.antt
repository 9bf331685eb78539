-- How outs are carried out, one after another, and what is the same of a host behind it.
use Rattle.std.proofs.Common.{◌≡◌, ◌<◌, ◌≤◌, ◌≤ℤ◌, ◌+◌, ℕ, List, [], ◌∷◌, ◌++◌, Bool, true, false, IsTrue, length, Option, None, Some, Result, Ok, Err, OnOk, OnErr, IfErr, MutBor, append_assoc, append-nil, arith, refl, sym, ap, subst, ◌∙◌}
use Rattle.std.specs.declared.alloc.AllocError.{AllocError}
use Rattle.mr_links.specs.declared.link_id.LinkId.{LinkId}
use Rattle.mr_data.specs.declared.given.Given.{Given}
use Rattle.mr_source.specs.Drawn.{DrawnState, with_moment}
use Rattle.mr_file.specs.declared.sync_mode.SyncMode.{SyncMode}
use Rattle.mr_follower.specs.State.{FollowState, Agrees as FollowAgrees}
use Rattle.mr_replication.specs.State.{CourseState, name_of}
use Rattle.mr_connections.specs.State.{HasLink, parted, sent}
use Rattle.mr_node_links.specs.State.{EndState, Transaction}
use Rattle.mr_node_links.specs.State.EndState.{client as an_end, waiting as open_end, replica as a_replica, upstream as a_master, shut as closed}
use Rattle.mr_node_output.specs.Outs.{OutState, OutsState, append, close, grown_outs, outs_of, replace, send}
use Rattle.mr_node_spec.specs.State.{MasterAgrees, NodeState, end_of}
use Rattle.mr_node_spec.specs.LinkRows.{closed_at}
use Rattle.mr_node_spec.specs.UpstreamRows as upstream
use Rattle.mr_node.specs.Calls.{Agreeing, IsClients}
use Rattle.mr_node.specs.Calls.IsClients.{alone, within}
use Rattle.mr_node.specs.Calls.Agreeing.{client, waiting, replica, master, shut}
use Rattle.mr_node.specs.Steps.{ClientStep, MasterStep, ReplicaStep, Steps}
use Rattle.mr_node.specs.Within.{WithinStep}
use Rattle.mr_node.specs.Parts.{role_of}
use Rattle.mr_node.specs.declared.role.Role.{Role}
use Rattle.mr_node.specs.declared.fault.NodeFault.{NodeFault}
use Rattle.mr_node.specs.declared.fault.NodeFault.TheVariants as refusal
use Rattle.mr_node.specs.declared.step.Step.{Step}
use Rattle.mr_node.specs.declared.step.Step.TheVariants as step
use Rattle.mr_loop.specs.declared.fault.LoopFault.{LoopFault}
use Rattle.mr_loop.specs.declared.fault.LoopFault.TheVariants as fault
use Rattle.mr_loop.specs.declared.told.Turn.{Turn}
use Rattle.mr_loop.specs.Stage.{Stage, LoopState, filed, lacking, stage, with_connections}
use Rattle.mr_loop.specs.Carrying.{Carries, Carried, CarriesAs, CarriesOneAs, SoFar, Spilled, WantsRoom}
use Rattle.mr_loop.specs.Causes.{Act, Calls, HasInput, IsLight, Stepped, at_step}
use Rattle.mr_loop.specs.Rows.{Event, Happens, acts, fault_of, spills, tears}
use Rattle.mr_loop.specs.News.{is_client_end, news_of, place_of}
use Rattle.mr_loop.specs.declared.followed.News.{News}
use Rattle.mr_loop.specs.declared.followed.Place.{Place}
use Rattle.mr_loop.specs.Giving.{IsGiven, IsGivenAct, moments_by, moments_in_act}
use Rattle.mr_loop.specs.Counting.{CountsStill, MomentState, Renewed, calls_by, counted, deaf_by, heard_if, ids_by, news_by, one_where, raised, taken, ticks_by, uses_by}
use Rattle.mr_loop.specs.Outcomes.{Broke}
use Rattle.mr_loop.specs.Quiet.{AllWait, OthersWait, left_at}
use Rattle.mr_loop.proofs.Less.{carried_left, done_less}
use Rattle.mr_loop.proofs.Runs.{broke_one, gives_none, still_event}
use Rattle.mr_loop.proofs.Supplying.{Tells, renewed_turn, supplies_step}
use Rattle.mr_loop.proofs.Taking.{step_takes}
use Rattle.mr_loop.proofs.Waiting.{all_is, closed_waits, others_is, some_is}

-- ---- what stays of a host

-- a value that was borrowed is the one that is borrowed
renewed : {A : Type 0} (x y z : MutBor A) → y ≡ record x { now = y.now } → z ≡ record y { now = z.now } → z ≡ record x { now = z.now }
renewed {A} x y z e f = f ∙ ap (λ (b : MutBor A). record b { now = z.now }) e

-- ---- one out

pub carried_one : (out : OutState) (s t : Stage) → Carries out s t → Carried (out ∷ []) s t
carried_one out s t c = (t, c, refl)

-- .. as it is seen
pub carries_seen : (r : Result (Unit {0}) LoopFault) (x out : OutState) (s t : Stage) → x ≡ out → CarriesOneAs r out s t → CarriesOneAs r x s t
carries_seen r x out s t e c = subst (λ y. CarriesOneAs r y s t) (sym e) c

-- room was found for what waits, or the loop ends
spilled_one : (out : OutState) (s t : Stage) → WantsRoom out → t ≡ record s { own = lacking s.own } → Spilled (out ∷ []) s t
spilled_one out s t wants lacks = record { done = []; last = out; rest = []; are = refl; before = s; carried = refl; wants = wants; lacks = lacks }

err_out : (e : LoopFault) (out : OutState) (s t : Stage) → e ≡ fault.Stopped → Spilled (out ∷ []) s t → CarriesOneAs (Err e) out s t
err_out e out s t is spilled = subst (λ z. CarriesOneAs (Err z) out s t) (sym is) spilled

kept_as : (out : OutState) (s : Stage) (o : LoopState) (p : LoopState) (q : Result (Unit {0}) AllocError) (r : Result (Unit {0}) LoopFault) → WantsRoom out → ((x : LoopState) → x ≡ p → Carries out s (record s { own = x }))
    → OnOk q (o ≡ p) → OnErr q (o ≡ lacking s.own) → OnOk r (OnErr q ⊥) → OnErr r (OnOk q ⊥) → IfErr r (λ e. e ≡ fault.Stopped) → CarriesOneAs r out s (record s { own = o })
kept_as out s o p (Ok _) (Ok _) wants carries ok err well ill is = carried_one out s (record s { own = o }) (carries o ok)
kept_as out s o p (Err _) (Ok _) wants carries ok err well ill is = absurd well
kept_as out s o p (Ok _) (Err e) wants carries ok err well ill is = absurd ill
kept_as out s o p (Err _) (Err e) wants carries ok err well ill is = err_out e out s (record s { own = o }) is (spilled_one out s (record s { own = o }) wants (ap (λ (x : LoopState). record s { own = x }) err))

-- an out that was carried out
pub one_out : (x out : OutState) (s t : Stage) → x ≡ out → Carries out s t → (mid : Stage) × Carries x s mid × (t ≡ mid)
one_out x out s t e c = (t, subst (λ y. Carries y s t) (sym e) c, refl)

-- .. of which the loop's own part alone is changed
pub own_out : (x out : OutState) (s : Stage) (p o : LoopState) → x ≡ out → Carries out s (record s { own = p }) → o ≡ p → (mid : Stage) × Carries x s mid × (record s { own = o } ≡ mid)
own_out x out s p o e c is = (record s { own = p }, subst (λ y. Carries y s (record s { own = p })) (sym e) c, ap (λ (z : LoopState). record s { own = z }) is)

stages : (s t : Stage) → t.node ≡ s.node → t.own ≡ s.own → t.wire ≡ s.wire → t.failed ≡ s.failed → t.told ≡ s.told → t.synced ≡ s.synced → t ≡ s
stages s t node own wire failed told synced =
    ap (λ n. stage n t.own t.wire t.failed t.told t.synced) node ∙ (ap (λ o. stage s.node o t.wire t.failed t.told t.synced) own ∙ (ap (λ w. stage s.node s.own w t.failed t.told t.synced) wire
    ∙ (ap (λ k. stage s.node s.own s.wire k t.told t.synced) failed ∙ (ap (λ f. stage s.node s.own s.wire s.failed f t.synced) told ∙ ap (λ y. stage s.node s.own s.wire s.failed s.told y) synced))))

pub closed_as : (x : OutState) (link : LinkId) (s t : Stage) → x ≡ close link → t.node ≡ closed_at link s.node → t.own ≡ with_connections (parted link) s.own → t.wire ≡ s.wire → t.failed ≡ s.failed → t.told ≡ s.told → t.synced ≡ s.synced
    → (mid : Stage) × Carries x s mid × (t ≡ mid)
closed_as x link s t e node own wire failed told synced = one_out x (close link) s t e (stages (record s { own = with_connections (parted link) s.own; node = closed_at link s.node }) t node own wire failed told synced)

pub appended_as : (x : OutState) (texts : List ℕ) (s : Stage) (o : LoopState) (q : Result (Unit {0}) AllocError) (r : Result (Unit {0}) LoopFault) → x ≡ append texts
    → OnOk q (o ≡ filed texts s.own) → OnErr q (o ≡ lacking s.own) → OnOk r (OnErr q ⊥) → OnErr r (OnOk q ⊥) → IfErr r (λ e. e ≡ fault.Stopped) → CarriesOneAs r x s (record s { own = o })
appended_as x texts s o q r e ok err well ill is = carries_seen r x (append texts) s (record s { own = o }) e (kept_as (append texts) s o (filed texts s.own) q r tt (λ y same. ap (λ (z : LoopState). record s { own = z }) same) ok err well ill is)

pub sent_as : (x : OutState) (link : LinkId) (bytes : List ℕ) (s : Stage) (o : LoopState) (q : Result (Unit {0}) AllocError) (r : Result (Unit {0}) LoopFault) → x ≡ send link bytes
    → OnOk q (o ≡ with_connections (sent link bytes) s.own) → OnErr q (o ≡ lacking s.own) → OnOk r (OnErr q ⊥) → OnErr r (OnOk q ⊥) → IfErr r (λ e. e ≡ fault.Stopped) → CarriesOneAs r x s (record s { own = o })
sent_as x link bytes s o q r e ok err well ill is = carries_seen r x (send link bytes) s (record s { own = o }) e (kept_as (send link bytes) s o (with_connections (sent link bytes) s.own) q r tt (λ y same. ap (λ (z : LoopState). record s { own = z }) same) ok err well ill is)

-- ---- all outs

pub none_so_far : (all rest : List OutState) (s : Stage) → rest ≡ all → SoFar all rest s s
none_so_far all rest s e = record { done = []; are = sym e; carried = refl }

carried_append : (xs ys : List OutState) (a b c : Stage) → Carried xs a b → Carried ys b c → Carried (xs ++ ys) a c
carried_append [] ys a b c r q = subst (λ z. Carried ys z c) r q
carried_append (x ∷ xs) ys a b c r q = (r.0, r.1, carried_append xs ys r.0 b c r.2 q)

-- the first of what is left, and what is left behind it
ahead : (all done rest later xs : List OutState) → all ≡ done ++ rest → rest ≡ xs ++ later → all ≡ (done ++ xs) ++ later
ahead all done rest later xs are e = are ∙ (ap (λ ys. done ++ ys) e ∙ sym (append_assoc done xs later))

pub more_so_far : (all rest later xs : List OutState) (s t u : Stage) → rest ≡ xs ++ later → SoFar all rest s t → Carried xs t u → SoFar all later s u
more_so_far all rest later xs s t u e so c = record {
  done = so.done ++ xs;
  are = ahead all so.done rest later xs so.are e;
  carried = carried_append so.done xs s t u so.carried c;
}

pub one_so_far : (all rest later : List OutState) (out : OutState) (s t u : Stage) → rest ≡ out ∷ later → SoFar all rest s t → Carried (out ∷ []) t u → SoFar all later s u
one_so_far all rest later out s t u e so c = more_so_far all rest later (out ∷ []) s t u e so c

pub all_so_far : (all rest : List OutState) (s t : Stage) → rest ≡ [] → SoFar all rest s t → Carried all s t
all_so_far all rest s t e so = subst (λ outs. Carried outs s t) (sym (so.are ∙ (ap (λ ys. so.done ++ ys) e ∙ append-nil so.done))) so.carried

-- .. at which something failed
broken_at : (all done rest later xs front back : List OutState) (x : OutState) → all ≡ done ++ rest → rest ≡ xs ++ later → xs ≡ front ++ x ∷ back → all ≡ (done ++ front) ++ x ∷ (back ++ later)
broken_at all done rest later xs front back x are e is =
    are ∙ (ap (λ ys. done ++ ys) (e ∙ (ap (λ ys. ys ++ later) is ∙ append_assoc front (x ∷ back) later)) ∙ sym (append_assoc done front (x ∷ (back ++ later))))

pub fails_so_far : (why : LoopFault) (all rest later xs : List OutState) (s t u : Stage) → rest ≡ xs ++ later → SoFar all rest s t → CarriesAs (Err why) xs t u → CarriesAs (Err why) all s u
fails_so_far fault.File all rest later xs s t u e so torn = record {
  done = so.done ++ torn.done;
  bytes = torn.bytes;
  rest = torn.rest ++ later;
  are = broken_at all so.done rest later xs torn.done torn.rest (replace torn.bytes) so.are e torn.are;
  before = torn.before;
  carried = carried_append so.done torn.done s t torn.before so.carried torn.carried;
  written = torn.written;
  own = torn.own;
  node = torn.node;
  wire = torn.wire;
  failed = torn.failed;
}
fails_so_far fault.Stopped all rest later xs s t u e so spilled = record {
  done = so.done ++ spilled.done;
  last = spilled.last;
  rest = spilled.rest ++ later;
  are = broken_at all so.done rest later xs spilled.done spilled.rest spilled.last so.are e spilled.are;
  before = spilled.before;
  carried = carried_append so.done spilled.done s t spilled.before so.carried spilled.carried;
  wants = spilled.wants;
  lacks = spilled.lacks;
}
fails_so_far fault.Listener all rest later xs s t u e so never = absurd never

-- .. as it is answered
pub answers_so_far : (r : Result (Unit {0}) LoopFault) (why : LoopFault) (all rest later : List OutState) (out : OutState) (s t u : Stage) → r ≡ Err why → rest ≡ out ∷ later → SoFar all rest s t → CarriesOneAs (Err why) out t u → CarriesAs r all s u
answers_so_far r why all rest later out s t u is e so c = subst (λ z. CarriesAs z all s u) (sym is) (fails_so_far why all rest later (out ∷ []) s t u e so c)

-- .. what is left, carried out as well as it goes
pub rest_so_far : (r : Result (Unit {0}) LoopFault) (all rest : List OutState) (s t u : Stage) → SoFar all rest s t → CarriesAs r rest t u → CarriesAs r all s u
rest_so_far (Ok _) all rest s t u so c = subst (λ outs. Carried outs s u) (sym so.are) (carried_append so.done rest s t u so.carried c)
rest_so_far (Err why) all rest s t u so c = fails_so_far why all rest [] rest s t u (sym (append-nil rest)) so c

-- ---- what goes with its memory

grown_carried : (grown : List ℕ) (s : Stage) → Carried (grown_outs grown) s s
grown_carried [] s = refl
grown_carried (b ∷ grown) s = (s, refl, refl)

-- texts in front
first_so_far : (all rest : List OutState) (grown texts : List ℕ) (s : Stage) → all ≡ grown_outs grown ++ append texts ∷ rest → SoFar all (append texts ∷ rest) s s
first_so_far all rest grown texts s e = record { done = grown_outs grown; are = e; carried = grown_carried grown s }

pub left_as : (all rest left : List OutState) (s t : Stage) → left ≡ rest → SoFar all rest s t → SoFar all left s t
left_as all rest left s t e so = subst (λ outs. SoFar all outs s t) (sym e) so

pub first_filed : (all rest left : List OutState) (grown texts : List ℕ) (s : Stage) (o : LoopState) (q : Result (Unit {0}) AllocError) (r : Result (Unit {0}) LoopFault) → all ≡ grown_outs grown ++ append texts ∷ rest → left ≡ rest
    → OnOk q (o ≡ filed texts s.own) → OnErr q (o ≡ lacking s.own) → OnOk r (OnErr q ⊥) → OnErr r (OnOk q ⊥) → IfErr r (λ e. e ≡ fault.Stopped)
    → OnOk r (SoFar all left s (record s { own = o })) × OnErr r (CarriesAs r all s (record s { own = o }))
first_filed all rest left grown texts s o q (Ok _) e same ok err well ill is =
    let c = appended_as (append texts) texts s o q (Ok tt) refl ok err well ill is in
    (left_as all rest left s (record s { own = o }) same (one_so_far all (append texts ∷ rest) rest (append texts) s s (record s { own = o }) refl (first_so_far all rest grown texts s e) c), tt)
first_filed all rest left grown texts s o q (Err why) e same ok err well ill is =
    let c = appended_as (append texts) texts s o q (Err why) refl ok err well ill is in
    (tt, fails_so_far why all (append texts ∷ rest) rest (append texts ∷ []) s s (record s { own = o }) refl (first_so_far all rest grown texts s e) c)

-- a reply at the end
pub last_sent : (all mid front : List OutState) (link : LinkId) (reply : List ℕ) (s m t : Stage) (o : LoopState) (q : Result (Unit {0}) AllocError) (r : Result (Unit {0}) LoopFault) → mid ≡ front ++ send link reply ∷ []
    → SoFar all mid s m → Carried front m t → OnOk q (o ≡ with_connections (sent link reply) t.own) → OnErr q (o ≡ lacking t.own) → OnOk r (OnErr q ⊥) → OnErr r (OnOk q ⊥) → IfErr r (λ e. e ≡ fault.Stopped)
    → CarriesAs r all s (record t { own = o })
last_sent all mid front link reply s m t o q r e so c ok err well ill is =
    rest_so_far r all (send link reply ∷ []) s t (record t { own = o }) (more_so_far all mid (send link reply ∷ []) front s m t e so c) (sent_as (send link reply) link reply t o q r refl ok err well ill is)

-- ---- a call of the node whose outs aren't all carried out

pub not_told : {tells : Bool} {mode : SyncMode} {drawn after : DrawnState} (unused left : List (List ℕ)) (act : Act) (s called t : Stage) (outs : OutsState) (why : LoopFault) → IsGivenAct unused act outs.used left → Tells (moments_in_act act) drawn after
    → Calls act s called outs → CarriesAs (Err why) (outs_of outs) called t → Broke tells mode unused drawn after why s t
not_told unused left act s called t outs fault.File given told calls torn = broke_one (tears act outs) left refl given told (record { called = called; calls = calls; torn = torn })
not_told unused left act s called t outs fault.Stopped given told calls spilled = broke_one (spills act outs) left refl given told (record { called = called; calls = calls; spilled = spilled })
not_told unused left act s called t outs fault.Listener given told calls never = absurd never

-- ---- what is counted where a fresh id was taken

pub taken_steps : (used : Option (List ℕ)) (turn : Turn) → (taken used turn).steps ≡ turn.steps
taken_steps None turn = refl
taken_steps (Some id) turn = refl

pub taken_done : (used : Option (List ℕ)) (turn : Turn) → (taken used turn).done ≡ turn.done
taken_done None turn = refl
taken_done (Some id) turn = refl

pub taken_used : (used : Option (List ℕ)) (turn : Turn) → (taken used turn).used ≡ raised (one_where used) turn.used
taken_used None turn = refl
taken_used (Some id) turn = refl

pub taken_deaf : (used : Option (List ℕ)) (turn : Turn) → (taken used turn).deaf ≡ turn.deaf
taken_deaf None turn = refl
taken_deaf (Some id) turn = refl

pub taken_followed : (used : Option (List ℕ)) (turn : Turn) → (taken used turn).followed ≡ turn.followed
taken_followed None turn = refl
taken_followed (Some id) turn = refl

-- ---- a step

-- whose end a step was made at
other_end : {a : NodeState} {l : LinkId} (o : Option EndState) → end_of a l ≡ o → ((u : List ℕ) → Some (an_end u) ≡ o → ⊥) → ((t : Transaction) (u : List ℕ) → Some (open_end t u) ≡ o → ⊥) → IsClients a l → ⊥
other_end o is no_client no_open (alone u agrees) = no_client u (sym agrees.is ∙ is)
other_end o is no_client no_open (within t u agrees) = no_open t u (sym agrees.is ∙ is)

client_as : (a : NodeState) (l : LinkId) (b : Bool) (o : Option EndState) → end_of a l ≡ o → (IsTrue b → IsClients a l) → (IsClients a l → IsTrue b) → b ≡ is_client_end o
client_as a l b (Some (an_end u)) is tells told = told (alone u (record { is = is }))
client_as a l b (Some (open_end t u)) is tells told = told (within t u (record { is = is }))
client_as a l true None is tells told = absurd (other_end None is (λ u e. cc) (λ t u e. cc) (tells refl))
client_as a l true (Some (a_replica u)) is tells told = absurd (other_end (Some (a_replica u)) is (λ v e. cc) (λ t v e. cc) (tells refl))
client_as a l true (Some a_master) is tells told = absurd (other_end (Some a_master) is (λ u e. cc) (λ t u e. cc) (tells refl))
client_as a l true (Some closed) is tells told = absurd (other_end (Some closed) is (λ u e. cc) (λ t u e. cc) (tells refl))
client_as a l false None is tells told = refl
client_as a l false (Some (a_replica u)) is tells told = refl
client_as a l false (Some a_master) is tells told = refl
client_as a l false (Some closed) is tells told = refl

pub at_client : (a : NodeState) (l : LinkId) (b : Bool) → (IsTrue b → IsClients a l) → (IsClients a l → IsTrue b) → b ≡ is_client_end (end_of a l)
at_client a l b tells told = client_as a l b (end_of a l) refl tells told

-- of a link with a connection on which no more waits than may
pub steps_at : (s : Stage) (socket link : LinkId) (given : Given) (fresh : List ℕ) (news : Option News) (n : NodeState) (outs : OutsState) → HasLink s.own.connections socket link → IsLight s.node s.own socket link → Stepped s.node link given fresh n (Ok (step.Done outs))
    → news ≡ news_of (place_of (role_of s.node) (is_client_end (end_of s.node link))) (role_of n) outs → Calls (at_step socket link given fresh news) s (record s { node = n }) outs
steps_at s socket link given fresh news n outs has light stepped are = record { has = has; light = light; stepped = stepped; news_are = are; same = refl }

-- what it came to, by where it is made, the role behind it and the outs that it gave
pub news_at : (a n : NodeState) (l : LinkId) (place : Place) (after : Role) (outs given_out : OutsState) (news : Option News) → place ≡ place_of (role_of a) (is_client_end (end_of a l)) → after ≡ role_of n → given_out ≡ outs → news ≡ news_of place after given_out
    → news ≡ news_of (place_of (role_of a) (is_client_end (end_of a l))) (role_of n) outs
news_at a n l place after outs given_out news where_made role seen are =
    are ∙ (ap (λ p. news_of p after given_out) where_made ∙ (ap (λ r. news_of (place_of (role_of a) (is_client_end (end_of a l))) r given_out) role ∙ ap (λ o. news_of (place_of (role_of a) (is_client_end (end_of a l))) (role_of n) o) seen))

-- one that used something, with its outs carried out, and what is counted of it
-- what is counted as a step is asked for, used something, and came to something between a replica and its master
abbrev stepped_once : Option News → Turn → Turn
stepped_once news turn = record turn { steps = counted (turn.steps + 1); done = counted (turn.done + 1); followed = heard_if news turn.followed }

pub steps_once : {tells : Bool} {mode : SyncMode} (s t : Stage) (socket link : LinkId) (given : Given) (fresh : List ℕ) (news : Option News) (n : NodeState) (outs : OutsState) (old mid new : MomentState) (counting using : Turn)
    → Calls (at_step socket link given fresh news) s (record s { node = n }) outs → Carried (outs_of outs) (record s { node = n }) t → fresh ≡ old.fresh → mid.fresh ≡ old.fresh → old.drawn.clock ≤ℤ given.now → mid.drawn ≡ with_moment given.now old.drawn
    → counting ≡ record old.turn { steps = counted (old.turn.steps + 1) } → using ≡ record counting { done = counted (counting.done + 1) } → mid.turn ≡ record using { followed = heard_if news using.followed } → Renewed outs.used mid new
    → CountsStill tells mode old new s t
steps_once s t socket link given fresh news n outs old mid new counting using calls carried is first forward told one used heard took =
    let hearing = mid.turn in
    let turn : new.turn ≡ taken outs.used hearing = renewed_turn outs.used mid new took in
    let all : hearing ≡ stepped_once news old.turn = heard ∙ (ap (λ (x : Turn). record x { followed = heard_if news x.followed }) used ∙ ap (λ (x : Turn). record x { done = counted (x.done + 1); followed = heard_if news x.followed }) one) in
    still_event (acts (at_step socket link given fresh news) outs) old new refl refl (record { called = record s { node = n }; calls = calls; carried = carried })
    (supplies_step old mid new socket link given fresh news outs is first forward told (step_takes s.node n link given fresh outs calls.stepped) took)
    (ap (λ (x : Turn). x.steps) turn ∙ (taken_steps outs.used hearing ∙ ap (λ (x : Turn). x.steps) all))
    (ap (λ (x : Turn). x.done) turn ∙ (taken_done outs.used hearing ∙ ap (λ (x : Turn). x.done) all))
    (ap (λ (x : Turn). x.used) turn ∙ (taken_used outs.used hearing ∙ ap (λ (x : Turn). raised (one_where outs.used) x.used) all))
    (ap (λ (x : Turn). x.deaf) turn ∙ (taken_deaf outs.used hearing ∙ ap (λ (x : Turn). x.deaf) all))
    (ap (λ (x : Turn). x.followed) turn ∙ (taken_followed outs.used hearing ∙ ap (λ (x : Turn). x.followed) all))

-- one of which only that it was made is counted
pub counts_call : {tells : Bool} {mode : SyncMode} {s t : Stage} (e : Event) (old new : MomentState) → fault_of e ≡ None → ticks_by e ≡ 0 → calls_by e ≡ 1 → uses_by e ≡ 0 → ids_by e ≡ 0 → deaf_by e ≡ 0 → news_by e ≡ None
    → Happens tells mode s e t → IsGiven (old.fresh ∷ []) e (old.fresh ∷ []) → Tells (moments_by e) old.drawn new.drawn → new.fresh ≡ old.fresh → new.turn ≡ record old.turn { steps = counted (old.turn.steps + 1) } → CountsStill tells mode old new s t
counts_call e old new goes_on no_tick call uses ids deaf news h given told fresh all =
    still_event e old new goes_on no_tick h
    (gives_none e old new given fresh told)
    (ap (λ (x : Turn). x.steps) all ∙ ap (λ k. raised k old.turn.steps) (sym call))
    (ap (λ (x : Turn). x.done) all ∙ ap (λ k. raised k old.turn.done) (sym uses))
    (ap (λ (x : Turn). x.used) all ∙ ap (λ k. raised k old.turn.used) (sym ids))
    (ap (λ (x : Turn). x.deaf) all ∙ ap (λ k. raised k old.turn.deaf) (sym deaf))
    (ap (λ (x : Turn). x.followed) all ∙ ap (λ n. heard_if n old.turn.followed) (sym news))

-- where something is unread, a step isn't answered so
never_at : (a b : NodeState) (l : LinkId) (u : List ℕ) (given : Given) (fresh : List ℕ) (r : Result Step NodeFault) → (ClientStep a l u given fresh b r → ⊥) → ((t : Transaction) → WithinStep a l t u given b r → ⊥) → (ReplicaStep a l u b r → ⊥) → (MasterStep a l b r → ⊥)
    → a.core.up ≡ true → (u ≡ [] → ⊥) → Agreeing a l u → Steps a l given fresh b r → ⊥
never_at a b l u given fresh r no_client no_open no_replica no_master up some (client agrees) row = no_client (row.at_client u (record { up = up; agrees = agrees }))
never_at a b l u given fresh r no_client no_open no_replica no_master up some (waiting t agrees) row = no_open t (row.at_waiting t u (record { up = up; agrees = agrees }))
never_at a b l u given fresh r no_client no_open no_replica no_master up some (replica agrees) row = no_replica (row.at_replica u (record { up = up; agrees = agrees }))
never_at a b l u given fresh r no_client no_open no_replica no_master up some (master agrees) row = no_master (row.at_master up (ap name_of agrees.found))
never_at a b l u given fresh r no_client no_open no_replica no_master up some (shut is none) row = some none

some_bytes : (a : NodeState) (l : LinkId) (i : HasInput a l) → i.unread.bytes ≡ [] → ⊥
some_bytes a l i none = i.some (i.unread.counted ∙ ap length none)

pub never_closed : (a b : NodeState) (l : LinkId) (given : Given) (fresh : List ℕ) → HasInput a l → Steps a l given fresh b (Ok step.Closed) → ⊥
never_closed a b l given fresh i row = never_at a b l i.unread.bytes given fresh (Ok step.Closed) (λ x. x) (λ t x. x) (λ x. x) (λ x. x) i.unread.up (some_bytes a l i) i.unread.agree row

-- what refuses a step and stops no node is that memory is lacking
pub lacks_memory : (a b : NodeState) (l : LinkId) (given : Given) (fresh : List ℕ) (e : NodeFault) → HasInput a l → (e ≡ refusal.Stopped → ⊥) → Steps a l given fresh b (Err e) → e ≡ refusal.Memory
lacks_memory a b l given fresh refusal.Memory i other row = refl
lacks_memory a b l given fresh refusal.Stopped i other row = absurd (other refl)
lacks_memory a b l given fresh refusal.NoLink i other row = absurd (never_at a b l i.unread.bytes given fresh (Err refusal.NoLink) (λ x. x) (λ t x. x) (λ x. x) (λ x. x) i.unread.up (some_bytes a l i) i.unread.agree row)
lacks_memory a b l given fresh refusal.InputFull i other row = absurd (never_at a b l i.unread.bytes given fresh (Err refusal.InputFull) (λ x. x) (λ t x. x) (λ x. x) (λ x. x) i.unread.up (some_bytes a l i) i.unread.agree row)

-- where memory is lacking, what reads at the link to the master still does
lacks_others : (a b : NodeState) (l : LinkId) (u : List ℕ) → MasterAgrees a l u → upstream.Lacks a l b → OthersWait a l → OthersWait b l
lacks_others a b l u m h q =
    let same = some_is (h.listens.name, h.listens.follow) (l, m.reader) (sym h.listens.found ∙ m.found) in
    let row = h.listens.row u (subst (λ f. FollowAgrees f u) (sym (ap (λ (z : LinkId × FollowState). z.1) same)) m.agrees) in
    let reads : b.follow ≡ Some (h.listens.name, h.listens.next) = ap (λ (z : NodeState). z.follow) h.node ∙ ap (λ (z : CourseState). z.follow) row.is in
    record {
      each = λ x ne.
          let end : end_of b x ≡ end_of a x = ap (λ (z : NodeState). end_of z x) h.node in
          record {
            at_client = λ v ag. (q.each x ne).at_client v (record { is = sym end ∙ ag.is });
            at_waiting = λ t v ag. (q.each x ne).at_waiting t v (record { is = sym end ∙ ag.is });
            at_replica = λ v ag. (q.each x ne).at_replica v (record { is = sym end ∙ ag.is });
            at_master = λ f e. absurd (ne (ap (λ (z : LinkId × FollowState). z.0) (some_is (x, f) (h.listens.name, h.listens.next) (sym e ∙ reads)) ∙ h.named));
          };
    }

pub memory_closed : ◌≡◌ {A = Result Step NodeFault} (Err refusal.Memory) (Ok step.Closed) → ⊥
memory_closed e = cc

memory_others : (a b : NodeState) (l : LinkId) (u : List ℕ) (given : Given) (fresh : List ℕ) → a.core.up ≡ true → Agreeing a l u → Steps a l given fresh b (Err refusal.Memory) → OthersWait a l → OthersWait b l
memory_others a b l u given fresh up (client agrees) row q = others_is l (row.at_client u (record { up = up; agrees = agrees })).1 q
memory_others a b l u given fresh up (waiting t agrees) row q = others_is l (row.at_waiting t u (record { up = up; agrees = agrees })).1 q
memory_others a b l u given fresh up (replica agrees) row q = others_is l (row.at_replica u (record { up = up; agrees = agrees })).1 q
memory_others a b l u given fresh up (master agrees) row q = lacks_others a b l u agrees (row.at_master up (ap name_of agrees.found)) q
memory_others a b l u given fresh up (shut is none) row q = absurd (memory_closed (row.at_shut up is).0)

-- .. and so the link that is closed for it was the last that could be stepped
pub refused_all : (a b c : NodeState) (l : LinkId) (given : Given) (fresh : List ℕ) → HasInput a l → Steps a l given fresh b (Err refusal.Memory) → c ≡ closed_at l b → OthersWait a l → AllWait c
refused_all a b c l given fresh i row is q = all_is is (closed_waits l b (memory_others a b l i.unread.bytes given fresh i.unread.up i.unread.agree row q))

-- its link leaves less behind a step and its outs
pub acts_less : (s t : Stage) (n : NodeState) (l : LinkId) (given : Given) (fresh : List ℕ) (outs : OutsState) → Stepped s.node l given fresh n (Ok (step.Done outs)) → Carried (outs_of outs) (record s { node = n }) t → left_at t.node l < left_at s.node l
acts_less s t n l given fresh outs stepped carried =
    let less = done_less s.node n l given fresh outs stepped in
    let here : left_at n l ≤ left_at n l = omega arith in
    let most = carried_left l (left_at n l) (outs_of outs) (record s { node = n }) t carried here in
    omega (arith, less, most)
