-- That what is counted of a step is what the node's follower made of it.
use Rattle.std.proofs.Common.{◌≡◌, ◌≢◌, ◌==◌, ◌⊎◌, inl, inr, ℕ, List, [], ◌∷◌, Bool, true, false, length, arith, Option, None, Some, Result, Ok, refl, sym, ap, ◌∙◌, if◌then◌else◌}
use Rattle.std.proofs.lemmas.Bool.{ne_eqb}
use Rattle.mr_links.specs.declared.link_id.LinkId.{LinkId}
use Rattle.mr_data.specs.declared.given.Given.{Given}
use Rattle.mr_replication.specs.State.{CourseState, name_of}
use Rattle.mr_replication.specs.declared.upstream.UpstreamStep.{UpstreamStep}
use Rattle.mr_replication.specs.declared.upstream.UpstreamStep.TheVariants as outcome
use Rattle.mr_node_links.specs.State.{EndState, streams}
use Rattle.mr_node_links.specs.State.EndState.{client, waiting, replica as replica_end, upstream}
use Rattle.mr_follower.specs.State.{FollowState}
use Rattle.mr_follower.specs.Handshake.{IsGreeting, capabilities_line, line_after, next_of, port_line, psync_line}
use Rattle.mr_follower.specs.Rows.{IsBadLine, IsBadSnapshot, IsBadStream, IsRefused, WantsLine}
use Rattle.mr_follower.specs.declared.phase.Phase.{Phase}
use Rattle.mr_follower.specs.declared.phase.Phase.TheVariants as phase
use Rattle.mr_node_output.specs.Outs.{OutsState}
use Rattle.mr_node_spec.specs.State.{IsNode, NodeState, MasterAgrees, end_of}
use Rattle.mr_node_spec.specs.Telling.{link_at, link_of}
use Rattle.mr_node_spec.specs.UpstreamRows as master
use Rattle.mr_node.specs.Calls.{Agreeing}
use Rattle.mr_node.specs.Calls.Agreeing.{client as of_client, waiting as of_waiting, replica as of_replica, master as of_master, shut as of_shut}
use Rattle.mr_node.specs.Parts.{role_at, role_of}
use Rattle.mr_node.specs.Steps.{Steps}
use Rattle.mr_node.specs.declared.fault.NodeFault.{NodeFault}
use Rattle.mr_node.specs.declared.role.Role.{Role}
use Rattle.mr_node.specs.declared.role.Role.TheVariants as role
use Rattle.mr_node.specs.declared.step.Step.{Step}
use Rattle.mr_node.specs.declared.step.Step.TheVariants as step
use Rattle.mr_loop.specs.declared.followed.News.{News}
use Rattle.mr_loop.specs.Causes.{Stepped}
use Rattle.mr_loop.specs.Hearing.{IsWhatCame, news_by_step, spoiled_at}
use Rattle.mr_loop.specs.News.{answered_by, is_client_end, news_of, place_of}
use Rattle.mr_loop.specs.declared.followed.Place.{Place}
use Rattle.mr_loop.specs.declared.followed.Place.TheVariants as place
use Rattle.mr_loop.proofs.Stepped.{followed_end, row_of}
use Rattle.mr_loop.proofs.Waiting.{none_some, some_is}

-- ---- roles

-- who follows is no master
follower_only : (a : NodeState) (f : LinkId × FollowState) (b : Bool) → a.core.master ≡ b → IsNode a → a.follow ≡ Some f → a.core.master ≡ false
follower_only a f true is node found = absurd (none_some f (sym (node.nobody is) ∙ found))
follower_only a f false is node found = is

follows_only : (a : NodeState) (f : LinkId × FollowState) → IsNode a → a.follow ≡ Some f → a.core.master ≡ false
follows_only a f node found = follower_only a f a.core.master refl node found

role_when : (a : NodeState) (x : Role) → a.core.master ≡ false → role_at (link_of a.follow) ≡ x → role_of a ≡ x
role_when a x replica stands = ap (λ b. if b then role.Master else role_at (link_of a.follow)) replica ∙ stands

role_in : (a : NodeState) (l : LinkId) (f : FollowState) (x : Role) → a.core.master ≡ false → a.follow ≡ Some (l, f) → role_at (link_at f.phase) ≡ x → role_of a ≡ x
role_in a l f x replica follows stands = role_when a x replica (ap (λ o. role_at (link_of o)) follows ∙ stands)

greeting_sync : (p : Phase) → IsGreeting p → (role_at (link_at p) ≡ role.Sync) × (role_at (link_at (next_of p)) ≡ role.Sync)
greeting_sync phase.Ping g = (refl, refl)
greeting_sync phase.Port g = (refl, refl)
greeting_sync phase.Capabilities g = (refl, refl)
greeting_sync phase.Psync g = absurd g
greeting_sync (phase.Snapshot id offset) g = absurd g
greeting_sync phase.Stream g = absurd g

lines_sync : (p : Phase) → WantsLine p → role_at (link_at p) ≡ role.Sync
lines_sync phase.Ping w = refl
lines_sync phase.Port w = refl
lines_sync phase.Capabilities w = refl
lines_sync phase.Psync w = refl
lines_sync (phase.Snapshot id offset) w = refl
lines_sync phase.Stream w = absurd (w refl)

-- a line that is sent has bytes
abbrev HasFirst : List ℕ → Type 0
HasFirst [] = ⊥
HasFirst (b ∷ bytes) = Unit {0}

some_sent : (bytes : List ℕ) → HasFirst bytes → (length bytes == 0) ≡ false
some_sent [] h = absurd h
some_sent (b ∷ bytes) h = ne_eqb (length (b ∷ bytes)) 0 (λ e. omega (arith, e))

line_sent : (p : Phase) (port : ℕ) (offer : Option (List ℕ × ℕ)) → IsGreeting p → (length (line_after p port offer) == 0) ≡ false
line_sent phase.Ping port offer g = some_sent (port_line port) tt
line_sent phase.Port port offer g = some_sent capabilities_line tt
line_sent phase.Capabilities port None g = some_sent (psync_line None) tt
line_sent phase.Capabilities port (Some o) g = some_sent (psync_line (Some o)) tt
line_sent phase.Psync port offer g = absurd g
line_sent (phase.Snapshot id offset) port offer g = absurd g
line_sent phase.Stream port offer g = absurd g

-- ---- a step at the link to the master

-- what it is told as, by all that its host sees
by_all : (a b : NodeState) (l : LinkId) (outs o : OutsState) (told : Option News) (p : Place) (q : Role) → told ≡ news_of (place_of (role_of a) (is_client_end (end_of a l))) (role_of b) outs
    → place_of (role_of a) (is_client_end (end_of a l)) ≡ p → role_of b ≡ q → outs ≡ o → told ≡ news_of p q o
by_all a b l outs o told p q are made after given_out = are ∙ (ap (λ x. news_of x (role_of b) outs) made ∙ (ap (λ x. news_of p x outs) after ∙ ap (λ x. news_of p q x) given_out))

module _ (a b : NodeState) (l : LinkId) (outs : OutsState) (u : List ℕ) (node : IsNode a) (m : MasterAgrees a l u) where
  replica : a.core.master ≡ false
  replica = follows_only a (l, m.reader) node m.found

  made_at : (x : Role) → role_at (link_at m.reader.phase) ≡ x → place_of (role_of a) (is_client_end (end_of a l)) ≡ place_of x false
  made_at x stands = ap (λ r. place_of r (is_client_end (end_of a l))) (role_in a l m.reader x replica m.found stands) ∙ ap (λ e. place_of x (is_client_end e)) (followed_end a l m.reader node m.found)

  module _ (came : UpstreamStep) (h : master.Hears a l came b outs) where
    still : h.course.master ≡ a.core.master → b.core.master ≡ false
    still same = ap (λ (z : NodeState). z.core.master) h.node ∙ (same ∙ replica)

    stands_behind : (g : FollowState) (x : Role) → h.course.master ≡ a.core.master → h.course.follow ≡ Some (l, g) → role_at (link_at g.phase) ≡ x → role_of b ≡ x
    stands_behind g x same reads stands = role_in b l g x (still same) (ap (λ (z : NodeState). z.follow) h.node ∙ reads) stands

    stands_apart : h.course.master ≡ a.core.master → h.course.follow ≡ None → role_of b ≡ role.Connect
    stands_apart same nobody = role_when b role.Connect (still same) (ap (λ o. role_at (link_of o)) (ap (λ (z : NodeState). z.follow) h.node ∙ nobody))

master_news : (a b : NodeState) (l : LinkId) (outs : OutsState) (told : Option News) (u : List ℕ) (node : IsNode a) (m : MasterAgrees a l u) (came : UpstreamStep) (h : master.Hears a l came b outs) → (came ≡ outcome.Idle → ⊥)
    → told ≡ news_of (place_of (role_of a) (is_client_end (end_of a l))) (role_of b) outs → told ≡ news_by_step m.reader.phase came h.told
master_news a b l outs told u node m outcome.Idle h some are = absurd (some refl)
master_news a b l outs told u node m outcome.Said h some are =
    let row = row_of a b l u outcome.Said h.course h.told h.listens h.named m in
    let stands = greeting_sync m.reader.phase row.greets.greeting in
    by_all a b l outs (master.outs_behind outcome.Said l h.told) told place.BeforeStream role.Sync are (made_at a b l outs u node m role.Sync stands.0)
    (stands_behind a b l outs u node m outcome.Said h h.listens.next role.Sync (ap (λ (z : CourseState). z.master) row.is) (ap (λ (z : CourseState). z.follow) row.is) (ap (λ p. role_at (link_at p)) row.greets.state.waits ∙ stands.1)) h.outs_are
    ∙ ap (λ x. Some (answered_by x)) (ap (λ x. length x == 0) row.greets.says ∙ line_sent m.reader.phase m.reader.port m.reader.offer row.greets.greeting)
master_news a b l outs told u node m outcome.Announced h some are =
    let row = row_of a b l u outcome.Announced h.course h.told h.listens h.named m in
    by_all a b l outs (master.outs_behind outcome.Announced l h.told) told place.BeforeStream role.Sync are (made_at a b l outs u node m role.Sync (ap (λ p. role_at (link_at p)) row.answers.asked))
    (stands_behind a b l outs u node m outcome.Announced h h.listens.next role.Sync (ap (λ (z : CourseState). z.master) row.is) (ap (λ (z : CourseState). z.follow) row.is) (ap (λ p. role_at (link_at p)) row.answers.state.waits)) h.outs_are
master_news a b l outs told u node m outcome.Continued h some are =
    let row = row_of a b l u outcome.Continued h.course h.told h.listens h.named m in
    by_all a b l outs (master.outs_behind outcome.Continued l h.told) told place.BeforeStream role.Connected are (made_at a b l outs u node m role.Sync (ap (λ p. role_at (link_at p)) row.answers.asked))
    (stands_behind a b l outs u node m outcome.Continued h h.listens.next role.Connected (ap (λ (z : CourseState). z.master) row.is) (ap (λ (z : CourseState). z.follow) row.is) (ap (λ p. role_at (link_at p)) row.answers.state.waits)) h.outs_are
master_news a b l outs told u node m outcome.Loaded h some are =
    let row = row_of a b l u outcome.Loaded h.course h.told h.listens h.named m in
    by_all a b l outs (master.outs_behind outcome.Loaded l h.told) told place.BeforeStream role.Connected are (made_at a b l outs u node m role.Sync (ap (λ p. role_at (link_at p)) row.installs.announced))
    (stands_behind a b l outs u node m outcome.Loaded h h.listens.next role.Connected (ap (λ (z : CourseState). z.master) row.is) (ap (λ (z : CourseState). z.follow) row.is) (ap (λ p. role_at (link_at p)) row.installs.state.waits)) h.outs_are
master_news a b l outs told u node m outcome.Applied h some are =
    let row = row_of a b l u outcome.Applied h.course h.told h.listens h.named m in
    by_all a b l outs (master.outs_behind outcome.Applied l h.told) told place.InStream role.Connected are (made_at a b l outs u node m role.Connected (ap (λ p. role_at (link_at p)) row.follows.streams))
    (stands_behind a b l outs u node m outcome.Applied h h.listens.next role.Connected (ap (λ (z : CourseState). z.master) row.is) (ap (λ (z : CourseState). z.follow) row.is) (ap (λ p. role_at (link_at p)) row.follows.state.waits)) h.outs_are
master_news a b l outs told u node m outcome.Left h some are =
    let row = row_of a b l u outcome.Left h.course h.told h.listens h.named m in
    by_all a b l outs (master.outs_behind outcome.Left l h.told) told place.BeforeStream role.Connect are (made_at a b l outs u node m role.Sync (lines_sync m.reader.phase (wanted row.cause)))
    (stands_apart a b l outs u node m outcome.Left h (ap (λ (z : CourseState). z.master) row.is) (ap (λ (z : CourseState). z.follow) row.is)) h.outs_are
  where
    wanted : (IsBadLine m.reader u ⊎ IsRefused m.reader u) → WantsLine m.reader.phase
    wanted (inl bad) = bad.wants
    wanted (inr refused) = refused.wants
master_news a b l outs told u node m outcome.Spoiled h some are =
    let row = row_of a b l u outcome.Spoiled h.course h.told h.listens h.named m in
    spoils (stands_apart a b l outs u node m outcome.Spoiled h (ap (λ (z : CourseState). z.master) row.is) (ap (λ (z : CourseState). z.follow) row.is)) row.cause
  where
    spoils : role_of b ≡ role.Connect → (IsBadSnapshot m.reader u ⊎ IsBadStream m.reader u a.core.held a.core.lineage.stream.offset) → told ≡ Some (spoiled_at m.reader.phase)
    spoils behind (inl bad) =
        by_all a b l outs (master.outs_behind outcome.Spoiled l h.told) told place.BeforeStream role.Connect are (made_at a b l outs u node m role.Sync (ap (λ p. role_at (link_at p)) bad.announced)) behind h.outs_are
        ∙ sym (ap (λ p. Some (spoiled_at p)) bad.announced)
    spoils behind (inr bad) =
        by_all a b l outs (master.outs_behind outcome.Spoiled l h.told) told place.InStream role.Connect are (made_at a b l outs u node m role.Connected (ap (λ p. role_at (link_at p)) bad.streams)) behind h.outs_are
        ∙ sym (ap (λ p. Some (spoiled_at p)) bad.streams)

-- ---- whatever the link is

what_came_at : (a b : NodeState) (l : LinkId) (u : List ℕ) (given : Given) (fresh : List ℕ) (outs : OutsState) (told : Option News) (f : FollowState) → IsNode a → a.core.up ≡ true → Agreeing a l u → a.follow ≡ Some (l, f)
    → Steps a l given fresh b (Ok (step.Done outs)) → told ≡ news_of (place_of (role_of a) (is_client_end (end_of a l))) (role_of b) outs → IsWhatCame a b l f outs told
what_came_at a b l u given fresh outs told f node up (of_client agrees) found row are = absurd (apart_from (followed_end a l f node found) agrees.is) where
  apart_from : end_of a l ≡ Some upstream → end_of a l ≡ Some (client u) → ⊥
  apart_from is other = cc
what_came_at a b l u given fresh outs told f node up (of_waiting t agrees) found row are = absurd (apart_from (followed_end a l f node found) agrees.is) where
  apart_from : end_of a l ≡ Some upstream → end_of a l ≡ Some (waiting t u) → ⊥
  apart_from is other = cc
what_came_at a b l u given fresh outs told f node up (of_replica agrees) found row are = absurd (apart_from (followed_end a l f node found) agrees.is) where
  apart_from : end_of a l ≡ Some upstream → end_of a l ≡ Some (replica_end u) → ⊥
  apart_from is other = cc
what_came_at a b l u given fresh outs told f node up (of_master m) found row are =
    let h = row.at_master up (ap name_of found) in
    let same : m.reader ≡ f = ap (λ (z : LinkId × FollowState). z.1) (some_is (l, m.reader) (l, f) (sym m.found ∙ found)) in
    record { came = h.0; hears = h.2; is = master_news a b l outs told u node m h.0 h.2 h.1 are ∙ ap (λ (z : FollowState). news_by_step z.phase h.0 h.2.told) same }
what_came_at a b l u given fresh outs told f node up (of_shut is none) found row are = absurd (done_closed (row.at_shut up is).0) where
  done_closed : ◌≡◌ {A = Result Step NodeFault} (Ok (step.Done outs)) (Ok step.Closed) → ⊥
  done_closed e = cc

pub what_came : (a b : NodeState) (l : LinkId) (given : Given) (fresh : List ℕ) (outs : OutsState) (told : Option News) (f : FollowState) → Stepped a l given fresh b (Ok (step.Done outs)) → a.follow ≡ Some (l, f)
    → told ≡ news_of (place_of (role_of a) (is_client_end (end_of a l))) (role_of b) outs → IsWhatCame a b l f outs told
what_came a b l given fresh outs told f s found are = what_came_at a b l s.input.unread.bytes given fresh outs told f s.input.node s.input.unread.up s.input.unread.agree found s.row are

-- ---- .. and where it is another's

-- a client's, whatever the node's role
at_clients : (r q : Role) (outs : OutsState) → news_of (place_of r true) q outs ≡ None
at_clients role.Master q outs = refl
at_clients role.Connect q outs = refl
at_clients role.Sync q outs = refl
at_clients role.Connected q outs = refl

of_end : (a b : NodeState) (l : LinkId) (e : EndState) (outs : OutsState) (told : Option News) → end_of a l ≡ Some e → is_client_end (Some e) ≡ true → told ≡ news_of (place_of (role_of a) (is_client_end (end_of a l))) (role_of b) outs → told ≡ None
of_end a b l e outs told is a_client are = are ∙ (ap (λ c. news_of (place_of (role_of a) c) (role_of b) outs) (ap is_client_end is ∙ a_client) ∙ at_clients (role_of a) (role_of b) outs)

-- a master's
of_master_alone : (a b : NodeState) (l : LinkId) (outs : OutsState) (told : Option News) → a.core.master ≡ true → told ≡ news_of (place_of (role_of a) (is_client_end (end_of a l))) (role_of b) outs → told ≡ None
of_master_alone a b l outs told is are = are ∙ ap (λ r. news_of (place_of r (is_client_end (end_of a l))) (role_of b) outs) (ap (λ c. if c then role.Master else role_at (link_of a.follow)) is)

nothing_at : (a b : NodeState) (l : LinkId) (u : List ℕ) (given : Given) (fresh : List ℕ) (outs : OutsState) (told : Option News) → IsNode a → a.core.up ≡ true → Agreeing a l u → name_of a.follow ≢ Some l
    → Steps a l given fresh b (Ok (step.Done outs)) → told ≡ news_of (place_of (role_of a) (is_client_end (end_of a l))) (role_of b) outs → told ≡ None
nothing_at a b l u given fresh outs told node up (of_client agrees) other row are = of_end a b l (client u) outs told agrees.is refl are
nothing_at a b l u given fresh outs told node up (of_waiting t agrees) other row are = of_end a b l (waiting t u) outs told agrees.is refl are
nothing_at a b l u given fresh outs told node up (of_replica agrees) other row are = of_master_alone a b l outs told (node.sends l (ap streams agrees.is)) are
nothing_at a b l u given fresh outs told node up (of_master m) other row are = absurd (other (ap name_of m.found))
nothing_at a b l u given fresh outs told node up (of_shut is none) other row are = absurd (done_closed (row.at_shut up is).0) where
  done_closed : ◌≡◌ {A = Result Step NodeFault} (Ok (step.Done outs)) (Ok step.Closed) → ⊥
  done_closed e = cc

pub nothing_else : (a b : NodeState) (l : LinkId) (given : Given) (fresh : List ℕ) (outs : OutsState) (told : Option News) → Stepped a l given fresh b (Ok (step.Done outs)) → name_of a.follow ≢ Some l
    → told ≡ news_of (place_of (role_of a) (is_client_end (end_of a l))) (role_of b) outs → told ≡ None
nothing_else a b l given fresh outs told s other are = nothing_at a b l s.input.unread.bytes given fresh outs told s.input.node s.input.unread.up s.input.unread.agree other s.row are
