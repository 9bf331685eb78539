-- The link to its master, at a server that makes a step there: which connection it is, what the World makes of the step, and what else stays.
use Rattle.std.proofs.Common.{◌≡◌, ◌++◌, ℕ, List, [], Bool, true, false, Option, None, Some, append-nil, append_assoc, refl, sym, ap, subst, ◌∙◌}
use Rattle.std.specs.Prelude.{slice_get}
use Rattle.mr_links.specs.declared.link_id.LinkId.{LinkId}
use Rattle.mr_follower.specs.State.{FollowState}
use Rattle.mr_follower.specs.State as follower
use Rattle.mr_replication.specs.State.{CourseState, name_of}
use Rattle.mr_replication.specs.declared.upstream.UpstreamStep.{UpstreamStep}
use Rattle.mr_replication.specs.declared.upstream.UpstreamStep.TheVariants as outcome
use Rattle.mr_node_links.specs.State.{EndState, Transaction, put_end}
use Rattle.mr_node_links.specs.State.EndState.{upstream, shut}
use Rattle.mr_node_output.specs.Outs.{OutsState}
use Rattle.mr_node_spec.specs.State.{MasterAgrees, NodeState, end_of as node_end}
use Rattle.mr_node_spec.specs.UpstreamRows as master
use Rattle.mr_connections.specs.State.{HasLink}
use Rattle.mr_loop.specs.Stage.{Stage}
use Rattle.mr_loop.specs.Causes.{HasInput}
use Rattle.law_refinement.specs.Way.{unread}
use Rattle.law_refinement.specs.State.{Link, Slot, WorldState}
use Rattle.law_refinement.specs.Worlds.{IsWorld, end_for}
use Rattle.law_refinement.specs.Carrying.{heard_as}
use Rattle.law_refinement.specs.Events.{IsRunning}
use Rattle.law_refinement.proofs.Places.{some_is}
use Rattle.mr_links.specs.declared.side.Side.{Side}
use Rattle.mr_links.specs.declared.side.Side.TheVariants as side
use Rattle.mr_world.specs.Following.{IsFollower}
use Rattle.mr_world.specs.Linking.{FollowsBy}
use Rattle.law_servers.specs.Worlds.{IsServedAs, NoneOpen}
use Rattle.law_systems.specs.System.{Connection, End, IsAt, System}
use Rattle.law_systems.proofs.Wired.{IsWired}
use Rattle.law_systems.proofs.Mirrors.{IsLine, Mirrors}
use Rattle.law_systems.proofs.Rebuilding.{SameHalf}
use Rattle.law_systems.proofs.Finding.{IsOpenAt, StandsAt, is_upstream, opens_at}
use Rattle.law_systems.proofs.Saying.{SaysAt}

-- ---- what a step there gives out, and what it leaves
outs_say : (came : UpstreamStep) (link : LinkId) (told : List ℕ) → SaysAt (master.outs_behind came link told) link
outs_say outcome.Idle link told = record { link = refl; fed = refl; closed = refl; used = refl }
outs_say outcome.Said link told = record { link = refl; fed = refl; closed = refl; used = refl }
outs_say outcome.Announced link told = record { link = refl; fed = refl; closed = refl; used = refl }
outs_say outcome.Continued link told = record { link = refl; fed = refl; closed = refl; used = refl }
outs_say outcome.Loaded link told = record { link = refl; fed = refl; closed = refl; used = refl }
outs_say outcome.Applied link told = record { link = refl; fed = refl; closed = refl; used = refl }
outs_say outcome.Left link told = record { link = refl; fed = refl; closed = refl; used = refl }
outs_say outcome.Spoiled link told = record { link = refl; fed = refl; closed = refl; used = refl }

-- The node goes on to follow, or has left its master and shut its end.
pub data Leaves (a b : NodeState) (link : LinkId) (outs : OutsState) : Type 0 where
  goes_on : (g : FollowState) → b.follow ≡ Some (link, g) → b.ends ≡ a.ends → outs.closes ≡ false → Leaves a b link outs
  leaves : b.follow ≡ None → b.ends ≡ put_end a.ends link shut → outs.closes ≡ true → outs.reply ≡ [] → Leaves a b link outs

module _ (a b : NodeState) (link : LinkId) (outs : OutsState) where
  on : (came : UpstreamStep) (h : master.Hears a link came b outs) → h.course.follow ≡ Some (h.listens.name, h.listens.next) → b.ends ≡ a.ends → outs.closes ≡ false → Leaves a b link outs
  on came h follow ends stays =
      Leaves.goes_on h.listens.next (ap (λ (z : NodeState). z.follow) h.node ∙ (follow ∙ ap (λ (z : LinkId). Some (z, h.listens.next)) h.named)) ends stays

  ends_are : (came : UpstreamStep) (h : master.Hears a link came b outs) → b.ends ≡ master.ends_behind came link a.ends
  ends_are came h = ap (λ (z : NodeState). z.ends) h.node

  closes_are : (came : UpstreamStep) (h : master.Hears a link came b outs) → outs.closes ≡ (master.outs_behind came link h.told).closes
  closes_are came h = ap (λ (z : OutsState). z.closes) h.outs_are

  off : (came : UpstreamStep) (h : master.Hears a link came b outs) → h.course.follow ≡ None → b.ends ≡ put_end a.ends link shut → outs.closes ≡ true → outs.reply ≡ [] → Leaves a b link outs
  off came h follow ends closes quiet = Leaves.leaves (ap (λ (z : NodeState). z.follow) h.node ∙ follow) ends closes quiet

  pub left_by : (came : UpstreamStep) (h : master.Hears a link came b outs) (u : List ℕ) → follower.Agrees h.listens.follow u → Leaves a b link outs
  left_by outcome.Idle h u agrees = on outcome.Idle h (ap (λ (z : CourseState). z.follow) (h.listens.row u agrees).is) (ends_are outcome.Idle h) (closes_are outcome.Idle h)
  left_by outcome.Said h u agrees = on outcome.Said h (ap (λ (z : CourseState). z.follow) (h.listens.row u agrees).is) (ends_are outcome.Said h) (closes_are outcome.Said h)
  left_by outcome.Announced h u agrees = on outcome.Announced h (ap (λ (z : CourseState). z.follow) (h.listens.row u agrees).is) (ends_are outcome.Announced h) (closes_are outcome.Announced h)
  left_by outcome.Continued h u agrees = on outcome.Continued h (ap (λ (z : CourseState). z.follow) (h.listens.row u agrees).is) (ends_are outcome.Continued h) (closes_are outcome.Continued h)
  left_by outcome.Loaded h u agrees = on outcome.Loaded h (ap (λ (z : CourseState). z.follow) (h.listens.row u agrees).is) (ends_are outcome.Loaded h) (closes_are outcome.Loaded h)
  left_by outcome.Applied h u agrees = on outcome.Applied h (ap (λ (z : CourseState). z.follow) (h.listens.row u agrees).is) (ends_are outcome.Applied h) (closes_are outcome.Applied h)
  left_by outcome.Left h u agrees = off outcome.Left h (ap (λ (z : CourseState). z.follow) (h.listens.row u agrees).is) (ends_are outcome.Left h) (closes_are outcome.Left h) (ap (λ (z : OutsState). z.reply) h.outs_are)
  left_by outcome.Spoiled h u agrees = off outcome.Spoiled h (ap (λ (z : CourseState). z.follow) (h.listens.row u agrees).is) (ends_are outcome.Spoiled h) (closes_are outcome.Spoiled h) (ap (λ (z : OutsState). z.reply) h.outs_are)

  pub says_at : (came : UpstreamStep) → master.Hears a link came b outs → SaysAt outs link
  says_at came h = subst (λ (z : OutsState). SaysAt z link) (sym h.outs_are) (outs_say came link h.told)

-- ---- the link
-- All of it is the same but what was sent to the master, which is more by this, and what was used of what the master sent.
pub record IsSaid (reply : List ℕ) (l j : Link) : Type 0 where
  pub caller : j.caller ≡ l.caller
  pub waits : j.waits ≡ l.waits
  pub to : j.to ≡ l.to
  pub name : j.name ≡ l.name
  pub serving : j.serving ≡ l.serving
  pub asked : j.ask.sent ≡ l.ask.sent ++ reply
  pub ask_taken : j.ask.taken ≡ l.ask.taken
  pub told : j.tell.sent ≡ l.tell.sent
  pub tell_taken : j.tell.taken ≡ l.tell.taken

pub said_nothing : (reply : List ℕ) (l : Link) → reply ≡ [] → IsSaid reply l l
said_nothing reply l none = record {
  caller = refl;
  waits = refl;
  to = refl;
  name = refl;
  serving = refl;
  asked = sym (append-nil l.ask.sent) ∙ ap (λ z. l.ask.sent ++ z) (sym none);
  ask_taken = refl;
  told = refl;
  tell_taken = refl;
}

pub heard_said : (a b : NodeState) (link : LinkId) (outs : OutsState) (l : Link) → Leaves a b link outs → IsSaid outs.reply l (heard_as b.follow outs.reply l)
heard_said a b link outs l (Leaves.goes_on g follow ends stays) = subst (λ (z : Option (LinkId × FollowState)). IsSaid outs.reply l (heard_as z outs.reply l)) (sym follow)
    (record { caller = refl; waits = refl; to = refl; name = refl; serving = refl; asked = refl; ask_taken = refl; told = refl; tell_taken = refl })
heard_said a b link outs l (Leaves.leaves follow ends closes quiet) = subst (λ (z : Option (LinkId × FollowState)). IsSaid outs.reply l (heard_as z outs.reply l)) (sym follow) (said_nothing outs.reply l quiet)

-- its line goes on
pub line_said : (reply : List ℕ) (p : Connection) (l j : Link) (e : End) → p.dialler ≡ Some e → IsSaid reply l j → IsLine p l → IsLine p j
line_said reply p l j e has said line = record {
  asked = record { rest = line.asked.rest ++ reply; is = said.asked ∙ (ap (λ z. z ++ reply) line.asked.is ∙ append_assoc p.asked.written line.asked.rest reply) };
  answered = record { rest = line.answered.rest; is = said.told ∙ line.answered.is };
  waits = λ d h none. said.waits ∙ line.waits d h none;
  served = λ d h. let before = line.served d h in (said.waits ∙ before.0, said.to ∙ before.1);
  client = λ none. absurd (nobody (sym none ∙ has));
  dialled = λ d h. let before = line.dialled d h in (before.0, said.caller ∙ before.1);
}
  where
    nobody : ◌≡◌ {A = Option End} None (Some e) → ⊥
    nobody h = cc

-- the half of who serves it is the same
pub server_said : (reply : List ℕ) (p : Connection) (l j : Link) → IsSaid reply l j → SameHalf side.Server p l p j
server_said reply p l j said = record { sent = said.told; written = refl; taken = said.ask_taken; read = refl; dialler = refl; serving = λ e. (said.serving, said.to, said.name) }

-- ---- where the node stands in the World
no_server_end : (streams : Bool) (held : Option Transaction) (u : List ℕ) → ◌≡◌ {A = Option EndState} (Some upstream) (Some (end_for streams held u)) → ⊥
no_server_end true held u e = absurd (cc)
no_server_end false None u e = absurd (cc)
no_server_end false (Some t) u e = absurd (cc)

-- the end at which a node follows is none that it serves, and open
pub not_served : (w : WorldState) (n : ℕ) (slot : Slot) (link : LinkId) (number : ℕ) → IsWorld w → IsRunning w n slot → node_end slot.node link ≡ Some upstream → IsServedAs w n link number → ⊥
not_served w n slot link number world running up end =
    let h = world.servers number end.link end.at.found in
    let one : h.slot ≡ slot = some_is h.slot slot (sym h.found ∙ (ap (slice_get w.slots) end.to ∙ running.at)) in
    let open_end = h.agrees (ap (λ (z : Slot). z.node.core.up) one ∙ running.up) end.at.serving in
    no_server_end end.link.streams open_end.0 (unread end.link.ask)
    (sym up ∙ (ap (λ (z : Slot). node_end z.node link) (sym one) ∙ (ap (node_end h.slot.node) (sym end.named) ∙ open_end.1)))

pub not_shut : (a : NodeState) (link : LinkId) → node_end a link ≡ Some upstream → NoneOpen a link → ⊥
not_shut a link up (NoneOpen.absent e) = let wrong : ◌≡◌ {A = Option EndState} None (Some upstream) = sym e ∙ up in cc
not_shut a link up (NoneOpen.shut e) = let wrong : ◌≡◌ {A = Option EndState} (Some shut) (Some upstream) = sym e.is ∙ up in cc

module _ (x : System) (w : WorldState) (n life : ℕ) (s : Stage) (wired : IsWired x) (mirrors : Mirrors x w) (at : IsAt x n life s) (stands : StandsAt w n s) (socket link : LinkId) where
  -- its end there is the dialler's
  dialler_end : (at : Side) → node_end s.node link ≡ Some upstream → IsOpenAt x w n life s stands.slot socket link at → IsOpenAt x w n life s stands.slot socket link side.Opener
  dialler_end side.Opener up o = o
  dialler_end side.Server up o =
      absurd (not_served w n stands.slot link o.number mirrors.world stands.running (ap (λ (z : NodeState). node_end z link) stands.node ∙ up) o.named)

  pub master_end : (bytes : List ℕ) → HasLink s.own.connections socket link → HasInput s.node link → MasterAgrees s.node link bytes → IsOpenAt x w n life s stands.slot socket link side.Opener
  master_end bytes has input agrees =
      let found = opens_at x w n life s socket link wired mirrors at stands has input in
      dialler_end found.0 (is_upstream s.node link input.node (ap name_of agrees.found)) found.1

  -- the node follows by the link
  module _ (o : IsOpenAt x w n life s stands.slot socket link side.Opener) (reader : FollowState) (found : s.node.follow ≡ Some (link, reader)) where
    pub follows_by : FollowsBy w o.number n o.line stands.slot link reader
    follows_by = record {
      followed = record { at = stands.running.at; found = ap (slice_get w.links) o.named.dialled ∙ o.found; up = stands.running.up };
      follows = ap (λ (z : NodeState). z.follow) stands.node ∙ found;
      dialled = o.named.dialled;
    }

    abbrev pub its_follower : IsFollower w o.number n link
    its_follower = record { link = o.line; slot = stands.slot; reader = reader; by = follows_by }
