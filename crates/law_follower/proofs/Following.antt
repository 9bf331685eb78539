-- Runs of calls on a node in its master's stream.
use Rattle.std.proofs.Common.{◌≡◌, inl, inr, ℕ, List, [], ◌∷◌, ◌++◌, Bool, true, false, Some, Result, Ok, Err, length, refl, sym, ap, subst, ◌∙◌, append_assoc, append-nil}
use Rattle.std.proofs.lemmas.List.{append_cancel_left}
use Rattle.std.proofs.lemmas.List.Concat.{flat_map-append}
use Rattle.mr_links.specs.declared.link_id.LinkId.{LinkId}
use Rattle.mr_groups.specs.Groups.{group_text, group_texts}
use Rattle.mr_effect.specs.declared.effect.Effect.{Effect}
use Rattle.mr_effect.specs.declared.effect.Effect.TheVariants as effect
use Rattle.mr_keyspace.specs.Dataset.{Dataset}
use Rattle.mr_data.specs.declared.given.Given.{Given}
use Rattle.mr_repl.specs.Lineage.{LineageState}
use Rattle.mr_follower.specs.State.{FollowState, Agrees}
use Rattle.mr_follower.specs.Following.{IsStream}
use Rattle.mr_follower.specs.Rows as follow
use Rattle.mr_follower.specs.declared.heard.FollowFault.TheVariants as refusal
use Rattle.mr_follower.proofs.Stepping.{stream_plain}
use Rattle.mr_follower.proofs.Followings.{taken}
use Rattle.mr_replication.specs.State.{name_of}
use Rattle.mr_node_spec.specs.State.{NodeState}
use Rattle.mr_node_spec.specs.Sound.{IsSound}
use Rattle.mr_node.specs.Steps.{MasterStep, Steps}
use Rattle.mr_node.specs.declared.step.Step.{Step}
use Rattle.mr_node.specs.declared.step.Step.TheVariants as outcome
use Rattle.mr_node.specs.declared.fault.NodeFault.{NodeFault}
use Rattle.mr_node.specs.declared.fault.NodeFault.TheVariants as fault
use Rattle.mr_node.proofs.Ends.{none_some}
use Rattle.mr_node.proofs.Linking.{beat_is, ping_bytes}
use Rattle.mr_node.proofs.Ticking.{beat_goes}
use Rattle.law_follower.specs.Runs.{IsFollowing, Streams, Call, CallRow, Runs, came_by, all_that_came}
use Rattle.law_follower.specs.Runs.Call.{feed, step, another}
use Rattle.law_follower.specs.Streaming.{AppliesWhatComesFirst, Begins, FollowsItsStream, HasApplied, HasFollowed, HasNothingWhole, HeartbeatsAreCounted, IdleHasExactlyTheWhole, IdleLeavesNothingWhole, NoStepLeaves, RunsGoOn, StaysWith}
use Rattle.law_follower.proofs.Applying.{one_unread, joined, applied_still}
use Rattle.law_follower.proofs.Others.{rested}
use Rattle.law_follower.proofs.Masters.{Parts, came, feeds, rests, waits}
use Rattle.law_follower.proofs.Texts.{first_are, nothing_whole, stream_behind, torn}

-- ---- one call
follows_at : (a : NodeState) (l : LinkId) (u : List ℕ) → Streams a l u → name_of a.follow ≡ Some l
follows_at a l u s = ap name_of s.reads.found

at_master : (a b : NodeState) (l : LinkId) (u : List ℕ) (given : Given) (fresh : List ℕ) (result : Result Step NodeFault) → Streams a l u → Steps a l given fresh b result → MasterStep a l b result
at_master a b l u given fresh result s h = h.at_master s.up (follows_at a l u s)

up_down : (b : Bool) → b ≡ true → b ≡ false → ⊥
up_down b p q = cc

abbrev pub Goes : NodeState → LinkId → List ℕ → NodeState → Type 0
Goes a l bytes b = (groups : List (List Effect)) × HasApplied groups a l bytes b

stayed : (a b : NodeState) (l : LinkId) (u : List ℕ) (result : Result Step NodeFault) → b.core.up ≡ true → StaysWith l u a b result → Goes a l u b
stayed a b l u (Ok outcome.Idle) up h = ([], h)
stayed a b l u (Ok (outcome.Done outs)) up h = (h.0 ∷ [], h.1)
stayed a b l u (Ok outcome.Closed) up h = absurd h
stayed a b l u (Err fault.Memory) up h = ([], h)
stayed a b l u (Err fault.Stopped) up h = absurd (up_down b.core.up up h.1)
stayed a b l u (Err fault.NoLink) up h = absurd h
stayed a b l u (Err fault.InputFull) up h = absurd h

one_step : (a b : NodeState) (l : LinkId) (u : List ℕ) (given : Given) (fresh : List ℕ) (result : Result Step NodeFault) → IsSound a → Streams a l u → IsFollowing b l → Steps a l given fresh b result → Goes a l u b
one_step a b l u given fresh result sound s behind h = elim (came a l u sound.window s b result (at_master a b l u given fresh result s h)) [
  | inl stays ↦ stayed a b l u result behind.up stays
  | inr parts ↦ absurd (parted parts)
]
  where
    parted : Parts a s.reads.reader u b → ⊥
    parted (inl leaves) = none_some l (sym (ap name_of leaves.gone) ∙ behind.at)
    parted (inr tears) = up_down b.core.up behind.up tears.down

one_call : (a b : NodeState) (l : LinkId) (u : List ℕ) (call : Call) → IsSound a → Streams a l u → IsFollowing b l → CallRow a l call b → Goes a l (u ++ came_by call) b
one_call a b l u (feed bytes) sound s behind row = ([], feeds a b l u bytes sound.window s row.3)
one_call a b l u (step result) sound s behind row = subst (λ (z : List ℕ). Goes a l z b) (sym (append-nil u)) (one_step a b l u row.0 row.1 result sound s behind row.2)
one_call a b l u another sound s behind row =
    let before : IsFollowing a l = record { up = s.up; at = follows_at a l u s; sound = sound } in
    subst (λ (z : List ℕ). Goes a l z b) (sym (append-nil u)) ([], rests a b l u sound.window s behind.up (rested a b l before behind row))

-- ---- calls
pub applies_first : AppliesWhatComesFirst
applies_first [] a b l u sound s runs =
    subst (λ (z : NodeState). Goes a l (u ++ []) z) (sym runs) (subst (λ (z : List ℕ). Goes a l z a) (sym (append-nil u))
    ([], rests a a l u sound.window s s.up (record { lineage = refl; held = refl; follow = refl })))
applies_first (call ∷ calls) a b l u sound s (c, row, behind, runs) =
    let p = one_call a c l u call sound s behind row in
    let q = applies_first calls c b l p.1.unread behind.sound p.1.streams runs in
    subst (λ (z : List ℕ). Goes a l z b) (append_assoc u (came_by call) (all_that_came calls)) (p.0 ++ q.0, joined a c l p.0 q.0 (u ++ came_by call) (all_that_came calls) b p.1 q.1)

sound_behind : (calls : List Call) (a b : NodeState) (l : LinkId) → IsSound a → Runs calls a l b → IsSound b
sound_behind [] a b l sound runs = subst IsSound (sym runs) sound
sound_behind (call ∷ calls) a b l sound (c, row, behind, runs) = sound_behind calls c b l behind.sound runs

pub go_on : RunsGoOn
go_on [] more a b c l runs on = (subst (λ (z : NodeState). Runs more z l c) runs on, refl)
go_on (call ∷ calls) more a b c l (d, row, behind, runs) on =
    let r = go_on calls more d b c l runs on in
    ((d, row, behind, r.0), ap (λ (z : List ℕ). came_by call ++ z) r.1 ∙ sym (append_assoc (came_by call) (all_that_came calls) (all_that_came more)))

-- ---- a step that found nothing whole
idle_behind : (groups : List (List Effect)) (a b c : NodeState) (l : LinkId) (bytes : List ℕ) (given : Given) (fresh : List ℕ) → IsSound b → (p : HasApplied groups a l bytes b) → Steps b l given fresh c (Ok outcome.Idle)
    → (has : HasApplied groups a l bytes c) × HasNothingWhole has.unread
idle_behind groups a b c l bytes given fresh sound p h =
    let w = waits b l p.unread sound.window p.streams c (at_master b c l p.unread given fresh (Ok outcome.Idle) p.streams h) in
    let has = applied_still a b l groups bytes c p w.0 in
    let same : p.unread ≡ has.unread = w.0.cut ∙ one_unread c l w.0.unread has.unread w.0.streams has.streams in
    (has, subst HasNothingWhole same (nothing_whole p.unread w.1))

pub idle_whole : IdleLeavesNothingWhole
idle_whole calls a b c l u given fresh sound s runs h =
    let p = applies_first calls a b l u sound s runs in
    let q = idle_behind p.0 a b c l (u ++ all_that_came calls) given fresh (sound_behind calls a b l sound runs) p.1 h in
    (p.0, q.0, q.1)

-- ---- a beginning of a stream
module _ (groups : List (List Effect)) (a b : NodeState) (l : LinkId) (bytes : List ℕ) (begins : Begins groups a bytes) where
  pub followed : Goes a l bytes b → HasFollowed groups a l bytes b
  followed (done, p) =
      let s = begins.stream in
      let split : group_texts groups ≡ group_texts done ++ (p.unread ++ begins.later) = begins.split ∙ (ap (λ (z : List ℕ). z ++ begins.later) p.cut ∙ append_assoc (group_texts done) p.unread begins.later) in
      let r = first_are done groups (p.unread ++ begins.later) p.good s.good split in
      record { done = done; left = r.0; first = r.1; applied = p }

  -- what is left of the stream
  pub left_stream : (h : HasFollowed groups a l bytes b) → IsStream h.left b.core.held b.core.lineage.stream.offset
  left_stream h =
      let s = subst (λ (es : List (List Effect)). IsStream es a.core.held a.core.lineage.stream.offset) h.first begins.stream in
      subst (λ (o : ℕ). IsStream h.left b.core.held o) (sym (ap (λ (z : LineageState). z.stream.offset) h.applied.grew))
      (stream_behind h.done h.left a.core.held b.core.held a.core.lineage.stream.offset s h.applied.held)

  pub left_texts : (h : HasFollowed groups a l bytes b) → group_texts h.left ≡ h.applied.unread ++ begins.later
  left_texts h = append_cancel_left (group_texts h.done) (group_texts h.left) (h.applied.unread ++ begins.later)
      (sym (flat_map-append group_text h.done h.left) ∙ (ap group_texts (sym h.first) ∙ (begins.split ∙ (ap (λ (z : List ℕ). z ++ begins.later) h.applied.cut ∙ append_assoc (group_texts h.done) h.applied.unread begins.later))))

pub follows : FollowsItsStream
follows calls a b l u groups sound s begins runs = followed groups a b l (u ++ all_that_came calls) begins (applies_first calls a b l u sound s runs)

pub exactly_the_whole : IdleHasExactlyTheWhole
exactly_the_whole calls a b c l u groups given fresh sound s begins runs h =
    let bytes = u ++ all_that_came calls in
    let p = idle_whole calls a b c l u given fresh sound s runs h in
    let f = followed groups a c l bytes begins (p.0, p.1) in
    let left = left_stream groups a c l bytes begins f in
    let same : p.1.unread ≡ f.applied.unread = one_unread c l p.1.unread f.applied.unread p.1.streams f.applied.streams in
    record {
      followed = f;
      torn = torn f.left f.applied.unread begins.later left.good (left_texts groups a c l bytes begins f) (subst HasNothingWhole same p.2);
    }

-- ---- no step leaves the master
not_bad : (b : NodeState) (l : LinkId) (u later : List ℕ) (left : List (List Effect)) → (s : Streams b l u) → IsStream left b.core.held b.core.lineage.stream.offset → group_texts left ≡ u ++ later
    → follow.IsBadStream s.reads.reader u b.core.held b.core.lineage.stream.offset → ⊥
not_bad b l u later left s stream split bad =
    let f = s.reads.reader in
    let o = b.core.lineage.stream.offset in
    let kept : u ≡ f.kept = (stream_plain f u s.streams s.reads.agrees).1 in
    let stays : follow.Stays f f.kept b.core.held f b.core.held [] = record {
      state = record { waits = refl; offer = refl; port = refl; agrees = subst (λ (z : List ℕ). Agrees f z) kept s.reads.agrees };
      held = refl;
      silent = refl;
    } in
    taken f f b.core.held b.core.held o left later [] refusal.Undecodable s.streams stream (split ∙ ap (λ (z : List ℕ). z ++ later) kept)
    (inr (subst (λ (z : List ℕ). follow.IsBadStream f z b.core.held o) kept bad), stays)

not_torn : (b : NodeState) (l : LinkId) (u later : List ℕ) (left : List (List Effect)) (g : FollowState) (made : Dataset) (told : List ℕ) → (s : Streams b l u) → IsStream left b.core.held b.core.lineage.stream.offset → group_texts left ≡ u ++ later
    → follow.Tears s.reads.reader u b.core.held b.core.lineage.stream.offset g made told → ⊥
not_torn b l u later left g made told s stream split torn =
    let f = s.reads.reader in
    let o = b.core.lineage.stream.offset in
    let kept : u ≡ f.kept = (stream_plain f u s.streams s.reads.agrees).1 in
    taken f g b.core.held made o left later told refusal.Torn s.streams stream (split ∙ ap (λ (z : List ℕ). z ++ later) kept)
    (subst (λ (z : List ℕ). follow.Tears f z b.core.held o g made told) kept torn)

pub no_step_leaves : NoStepLeaves
no_step_leaves calls a b c l u now groups given fresh result sound s begins runs t h =
    let bytes = u ++ all_that_came calls in
    let f = follows calls a b l u groups sound s begins runs in
    let same : f.applied.unread ≡ now = one_unread b l f.applied.unread now f.applied.streams t in
    let split : group_texts f.left ≡ now ++ begins.later = left_texts groups a b l bytes begins f ∙ ap (λ (z : List ℕ). z ++ begins.later) same in
    let stream = left_stream groups a b l bytes begins f in
    elim (came b l now (sound_behind calls a b l sound runs).window t c result (at_master b c l now given fresh result t h)) [
      | inl stays ↦ stays
      | inr (inl leaves) ↦ absurd (not_bad b l now begins.later f.left t stream split leaves.bad)
      | inr (inr tears) ↦ absurd (not_torn b l now begins.later f.left tears.next tears.made tears.told t stream split tears.torn)
    ]

-- ---- heartbeats
pub heartbeats : HeartbeatsAreCounted
heartbeats m = (beat_goes m, ap length (sym (ping_bytes ∙ beat_is)))
