-- What is fed at the link to the master, and a step there.
use Rattle.std.proofs.Common.{◌≡◌, ◌≢◌, ◌⊎◌, inl, inr, ℕ, List, [], ◌∷◌, ◌++◌, true, false, None, Some, Result, Ok, Err, refl, sym, ap, subst, ◌∙◌, append-nil}
use Rattle.std.specs.Option.{option_and_then}
use Rattle.std.proofs.lemmas.List.Elements.{All-nil, All-cons}
use Rattle.mr_links.specs.declared.link_id.LinkId.{LinkId}
use Rattle.mr_links.specs.Links.{Links}
use Rattle.mr_keyspace.specs.Dataset.{Dataset}
use Rattle.mr_repl.specs.Backlog.{IsWindow}
use Rattle.mr_repl.specs.Lineage.{grown}
use Rattle.mr_groups.specs.Groups.{IsGoodGroup, group_text, group_texts}
use Rattle.mr_groups.specs.Reading.{IsOpen}
use Rattle.mr_groups.specs.Folding.{apply_groups}
use Rattle.mr_follower.specs.State.{FollowState, Agrees, heard}
use Rattle.mr_follower.specs.Handshake.{IsGreeting}
use Rattle.mr_follower.specs.Rows as follow
use Rattle.mr_follower.specs.declared.phase.Phase.{Phase}
use Rattle.mr_follower.specs.declared.phase.Phase.TheVariants as phase
use Rattle.mr_follower.proofs.Followings.{announced_no, asked_no}
use Rattle.mr_replication.specs.State.{CourseState, grows, reads_on}
use Rattle.mr_replication.specs.Rows as course
use Rattle.mr_replication.specs.Rows.{Listens, UpstreamRow}
use Rattle.mr_replication.specs.declared.upstream.UpstreamStep.{UpstreamStep}
use Rattle.mr_replication.specs.declared.upstream.UpstreamStep.TheVariants as up
use Rattle.mr_replication.specs.declared.upstream.UpstreamFault.{UpstreamFault}
use Rattle.mr_replication.specs.declared.upstream.UpstreamFault.TheVariants as want
use Rattle.mr_node_links.specs.State.{EndState}
use Rattle.mr_node_output.specs.Outs.{OutsState, no_outs}
use Rattle.mr_node_spec.specs.State.{Core, NodeState, course_of}
use Rattle.mr_node_spec.specs.LinkRows.{Feeds}
use Rattle.mr_node_spec.specs.UpstreamRows.{Hears, Lacks, Spends, Waits, ends_behind, filed, node_behind, outs_behind}
use Rattle.mr_node.specs.Steps.{MasterStep}
use Rattle.mr_node.specs.declared.step.Step.{Step}
use Rattle.mr_node.specs.declared.step.Step.TheVariants as outcome
use Rattle.mr_node.specs.declared.fault.NodeFault.{NodeFault}
use Rattle.mr_node.specs.declared.fault.NodeFault.TheVariants as fault
use Rattle.law_follower.specs.Runs.{Streams}
use Rattle.law_follower.specs.Streaming.{HasApplied, HasWhole, Rests, StaysWith}
use Rattle.law_follower.proofs.Applying.{none_applied, reader_is}

-- ---- bytes that come
pub feeds : (a b : NodeState) (l : LinkId) (u bytes : List ℕ) → IsWindow a.core.lineage.stream → Streams a l u → Feeds a l bytes b → HasApplied [] a l (u ++ bytes) b
feeds a b l u bytes w s row =
    let reads = row.at_master u s.reads in
    let same : reads.reader ≡ heard s.reads.reader bytes = reader_is (l, reads.reader) (l, heard s.reads.reader bytes) (sym reads.found ∙ row.heard s.reads.reader s.reads.found) in
    let streams : Streams b l (u ++ bytes) = record { up = ap (λ (c : Core). c.up) row.core ∙ s.up; reads = reads; streams = ap (λ (f : FollowState). f.phase) same ∙ s.streams } in
    none_applied a b l (u ++ bytes) w (ap (λ (c : Core). c.lineage) row.core) (ap (λ (c : Core). c.held) row.core) streams

pub rests : (a b : NodeState) (l : LinkId) (u : List ℕ) → IsWindow a.core.lineage.stream → Streams a l u → b.core.up ≡ true → Rests a b → HasApplied [] a l u b
rests a b l u w s up_is r = none_applied a b l u w r.lineage r.held (record {
  up = up_is;
  reads = record { reader = s.reads.reader; found = r.follow ∙ s.reads.found; agrees = s.reads.agrees };
  streams = s.streams;
})

-- ---- a step
-- The master is left, since what came can't be the stream.
pub record Leaves (a : NodeState) (f : FollowState) (u : List ℕ) (b : NodeState) : Type 0 where
  pub gone : b.follow ≡ None
  pub bad : follow.IsBadStream f u a.core.held a.core.lineage.stream.offset

-- The node stops, since what came can't be applied as a whole.
pub record Tears (a : NodeState) (f : FollowState) (u : List ℕ) (b : NodeState) : Type 0 where
  pub down : b.core.up ≡ false
  pub next : FollowState
  pub made : Dataset
  pub told : List ℕ
  pub torn : follow.Tears f u a.core.held a.core.lineage.stream.offset next made told

-- it is no stream that can be applied
abbrev pub Parts : NodeState → FollowState → List ℕ → NodeState → Type 0
Parts a f u b = Leaves a f u b ⊎ Tears a f u b

module _ (a : NodeState) (l : LinkId) (u : List ℕ) (w : IsWindow a.core.lineage.stream) (s : Streams a l u) where
  abbrev pub reader : FollowState
  reader = s.reads.reader

  row_of : (result : Result UpstreamStep UpstreamFault) (d : CourseState) (n : Dataset) (told : List ℕ) (h : Listens (course_of a) a.core.held result d n told) → UpstreamRow (course_of a) a.core.held h.name reader u h.next result d n told
  row_of result d n told h =
      let same : reader ≡ h.follow = reader_is (l, reader) (h.name, h.follow) (sym s.reads.found ∙ h.found) in
      subst (λ (z : FollowState). UpstreamRow (course_of a) a.core.held h.name z u h.next result d n told) (sym same) (h.row u (subst (λ (z : FollowState). Agrees z u) same s.reads.agrees))

  -- the node reads on in the stream, with these bytes unread
  reads_there : (b : NodeState) (d c : CourseState) (g : FollowState) (name : LinkId) (ends : Links EndState) (rest : List ℕ) → name ≡ l → b ≡ node_behind a d b.core.held ends → d ≡ reads_on name g c
      → Agrees g rest → g.phase ≡ phase.Stream → Streams b l rest
  reads_there b d c g name ends rest named is on agrees streams = record {
    up = ap (λ (z : NodeState). z.core.up) is ∙ s.up;
    reads = record {
      reader = g;
      found = ap (λ (z : NodeState). z.follow) is ∙ (ap (λ (z : CourseState). z.follow) on ∙ ap (λ (z : LinkId). Some (z, g)) named);
      agrees = agrees;
    };
    streams = streams;
  }

  stays : (b : NodeState) (d : CourseState) (g : FollowState) (name : LinkId) (ends : Links EndState) (told : List ℕ) → name ≡ l → b ≡ node_behind a d b.core.held ends → d ≡ reads_on name g (course_of a)
      → follow.Stays reader u a.core.held g b.core.held told → HasApplied [] a l u b
  stays b d g name ends told named is on st =
      none_applied a b l u w (ap (λ (z : NodeState). z.core.lineage) is ∙ ap (λ (z : CourseState). z.lineage) on) st.held
      (reads_there b d (course_of a) g name ends u named is on st.state.agrees (st.state.waits ∙ s.streams))

  applies : (b : NodeState) (d : CourseState) (g : FollowState) (name : LinkId) (ends : Links EndState) (told : List ℕ) (outs : OutsState) → name ≡ l → b ≡ node_behind a d b.core.held ends → outs ≡ outs_behind up.Applied l told
      → course.Applies (course_of a) a.core.held name reader u g d b.core.held told → StaysWith l u a b (Ok (outcome.Done outs))
  applies b d g name ends told outs named is out r =
      let x = r.follows in
      let alone : told ≡ group_texts (x.group ∷ []) = x.is_text ∙ sym (append-nil (group_text x.group)) in
      let given : outs ≡ record no_outs { link = Some l; appended = filed (group_text x.group) } = out ∙ ap (λ (z : List ℕ). record no_outs { link = Some l; appended = filed z }) x.is_text in
      let has : HasApplied (x.group ∷ []) a l u b = record {
        good = All-cons IsGoodGroup x.group [] x.good (All-nil IsGoodGroup);
        unread = x.rest;
        streams = reads_there b d (grows told (course_of a)) g name ends x.rest named is r.is x.state.agrees x.state.waits;
        cut = x.begins ∙ ap (λ (z : List ℕ). z ++ x.rest) alone;
        held = ap (option_and_then (apply_groups [])) x.applied;
        grew = ap (λ (z : NodeState). z.core.lineage) is ∙ (ap (λ (z : CourseState). z.lineage) r.is ∙ ap (grown a.core.lineage) alone);
      } in
      (x.group, has, given)

  hears : (came : UpstreamStep) (b : NodeState) (outs : OutsState) → came ≢ up.Idle → Hears a l came b outs → StaysWith l u a b (Ok (outcome.Done outs)) ⊎ Parts a reader u b
  hears up.Idle b outs some h = absurd (some refl)
  hears up.Said b outs some h = let r = row_of (Ok up.Said) h.course b.core.held h.told h.listens in absurd (subst IsGreeting s.streams r.greets.greeting)
  hears up.Announced b outs some h = let r = row_of (Ok up.Announced) h.course b.core.held h.told h.listens in absurd (asked_no reader.phase s.streams r.answers.asked)
  hears up.Continued b outs some h = let r = row_of (Ok up.Continued) h.course b.core.held h.told h.listens in absurd (asked_no reader.phase s.streams r.answers.asked)
  hears up.Loaded b outs some h = let r = row_of (Ok up.Loaded) h.course b.core.held h.told h.listens in absurd (announced_no reader.phase r.installs.id r.installs.offset s.streams r.installs.announced)
  hears up.Applied b outs some h =
      let r = row_of (Ok up.Applied) h.course b.core.held h.told h.listens in
      inl (applies b h.course h.listens.next h.listens.name (ends_behind up.Applied l a.ends) h.told outs h.named h.node h.outs_are r)
  hears up.Left b outs some h = let r = row_of (Ok up.Left) h.course b.core.held h.told h.listens in absurd (no_line r.cause)
    where
      no_line : follow.IsBadLine reader u ⊎ follow.IsRefused reader u → ⊥
      no_line (inl bad) = bad.wants s.streams
      no_line (inr bad) = bad.wants s.streams
  hears up.Spoiled b outs some h =
      let r = row_of (Ok up.Spoiled) h.course b.core.held h.told h.listens in
      inr (inl (record { gone = ap (λ (z : NodeState). z.follow) h.node ∙ ap (λ (z : CourseState). z.follow) r.is; bad = stream r.cause }))
    where
      stream : follow.IsBadSnapshot reader u ⊎ follow.IsBadStream reader u a.core.held a.core.lineage.stream.offset → follow.IsBadStream reader u a.core.held a.core.lineage.stream.offset
      stream (inl bad) = absurd (announced_no reader.phase bad.id bad.offset s.streams bad.announced)
      stream (inr bad) = bad

  pub waits : (b : NodeState) → Waits a l b → HasApplied [] a l u b × IsOpen u
  waits b h =
      let r = row_of (Ok up.Idle) h.course b.core.held h.told h.listens in
      (stays b h.course h.listens.next h.listens.name a.ends h.told h.named h.node r.is r.stays, subst (λ (p : Phase). follow.Waits p u h.listens.next.kept) s.streams r.waits)

  lacks : (b : NodeState) → Lacks a l b → HasApplied [] a l u b
  lacks b h = let r = row_of (Err want.Memory) h.course b.core.held h.told h.listens in stays b h.course h.listens.next h.listens.name a.ends h.told h.named h.node r.is r.stays

  spends : (b : NodeState) → Spends a l b → StaysWith l u a b (Err fault.Stopped) ⊎ Parts a reader u b
  spends b h = let r = row_of (Err want.Stopped) h.course b.core.held h.told h.listens in elim r.cause [
    | inl s ↦ inl (whole s.cause, ap (λ (z : NodeState). z.core.up) h.node)
    | inr t ↦ inr (inr (record { down = ap (λ (z : NodeState). z.core.up) h.node; next = h.listens.next; made = b.core.held; told = h.told; torn = t }))
  ]
    where
      whole : follow.SpendsHeld reader u a.core.held a.core.lineage.stream.offset h.listens.next b.core.held ⊎ follow.SpendsMade reader u a.core.held h.listens.next b.core.held → HasWhole u
      whole (inl c) = record { group = c.at.group; good = c.at.good; rest = c.at.rest; cut = c.at.begins; heavy = c.heavy }
      whole (inr c) = absurd (announced_no reader.phase c.id c.offset s.streams c.announced)

  -- it stays with the master, or parts from him
  pub came : (b : NodeState) (result : Result Step NodeFault) → MasterStep a l b result → StaysWith l u a b result ⊎ Parts a reader u b
  came b (Ok outcome.Idle) h = inl (waits b h).0
  came b (Ok (outcome.Done outs)) h = hears h.0 b outs h.1 h.2
  came b (Ok outcome.Closed) h = absurd h
  came b (Err fault.Memory) h = inl (lacks b h)
  came b (Err fault.Stopped) h = spends b h
  came b (Err fault.NoLink) h = absurd h
  came b (Err fault.InputFull) h = absurd h
