-- What a step at the link to the master may do, one row for each outcome: to the course c and the dataset m, which become d and
-- n. What reads there is f and becomes g; u are its unread bytes.
use Rattle.std.specs.Prelude.{◌≡◌, ◌⊎◌, ℕ, List, Some, IsSome, Result, Ok, Err}
use Rattle.mr_links.specs.declared.link_id.LinkId.{LinkId}
use Rattle.mr_keyspace.specs.Dataset.{Dataset}
use Rattle.mr_peer_lines.specs.declared.psync.PsyncReply.TheVariants as reply
use Rattle.mr_follower.specs.State.{FollowState, Agrees}
use Rattle.mr_follower.specs.Rows as follow
use Rattle.mr_follower.specs.declared.phase.Phase.TheVariants as phase
use Rattle.mr_replication.specs.State.{CourseState, left, spoiled, grows, reads_on, continues_as, adopts}
use Rattle.mr_replication.specs.declared.upstream.UpstreamStep.{UpstreamStep}
use Rattle.mr_replication.specs.declared.upstream.UpstreamStep.TheVariants as up
use Rattle.mr_replication.specs.declared.upstream.UpstreamFault.{UpstreamFault}
use Rattle.mr_replication.specs.declared.upstream.UpstreamFault.TheVariants as fault

-- Nothing whole is there. What was read of a snapshot may have been taken; the bytes are the same.
pub record Waits (c : CourseState) (m : Dataset) (name : LinkId) (f : FollowState) (u : List ℕ) (g : FollowState) (d : CourseState) (n : Dataset) (told : List ℕ) : Type 0 where
  pub waits : follow.Waits f.phase u g.kept
  pub stays : follow.Stays f u m g n told
  pub is : d ≡ reads_on name g c

-- The next line of the handshake is to be sent.
pub record Greets (c : CourseState) (m : Dataset) (name : LinkId) (f : FollowState) (u : List ℕ) (g : FollowState) (d : CourseState) (n : Dataset) (told : List ℕ) : Type 0 where
  pub greets : follow.Greets f u g told
  pub held : n ≡ m
  pub is : d ≡ reads_on name g c

-- A snapshot is announced. The course's own stream stays until it is there.
pub record Announces (c : CourseState) (m : Dataset) (name : LinkId) (f : FollowState) (u : List ℕ) (g : FollowState) (d : CourseState) (n : Dataset) (told : List ℕ) : Type 0 where
  pub id : List ℕ
  pub offset : ℕ
  pub answers : follow.Answers f u (reply.FullResync id offset) (phase.Snapshot id offset) g
  pub keeps : follow.Keeps m n told
  pub is : d ≡ reads_on name g c

-- The stream goes on behind what the course has, under the master's id.
pub record Continues (c : CourseState) (m : Dataset) (name : LinkId) (f : FollowState) (u : List ℕ) (g : FollowState) (d : CourseState) (n : Dataset) (told : List ℕ) : Type 0 where
  pub id : List ℕ
  pub offered : IsSome f.offer
  pub answers : follow.Answers f u (reply.Continue id) phase.Stream g
  pub keeps : follow.Keeps m n told
  pub is : d ≡ reads_on name g (continues_as id c)

-- The snapshot is whole: its dataset, its id and its offset are the course's at once. The commands that rebuild it are put out.
pub record Loads (c : CourseState) (name : LinkId) (f : FollowState) (u : List ℕ) (g : FollowState) (d : CourseState) (n : Dataset) (told : List ℕ) : Type 0 where
  pub installs : follow.Installs f u n g told
  pub is : d ≡ reads_on name g (adopts installs.id installs.offset c)

-- A group of the stream is applied, and its text is the stream's here too.
pub record Applies (c : CourseState) (m : Dataset) (name : LinkId) (f : FollowState) (u : List ℕ) (g : FollowState) (d : CourseState) (n : Dataset) (told : List ℕ) : Type 0 where
  pub follows : follow.Follows f u m c.lineage.stream.offset g n told
  pub is : d ≡ reads_on name g (grows told c)

-- The master is left, for a line that it may not say or for its refusal. What there is to continue stays.
pub record Leaves (c : CourseState) (m : Dataset) (f : FollowState) (u : List ℕ) (d : CourseState) (n : Dataset) (told : List ℕ) : Type 0 where
  pub cause : follow.IsBadLine f u ⊎ follow.IsRefused f u
  pub keeps : follow.Keeps m n told
  pub is : d ≡ left c

-- The master is left, for bytes that no snapshot and no stream begins with here. Nothing is there to continue.
pub record Spoils (c : CourseState) (m : Dataset) (f : FollowState) (u : List ℕ) (d : CourseState) (n : Dataset) (told : List ℕ) : Type 0 where
  pub cause : follow.IsBadSnapshot f u ⊎ follow.IsBadStream f u m c.lineage.stream.offset
  pub keeps : follow.Keeps m n told
  pub is : d ≡ spoiled c

-- Memory is lacking. What was read of a snapshot may have been taken; the bytes are the same.
pub record Lacks (c : CourseState) (m : Dataset) (name : LinkId) (f : FollowState) (u : List ℕ) (g : FollowState) (d : CourseState) (n : Dataset) (told : List ℕ) : Type 0 where
  pub cause : follow.MayLack f.phase c.lineage.stream.offset u g.kept m
  pub stays : follow.Stays f u m g n told
  pub is : d ≡ reads_on name g c

-- The dataset is spent that was read into: memory ran out within an effect, or a later effect of a group can't be applied.
pub record Stops (c : CourseState) (m : Dataset) (name : LinkId) (f : FollowState) (u : List ℕ) (g : FollowState) (d : CourseState) (n : Dataset) (told : List ℕ) : Type 0 where
  pub cause : follow.Spends f u m c.lineage.stream.offset g n told ⊎ follow.Tears f u m c.lineage.stream.offset g n told
  pub is : d ≡ reads_on name g c

-- the row of an outcome
abbrev pub UpstreamRow : CourseState → Dataset → LinkId → FollowState → List ℕ → FollowState → Result UpstreamStep UpstreamFault → CourseState → Dataset → List ℕ → Type 0
UpstreamRow c m name f u g (Ok up.Idle) d n told = Waits c m name f u g d n told
UpstreamRow c m name f u g (Ok up.Said) d n told = Greets c m name f u g d n told
UpstreamRow c m name f u g (Ok up.Announced) d n told = Announces c m name f u g d n told
UpstreamRow c m name f u g (Ok up.Continued) d n told = Continues c m name f u g d n told
UpstreamRow c m name f u g (Ok up.Loaded) d n told = Loads c name f u g d n told
UpstreamRow c m name f u g (Ok up.Applied) d n told = Applies c m name f u g d n told
UpstreamRow c m name f u g (Ok up.Left) d n told = Leaves c m f u d n told
UpstreamRow c m name f u g (Ok up.Spoiled) d n told = Spoils c m f u d n told
UpstreamRow c m name f u g (Err fault.Memory) d n told = Lacks c m name f u g d n told
UpstreamRow c m name f u g (Err fault.Stopped) d n told = Stops c m name f u g d n told

-- A step at the link to the master, by its row for any bytes that can be unread there.
pub record Listens (c : CourseState) (m : Dataset) (result : Result UpstreamStep UpstreamFault) (d : CourseState) (n : Dataset) (told : List ℕ) : Type 0 where
  pub name : LinkId
  pub follow : FollowState
  pub found : c.follow ≡ Some (name, follow)
  pub next : FollowState
  pub row : (u : List ℕ) → Agrees follow u → UpstreamRow c m name follow u next result d n told
