-- What a course makes of what its follower heard.
use Rattle.std.specs.Prelude.{◌≡◌, ◌+◌, ◌≤◌, length, ℕ, List, Option, None, Some, IfSome, Result, Ok, Err}
use Rattle.mr_links.specs.declared.link_id.LinkId.{LinkId}
use Rattle.mr_keyspace.specs.Dataset.{Dataset}
use Rattle.mr_repl.specs.Backlog.{offset_limit}
use Rattle.mr_follower.specs.State.{FollowState}
use Rattle.mr_follower.specs.declared.phase.Phase.{Phase}
use Rattle.mr_follower.specs.declared.phase.Phase.TheVariants as phase
use Rattle.mr_follower.specs.declared.heard.Heard.{Heard}
use Rattle.mr_follower.specs.declared.heard.Heard.TheVariants as heard
use Rattle.mr_follower.specs.declared.heard.FollowFault.{FollowFault}
use Rattle.mr_follower.specs.declared.heard.FollowFault.TheVariants as refusal
use Rattle.mr_replication.specs.State.{CourseState, HasUnread, left, spoiled, grows, continues_as, adopts}
use Rattle.mr_replication.specs.declared.upstream.UpstreamStep.{UpstreamStep}
use Rattle.mr_replication.specs.declared.upstream.UpstreamStep.TheVariants as up
use Rattle.mr_replication.specs.declared.upstream.UpstreamFault.{UpstreamFault}
use Rattle.mr_replication.specs.declared.upstream.UpstreamFault.TheVariants as fault

-- some bytes can be unread at the link to the master
abbrev pub IsSound : Option (LinkId × FollowState) → Type 0
IsSound follow = IfSome follow (λ f. HasUnread f.1)

-- a place in a stream within the limit
abbrev pub IsCounted : Option (List ℕ × ℕ) → Type 0
IsCounted place = IfSome place (λ p. p.1 ≤ offset_limit)

-- the place in its stream that a snapshot is waited for at
abbrev pub place_of : Phase → Option (List ℕ × ℕ)
place_of phase.Ping = None
place_of phase.Port = None
place_of phase.Capabilities = None
place_of phase.Psync = None
place_of (phase.Snapshot id offset) = Some (id, offset)
place_of phase.Stream = None

-- what was heard can be done: a snapshot has a place, and a group leads past no limit
abbrev pub IsReady : Heard → Option (List ℕ × ℕ) → List ℕ → CourseState → Type 0
IsReady heard.Idle place told c = Unit {0}
IsReady heard.Say place told c = Unit {0}
IsReady (heard.Full id offset) place told c = Unit {0}
IsReady (heard.Continue id) place told c = Unit {0}
IsReady (heard.Snapshot m) None told c = ⊥
IsReady (heard.Snapshot m) (Some p) told c = p.1 ≤ offset_limit
IsReady heard.Applied place told c = c.lineage.stream.offset + length told ≤ offset_limit

abbrev pub adopted : Option (List ℕ × ℕ) → CourseState → CourseState
adopted None c = c
adopted (Some p) c = adopts p.0 p.1 c

abbrev pub HeardAs : Heard → Option (List ℕ × ℕ) → List ℕ → CourseState → Dataset → UpstreamStep → CourseState → Dataset → Type 0
HeardAs heard.Idle place told c m s d n = (s ≡ up.Idle) × ((d ≡ c) × (n ≡ m))
HeardAs heard.Say place told c m s d n = (s ≡ up.Said) × ((d ≡ c) × (n ≡ m))
HeardAs (heard.Full id offset) place told c m s d n = (s ≡ up.Announced) × ((d ≡ c) × (n ≡ m))
HeardAs (heard.Continue id) place told c m s d n = (s ≡ up.Continued) × ((d ≡ continues_as id c) × (n ≡ m))
HeardAs (heard.Snapshot loaded) place told c m s d n = (s ≡ up.Loaded) × ((d ≡ adopted place c) × (n ≡ loaded))
HeardAs heard.Applied place told c m s d n = (s ≡ up.Applied) × ((d ≡ grows told c) × (n ≡ m))

abbrev pub GivesUp : FollowFault → CourseState → Result UpstreamStep UpstreamFault → CourseState → Type 0
GivesUp refusal.BadLine c r d = (r ≡ Ok up.Left) × (d ≡ left c)
GivesUp refusal.Refused c r d = (r ≡ Ok up.Left) × (d ≡ left c)
GivesUp refusal.Undecodable c r d = (r ≡ Ok up.Spoiled) × (d ≡ spoiled c)
GivesUp refusal.Memory c r d = (r ≡ Err fault.Memory) × (d ≡ c)
GivesUp refusal.Spent c r d = (r ≡ Err fault.Stopped) × (d ≡ c)
GivesUp refusal.Torn c r d = (r ≡ Err fault.Stopped) × (d ≡ c)
