-- What a step of a follower may do, one row for each outcome.
use Rattle.std.specs.Prelude.{◌≡◌, ◌≢◌, ℕ, ◌+◌, ◌≤◌, ◌⊎◌, List, [], ◌++◌, length, Option, Some, None, IsSome, Result, Ok, Err}
use Rattle.mr_inline.specs.Language.{Continues}
use Rattle.mr_effect.specs.Spelling.{texts}
use Rattle.mr_keyspace.specs.Changes.{NeedsNoMemory}
use Rattle.mr_data.specs.Rebuilding.{rebuilding}
use Rattle.std.specs.FinMap.{empty}
use Rattle.std.specs.List.{AllByRecursion}
use Rattle.mr_resp.specs.Command.{IsCommandText}
use Rattle.mr_resp.specs.Usual.{commands}
use Rattle.mr_keyspace.specs.Dataset.{Dataset}
use Rattle.mr_repl.specs.Backlog.{offset_limit}
use Rattle.mr_peer_lines.specs.Lines.{Line, status, refusal, size, IsLineText}
use Rattle.mr_peer_lines.specs.Replies.{IsReplyText}
use Rattle.mr_peer_lines.specs.declared.psync.PsyncReply.{PsyncReply}
use Rattle.mr_peer_lines.specs.declared.psync.PsyncReply.TheVariants as reply
use Rattle.mr_groups.specs.Effects.{Makes}
use Rattle.mr_effect.specs.declared.effect.Effect.{Effect}
use Rattle.mr_data.specs.Meaning.{apply_all}
use Rattle.mr_groups.specs.Groups.{IsGoodGroup, group_text}
use Rattle.mr_groups.specs.Reading.{IsOpen}
use Rattle.mr_groups.specs.Folding as folding
use Rattle.mr_follower.specs.Handshake.{IsGreeting, next_of, line_after}
use Rattle.mr_follower.specs.Lines.{Begins, IsNoLine, IsShortOf, HasStatus}
use Rattle.mr_follower.specs.Loading.{HasCommandWithin, HasEffectWithin}
use Rattle.mr_follower.specs.Stream.{IsRefusedFront, LacksAt}
use Rattle.mr_follower.specs.State.{FollowState, Agrees, Moves}
use Rattle.mr_follower.specs.declared.phase.Phase.{Phase}
use Rattle.mr_follower.specs.declared.phase.Phase.TheVariants as phase
use Rattle.mr_follower.specs.declared.heard.Heard.{Heard}
use Rattle.mr_follower.specs.declared.heard.Heard.TheVariants as heard
use Rattle.mr_follower.specs.declared.heard.FollowFault.{FollowFault}
use Rattle.mr_follower.specs.declared.heard.FollowFault.TheVariants as fault

-- lines are waited for
abbrev pub WantsLine : Phase → Type 0
WantsLine p = p ≢ phase.Stream

-- nothing whole is there; of a snapshot that isn't whole, the beginning of one command text is kept, and nothing else
abbrev pub Waits : Phase → List ℕ → List ℕ → Type 0
Waits phase.Ping u kept = Continues IsLineText u
Waits phase.Port u kept = Continues IsLineText u
Waits phase.Capabilities u kept = Continues IsLineText u
Waits phase.Psync u kept = Continues IsLineText u
Waits (phase.Snapshot id offset) u kept = Continues IsLineText u ⊎ (IsShortOf u × Continues (IsCommandText commands) kept)
Waits phase.Stream u kept = IsOpen u

-- An answer to a line of the handshake is used, and the next line is put out.
pub record Greets (a : FollowState) (u : List ℕ) (b : FollowState) (told : List ℕ) : Type 0 where
  pub greeting : IsGreeting a.phase
  pub text : List ℕ
  pub rest : List ℕ
  pub answer : Begins u (status text) rest
  pub says : told ≡ line_after a.phase a.port a.offer
  pub state : Moves a (next_of a.phase) rest b

-- The answer to PSYNC is used.
pub record Answers (a : FollowState) (u : List ℕ) (reply : PsyncReply) (next : Phase) (b : FollowState) : Type 0 where
  pub asked : a.phase ≡ phase.Psync
  pub text : List ℕ
  pub rest : List ℕ
  pub answer : Begins u (status text) rest
  pub reads : IsReplyText text reply
  pub state : Moves a next rest b

-- A whole snapshot is used, with the line of its length. The commands that rebuild its dataset are put out.
pub record Installs (a : FollowState) (u : List ℕ) (loaded : Dataset) (b : FollowState) (told : List ℕ) : Type 0 where
  pub id : List ℕ
  pub offset : ℕ
  pub announced : a.phase ≡ phase.Snapshot id offset
  pub bytes : List ℕ
  pub rest : List ℕ
  pub begins : Begins u (size (length bytes)) (bytes ++ rest)
  pub loads : Makes bytes loaded
  pub rebuilds : told ≡ texts (rebuilding loaded)
  pub again : Makes told loaded
  pub state : Moves a phase.Stream rest b

-- The group at the front of the stream is used and applied, and its text is put out.
pub record Follows (a : FollowState) (u : List ℕ) (m : Dataset) (offset : ℕ) (b : FollowState) (n : Dataset) (told : List ℕ) : Type 0 where
  pub streams : a.phase ≡ phase.Stream
  pub group : List Effect
  pub good : IsGoodGroup group
  pub is_text : told ≡ group_text group
  pub rest : List ℕ
  pub begins : u ≡ told ++ rest
  pub within : offset + length told ≤ offset_limit
  pub applied : apply_all group m ≡ Some n
  pub state : Moves a phase.Stream rest b

-- the line may not stand here: for a line of the handshake, as the answer to PSYNC, in the place of a snapshot's length
abbrev pub IsOutOfPlace : Phase → Option (List ℕ × ℕ) → Line → Type 0
IsOutOfPlace p offer (refusal text) = ⊥
IsOutOfPlace phase.Ping offer (status text) = ⊥
IsOutOfPlace phase.Ping offer (size n) = Unit {0}
IsOutOfPlace phase.Port offer (status text) = ⊥
IsOutOfPlace phase.Port offer (size n) = Unit {0}
IsOutOfPlace phase.Capabilities offer (status text) = ⊥
IsOutOfPlace phase.Capabilities offer (size n) = Unit {0}
IsOutOfPlace phase.Psync offer (status text) = (r : PsyncReply) → IsReplyText text r → (offer ≡ None) × ((id : List ℕ) × (r ≡ reply.Continue id))
IsOutOfPlace phase.Psync offer (size n) = Unit {0}
IsOutOfPlace (phase.Snapshot id offset) offer (status text) = Unit {0}
IsOutOfPlace (phase.Snapshot id offset) offer (size n) = ⊥
IsOutOfPlace phase.Stream offer line = ⊥

-- a line may not stand here
pub record IsWrongLine (a : FollowState) (u : List ℕ) : Type 0 where
  pub line : Line
  pub rest : List ℕ
  pub begins : Begins u line rest
  pub wrong : IsOutOfPlace a.phase a.offer line

-- what stands at the front is no line, or none that may stand here
pub record IsBadLine (a : FollowState) (u : List ℕ) : Type 0 where
  pub wants : WantsLine a.phase
  pub cause : IsNoLine u ⊎ IsWrongLine a u

-- the master refuses
pub record IsRefused (a : FollowState) (u : List ℕ) : Type 0 where
  pub wants : WantsLine a.phase
  pub text : List ℕ
  pub rest : List ℕ
  pub begins : Begins u (refusal text) rest

-- However the bytes go on, those that make up the snapshot make no dataset.
pub record IsBadSnapshot (a : FollowState) (u : List ℕ) : Type 0 where
  pub id : List ℕ
  pub offset : ℕ
  pub announced : a.phase ≡ phase.Snapshot id offset
  pub length_of : ℕ
  pub rest : List ℕ
  pub begins : Begins u (size length_of) rest
  pub bad : (bytes more behind : List ℕ) (n : Dataset) → length bytes ≡ length_of → rest ++ more ≡ bytes ++ behind → Makes bytes n → ⊥

-- However the bytes go on, no text of a group begins them that can be applied here and leads up to the offset limit at most.
pub record IsBadStream (a : FollowState) (u : List ℕ) (m : Dataset) (offset : ℕ) : Type 0 where
  pub streams : a.phase ≡ phase.Stream
  pub room : ℕ
  pub limit : offset + room ≡ offset_limit
  pub refused : IsRefusedFront room m u

-- The bytes begin with the line of a snapshot's length. Bytes behind it make this dataset, so many of the snapshot are to come,
-- and these follow.
pub record IsAmid (u : List ℕ) (m : Dataset) (left : ℕ) (rest : List ℕ) : Type 0 where
  pub length_of : ℕ
  pub front : List ℕ
  pub begins : Begins u (size length_of) (front ++ rest)
  pub makes : Makes front m
  pub counted : length front + left ≡ length_of

-- what is kept of a snapshot begins with a command text; or the snapshot is whole, and makes a dataset
abbrev pub LacksWithin : List ℕ → List ℕ → Type 0
LacksWithin u kept = (m : Dataset) × ((left : ℕ) × (IsAmid u m left kept × (HasCommandWithin left kept ⊎ (left ≡ 0))))

-- A command text begins the stream that leads up to the offset limit at most: an effect's that can be applied, or it isn't known.
abbrev pub LacksBelow : ℕ → List ℕ → Dataset → Type 0
LacksBelow offset u m = (room : ℕ) × ((offset + room ≡ offset_limit) × LacksAt u room m)

-- where memory can be lacking: behind an answer to a line of the handshake, for a command text in a snapshot that is the next to
-- be done, for the commands that rebuild a whole one, and for a command text of the stream
abbrev pub MayLack : Phase → ℕ → List ℕ → List ℕ → Dataset → Type 0
MayLack phase.Ping offset u kept m = HasStatus u
MayLack phase.Port offset u kept m = HasStatus u
MayLack phase.Capabilities offset u kept m = HasStatus u
MayLack phase.Psync offset u kept m = ⊥
MayLack (phase.Snapshot id o) offset u kept m = LacksWithin u kept
MayLack phase.Stream offset u kept m = LacksBelow offset u m

-- a group's text begins the stream that leads up to the offset limit at most, and it isn't used
pub record BeginsGroup (a : FollowState) (u : List ℕ) (offset : ℕ) (b : FollowState) : Type 0 where
  pub streams : a.phase ≡ phase.Stream
  pub unread : Agrees b u
  pub group : List Effect
  pub good : IsGoodGroup group
  pub rest : List ℕ
  pub begins : u ≡ group_text group ++ rest
  pub within : offset + length (group_text group) ≤ offset_limit

-- Memory ran out within such a group, whose first effect can be applied and of which one takes some: the dataset is spent.
pub record SpendsHeld (a : FollowState) (u : List ℕ) (m : Dataset) (offset : ℕ) (b : FollowState) (n : Dataset) : Type 0 where
  pub at : BeginsGroup a u offset b
  pub begun : folding.IsRefused at.group m → ⊥
  pub heavy : AllByRecursion NeedsNoMemory at.group → ⊥
  pub emptied : n ≡ empty

-- Memory ran out within an effect of a snapshot, the next to be done, which can be applied there and takes some. The dataset that
-- is held stays. What was taken of the snapshot is let go, and of the unread bytes those that are kept are left.
pub record SpendsMade (a : FollowState) (u : List ℕ) (m : Dataset) (b : FollowState) (n : Dataset) : Type 0 where
  pub id : List ℕ
  pub offset : ℕ
  pub announced : a.phase ≡ phase.Snapshot id offset
  pub made : Dataset
  pub left : ℕ
  pub amid : IsAmid u made left b.kept
  pub effect : HasEffectWithin made left b.kept
  pub unread : Agrees b b.kept
  pub stays : n ≡ m

-- What it waits for is the same.
pub record Spends (a : FollowState) (u : List ℕ) (m : Dataset) (offset : ℕ) (b : FollowState) (n : Dataset) (told : List ℕ) : Type 0 where
  pub cause : SpendsHeld a u m offset b n ⊎ SpendsMade a u m b n
  pub waits : b.phase ≡ a.phase
  pub offer : b.offer ≡ a.offer
  pub port : b.port ≡ a.port
  pub silent : told ≡ []

-- A later effect of such a group can't be applied: the dataset is spent. It is that after those before it.
pub record Tears (a : FollowState) (u : List ℕ) (m : Dataset) (offset : ℕ) (b : FollowState) (n : Dataset) (told : List ℕ) : Type 0 where
  pub at : BeginsGroup a u offset b
  pub torn : folding.IsTorn at.group m n
  pub waits : b.phase ≡ a.phase
  pub offer : b.offer ≡ a.offer
  pub port : b.port ≡ a.port
  pub silent : told ≡ []

-- the unread bytes, what is waited for and the dataset stay, and nothing is put out
pub record Stays (a : FollowState) (u : List ℕ) (m : Dataset) (b : FollowState) (n : Dataset) (told : List ℕ) : Type 0 where
  pub state : Moves a a.phase u b
  pub held : n ≡ m
  pub silent : told ≡ []

-- the dataset stays, and nothing is put out
pub record Keeps (m n : Dataset) (told : List ℕ) : Type 0 where
  pub held : n ≡ m
  pub silent : told ≡ []

-- the row of an outcome: from a follower with these unread bytes, a dataset and its offset
abbrev pub FollowRow : FollowState → List ℕ → Dataset → ℕ → Result Heard FollowFault → FollowState → Dataset → List ℕ → Type 0
FollowRow a u m offset (Ok heard.Idle) b n told = Waits a.phase u b.kept × Stays a u m b n told
FollowRow a u m offset (Ok heard.Say) b n told = Greets a u b told × (n ≡ m)
FollowRow a u m offset (Ok (heard.Full id o)) b n told = Answers a u (reply.FullResync id o) (phase.Snapshot id o) b × Keeps m n told
FollowRow a u m offset (Ok (heard.Continue id)) b n told = (IsSome a.offer × Answers a u (reply.Continue id) phase.Stream b) × Keeps m n told
FollowRow a u m offset (Ok (heard.Snapshot loaded)) b n told = Installs a u loaded b told × (n ≡ m)
FollowRow a u m offset (Ok heard.Applied) b n told = Follows a u m offset b n told
FollowRow a u m offset (Err fault.BadLine) b n told = IsBadLine a u × Stays a u m b n told
FollowRow a u m offset (Err fault.Refused) b n told = IsRefused a u × Stays a u m b n told
FollowRow a u m offset (Err fault.Undecodable) b n told = (IsBadSnapshot a u ⊎ IsBadStream a u m offset) × Stays a u m b n told
FollowRow a u m offset (Err fault.Memory) b n told = MayLack a.phase offset u b.kept m × Stays a u m b n told
FollowRow a u m offset (Err fault.Spent) b n told = Spends a u m offset b n told
FollowRow a u m offset (Err fault.Torn) b n told = Tears a u m offset b n told

-- a step, and what it puts out
pub record Steps (a : FollowState) (u : List ℕ) (m : Dataset) (offset : ℕ) (result : Result Heard FollowFault) (b : FollowState) (n : Dataset) (before after : List ℕ) : Type 0 where
  pub told : List ℕ
  pub put : after ≡ before ++ told
  pub row : FollowRow a u m offset result b n told

-- a step that no dataset and no offset matter to
abbrev pub StepsAside : FollowState → Result Heard FollowFault → FollowState → List ℕ → List ℕ → Type 0
StepsAside a result b before after = (u : List ℕ) (m : Dataset) (offset : ℕ) → Agrees a u → Steps a u m offset result b m before after
