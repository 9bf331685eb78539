-- Calls on a follower in its stream, one after another.
use Rattle.std.specs.Prelude.{◌≡◌, ℕ, ◌+◌, ◌≤◌, List, [], ◌∷◌, ◌++◌, length, All, Some, Ok, Err}
use Rattle.mr_effect.specs.declared.effect.Effect.{Effect}
use Rattle.mr_keyspace.specs.Dataset.{Dataset}
use Rattle.mr_repl.specs.Backlog.{offset_limit}
use Rattle.mr_peer_lines.specs.Lines.{size, IsPeerLine}
use Rattle.mr_groups.specs.Groups.{IsGoodGroup, group_texts}
use Rattle.mr_groups.specs.Folding.{apply_groups}
use Rattle.mr_follower.specs.State.{FollowState, heard}
use Rattle.mr_follower.specs.Rows.{FollowRow}
use Rattle.mr_follower.specs.declared.phase.Phase.TheVariants as phase
use Rattle.mr_groups.specs.Effects.{Makes}
use Rattle.mr_follower.specs.declared.heard.Heard.{Heard}
use Rattle.mr_follower.specs.declared.heard.Heard.TheVariants as heard_of
use Rattle.mr_follower.specs.declared.heard.FollowFault.{FollowFault}
use Rattle.mr_follower.specs.declared.heard.FollowFault.TheVariants.{BadLine, Refused, Undecodable, Memory, Spent, Torn}

-- bytes are fed, or a step is made
pub data Call : Type 0 where
  feed : List ℕ → Call
  step : Call

-- the bytes that are fed, all together
abbrev pub fed_by : List Call → List ℕ
fed_by [] = []
fed_by (feed bytes ∷ calls) = bytes ++ fed_by calls
fed_by (step ∷ calls) = fed_by calls

-- One step that isn't refused: the follower, the dataset and the offset after it.
pub record Stepped (a : FollowState) (m : Dataset) (offset : ℕ) (b : FollowState) (n : Dataset) (end : ℕ) : Type 0 where
  pub told : List ℕ
  pub outcome : Heard
  pub row : FollowRow a a.kept m offset (Ok outcome) b n told
  pub counted : end ≡ offset + length told

-- what calls, none of which is refused, make of a follower, a dataset and its offset
abbrev pub Runs : List Call → FollowState → Dataset → ℕ → FollowState → Dataset → ℕ → Type 0
Runs [] a m offset b n end = (b ≡ a) × ((n ≡ m) × (end ≡ offset))
Runs (feed bytes ∷ calls) a m offset b n end = Runs calls (heard a bytes) m offset b n end
Runs (step ∷ calls) a m offset b n end = (c : FollowState) × ((k : Dataset) × ((mid : ℕ) × (Stepped a m offset c k mid × Runs calls c k mid b n end)))

-- These groups can be applied one after another, and lead up to no offset past the limit.
pub record IsStream (groups : List (List Effect)) (m : Dataset) (offset : ℕ) : Type 0 where
  pub last : Dataset
  pub applied : apply_groups groups m ≡ Some last
  pub good : All IsGoodGroup groups
  pub within : offset + length (group_texts groups) ≤ offset_limit

-- Of these groups the first were applied, and the bytes left to read are behind their texts.
pub record HasFollowed (groups : List (List Effect)) (bytes : List ℕ) (m : Dataset) (offset : ℕ) (b : FollowState) (n : Dataset) (end : ℕ) : Type 0 where
  pub done : List (List Effect)
  pub left : List (List Effect)
  pub first : groups ≡ done ++ left
  pub applied : apply_groups done m ≡ Some n
  pub counted : end ≡ offset + length (group_texts done)
  pub unread : bytes ≡ group_texts done ++ b.kept
  pub streams : b.phase ≡ phase.Stream

-- Fed a beginning of the texts of groups that can be applied, in any pieces and with any steps between, a follower in its
-- stream has applied the first of them, each as a whole, and keeps the rest of what it was fed.
abbrev pub FollowsBy : List Call → Type 0
FollowsBy calls = (a b : FollowState) (m n : Dataset) (offset end : ℕ) (groups : List (List Effect)) (later : List ℕ)
    → a.phase ≡ phase.Stream → IsStream groups m offset → group_texts groups ≡ (a.kept ++ fed_by calls) ++ later
    → Runs calls a m offset b n end → HasFollowed groups (a.kept ++ fed_by calls) m offset b n end

abbrev pub FollowsTheStream : Type 0
FollowsTheStream = (calls : List Call) → FollowsBy calls

-- it is told for want of memory
abbrev pub IsWant : FollowFault → Type 0
IsWant BadLine = ⊥
IsWant Refused = ⊥
IsWant Undecodable = ⊥
IsWant Memory = Unit {0}
IsWant Spent = Unit {0}
IsWant Torn = ⊥

-- then no step is refused but for want of memory
abbrev pub StreamIsTaken : Type 0
StreamIsTaken = (a b : FollowState) (m n : Dataset) (offset : ℕ) (groups : List (List Effect)) (later told : List ℕ) (fault : FollowFault)
    → a.phase ≡ phase.Stream → IsStream groups m offset → group_texts groups ≡ a.kept ++ later
    → FollowRow a a.kept m offset (Err fault) b n told → IsWant fault

-- The bytes begin a snapshot that makes a dataset, or they are one with something behind it.
pub record BeginsSnapshot (u later : List ℕ) (made : Dataset) : Type 0 where
  pub line : List ℕ
  pub bytes : List ℕ
  pub behind : List ℕ
  pub is : u ++ later ≡ line ++ (bytes ++ behind)
  pub says : IsPeerLine line (size (length bytes))
  pub makes : Makes bytes made

-- then no step is refused but for want of memory
abbrev pub SnapshotIsTaken : Type 0
SnapshotIsTaken = (a b : FollowState) (m n made : Dataset) (offset o : ℕ) (id u later told : List ℕ) (fault : FollowFault)
    → a.phase ≡ phase.Snapshot id o → BeginsSnapshot u later made → FollowRow a u m offset (Err fault) b n told → IsWant fault

-- and where it is all there, it is handed over
abbrev pub SnapshotIsHandedOver : Type 0
SnapshotIsHandedOver = (a b : FollowState) (m n made : Dataset) (offset o : ℕ) (id u told : List ℕ) (outcome : Heard)
    → a.phase ≡ phase.Snapshot id o → BeginsSnapshot u [] made → FollowRow a u m offset (Ok outcome) b n told → outcome ≡ heard_of.Snapshot made
