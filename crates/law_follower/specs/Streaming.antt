-- What a replica in its master's stream has applied of the bytes that came, and what it has left unread.
use Rattle.std.specs.Prelude.{◌≡◌, ◌≢◌, ℕ, List, [], ◌∷◌, ◌++◌, All, false, Some, Result, Ok, Err}
use Rattle.mr_links.specs.declared.link_id.LinkId.{LinkId}
use Rattle.std.specs.List.{AllByRecursion}
use Rattle.mr_effect.specs.Spelling.{size}
use Rattle.mr_effect.specs.declared.effect.Effect.{Effect}
use Rattle.mr_effect.specs.declared.effect.Effect.TheVariants as effect
use Rattle.mr_keyspace.specs.Dataset.{Dataset}
use Rattle.mr_keyspace.specs.Changes.{NeedsNoMemory}
use Rattle.mr_data.specs.Meaning.{apply}
use Rattle.mr_data.specs.declared.given.Given.{Given}
use Rattle.mr_repl.specs.Lineage.{grown}
use Rattle.mr_groups.specs.Groups.{IsGoodGroup, group_text, group_texts}
use Rattle.mr_groups.specs.Reading.{BeginsWithGroup, IsOpen}
use Rattle.mr_groups.specs.Folding.{apply_groups}
use Rattle.mr_follower.specs.Following.{IsStream}
use Rattle.mr_node_output.specs.Outs.{no_outs}
use Rattle.mr_node_spec.specs.State.{NodeState}
use Rattle.mr_node_spec.specs.Sound.{IsSound}
use Rattle.mr_node_spec.specs.UpstreamRows.{filed}
use Rattle.mr_node.specs.Steps.{Steps}
use Rattle.mr_node.specs.declared.step.Step.{Step}
use Rattle.mr_node.specs.declared.step.Step.TheVariants as outcome
use Rattle.mr_node.specs.declared.fault.NodeFault.{NodeFault}
use Rattle.mr_node.specs.declared.fault.NodeFault.TheVariants as fault
use Rattle.law_follower.specs.Runs.{IsFollowing, Streams, IsAnotherCall, Call, Runs, all_that_came}

-- ---- whatever the bytes
-- Of the bytes, those that were unread at node a with those that came since, the texts of these groups come first, and what is unread at node b
-- is the rest. The groups were applied one after another, each as a whole. The stream grew by their texts, and by nothing else: the node shows the
-- id that it showed, and the offset behind these texts, which is inside no group.
pub record HasApplied (groups : List (List Effect)) (a : NodeState) (l : LinkId) (bytes : List ℕ) (b : NodeState) : Type 0 where
  pub good : All IsGoodGroup groups
  pub unread : List ℕ
  pub streams : Streams b l unread
  pub cut : bytes ≡ group_texts groups ++ unread
  pub held : apply_groups groups a.core.held ≡ Some b.core.held
  pub grew : b.core.lineage ≡ grown a.core.lineage (group_texts groups)

-- While a node in its master's stream follows it and isn't stopped, it stays in the stream, and has applied the groups whose texts come first.
abbrev pub AppliesWhatComesFirst : Type 0
AppliesWhatComesFirst = (calls : List Call) (a b : NodeState) (l : LinkId) (unread : List ℕ) → IsSound a → Streams a l unread → Runs calls a l b
    → (groups : List (List Effect)) × HasApplied groups a l (unread ++ all_that_came calls) b

-- no whole text of a group begins the bytes, which are the beginning of one, or none
pub record HasNothingWhole (bytes : List ℕ) : Type 0 where
  pub begun : IsOpen bytes
  pub none : BeginsWithGroup bytes → ⊥

-- A step finds nothing whole only where all groups that came whole are applied.
abbrev pub IdleLeavesNothingWhole : Type 0
IdleLeavesNothingWhole = (calls : List Call) (a b c : NodeState) (l : LinkId) (unread : List ℕ) (given : Given) (fresh : List ℕ) → IsSound a → Streams a l unread → Runs calls a l b
    → Steps b l given fresh c (Ok outcome.Idle) → (groups : List (List Effect)) × (has : HasApplied groups a l (unread ++ all_that_came calls) c) × HasNothingWhole has.unread

-- Runs of calls, one behind the other, are one.
abbrev pub RunsGoOn : Type 0
RunsGoOn = (calls more : List Call) (a b c : NodeState) (l : LinkId) → Runs calls a l b → Runs more b l c → Runs (calls ++ more) a l c × (all_that_came (calls ++ more) ≡ all_that_came calls ++ all_that_came more)

-- ---- where they are a beginning of a stream
-- The bytes are a beginning of the texts of these groups. Each of these can be applied behind those in front of it, and they lead up to no offset
-- past the limit.
pub record Begins (groups : List (List Effect)) (a : NodeState) (bytes : List ℕ) : Type 0 where
  pub stream : IsStream groups a.core.held a.core.lineage.stream.offset
  pub later : List ℕ
  pub split : group_texts groups ≡ bytes ++ later

-- Of these groups the first were applied, and those that are left weren't.
pub record HasFollowed (groups : List (List Effect)) (a : NodeState) (l : LinkId) (bytes : List ℕ) (b : NodeState) : Type 0 where
  pub done : List (List Effect)
  pub left : List (List Effect)
  pub first : groups ≡ done ++ left
  pub applied : HasApplied done a l bytes b

abbrev pub FollowsItsStream : Type 0
FollowsItsStream = (calls : List Call) (a b : NodeState) (l : LinkId) (unread : List ℕ) (groups : List (List Effect)) → IsSound a → Streams a l unread → Begins groups a (unread ++ all_that_came calls) → Runs calls a l b
    → HasFollowed groups a l (unread ++ all_that_came calls) b

-- The bytes are a beginning of the text of the first of these groups, and not all of it; or nothing where there are none.
abbrev pub IsTorn : List (List Effect) → List ℕ → Type 0
IsTorn [] bytes = bytes ≡ []
IsTorn (g ∷ gs) bytes = (more : List ℕ) × (more ≢ []) × (group_text g ≡ bytes ++ more)

-- Exactly those were applied whose texts came whole.
pub record HasExactlyTheWhole (groups : List (List Effect)) (a : NodeState) (l : LinkId) (bytes : List ℕ) (b : NodeState) : Type 0 where
  pub followed : HasFollowed groups a l bytes b
  pub torn : IsTorn followed.left followed.applied.unread

abbrev pub IdleHasExactlyTheWhole : Type 0
IdleHasExactlyTheWhole = (calls : List Call) (a b c : NodeState) (l : LinkId) (unread : List ℕ) (groups : List (List Effect)) (given : Given) (fresh : List ℕ) → IsSound a → Streams a l unread
    → Begins groups a (unread ++ all_that_came calls) → Runs calls a l b → Steps b l given fresh c (Ok outcome.Idle) → HasExactlyTheWhole groups a l (unread ++ all_that_came calls) c

-- ---- and then no step leaves the master
-- the bytes begin with the whole text of a group, of which an effect takes memory
pub record HasWhole (bytes : List ℕ) : Type 0 where
  pub group : List Effect
  pub good : IsGoodGroup group
  pub rest : List ℕ
  pub cut : bytes ≡ group_text group ++ rest
  pub heavy : AllByRecursion NeedsNoMemory group → ⊥

-- The step that led from b to c, where these bytes were unread, found nothing whole; it applied one group, whose text is put out for the file
-- unless it is a heartbeat, and nothing else is; or memory was lacking, and the bytes are the same. It may have run out within a group, and then
-- the node is stopped.
abbrev pub StaysWith : LinkId → List ℕ → NodeState → NodeState → Result Step NodeFault → Type 0
StaysWith l unread b c (Ok outcome.Idle) = HasApplied [] b l unread c
StaysWith l unread b c (Ok (outcome.Done outs)) = (g : List Effect) × HasApplied (g ∷ []) b l unread c × (outs ≡ record no_outs { link = Some l; appended = filed (group_text g) })
StaysWith l unread b c (Ok outcome.Closed) = ⊥
StaysWith l unread b c (Err fault.Memory) = HasApplied [] b l unread c
StaysWith l unread b c (Err fault.Stopped) = HasWhole unread × (c.core.up ≡ false)
StaysWith l unread b c (Err fault.NoLink) = ⊥
StaysWith l unread b c (Err fault.InputFull) = ⊥

abbrev pub NoStepLeaves : Type 0
NoStepLeaves = (calls : List Call) (a b c : NodeState) (l : LinkId) (unread now : List ℕ) (groups : List (List Effect)) (given : Given) (fresh : List ℕ) (result : Result Step NodeFault) → IsSound a → Streams a l unread
    → Begins groups a (unread ++ all_that_came calls) → Runs calls a l b → Streams b l now → Steps b l given fresh c result → StaysWith l now b c result

-- ---- beside it
-- The stream, the dataset and what reads at the link to the master are what they were.
pub record Rests (a b : NodeState) : Type 0 where
  pub lineage : b.core.lineage ≡ a.core.lineage
  pub held : b.core.held ≡ a.core.held
  pub follow : b.follow ≡ a.follow

-- So no other call changes anything of these, whatever its link and its outcome, as long as the node follows its master at its link and isn't stopped.
abbrev pub OtherCallsRest : Type 0
OtherCallsRest = (a b : NodeState) (l : LinkId) → IsFollowing a l → IsAnotherCall a l b → IsFollowing b l → Rests a b

-- A heartbeat is an effect of the stream, of 14 bytes, that changes no dataset.
abbrev pub HeartbeatsAreCounted : Type 0
HeartbeatsAreCounted = (m : Dataset) → (apply effect.Ping m ≡ Some m) × (size effect.Ping ≡ 14)
