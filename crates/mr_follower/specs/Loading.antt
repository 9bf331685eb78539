-- A snapshot that is taken as it comes.
use Rattle.std.specs.Prelude.{◌≡◌, ℕ, ◌+◌, ◌-◌, ◌<◌, ◌≤◌, Bool, true, false, List, ◌++◌, length, take, drop, Option, Some, None, Result, Ok, Err}
use Rattle.mr_inline.specs.Language.{Continues}
use Rattle.mr_resp.specs.Command.{IsCommand, IsCommandText}
use Rattle.mr_resp.specs.Usual.{commands}
use Rattle.mr_effect.specs.Spelling.{text, texts}
use Rattle.mr_effect.specs.declared.effect.Effect.{Effect}
use Rattle.mr_keyspace.specs.Changes.{NeedsNoMemory}
use Rattle.mr_keyspace.specs.Dataset.{Dataset}
use Rattle.mr_data.specs.Meaning.{apply}
use Rattle.mr_data.specs.Rebuilding.{rebuilding}
use Rattle.mr_inline.specs.Language.{Continues}
use Rattle.mr_peer_lines.specs.Lines.{IsLineText}
use Rattle.mr_groups.specs.Effects.{IsGoodEffect, Leads, Makes}
use Rattle.mr_groups.specs.declared.replaying.Halt.{Halt}
use Rattle.mr_groups.specs.declared.replaying.Halt.TheVariants as halt
use Rattle.mr_follower.specs.Lines.{HearsLength}
use Rattle.mr_follower.specs.State.{FollowState, IsTaking, IsTaken, Agrees}
use Rattle.mr_follower.specs.declared.phase.Phase.TheVariants.{Stream}
use Rattle.mr_follower.specs.declared.taking.Taking.{Taking}
use Rattle.mr_follower.specs.declared.taking.Pause.{Pause}
use Rattle.mr_follower.specs.declared.taking.Pause.TheVariants as pause
use Rattle.mr_follower.specs.declared.heard.Heard.{Heard}
use Rattle.mr_follower.specs.declared.heard.Heard.TheVariants as told
use Rattle.mr_follower.specs.declared.heard.FollowFault.{FollowFault}
use Rattle.mr_follower.specs.declared.heard.FollowFault.TheVariants.{BadLine, Refused, Undecodable, Memory, Spent, Torn}

-- A command text begins the bytes, within so many of them.
pub record HasCommandWithin (left : ℕ) (bytes : List ℕ) : Type 0 where
  pub words : List (List ℕ)
  pub front : List ℕ
  pub behind : List ℕ
  pub is : bytes ≡ front ++ behind
  pub inside : length front ≤ left
  pub command : IsCommand commands front words

-- The text of an effect that can be applied, and takes memory, begins the bytes, within so many of them.
pub record HasEffectWithin (m : Dataset) (left : ℕ) (bytes : List ℕ) : Type 0 where
  pub effect : Effect
  pub good : IsGoodEffect effect
  pub behind : List ℕ
  pub is : bytes ≡ text effect ++ behind
  pub inside : length (text effect) ≤ left
  pub can : Dataset
  pub applies : apply effect m ≡ Some can
  pub heavy : NeedsNoMemory effect → ⊥

-- no so many bytes lead on, with which these begin or which begin these
abbrev pub IsDeadEnd : Dataset → ℕ → List ℕ → Type 0
IsDeadEnd m left bytes = (all more behind : List ℕ) (n : Dataset) → length all ≡ left → bytes ++ more ≡ all ++ behind → Leads all m n → ⊥

-- why no more is taken: by why no more effects were done, whether all bytes of the snapshot are there, and whether all were done
abbrev pub pause_of : Halt → Bool → Bool → Pause
pause_of halt.Open there true = pause.Whole
pause_of halt.Open true false = pause.Bad
pause_of halt.Open false false = pause.More
pause_of halt.Bad there true = pause.Whole
pause_of halt.Bad there false = pause.Bad
pause_of halt.Lack there true = pause.Whole
pause_of halt.Lack there false = pause.Lack
pause_of halt.Spent there ended = pause.Spent

-- .. with a dataset made so far, so many bytes to come, and these kept; and the dataset after it
abbrev pub Pauses : Dataset → ℕ → List ℕ → Pause → Dataset → Type 0
Pauses m left kept pause.Whole n = (n ≡ m) × (left ≡ 0)
Pauses m left kept pause.More n = (n ≡ m) × ((length kept < left) × Continues (IsCommandText commands) kept)
Pauses m left kept pause.Bad n = (n ≡ m) × IsDeadEnd m left kept
Pauses m left kept pause.Lack n = (n ≡ m) × HasCommandWithin left kept
Pauses m left kept pause.Spent n = HasEffectWithin m left kept

-- So many bytes more were taken of a snapshot.
pub record GoesOn (t : Taking) (unread : List ℕ) (used : ℕ) (p : Pause) (s : Taking) : Type 0 where
  pub head : s.head ≡ t.head
  pub size : s.size ≡ t.size
  pub done : s.done ≡ t.done + used
  pub within : s.done ≤ s.size
  pub inside : used ≤ length unread
  pub made : Dataset
  pub led : Leads (take used unread) t.made made
  pub pauses : Pauses made (s.size - s.done) (drop used unread) p s.made

-- what was taken of a snapshot is taken out; or its line isn't there, or can't stand there
abbrev pub TakesOut : FollowState → Result (Option Taking) FollowFault → FollowState → Type 0
TakesOut a (Ok (Some t)) b = IsTaking t × ((b ≡ record a { taking = None; kept = b.kept }) × ((u : List ℕ) → Agrees a u → IsTaken t b.kept u))
TakesOut a (Ok None) b = (b ≡ a) × ((a.taking ≡ None) × Continues IsLineText a.kept)
TakesOut a (Err f) b = (b ≡ a) × ((a.taking ≡ None) × HearsLength a.kept (Err f))

-- the dataset is handed over with the commands that rebuild it; or it is put back, for want of memory for these
abbrev pub HandsOver : FollowState → Taking → Result Heard FollowFault → FollowState → List ℕ → List ℕ → Type 0
HandsOver a t (Ok told.Idle) b before after = ⊥
HandsOver a t (Ok told.Say) b before after = ⊥
HandsOver a t (Ok (told.Full id offset)) b before after = ⊥
HandsOver a t (Ok (told.Continue id)) b before after = ⊥
HandsOver a t (Ok (told.Snapshot loaded)) b before after = (loaded ≡ t.made) × ((b ≡ record a { phase = Stream; taking = None }) × ((after ≡ before ++ texts (rebuilding t.made)) × Makes (texts (rebuilding t.made)) t.made))
HandsOver a t (Ok told.Applied) b before after = ⊥
HandsOver a t (Err BadLine) b before after = ⊥
HandsOver a t (Err Refused) b before after = ⊥
HandsOver a t (Err Undecodable) b before after = ⊥
HandsOver a t (Err Memory) b before after = (b ≡ record a { taking = Some t }) × (after ≡ before)
HandsOver a t (Err Spent) b before after = ⊥
HandsOver a t (Err Torn) b before after = ⊥
