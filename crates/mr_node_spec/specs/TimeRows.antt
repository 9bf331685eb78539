-- What a node does as time passes.
use Rattle.std.specs.Prelude.{◌≡◌, ◌≢◌, ◌≤ℤ◌, ◌<ℤ◌, ◌+ℤ◌, ◌-◌, ◌<◌, ℕ, ℤ, pos, List, [], ◌∷◌, ◌++◌, map, take, true, false, Option, Some, None, length}
use Rattle.mr_links.specs.declared.link_id.LinkId.{LinkId}
use Rattle.mr_effect.specs.Spelling.{texts}
use Rattle.mr_effect.specs.declared.effect.Effect.{Effect}
use Rattle.mr_effect.specs.declared.effect.Effect.TheVariants as effect
use Rattle.mr_keyspace.specs.Dataset.{Dataset}
use Rattle.mr_data.specs.Due.{due, deletions, most_deleted, within}
use Rattle.mr_data.specs.Meaning.{apply_all}
use Rattle.mr_repl.specs.Backlog.{offset_limit}
use Rattle.mr_follower.specs.State.{FollowState}
use Rattle.mr_follower.specs.declared.phase.Phase.TheVariants as phase
use Rattle.mr_node_links.specs.State.{streams}
use Rattle.mr_node_output.specs.Outs.{OutsState, no_outs}
use Rattle.mr_node_spec.specs.State.{NodeState, Core, end_of}
use Rattle.mr_node_spec.specs.Growing.{FedTo, grown_by}
use Rattle.mr_node_spec.specs.Acknowledging.{acknowledgement}

-- so many milliseconds pass between heartbeats, and between acknowledgements
abbrev pub beat_after : ℤ
beat_after = pos 10000

abbrev pub acknowledge_after : ℤ
acknowledge_after = pos 1000

-- there is no mark, or it lies ahead: the clock went back
abbrev pub IsUnmarked : Option ℤ → ℤ → Type 0
IsUnmarked None now = Unit {0}
IsUnmarked (Some mark) now = now <ℤ mark

-- so many milliseconds have passed since the mark
abbrev pub HasPassed : Option ℤ → ℤ → ℤ → Type 0
HasPassed None now millis = ⊥
HasPassed (Some mark) now millis = (mark +ℤ millis) ≤ℤ now

-- neither
abbrev pub IsWaiting : Option ℤ → ℤ → ℤ → Type 0
IsWaiting None now millis = ⊥
IsWaiting (Some mark) now millis = (mark ≤ℤ now) × (now <ℤ (mark +ℤ millis))

-- room is left in the stream
abbrev pub room_in : Core → ℕ
room_in c = offset_limit - c.lineage.stream.offset

-- all expired keys that one tick may delete, in order of deadline and then of key
abbrev pub doomed : ℤ → Dataset → List Effect
doomed now m = map (λ d. effect.Del d.0) (take most_deleted (due now m))

-- the stream is sent to somebody
abbrev pub HasReplicas : NodeState → Type 0
HasReplicas a = (x : LinkId) × (streams (end_of a x) ≡ true)

abbrev pub HasNone : NodeState → Type 0
HasNone a = (x : LinkId) → streams (end_of a x) ≡ false

-- What a master's tick writes into its stream, in this order, and its mark behind it. The deletions end before the first that has no room, and
-- then the mark stays.
pub data Beats (a : NodeState) (now : ℤ) (effects : List Effect) (mark : Option ℤ) : Type 0 where
  cut : length (deletions now a.core.held (room_in a.core)) < length (doomed now a.core.held) → effects ≡ deletions now a.core.held (room_in a.core) → mark ≡ a.core.mark → Beats a now effects mark
  marks : deletions now a.core.held (room_in a.core) ≡ doomed now a.core.held → IsUnmarked a.core.mark now → effects ≡ doomed now a.core.held → mark ≡ Some now → Beats a now effects mark
  -- a heartbeat behind them, where there is room for it
  beats : deletions now a.core.held (room_in a.core) ≡ doomed now a.core.held → HasReplicas a → HasPassed a.core.mark now beat_after
      → effects ≡ within (room_in a.core) (doomed now a.core.held ++ effect.Ping ∷ []) → mark ≡ Some now → Beats a now effects mark
  waits : deletions now a.core.held (room_in a.core) ≡ doomed now a.core.held → IsWaiting a.core.mark now beat_after → effects ≡ doomed now a.core.held → mark ≡ a.core.mark → Beats a now effects mark
  alone : deletions now a.core.held (room_in a.core) ≡ doomed now a.core.held → HasNone a → HasPassed a.core.mark now beat_after → effects ≡ doomed now a.core.held → mark ≡ a.core.mark → Beats a now effects mark

-- A master's tick: what is due is applied, put behind the stream and sent to all replicas. Heartbeats don't go to the file.
pub record Deletes (a : NodeState) (now : ℤ) (b : NodeState) (outs : OutsState) : Type 0 where
  pub master : a.core.master ≡ true
  pub effects : List Effect
  pub mark : Option ℤ
  pub beats : Beats a now effects mark
  pub held : Dataset
  pub applied : apply_all effects a.core.held ≡ Some held
  pub core : b.core ≡ record (grown_by effects held a.core) { mark = mark }
  pub ends : b.ends ≡ a.ends
  pub follow : b.follow ≡ a.follow
  pub fed : FedTo (texts effects) a outs.fed
  pub outs_are : outs ≡ record no_outs { grown = texts effects; appended = texts (deletions now a.core.held (room_in a.core)); fed = outs.fed }

-- where a replica's link to its master is in its stream
pub record IsStreaming (a : NodeState) (l : LinkId) : Type 0 where
  pub reader : FollowState
  pub found : a.follow ≡ Some (l, reader)
  pub streams : reader.phase ≡ phase.Stream

-- A replica's tick changes its mark at most. It deletes nothing: it waits for what its master deletes.
pub data Rests (a : NodeState) (now : ℤ) (mark : Option ℤ) (outs : OutsState) : Type 0 where
  marks : IsUnmarked a.core.mark now → mark ≡ Some now → outs ≡ no_outs → Rests a now mark outs
  -- it tells its master how far it holds the stream
  acknowledges : (l : LinkId) → IsStreaming a l → HasPassed a.core.mark now acknowledge_after → mark ≡ Some now
      → outs ≡ record no_outs { link = Some l; reply = acknowledgement a.core.lineage.stream.offset } → Rests a now mark outs
  waits : IsWaiting a.core.mark now acknowledge_after → mark ≡ a.core.mark → outs ≡ no_outs → Rests a now mark outs
  apart : ((l : LinkId) → IsStreaming a l → ⊥) → HasPassed a.core.mark now acknowledge_after → mark ≡ a.core.mark → outs ≡ no_outs → Rests a now mark outs

pub data TickRow (a : NodeState) (now : ℤ) (b : NodeState) (outs : OutsState) : Type 0 where
  deletes : a.core.up ≡ true → Deletes a now b outs → TickRow a now b outs
  rests : a.core.up ≡ true → a.core.master ≡ false → (mark : Option ℤ) → Rests a now mark outs → b ≡ record a { core = record a.core { mark = mark } } → TickRow a now b outs

-- Something is due, for which a tick takes memory: a master's keys are expired, its heartbeat has somebody to go to, or a replica is to acknowledge.
pub data HasDue (a : NodeState) (now : ℤ) : Type 0 where
  deletes : a.core.master ≡ true → due now a.core.held ≢ [] → HasDue a now
  beats : a.core.master ≡ true → HasReplicas a → HasPassed a.core.mark now beat_after → HasDue a now
  acknowledges : a.core.master ≡ false → (l : LinkId) → IsStreaming a l → HasPassed a.core.mark now acknowledge_after → HasDue a now
