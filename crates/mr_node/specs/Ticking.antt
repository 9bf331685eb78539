-- What the parts of a tick do.
use Rattle.std.specs.Prelude.{◌≡◌, ◌≤◌, IsTrue, ℕ, ℤ, List, Bool, true, false, Option, Some, All, length, map, ◌<◌}
use Rattle.mr_links.specs.declared.link_id.LinkId.{LinkId}
use Rattle.mr_bytes.specs.Words.{fits}
use Rattle.mr_effect.specs.Spelling.{texts}
use Rattle.mr_effect.specs.declared.effect.Effect.{Effect}
use Rattle.mr_effect.specs.declared.effect.Effect.TheVariants as effect
use Rattle.mr_keyspace.specs.Dataset.{Dataset}
use Rattle.mr_data.specs.Due.{deletions, within}
use Rattle.mr_data.specs.declared.due.DueKey.{DueKey}
use Rattle.mr_repl.specs.Backlog.{offset_limit}
use Rattle.mr_node_output.specs.Outs.{OutsState, no_outs}
use Rattle.mr_node_spec.specs.State.{NodeState}
use Rattle.mr_node_spec.specs.Growing.{FedTo, offset_behind}
use Rattle.mr_node_spec.specs.TimeRows.{Beats, HasNone, HasPassed, HasReplicas, IsUnmarked, IsWaiting, beat_after, room_in}
use Rattle.mr_node_spec.specs.TimeRows as time
use Rattle.mr_node.specs.declared.node.ticking.Since.{Since}
use Rattle.mr_node.specs.declared.node.ticking.Since.TheVariants as since
use Rattle.mr_node.specs.declared.node.ticking.Beats.{Beats as Told}
use Rattle.mr_node.specs.declared.node.ticking.Deletions.{Deletions}

abbrev pub IsSince : Option ℤ → ℤ → ℤ → Since → Type 0
IsSince mark now millis since.Unmarked = IsUnmarked mark now
IsSince mark now millis since.Waiting = IsWaiting mark now millis
IsSince mark now millis since.Passed = HasPassed mark now millis

-- each takes a key away that is within the word limit, or is a heartbeat
abbrev pub IsLight : Effect → Type 0
IsLight (effect.Del k) = IsTrue (fits k)
IsLight effect.Ping = Unit {0}
IsLight _ = ⊥

-- The deletions of keys as far as there is room. Their texts are told.
pub record Fitting (room : ℕ) (dues : List DueKey) (effects : List Effect) (outs : OutsState) : Type 0 where
  pub effects_are : effects ≡ within room (map (λ d. effect.Del d.key.now) dues)
  pub light : All IsLight effects
  pub enough : length (texts effects) ≤ room
  pub outs_are : outs ≡ record no_outs { grown = texts effects; appended = texts effects }

-- The deletions as far as there is room, and whether that is all. Their texts are told.
pub record Doomed (m : Dataset) (now : ℤ) (room : ℕ) (d : Deletions) (outs : OutsState) : Type 0 where
  pub effects : d.effects.items ≡ deletions now m room
  pub light : All IsLight d.effects.items
  pub whole : d.whole ≡ true → deletions now m room ≡ time.doomed now m
  pub cut : d.whole ≡ false → length (deletions now m room) < length (time.doomed now m)
  pub within : length (texts d.effects.items) ≤ room
  pub outs_are : outs ≡ record no_outs { grown = texts d.effects.items; appended = texts d.effects.items }

-- by whether all that is expired has room, and somebody is sent a heartbeat
pub data SinceBeat (a : NodeState) (now : ℤ) (whole : Bool) (s : Since) : Type 0 where
  cut : whole ≡ false → s ≡ since.Waiting → SinceBeat a now whole s
  unmarked : whole ≡ true → IsUnmarked a.core.mark now → s ≡ since.Unmarked → SinceBeat a now whole s
  passed : whole ≡ true → HasReplicas a → HasPassed a.core.mark now beat_after → s ≡ since.Passed → SinceBeat a now whole s
  waits : whole ≡ true → IsWaiting a.core.mark now beat_after → s ≡ since.Waiting → SinceBeat a now whole s
  alone : whole ≡ true → HasNone a → HasPassed a.core.mark now beat_after → s ≡ since.Waiting → SinceBeat a now whole s

-- the mark behind a tick
abbrev pub marked : Bool → ℤ → Option ℤ → Option ℤ
marked true now mark = Some now
marked false now mark = mark

-- what a master's tick writes and gives out
pub record PutsBeats (a : NodeState) (now : ℤ) (told : Told) (outs : OutsState) : Type 0 where
  pub beats : Beats a now told.effects.items (marked told.marks now a.core.mark)
  pub light : All IsLight told.effects.items
  pub within : offset_behind told.effects.items a.core ≤ offset_limit
  pub names : List LinkId
  pub fed : FedTo (texts told.effects.items) a names
  pub outs_are : outs ≡ record no_outs { grown = texts told.effects.items; appended = texts (deletions now a.core.held (room_in a.core)); fed = names }
